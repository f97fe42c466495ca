use Rattle.operator_terms.proofs.Signs.{sign-token, strange, token-sign}
use Rattle.operator_terms.proofs.laws.a_sign_is_its_token.Goals as goal

pub returns : goal.returns
returns c = record { sign = sign-token; strange = strange; token = λ t. token-sign t.kind t.text }
