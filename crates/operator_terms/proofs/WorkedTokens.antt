-- The tokens of the worked terms are computed.
use Rattle.std.proofs.Common.{refl}
use Rattle.operator_terms.specs.Term.{tokens, argument_tokens}
use Rattle.operator_terms.specs.Token.{fixed_text}
use Rattle.operator_terms.specs.WorkedTerms.{EachRow}
use Rattle.operator_terms.specs.WorkedTokens.{HasTokens, binary_tokens, literal_tokens, other_tokens}

pub binary-right : EachRow HasTokens binary_tokens
unfolding tokens argument_tokens fixed_text
binary-right = (refl, (refl, (refl, (refl, (refl, (refl, (refl, (refl, (refl, (refl, (refl, (refl, (refl, (refl, (refl, (refl, (refl, (refl, (refl, (refl, (refl, (refl, (refl, (refl, (refl, (refl, (refl, (refl, (refl, tt)))))))))))))))))))))))))))))

pub literal-right : EachRow HasTokens literal_tokens
unfolding tokens argument_tokens fixed_text
literal-right = (refl, (refl, (refl, (refl, (refl, (refl, (refl, (refl, (refl, tt)))))))))

pub other-right : EachRow HasTokens other_tokens
unfolding tokens argument_tokens fixed_text
other-right = (refl, (refl, (refl, (refl, (refl, (refl, (refl, (refl, (refl, (refl, (refl, (refl, (refl, (refl, (refl, (refl, (refl, (refl, (refl, (refl, tt))))))))))))))))))))
