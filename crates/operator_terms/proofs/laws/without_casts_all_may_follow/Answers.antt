use Rattle.operator_terms.proofs.CastFree.{cast_free_stands, cast_free_without}
use Rattle.operator_terms.proofs.laws.without_casts_all_may_follow.Goals as goal

pub returns : goal.returns
returns c = record { stands = λ following t. cast_free_stands t following; without_a_pair = cast_free_without }
