use Rattle.ras_prec.proofs.CastEdge.{cast_names_agree}
use Rattle.ras_prec.proofs.laws.operator_trees_end_in_casts_by_two_tokens.Goals as goal

pub returns : goal.returns
returns c = cast_names_agree
