use Rattle.operator_terms.proofs.Rows.{strong_places-right, sides-right, precedences-right}
use Rattle.operator_terms.proofs.laws.worked_places.Goals as goal

pub returns : goal.returns
returns c = record { strong = strong_places-right; sides = sides-right; precedences = precedences-right }
