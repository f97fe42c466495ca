-- What an answer says of the term that is shown.
use Rattle.std.specs.Prelude.{◌≡◌, Bool, Option, Some, None}
use Rattle.std.specs.Option.{is_some}
use Rattle.std.proofs.Common.{refl}
use Rattle.operator_terms.specs.Term.{Term}
use Rattle.operator_reading.specs.Reads.{ReadsBack}

pub answered : (answer : Option Bool) (term : Option Term) → ReadsBack answer term → is_some answer ≡ is_some term
answered None None h = refl
answered (Some b) (Some t) h = refl
answered None (Some t) h = absurd h
answered (Some b) None h = absurd h
