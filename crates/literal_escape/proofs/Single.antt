-- The answer for a literal of one unit, by its first report and those after it.
use Rattle.std.proofs.Common.{◌≡◌, true, false, Option, Some, None, Result, Ok, Err, List, [], ◌∷◌, refl}
use Rattle.std.specs.Prelude.{is_some, is_ok}
use Rattle.literal_escape.specs.declared.error.EscapeError.{EscapeError}
use Rattle.literal_escape.specs.declared.error.EscapeError.TheVariants.{MoreThanOneChar}
use Rattle.literal_escape.specs.declared.mode.MixedUnit.{MixedUnit}
use Rattle.literal_escape.specs.declared.reader.Report.{Report}
use Rattle.literal_escape.specs.Pieces.{single, alone}
use Rattle.literal_escape.specs.Reading.{Gives}

alone_ok : (unit : Result MixedUnit EscapeError) → is_ok unit ≡ true → Err MoreThanOneChar ≡ alone unit
alone_ok (Ok u) e = refl
alone_ok (Err f) e = cc

alone_err : (unit : Result MixedUnit EscapeError) → is_ok unit ≡ false → unit ≡ alone unit
alone_err (Ok u) e = cc
alone_err (Err f) e = refl

pub more_than_one : (first : Report) (rs : List Report) (o : Option Report) (new : List Report) → is_ok first.unit ≡ true → Gives rs o new → is_some o ≡ true → Err MoreThanOneChar ≡ single (first ∷ rs)
more_than_one first rs None new k h e = cc
more_than_one first rs (Some s) new k h e = rw h (alone_ok first.unit k)

pub only_one : (first : Report) (rs : List Report) (o : Option Report) (new : List Report) → Gives rs o new → is_some o ≡ false → first.unit ≡ single (first ∷ rs)
only_one first rs None new h e = rw (h.0) refl
only_one first rs (Some s) new h e = cc

pub faulty_first : (first : Report) (rs : List Report) → is_ok first.unit ≡ false → first.unit ≡ single (first ∷ rs)
faulty_first first [] e = refl
faulty_first first (s ∷ rs) e = alone_err first.unit e
