-- The reports of a content lie in order within its bytes.
use Rattle.std.proofs.Common.{ℕ, ◌≤◌, List, [], ◌∷◌, length, sym, subst, arith}
use Rattle.std.specs.List.{AllByRecursion}
use Rattle.std.specs.Str.{IsUtf8, chars}
use Rattle.literal_escape.specs.declared.mode.Mode.{Mode}
use Rattle.literal_escape.specs.declared.reader.Report.{Report}
use Rattle.literal_escape.specs.Pieces.{Follow, IsWithin, next_start}
use Rattle.literal_escape.specs.Reading.{reports_in}
use Rattle.literal_escape.proofs.OneCut.{one_cut}
use Rattle.literal_escape.proofs.Ranges.{ranges}
use Rattle.literal_escape.proofs.Within.{read_by_cut, reports_within}

-- a report lies in a content of so many bytes, and its start is not past its end
abbrev pub IsPlaced : ℕ → Report → Type 0
IsPlaced len r = (r.start ≤ r.end) × (r.end ≤ len)

both : (len at : ℕ) (rs : List Report) → Follow at rs → AllByRecursion (IsWithin len) rs → AllByRecursion (IsPlaced len) rs
both len at [] f w = tt
both len at (r ∷ rs) f w = ((omega (arith, f.1), w.0.1), both len (next_start r) rs f.2 w.1)

follow : (mode : Mode) (content : List ℕ) → Follow 0 (reports_in mode content)
follow mode content =
    let one = one_cut mode content in
    subst (Follow 0) (sym (read_by_cut mode content one.0 one.1)) (ranges mode content one.0 one.1).0

pub reports_placed : (mode : Mode) (bs : List ℕ) → IsUtf8 bs → AllByRecursion (IsPlaced (length bs)) (reports_in mode (chars bs))
reports_placed mode bs u = both (length bs) 0 (reports_in mode (chars bs)) (follow mode (chars bs)) (reports_within mode bs u)
