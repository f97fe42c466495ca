-- Edits of a text: ranges of it, each replaced by another text.
-- (Upstream: rust-analyzer's `TextEdit` and `Indel`.)
use Rattle.std.specs.Prelude.{ℕ, ◌+◌, ◌-◌, ◌<◌, ◌≤◌, ◌^◌, List, [], ◌∷◌, ◌++◌, length, take, drop, nat_le, nat_lt, nat_eq, Bool, false, if◌then◌else◌, ⊤, refl, All, IsCharBoundary, Option, Some, None, get_or}
use Rattle.std.specs.List.{Any}
use Rattle.std.specs.Coded.{Coded, code_by, coded×, coded_ℕ, coded_list}
use Rattle.text_size.specs.TextRange.{Bounds}
use Rattle.text_edit.specs.declared.error.ApplyError.{ApplyError}
use Rattle.text_edit.specs.declared.error.ApplyError.TheVariants.{PastEnd, InsideCharacter, TooLong, Memory}

-- a range of a text, and what replaces it
pub record Replacement : Type 0 where
  pub insert : List ℕ
  pub delete : Bounds

abbrev pub replacement_code : Coded Replacement
replacement_code =
    code_by (List ℕ × (ℕ × ℕ)) (coded× (coded_list coded_ℕ) (coded× coded_ℕ coded_ℕ)) (λ e. (e.insert, (e.delete.start, e.delete.end))) (λ p. record { insert = p.0; delete = record { start = p.1.0; end = p.1.1 } }) (λ _. refl)

-- the insertion of a text at byte n
abbrev pub insertion : ℕ → List ℕ → Replacement
insertion n s = record { insert = s; delete = record { start = n; end = n } }

-- the text with one range replaced
abbrev pub replaced : List ℕ → Replacement → List ℕ
replaced s e = take e.delete.start s ++ (e.insert ++ drop e.delete.end s)

-- the text with each range replaced; the last one first, so that no range has moved when its turn
-- comes
abbrev pub edited : List ℕ → List Replacement → List ℕ
edited s [] = s
edited s (e ∷ es) = replaced (edited s es) e

-- the ranges follow one another without overlap, from byte n on; they may touch, and may be empty
abbrev pub InOrder : ℕ → List Replacement → Type 0
InOrder n [] = ⊤
InOrder n (e ∷ es) = (n ≤ e.delete.start) × (e.delete.start ≤ e.delete.end) × InOrder e.delete.end es

-- two ranges overlap if each starts before the other ends; ranges that touch do not, nor two
-- insertions at one place
abbrev pub Overlaps : Replacement → Replacement → Type 0
Overlaps d e = (d.delete.start < e.delete.end) × (e.delete.start < d.delete.end)

-- some range of the one list overlaps some range of the other
abbrev pub Overlap : List Replacement → List Replacement → Type 0
Overlap ds es = Any (λ d. Any (λ e. Overlaps d e) es) ds

-- one more, after those that end where it starts or before
abbrev pub with_one : List Replacement → Replacement → List Replacement
with_one [] e = e ∷ []
with_one (d ∷ ds) e = if nat_le d.delete.end e.delete.start then d ∷ with_one ds e else e ∷ (d ∷ ds)

-- some more, one after another
abbrev pub with_all : List Replacement → List Replacement → List Replacement
with_all ds [] = ds
with_all ds (e ∷ es) = with_all (with_one ds e) es

-- nothing is inserted, and nothing deleted
abbrev pub is_empty : Replacement → Bool
is_empty e = if nat_eq (length e.insert) 0 then nat_eq e.delete.start e.delete.end else false

-- those that insert or delete something
abbrev pub nonempty : List Replacement → List Replacement
nonempty [] = []
nonempty (e ∷ es) = if is_empty e then nonempty es else e ∷ nonempty es

-- the range ends after the text
abbrev pub IsPastEnd : List ℕ → Replacement → Type 0
IsPastEnd s e = length s < e.delete.end

-- the range starts or ends inside a character, or after the text
abbrev pub IsInsideCharacter : List ℕ → Replacement → Type 0
IsInsideCharacter s e = (IsCharBoundary s e.delete.start × IsCharBoundary s e.delete.end) → ⊥

-- a range of the text, between characters
pub record IsRangeOf (s : List ℕ) (e : Replacement) : Type 0 where
  pub within : e.delete.end ≤ length s
  pub start_boundary : IsCharBoundary s e.delete.start
  pub end_boundary : IsCharBoundary s e.delete.end

-- the replacements can be made: they are of ranges of the text, and the new text is shorter than 4
-- GiB
pub record IsEditOf (s : List ℕ) (es : List Replacement) : Type 0 where
  pub ranges : All (IsRangeOf s) es
  pub short : length (edited s es) < 2 ^ 32

-- why they cannot be made. Each case excludes the others; memory is named only where nothing else
-- is wrong
abbrev pub IsRefused : List ℕ → List Replacement → ApplyError → Type 0
IsRefused s es PastEnd = Any (IsPastEnd s) es
IsRefused s es InsideCharacter = All (λ e. e.delete.end ≤ length s) es × Any (IsInsideCharacter s) es
IsRefused s es TooLong = All (IsRangeOf s) es × (2 ^ 32 ≤ length (edited s es))
IsRefused s es Memory = IsEditOf s es

-- where byte n of the text is after the edit, if byte `at` has become byte `new` and the
-- replacements come after it; none if what stood there is replaced. At the start of a range, and
-- where a text is inserted, an offset stays before it
abbrev pub moved_from : ℕ → ℕ → List Replacement → ℕ → Option ℕ
moved_from at new [] n = Some (new + (n - at))
moved_from at new (e ∷ es) n =
    if nat_le n e.delete.start then Some (new + (n - at))
    else (if nat_lt n e.delete.end then None
    else moved_from e.delete.end (new + (e.delete.start - at) + length e.insert) es n)

abbrev pub moved_offset : List Replacement → ℕ → Option ℕ
moved_offset es n = moved_from 0 0 es n

-- an offset, if it is one of a text shorter than 4 GiB
abbrev pub fitting : Option ℕ → Option ℕ
fitting None = None
fitting (Some n) = if nat_lt n (2 ^ 32) then Some n else None

-- where the range with a number starts, and where it ends
abbrev pub begin_at : List Replacement → ℕ → Replacement → ℕ
begin_at es k d = (get_or es k d).delete.start

abbrev pub end_at : List Replacement → ℕ → Replacement → ℕ
end_at es k d = (get_or es k d).delete.end
