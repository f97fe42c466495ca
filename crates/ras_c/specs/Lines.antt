-- Lines and columns of a text, as they cross to C.
use Rattle.std.specs.Prelude.{◌≡◌, ℕ, ◌≤◌, ◌==◌, if◌then◌else◌, List, ◌++◌, ◌∷◌, length, map, All, Option, None, Some}
use Rattle.std.specs.Str.{IsCharBoundary}
use Rattle.line_index.specs.declared.line_col.WideEncoding.TheVariants.{Utf16, Utf32}
use Rattle.line_index.specs.Lines.{line_col_at, wide_line_col_at, starts_after}
use Rattle.ras_c.specs.declared.lines.Columns.{Columns}
use Rattle.ras_c.specs.declared.lines.Columns.TheVariants.{Bytes, Wide}
use Rattle.ras_c.specs.declared.lines.LineCol.{LineCol}
use Rattle.ras_c.specs.declared.lines.Refusal.{Refusal}
use Rattle.ras_c.specs.declared.lines.Refusal.TheVariants.{Memory, At}

-- the encoding with a number
abbrev pub columns_of : ℕ → Option Columns
columns_of n =
    if n == 0 then Some Bytes else (
    if n == 1 then Some (Wide Utf16) else (
    if n == 2 then Some (Wide Utf32) else
    None))

-- a line starts at the text's start, and after each line feed
abbrev pub line_starts : List ℕ → List ℕ
line_starts s = 0 ∷ starts_after 0 s

-- a character of the text starts at offset o, or the text ends there
abbrev pub HasPlace : List ℕ → ℕ → Type 0
HasPlace s o = (o ≤ length s) × IsCharBoundary s o

-- the line and the column of an offset
abbrev pub place_at : Columns → List ℕ → ℕ → LineCol
place_at Bytes s o = record { line = (line_col_at s o).line; col = (line_col_at s o).col }
place_at (Wide e) s o = record { line = (wide_line_col_at e s o).line; col = (wide_line_col_at e s o).col }

-- p is the place of offset o, which has one
abbrev pub IsPlaceOf : Columns → List ℕ → ℕ → LineCol → Type 0
IsPlaceOf columns s o p = HasPlace s o × (place_at columns s o ≡ p)

abbrev pub IsOffsetOf : Columns → List ℕ → LineCol → ℕ → Type 0
IsOffsetOf columns s p o = IsPlaceOf columns s o p

-- no offset has this place
abbrev pub NoOffsetOf : Columns → List ℕ → LineCol → Type 0
NoOffsetOf columns s p = (o : ℕ) → IsOffsetOf columns s p o → ⊥

-- each offset has a place, and these are the places in the same order
pub record ArePlaces (columns : Columns) (s offsets : List ℕ) (places : List LineCol) : Type 0 where
  pub have : All (HasPlace s) offsets
  pub are : places ≡ map (place_at columns s) offsets

-- the first element of a list without an answer comes after n others
pub record StopsAt {A : Type 0} (HasAnswer : A → Type 0) (items : List A) (n : ℕ) : Type 0 where
  pub front : List A
  pub item : A
  pub behind : List A
  pub parts : items ≡ front ++ item ∷ behind
  pub number : n ≡ length front
  pub answered : All HasAnswer front
  pub unanswered : HasAnswer item → ⊥

abbrev pub StopsAtOffset : (s offsets : List ℕ) → ℕ → Type 0
StopsAtOffset s offsets n = StopsAt (HasPlace s) offsets n

-- there is an offset with this place
abbrev pub HasOffset : Columns → List ℕ → LineCol → Type 0
HasOffset columns s p = (o : ℕ) × IsOffsetOf columns s p o

-- why a list is not converted
abbrev pub IsStop : {A : Type 0} → (A → Type 0) → List A → Refusal → Type 0
IsStop HasAnswer items Memory = Unit {0}
IsStop HasAnswer items (At n) = StopsAt HasAnswer items n

abbrev pub IsNoPlace : (s offsets : List ℕ) → Refusal → Type 0
IsNoPlace s offsets refusal = IsStop (HasPlace s) offsets refusal

abbrev pub IsNoOffset : Columns → List ℕ → List LineCol → Refusal → Type 0
IsNoOffset columns s places refusal = IsStop (HasOffset columns s) places refusal

-- by the number of an encoding: the places of offsets have a property, or the offsets of places
pub record HasPlaces (encoding : ℕ) (s offsets : List ℕ) (P : List LineCol → Type 0) : Type 0 where
  pub columns : Columns
  pub columns_is : columns_of encoding ≡ Some columns
  pub places : List LineCol
  pub are : ArePlaces columns s offsets places
  pub holds : P places

pub record HasOffsets (encoding : ℕ) (s : List ℕ) (places : List LineCol) (P : List ℕ → Type 0) : Type 0 where
  pub columns : Columns
  pub columns_is : columns_of encoding ≡ Some columns
  pub offsets : List ℕ
  pub are : ArePlaces columns s offsets places
  pub holds : P offsets

-- a place without an offset comes after n others
pub record StopsAtPlace (encoding : ℕ) (s : List ℕ) (places : List LineCol) (n : ℕ) : Type 0 where
  pub columns : Columns
  pub columns_is : columns_of encoding ≡ Some columns
  pub stops : StopsAt (HasOffset columns s) places n
