-- Places and ranges of a text, as a command line names them.
use Rattle.std.specs.Prelude.{◌≡◌, ℕ, ◌+◌, ◌<◌, ◌≤◌, ◌^◌, List, ◌∷◌, ◌++◌, codes}
use Rattle.std.specs.Str.Parse.{IsNumeral, digits_value, without_leading_plus}
use Rattle.line_index.specs.declared.line_col.WideLineCol.{WideLineCol}
use Rattle.text_size.specs.TextRange.{Bounds}

-- the text is this number below 2^32, in decimal digits, also after a `+`
pub record Writes (s : List ℕ) (n : ℕ) : Type 0 where
  pub digits : IsNumeral 10 (without_leading_plus s)
  pub value : digits_value 10 (without_leading_plus s) ≡ n
  pub small : n < 2 ^ 32

abbrev pub WritesNone : List ℕ → Type 0
WritesNone s = (n : ℕ) → Writes s n → ⊥

-- the text is the number after this one
abbrev pub IsOrdinal : List ℕ → ℕ → Type 0
IsOrdinal s n = Writes s (n + 1)

abbrev pub NoOrdinal : List ℕ → Type 0
NoOrdinal s = (n : ℕ) → IsOrdinal s n → ⊥

-- the text is a line and a column, each counted from 1, with `:` between them
pub record IsPlace (s : List ℕ) (at : WideLineCol) : Type 0 where
  pub line : List ℕ
  pub column : List ℕ
  pub is : s ≡ line ++ 58 ∷ column
  pub at_line : IsOrdinal line at.line
  pub at_column : IsOrdinal column at.col

abbrev pub NoPlace : List ℕ → Type 0
NoPlace s = (at : WideLineCol) → IsPlace s at → ⊥

-- the text is the start and the end of a range, with `..` between them
pub record IsRange (s : List ℕ) (r : Bounds) : Type 0 where
  pub from : List ℕ
  pub to : List ℕ
  pub is : s ≡ from ++ codes ".." ++ to
  pub at_start : Writes from r.start
  pub at_end : Writes to r.end
  pub forwards : r.start ≤ r.end

abbrev pub NoRange : List ℕ → Type 0
NoRange s = (r : Bounds) → IsRange s r → ⊥
