-- Rows as stored, in 16 bytes each. No contract outside this crate names them.
--
-- A list of rows with a number of 2^32 or more has a second list beside it: the high halves of its
-- numbers. Without one the high halves are 0.
use Rattle.std.specs.Prelude.{◌≡◌, ℕ, ◌+◌, ◌-◌, ◌*◌, ◌^◌, ◌/◌, ◌%◌, ◌⊎◌, Bool, List, [], ◌∷◌, length, get_or, map, take, drop, replicate, All, nat_lt, nat_le, if◌then◌else◌, slice_index_or, refl}
use Rattle.std.proofs.Math.ListN.{set}
use Rattle.std.specs.Coded.{Coded, code_by, coded_ℕ, coded_bool, coded_list, coded×}
use Rattle.syntax_kind.specs.declared.syntax_kind.SyntaxKind.{SyntaxKind}
use Rattle.syntax_kind.specs.declared.syntax_kind.SyntaxKind.TheVariants.{OTHER}
use Rattle.syntax_kind.specs.declared.syntax_kind.all.TheConstants.{KINDS}
use Rattle.tree_rows.specs.declared.rows.Row.{Row}
use Rattle.tree_rows.specs.declared.rows.High.{High}
use Rattle.tree_rows.specs.declared.table.flat.FlatRow.{FlatRow}
use Rattle.tree_rows.specs.Rows.{Columns, no_row}
use Rattle.tree_rows.specs.Flat.{flat_kind}
use Rattle.tree_model.specs.TreeCode.{kind_code}

-- the kind with a number; any other number is read as some kind
unfoldable pub kind_numbered : ℕ → SyntaxKind
kind_numbered n = if nat_lt n 264 then slice_index_or KINDS n (OTHER 0) else OTHER (n % 65536)

-- the kind, and whether it is a token, by the number that is stored for both
abbrev pub kind_kept : ℕ → SyntaxKind
kind_kept n = kind_numbered (n % 2 ^ 31)

abbrev pub token_kept : ℕ → Bool
token_kept n = nat_le (2 ^ 31) n

-- a number by its halves. An end is below 2^63: the highest bit of its high half is not read
abbrev pub whole_end : ℕ → ℕ → ℕ
whole_end high low = (high % 2 ^ 31) * 2 ^ 32 + low

abbrev pub whole_parent : ℕ → ℕ → ℕ
whole_parent high low = high * 2 ^ 32 + low

-- both parts of a row
pub record Slot : Type 0 where
  pub low : FlatRow
  pub high : High

abbrev pub slot : FlatRow → High → Slot
slot f h = record { low = f; high = h }

abbrev pub no_high : High
no_high = record { end = 0; parent = 0 }

-- the row that is stored, and its parent
abbrev pub row_in : Slot → Row
row_in s = record { kind = kind_kept s.low.kind; is_token = token_kept s.low.kind; start = s.low.start; end = whole_end s.high.end s.low.subtree_end }

abbrev pub parent_in : Slot → ℕ
parent_in s = whole_parent s.high.parent s.low.parent

-- each row with its high halves
abbrev pub slots : List FlatRow → List High → List Slot
slots [] hs = []
slots (f ∷ fs) [] = slot f no_high ∷ slots fs []
slots (f ∷ fs) (h ∷ hs) = slot f h ∷ slots fs hs

-- the rows that are stored, and their parents
abbrev pub columns_in : List Slot → Columns
columns_in ss = record { rows = map row_in ss; parents = map parent_in ss }

abbrev pub rows_kept : List FlatRow → List High → Columns
rows_kept fs hs = columns_in (slots fs hs)

-- the high halves of an end and of the number of a parent
abbrev pub high_of : ℕ → ℕ → High
high_of end parent = record { end = end / 2 ^ 32; parent = parent / 2 ^ 32 }

-- those of the rows a to b, b left out
abbrev pub high_between : List High → ℕ → ℕ → List High
high_between [] a b = replicate (b - a) no_high
high_between (h ∷ hs) a b = take (b - a) (drop a (h ∷ hs))

-- another row in place of row n
abbrev pub with_row : Columns → ℕ → Slot → Columns
with_row c n s = record { rows = set c.rows n (row_in s); parents = set c.parents n (parent_in s) }

-- another end of row n
abbrev pub with_end : Columns → ℕ → ℕ → Columns
with_end c n e = record { rows = set c.rows n (record (get_or c.rows n no_row) { end = e }); parents = c.parents }

-- rows with their parents as they cross to other languages
abbrev pub flat_pairs : List Row → List ℕ → List FlatRow
flat_pairs [] ps = []
flat_pairs (r ∷ rs) [] = []
flat_pairs (r ∷ rs) (p ∷ ps) =
    record { kind = flat_kind r.kind r.is_token; start = r.start; subtree_end = r.end; parent = p } ∷ flat_pairs rs ps

abbrev pub flat_columns : Columns → List FlatRow
flat_columns c = flat_pairs c.rows c.parents

-- the number is that of a kind
abbrev pub IsKindNumber : ℕ → Type 0
IsKindNumber n = n ≡ flat_kind (kind_kept n) (token_kept n)

-- a row has the number of its kind
abbrev pub IsNumbered : FlatRow → Type 0
IsNumbered f = IsKindNumber f.kind

-- high halves are stored for all rows or for none
abbrev pub StandBeside : List FlatRow → List High → Type 0
StandBeside fs hs = (hs ≡ []) ⊎ (length hs ≡ length fs)

pub record AreKept (fs : List FlatRow) (hs : List High) : Type 0 where
  pub numbered : All IsNumbered fs
  pub beside : StandBeside fs hs

-- a row as the prover's value
abbrev pub row_code : Coded Row
row_code =
    code_by (SyntaxKind × (Bool × (ℕ × ℕ))) (coded× kind_code (coded× coded_bool (coded× coded_ℕ coded_ℕ)))
    (λ r. (r.kind, (r.is_token, (r.start, r.end)))) (λ p. record { kind = p.0; is_token = p.1.0; start = p.1.1.0; end = p.1.1.1 }) (λ _. refl)

-- rows and their parents, likewise
abbrev pub columns_code : Coded Columns
columns_code =
    code_by (List Row × List ℕ) (coded× (coded_list row_code) (coded_list coded_ℕ)) (λ c. (c.rows, c.parents)) (λ p. record { rows = p.0; parents = p.1 }) (λ _. refl)
