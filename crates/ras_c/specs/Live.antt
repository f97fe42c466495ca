-- What a handle holds, and what it holds after an edit.
use Rattle.std.specs.Prelude.{◌≡◌, ◌↔◌, ◌⊎◌, ℕ, ◌≤◌, List, length, Option, Some, None, IfSome}
use Rattle.text_size.specs.TextRange.{Bounds}
use Rattle.tree_model.specs.Tree.{Tree, text}
use Rattle.tree_model.specs.Cursor.{Cursor, focus, parent_of}
use Rattle.tree_model.specs.Covering.{covering_of}
use Rattle.tree_model.specs.Edit.{root_of}
use Rattle.lossless_tree.specs.Element.{element_of, by_case}
use Rattle.ras_front_end.specs.Parsed.{Parsed}
use Rattle.ras_parsing.specs.Edit.{Edit}
use Rattle.ras_c.specs.declared.choice.Errors.{Errors}
use Rattle.ras_c.specs.declared.parens.Range.{Range}
use Rattle.ras_c.specs.Border.{edition_of, errors_of}
use Rattle.ras_c.specs.Kept.{Kept, IsRead, IsAgain, IsEdited}
use Rattle.ras_c.specs.Parens.{range_from}
use Rattle.ras_c.specs.Read.{Report, report_at, report_on, IsTold, IsCut, IsSmall, Buffers}

-- the bytes from one place to another go, and others come in their place
abbrev pub edit_from : ℕ → ℕ → List ℕ → Edit
edit_from start end insert = record { delete = record { start = start; end = end }; insert = insert }

-- a handle has a parse with a property
abbrev pub Holds : Option Kept → (Parsed → Type 0) → Type 0
Holds held P = (k : Kept) × (held ≡ Some k) × P k.parse

-- it has the parse of a text in the edition of a year
pub record HoldsRead (year : ℕ) (s : List ℕ) (held : Option Kept) : Type 0 where
  pub kept : Kept
  pub edition_is : edition_of year ≡ Some kept.edition
  pub is_held : held ≡ Some kept
  pub is_read : IsRead s kept

-- it had a parse, and has that of the edited text, in the edition of a year
pub record HoldsEdited (year : ℕ) (edit : Edit) (before after : Option Kept) : Type 0 where
  pub old : Kept
  pub new : Kept
  pub edition_is : edition_of year ≡ Some new.edition
  pub held_before : before ≡ Some old
  pub held_after : after ≡ Some new
  pub is_edited : IsEdited new.edition edit old new

-- the same, and this range of the new text was parsed again
pub record HoldsAgain (edit : Edit) (before after : Option Kept) (range : Range) : Type 0 where
  pub old : Kept
  pub new : Kept
  pub held_before : before ≡ Some old
  pub held_after : after ≡ Some new
  pub is_again : IsAgain old.parse.tree edit new.parse.tree (range_from range.start range.end)

-- a handle has a parse, whose report with the choice of errors that has a number has a property
pub record HoldsReport (errors : ℕ) (held : Option Kept) (P : Report → Type 0) : Type 0 where
  pub as_errors : Errors
  pub errors_is : errors_of errors ≡ Some as_errors
  pub holds : Holds held (λ p. P (report_on as_errors p))

-- what a call that tells rows of a handle's parse returns, and what it leaves in the buffers: by
-- the number of a choice of errors, as each clause of `ras_c_rows_as` says
pub record AreRowsBy (errors : ℕ) (held : Option Kept) (status : ℕ) (before after : Buffers) : Type 0 where
  pub done : status ≡ 0 → HoldsReport errors held (λ r. IsTold r before after)
  pub room : status ≡ 4 → HoldsReport errors held (λ r. IsCut r before after)
  pub long : status ≡ 2 → HoldsReport errors held (λ r. IsSmall r → ⊥)
  pub kept : (status ≡ 0 → ⊥) → (status ≡ 4 → ⊥) → after ≡ before
  pub choice_known : (status ≡ 12) ↔ (errors_of errors ≡ None)
  pub empty : (status ≡ 7) ↔ (errors_of errors ≡ None → ⊥) × (held ≡ None)
  pub read : (status ≡ 12 → ⊥) → IfSome held (λ k. IsRead (text k.parse.tree) k)
  pub which : (status ≡ 0) ⊎ (2 ≤ status) × (status ≤ 4) ⊎ (status ≡ 7) ⊎ (status ≡ 12)

-- a range of a text
abbrev pub IsIn : List ℕ → ℕ → ℕ → Type 0
IsIn s start end = (start ≤ end) × (end ≤ length s)

-- the innermost node around a range: what covers it, or the node of which this token is a child
abbrev pub or_root : Cursor → Option Cursor → Cursor
or_root root (Some c) = c
or_root root None = root

abbrev pub node_around : Cursor → Bounds → Cursor
node_around root range = by_case (λ c. c) (λ c. or_root root (parent_of c)) (element_of (covering_of root range))

abbrev pub tree_around : Tree → ℕ → ℕ → Tree
tree_around t start end = focus (node_around (root_of t) (range_from start end))

-- the same of the report on that node
pub record HoldsReportAt (errors start end : ℕ) (held : Option Kept) (P : Report → Type 0) : Type 0 where
  pub as_errors : Errors
  pub errors_is : errors_of errors ≡ Some as_errors
  pub holds : Holds held (λ p. P (report_at (tree_around p.tree start end) as_errors p))
