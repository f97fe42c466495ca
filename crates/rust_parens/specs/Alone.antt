-- Pairs that stay because an expression around them, parsed alone, has another tree without them.
use Rattle.std.specs.Prelude.{◌≡◌, ℕ, ◌≤◌, ◌^◌, Bool, true, false, List, [], ◌∷◌, ◌++◌, length, ◌⊎◌}
use Rattle.tree_model.specs.Cursor.{Cursor, ancestors_of}
use Rattle.tree_model.specs.Edit.{root_of}
use Rattle.ras_front_end.specs.declared.edition.Entry.TheVariants.{Expr}
use Rattle.ras_front_end.specs.declared.edition.Edition.{Edition}
use Rattle.ras_front_end.specs.Front.{Front}
use Rattle.ras_front_end.specs.Parsed.{Parsed, IsParseOf}
use Rattle.rust_report.specs.declared.same.Trivia.TheVariants.{Aside}
use Rattle.rust_report.specs.Steps.{steps_of}
use Rattle.rust_parens.specs.Texts.{marks_of, text_without}

-- a parse is an expression without what the marks leave out, white space and comments aside, and
-- has no errors
pub record IsAlike (around : Cursor) (marks : List Bool) (new : Parsed) : Type 0 where
  pub steps : steps_of Aside marks around ≡ steps_of Aside [] (root_of new.tree)
  pub errors : length new.errors ≡ 0

-- the text of an expression without that parses alone to its tree without that
pub record ReadsAlone (front : Front) (edition : Edition) (around : Cursor) (marks : List Bool) : Type 0 where
  pub parse : Parsed
  pub is_parse : IsParseOf (text_without marks around) (front.parsed Expr edition (text_without marks around)) parse
  pub alike : IsAlike around marks parse

-- it does not
pub record ReadsOtherwise (front : Front) (edition : Edition) (around : Cursor) (marks : List Bool) : Type 0 where
  pub parse : Parsed
  pub is_parse : IsParseOf (text_without marks around) (front.parsed Expr edition (text_without marks around)) parse
  pub differs : IsAlike around marks parse → ⊥

abbrev pub FailsAlone : Front → Edition → Cursor → List Bool → Type 0
FailsAlone front edition around marks = (2 ^ 32 ≤ length (text_without marks around)) ⊎ ReadsOtherwise front edition around marks

abbrev pub IsReadAlone : Front → Edition → Cursor → List Bool → Bool → Type 0
IsReadAlone front edition around marks true = ReadsAlone front edition around marks
IsReadAlone front edition around marks false = FailsAlone front edition around marks

-- an expression tells two sets of marks apart: without what the first leaves out it reads as its
-- tree, without what the second does not
pub record IsTold (front : Front) (edition : Edition) (around : Cursor) (kept marks : List Bool) : Type 0 where
  pub reads : ReadsAlone front edition around kept
  pub fails : FailsAlone front edition around marks

-- one of a pair's ancestors, or itself, tells them apart
pub record IsToldAround (front : Front) (edition : Edition) (pair : Cursor) (kept marks : List Bool) : Type 0 where
  pub around : Cursor
  pub below : List Cursor
  pub above : List Cursor
  pub is_around : ancestors_of pair ≡ below ++ around ∷ above
  pub is_told : IsTold front edition around kept marks

-- it tells so that the pair stays, beside those before it that go; `pairs` has the pair alone
pub record StaysAlone (front : Front) (edition : Edition) (len : ℕ) (before pairs : List Cursor) : Type 0 where
  pub pair : Cursor
  pub is_pair : pairs ≡ pair ∷ []
  pub is_told : IsToldAround front edition pair (marks_of len before) (marks_of len (before ++ pairs))
