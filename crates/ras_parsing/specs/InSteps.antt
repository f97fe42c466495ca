-- Several replacements of a document's text, as one edit.
use Rattle.std.specs.Prelude.{◌≡◌, ◌⊎◌, ℕ, ◌<◌, ◌≤◌, ◌^◌, List, [], ◌∷◌, length}
use Rattle.text_size.specs.TextRange.{Bounds}
use Rattle.tree_model.specs.Tree.{text}
use Rattle.text_edit.specs.Replacements.{Replacement}
use Rattle.text_edit.specs.Replacements.{edited as all_edited}
use Rattle.ras_front_end.specs.declared.edition.Edition.{Edition}
use Rattle.ras_front_end.specs.Front.{Front}
use Rattle.ras_front_end.specs.Parsed.{Parsed}
use Rattle.exact_front.specs.Exact.{Exact}
use Rattle.ras_parsing.specs.Edit.{Edit, edited}
use Rattle.ras_parsing.specs.Document.{NoTokenPath, NoExactPath, ByToken, ByPiece, IsReadOf}

-- a replacement of a range, as one edit
abbrev pub edit_of : Replacement → Edit
edit_of e = record { delete = e.delete; insert = e.insert }

-- one token gets another text, or one piece is parsed again
abbrev pub InPlace : Exact → Edition → Parsed → ℕ → Edit → Parsed → ℕ → Bounds → Type 0
InPlace exact edition old before edit new count range =
    ByToken exact edition old before edit new count range
    ⊎ ByPiece exact edition old before edit new count range

-- neither is enough
pub record NotInPlace (exact : Exact) (edition : Edition) (old : Parsed) (before : ℕ) (edit : Edit) : Type 0 where
  pub no_token : NoTokenPath exact edition old before edit
  pub no_piece : NoExactPath exact edition old before edit

-- a parse, and then the one after an edit in place
pub record ThenInPlace (made : Parsed → ℕ → Type 0) (exact : Exact) (edition : Edition) (edit : Edit) (new : Parsed) (count : ℕ) : Type 0 where
  pub so_far : Parsed
  pub so_many : ℕ
  pub is_made : made so_far so_many
  pub range : Bounds
  pub in_place : InPlace exact edition so_far so_many edit new count range

-- each replacement is made in place, the last one first
abbrev pub InSteps : Exact → Edition → Parsed → ℕ → List Replacement → Parsed → ℕ → Type 0
InSteps exact edition old before [] new count = (new ≡ old) × (count ≡ before)
InSteps exact edition old before (e ∷ es) new count =
    ThenInPlace (InSteps exact edition old before es) exact edition (edit_of e) new count

-- a parse, and an edit that makes its text too long, or can't be made in place
pub record ThenNot (made : Parsed → ℕ → Type 0) (exact : Exact) (edition : Edition) (edit : Edit) : Type 0 where
  pub so_far : Parsed
  pub so_many : ℕ
  pub is_made : made so_far so_many
  pub is_not : (2 ^ 32 ≤ length (edited (text so_far.tree) edit)) ⊎ NotInPlace exact edition so_far so_many edit

-- one of them can't be made in place after those behind it
abbrev pub StopsInside : Exact → Edition → Parsed → ℕ → List Replacement → Type 0
StopsInside exact edition old before [] = ⊥
StopsInside exact edition old before (e ∷ es) =
    StopsInside exact edition old before es
    ⊎ ThenNot (InSteps exact edition old before es) exact edition (edit_of e)

-- more replacements are not made one after another
abbrev pub most_steps : ℕ
most_steps = 8

pub record AreInSteps (exact : Exact) (edition : Edition) (old : Parsed) (before : ℕ) (es : List Replacement) (new : Parsed) (count : ℕ) : Type 0 where
  pub are_few : length es ≤ most_steps
  pub in_steps : InSteps exact edition old before es new count

abbrev pub NotInSteps : Exact → Edition → Parsed → ℕ → List Replacement → Type 0
NotInSteps exact edition old before es =
    (most_steps < length es) ⊎ StopsInside exact edition old before es

-- all of the new text is parsed
pub record AreAtOnce (front : Front) (exact : Exact) (edition : Edition) (old : Parsed) (before : ℕ) (es : List Replacement) (new : Parsed) (count : ℕ) : Type 0 where
  pub not_in_steps : NotInSteps exact edition old before es
  pub is : IsReadOf front edition (all_edited (text old.tree) es) new count

-- what `edits` makes of a document
abbrev pub AreEdited : Front → Exact → Edition → Parsed → ℕ → List Replacement → Parsed → ℕ → Type 0
AreEdited front exact edition old before es new count =
    AreInSteps exact edition old before es new count
    ⊎ AreAtOnce front exact edition old before es new count
