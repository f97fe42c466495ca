-- Several replacements of the text of a handle's parse, by rows.
use Rattle.std.specs.Prelude.{◌≡◌, ◌⊎◌, ℕ, List, [], Option, Some}
use Rattle.tree_model.specs.Tree.{text}
use Rattle.text_edit.specs.Replacements.{Replacement, IsRefused}
use Rattle.text_edit.specs.declared.error.ApplyError.{ApplyError}
use Rattle.text_edit.specs.declared.error.ApplyError.TheVariants.{PastEnd, InsideCharacter, TooLong, Memory}
use Rattle.ras_front_end.specs.declared.edition.Edition.{Edition}
use Rattle.ras_c.specs.declared.edit_rows.EditRow.{EditRow}
use Rattle.ras_c.specs.Border.{edition_of}
use Rattle.ras_c.specs.EditRows.{AreAdded, AreNotAdded}
use Rattle.ras_c.specs.Kept.{Kept, AreEdited}

-- the status of an edit that is not made in a text
abbrev pub apply_status : ApplyError → ℕ
apply_status PastEnd = 6
apply_status InsideCharacter = 6
apply_status TooLong = 2
apply_status Memory = 3

-- the rows are those of an edit, and after it the parse is that of the edited text
pub record AreEditedBy (edition : Edition) (rows : List EditRow) (inserts : List ℕ) (old new : Kept) : Type 0 where
  pub edit : List Replacement
  pub are_added : AreAdded [] rows inserts edit
  pub are_edited : AreEdited edition edit old new

-- the rows are those of an edit, which is not made in the text, and the status says why
pub record IsRefusedBy (rows : List EditRow) (inserts : List ℕ) (old : Kept) (status : ℕ) : Type 0 where
  pub edit : List Replacement
  pub are_added : AreAdded [] rows inserts edit
  pub refusal : ApplyError
  pub is_refused : IsRefused (text old.parse.tree) edit refusal
  pub status_is : status ≡ apply_status refusal

-- the rows are those of no edit, or of one that is not made
abbrev pub IsUnedited : List EditRow → List ℕ → Kept → ℕ → Type 0
IsUnedited rows inserts old status = AreNotAdded [] rows inserts status ⊎ IsRefusedBy rows inserts old status

-- a handle had a parse, and has that of the edited text, in the edition of a year
pub record HoldsEdits (year : ℕ) (rows : List EditRow) (inserts : List ℕ) (before after : Option Kept) : Type 0 where
  pub old : Kept
  pub new : Kept
  pub edition_is : edition_of year ≡ Some new.edition
  pub held_before : before ≡ Some old
  pub held_after : after ≡ Some new
  pub are_edited : AreEditedBy new.edition rows inserts old new

-- it has a parse whose text the rows do not edit, and the status says why
pub record HoldsUnedited (rows : List EditRow) (inserts : List ℕ) (held : Option Kept) (status : ℕ) : Type 0 where
  pub kept : Kept
  pub is_held : held ≡ Some kept
  pub is_unedited : IsUnedited rows inserts kept status
