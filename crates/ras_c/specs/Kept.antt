-- What a handle keeps: a parse of a text as a file, and the edition that the text was read as.
use Rattle.std.specs.Prelude.{◌≡◌, ◌⊎◌, ℕ, zero, suc, ◌<◌, ◌^◌, List, length, refl}
use Rattle.std.specs.Coded.{Coded, code_by, coded×, coded_ℕ}
use Rattle.text_size.specs.TextRange.{Bounds}
use Rattle.tree_model.specs.Tree.{Tree, text}
use Rattle.tree_model.specs.Cursor.{Cursor}
use Rattle.tree_model.specs.Edit.{replace}
use Rattle.text_edit.specs.Replacements.{Replacement}
use Rattle.text_edit.specs.Replacements.{edited as all_edited, IsEditOf as AreEditsOf}
use Rattle.ras_front_end.specs.declared.edition.Edition.{Edition}
use Rattle.ras_front_end.specs.declared.edition.Edition.TheVariants.{Edition2015, Edition2018, Edition2021, Edition2024}
use Rattle.ras_front_end.specs.declared.edition.Entry.TheVariants.{SourceFile}
use Rattle.ras_front_end.specs.Parsed.{Parsed, parsed_code, IsParseOf}
use Rattle.ras_parsing.specs.Edit.{Edit, IsEditOf, edited, edited_at}
use Rattle.ras_parsing.specs.Document.{range_after}
use Rattle.ras_parsing.specs.Rereading.{IsAround}
use Rattle.rust_front.specs.Front.{rust_front}

pub record Kept : Type 0 where
  pub edition : Edition
  pub parse : Parsed

abbrev pub place_of : Edition → ℕ
place_of Edition2015 = 0
place_of Edition2018 = 1
place_of Edition2021 = 2
place_of Edition2024 = 3

abbrev pub edition_at : ℕ → Edition
edition_at zero = Edition2015
edition_at (suc zero) = Edition2018
edition_at (suc (suc zero)) = Edition2021
edition_at (suc (suc (suc n))) = Edition2024

pub same_edition : (e : Edition) → edition_at (place_of e) ≡ e
same_edition Edition2015 = refl
same_edition Edition2018 = refl
same_edition Edition2021 = refl
same_edition Edition2024 = refl

abbrev pub edition_code : Coded Edition
edition_code = code_by ℕ coded_ℕ place_of edition_at same_edition

abbrev pub kept_code : Coded Kept
kept_code =
    code_by (Edition × Parsed) (coded× edition_code parsed_code) (λ k. (k.edition, k.parse))
    (λ p. record { edition = p.0; parse = p.1 }) (λ _. refl)

-- the parse is that of a text by the front end for Rust, in its edition
abbrev pub IsRead : List ℕ → Kept → Type 0
IsRead s k = IsParseOf s (rust_front.parsed SourceFile k.edition s) k.parse

-- a node or token of the old tree around the edit was read again: with its new tree in its place
-- the old tree is the new one
pub record OnePieceIs (old : Tree) (edit : Edit) (new : Tree) (range : Bounds) : Type 0 where
  pub piece : Cursor
  pub in_old : piece.tree ≡ old
  pub is_around : IsAround piece edit
  pub parsed : Tree
  pub text_is : text parsed ≡ edited_at piece edit
  pub tree_is : new ≡ replace old piece.place parsed
  pub range_is : range ≡ range_after piece edit

-- what was parsed again: one piece, or all of the new text
abbrev pub IsAgain : Tree → Edit → Tree → Bounds → Type 0
IsAgain old edit new range =
    OnePieceIs old edit new range ⊎ (range ≡ record { start = 0; end = length (edited (text old) edit) })

-- after an edit the parse is that of the edited text, in an edition
pub record IsEdited (edition : Edition) (edit : Edit) (old new : Kept) : Type 0 where
  pub is_edit : IsEditOf (text old.parse.tree) edit
  pub edition_is : new.edition ≡ edition
  pub is_read : IsRead (edited (text old.parse.tree) edit) new
  pub short : length (edited (text old.parse.tree) edit) < 2 ^ 32

-- the same after several replacements, each of a range of the old text
pub record AreEdited (edition : Edition) (es : List Replacement) (old new : Kept) : Type 0 where
  pub are_edits : AreEditsOf (text old.parse.tree) es
  pub edition_is : new.edition ≡ edition
  pub is_read : IsRead (all_edited (text old.parse.tree) es) new
