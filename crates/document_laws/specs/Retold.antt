-- What `Document::edit` makes of a text of Rust where one token gets another text.
use Rattle.std.specs.Prelude.{◌≡◌, ℕ, ◌<◌, ◌^◌, IsUtf8, [], length, take}
use Rattle.text_size.specs.TextRange.{Bounds}
use Rattle.tree_model.specs.Tree.{text}
use Rattle.tree_model.specs.Cursor.{Cursor}
use Rattle.ras_front_end.specs.declared.edition.Edition.{Edition}
use Rattle.ras_front_end.specs.Parsed.{Parsed}
use Rattle.ras_front_end.specs.Reading.{Reading, step_faults, stored_faults}
use Rattle.ras_parsing.specs.Edit.{Edit, IsEditOf, edited}
use Rattle.ras_parsing.specs.Document.{in_order, all_in_order, IsReadOf, TokenPath, IsRetoldOf}
use Rattle.rust_front.specs.Exact.{rust_exact}
use Rattle.rust_front.specs.Front.{rust_front}

-- the errors that a parse stores, and how many of them are the parser's: those before the token,
-- and those behind it, which move with the text
pub record AreKept (old new : Reading) (b : Bounds) (edit : Edit) : Type 0 where
  pub all :
      stored_faults new
      ≡ all_in_order (length (step_faults old.steps)) 0 (stored_faults old) [] b edit
  pub count :
      length (step_faults new.steps)
      ≡ length (in_order (take (length (step_faults old.steps)) (stored_faults old)) [] b edit)

-- it is the parse of the new text
abbrev pub RetoldTokensAreRead : Type 0
RetoldTokensAreRead =
    (e : Edition) (old new : Parsed) (before count : ℕ) (edit : Edit)
    → IsUtf8 (text old.tree) → IsUtf8 edit.insert → IsEditOf (text old.tree) edit
    → length (edited (text old.tree) edit) < 2 ^ 32
    → IsReadOf rust_front e (text old.tree) old before
    → (c : Cursor) (w : Bounds) → TokenPath rust_exact e old before edit c w
    → IsRetoldOf old before edit c new count
    → IsReadOf rust_front e (edited (text old.tree) edit) new count
