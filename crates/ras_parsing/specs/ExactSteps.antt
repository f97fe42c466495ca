-- What the steps of an edit of a document find, for the proofs.
use Rattle.std.specs.Prelude.{◌≡◌, ℕ, ◌≤◌, List, length, IsCharBoundary, ⊤}
use Rattle.text_size.specs.TextRange.{Bounds}
use Rattle.tree_model.specs.Tree.{text}
use Rattle.tree_model.specs.Cursor.{Cursor, range_of}
use Rattle.ras_front_end.specs.declared.edition.Edition.{Edition}
use Rattle.ras_front_end.specs.declared.edition.Reparser.{Reparser}
use Rattle.ras_front_end.specs.Keeps.{Keeps}
use Rattle.ras_front_end.specs.Parsed.{Parsed}
use Rattle.ras_front_end.specs.Reading.{Reading}
use Rattle.exact_front.specs.Exact.{Exact}
use Rattle.ras_parsing.specs.Edit.{Edit, covered, edited_at}
use Rattle.ras_parsing.specs.Rereading.{IsAround}
use Rattle.ras_parsing.specs.Document.{ExactPath, TokenPath, window_around}

-- an exact piece with its new text, whose steps build one tree over it
pub record IsExactPiece (exact : Exact) (edition : Edition) (old : Parsed) (count : ℕ) (edit : Edit) (c : Cursor) (r : Reparser) (new : List ℕ) (reading : Reading) : Type 0 where
  pub same_tree : c.tree ≡ old.tree
  pub around : IsAround c edit
  pub text_is : new ≡ edited_at c edit
  pub path : ExactPath exact edition old count edit c r reading
  pub keeps : Keeps (λ root. ⊤) new reading

-- a token with its new text, by which nothing else changes
pub record IsRetoldToken (exact : Exact) (edition : Edition) (old : Parsed) (count : ℕ) (edit : Edit) (c : Cursor) (new : List ℕ) : Type 0 where
  pub covers : c ≡ covered old.tree edit
  pub text_is : new ≡ edited_at c edit
  pub path : TokenPath exact edition old count edit c (window_around (text old.tree) (range_of c))

-- a range is in a window of the text, which is cut out of it between characters
pub record FitsAround (s : List ℕ) (t w : Bounds) : Type 0 where
  pub begins : w.start ≤ t.start
  pub ends : t.end ≤ w.end
  pub within : w.end ≤ length s
  pub start_boundary : IsCharBoundary s w.start
  pub end_boundary : IsCharBoundary s w.end
