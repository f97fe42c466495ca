-- Which pieces of a text a front end reads by themselves as in the text, as functions of their
-- arguments.
use Rattle.std.specs.Prelude.{◌≡◌, ℕ, ◌<◌, ◌^◌, List, length, Option, Some, None, IsUtf8, Bool, true, false}
use Rattle.text_size.specs.TextRange.{Bounds}
use Rattle.syntax_kind.specs.declared.syntax_kind.SyntaxKind.{SyntaxKind}
use Rattle.ras_front_end.specs.declared.edition.Edition.{Edition}
use Rattle.ras_front_end.specs.declared.edition.Reparser.{Reparser}
use Rattle.ras_front_end.specs.Reading.{Reading}
use Rattle.ras_front_end.specs.Keeps.{Keeps}

-- a front end's answers; no text of more than `longest` bytes is read in pieces
pub record Exact : Type 0 where
  pub longest : ℕ
  pub has_head : List ℕ → Bool
  pub chosen : SyntaxKind → Option Reparser
  pub piece : Reparser → Edition → List ℕ → Option Reading
  -- of the text before a window, the window's old and new text, the text behind it, and the range
  -- of a token in the old text: only the text of this token is another one
  pub is_retold : Edition → List ℕ → List ℕ → List ℕ → List ℕ → Bounds → Bool

-- the text is a piece
abbrev pub is_piece : Option Reading → Bool
is_piece None = false
is_piece (Some reading) = true

-- the steps of a piece build one tree of the reparser's kind, for texts of fewer than 2^32 bytes
pub record ExactKeeps (exact : Exact) : Type 0 where
  pub piece_kept :
      (reparser : Reparser) (edition : Edition) (text : List ℕ) (reading : Reading)
      → IsUtf8 text → length text < 2 ^ 32 → exact.piece reparser edition text ≡ Some reading
      → Keeps (λ root. root ≡ reparser.kind) text reading
