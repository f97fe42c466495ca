-- A front end as functions of its arguments, and the properties of their results.
-- (Upstream: the crate `parser`, which rust-analyzer's trees are made with.)
use Rattle.std.specs.Prelude.{◌≡◌, ℕ, ◌<◌, ◌^◌, List, length, Option, Some, IsUtf8, Bool}
use Rattle.syntax_kind.specs.declared.syntax_kind.SyntaxKind.{SyntaxKind}
use Rattle.ras_front_end.specs.declared.edition.Entry.{Entry}
use Rattle.ras_front_end.specs.declared.edition.Edition.{Edition}
use Rattle.ras_front_end.specs.declared.edition.Reparser.{Reparser}
use Rattle.ras_front_end.specs.Balanced.{IsBalanced}
use Rattle.ras_front_end.specs.Reading.{Reading}
use Rattle.ras_front_end.specs.Keeps.{Keeps, IsRootOf}

pub record Front : Type 0 where
  pub lexed : Edition → List ℕ → List SyntaxKind
  pub parsed : Entry → Edition → List ℕ → Reading
  pub single : Edition → List ℕ → Option (SyntaxKind × Option (List ℕ))
  pub chosen : SyntaxKind → Option SyntaxKind → Option SyntaxKind → Option Reparser
  pub piece : Reparser → Edition → List ℕ → Reading
  pub word : Edition → List ℕ → Option SyntaxKind
  pub is_strict : Edition → SyntaxKind → Bool

-- for texts of fewer than 2^32 bytes
pub record FrontEndKeeps (front : Front) : Type 0 where
  -- a file and an expression
  pub entry_kept : (entry : Entry) (edition : Edition) (text : List ℕ) → IsUtf8 text → length text < 2 ^ 32 → Keeps (IsRootOf entry) text (front.parsed entry edition text)
  -- a piece whose braces balance, with a reparser that was returned
  pub piece_kept :
      (kind : SyntaxKind) (first_child parent : Option SyntaxKind) (reparser : Reparser) (edition : Edition) (text : List ℕ)
      → front.chosen kind first_child parent ≡ Some reparser
      → IsUtf8 text → length text < 2 ^ 32 → IsBalanced (front.lexed edition text)
      → Keeps (λ root. root ≡ kind) text (front.piece reparser edition text)
  -- a reparser has the kind of the node
  pub reparser_kept : (kind : SyntaxKind) (first_child parent : Option SyntaxKind) (reparser : Reparser) → front.chosen kind first_child parent ≡ Some reparser → reparser.kind ≡ kind
