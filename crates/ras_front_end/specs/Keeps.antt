-- The properties of each reading of a front end.
use Rattle.std.specs.Prelude.{◌≡◌, ◌⊎◌, ℕ, List, length, All, IsTrue}
use Rattle.syntax_kind.specs.declared.syntax_kind.SyntaxKind.{SyntaxKind}
use Rattle.syntax_kind.specs.declared.syntax_kind.SyntaxKind.TheVariants.{Token, Node}
use Rattle.syntax_kind.specs.declared.syntax_kind.token_kind.TokenKind.TheVariants as token
use Rattle.syntax_kind.specs.declared.syntax_kind.node_kind.NodeKind.TheVariants as kind
use Rattle.ras_node.specs.Sets.{is_expr}
use Rattle.tree_model.specs.Tree.{Tree, kind_of}
use Rattle.tree_model.specs.Events.{BuildsNode}
use Rattle.ras_front_end.specs.declared.edition.Entry.{Entry}
use Rattle.ras_front_end.specs.declared.edition.Entry.TheVariants.{SourceFile, Expr}
use Rattle.ras_front_end.specs.ErrorModel.{LiesIn}
use Rattle.ras_front_end.specs.Reading.{Reading, events_from, Cuts, stored_faults}

-- the steps cut the whole text and build one tree, whose root has such a kind; the errors are
-- within the text
pub record Keeps (is_root : SyntaxKind → Type 0) (input : List ℕ) (r : Reading) : Type 0 where
  pub tree : Tree
  pub cuts : Cuts r.steps input
  pub builds : BuildsNode (events_from r.steps input) tree
  pub root : is_root (kind_of tree)
  pub in_text : All (LiesIn (length input)) (stored_faults r)

-- the kinds that a root may have: a file's own, and those of the views of `Expr`, or ERROR if the
-- text is not an expression
abbrev pub IsRootOf : Entry → SyntaxKind → Type 0
IsRootOf SourceFile k = k ≡ Node kind.SOURCE_FILE
IsRootOf Expr k = IsTrue (is_expr k) ⊎ (k ≡ Token token.ERROR)
