-- The kinds of the nodes of a file: no node is a brace.
use Rattle.std.specs.Prelude.{◌≡◌, ℕ, ◌<◌, ◌^◌, Bool, false, ◌||◌, IsUtf8, List, length, Some, slice_get}
use Rattle.syntax_kind.specs.declared.syntax_kind.SyntaxKind.{SyntaxKind}
use Rattle.syntax_kind.specs.declared.syntax_kind.SyntaxKind.TheVariants.{Node}
use Rattle.syntax_kind.specs.declared.syntax_kind.node_kind.NodeKind.TheVariants as node
use Rattle.tree_model.specs.Tree.{Tree, kind_of, text}
use Rattle.tree_model.specs.Cursor.{Cursor}
use Rattle.ras_front_end.specs.Balanced.{opens_brace, closes_brace}
use Rattle.ras_front_end.specs.declared.edition.Edition.{Edition}
use Rattle.ras_front_end.specs.declared.edition.Reparser.{Reparser}
use Rattle.grammar_machine.specs.declared.event.Event.TheVariants as event
use Rattle.grammar_machine.specs.declared.grammar.Op.{Op}
use Rattle.grammar_machine.specs.declared.grammar.Op.TheVariants as op
use Rattle.grammar_machine.specs.declared.grammar.Sight.{Sight}
use Rattle.grammar_machine.specs.Running.{Tables, events_of}
use Rattle.rust_front.specs.Exact.{rust_exact}
use Rattle.ras_parsing.specs.Document.{first_exact}
use Rattle.ras_parsing.specs.Edit.{Edit, IsEditOf}
use Rattle.ras_parsing.specs.Reparse.{nodes_around}
use Rattle.document_laws.specs.Edited.{BuildsFile}
use Rattle.document_laws.specs.Paths.{BracesAreTokens, IsExactCursor}
use Rattle.document_laws.specs.Pieces.{events_in}

-- the operation makes a node of such a kind
abbrev pub makes_kind : (SyntaxKind → Bool) → Op → Bool
makes_kind test (op.Wrap k) = test k
makes_kind test (op.Close k) = test k
makes_kind test (op.Leaf k) = test k
makes_kind test (op.Sealed target k) = test k
makes_kind test _ = false

-- a run makes no node of a kind of which no operation makes one
abbrev pub NodesHaveTheirKinds : Type 0
NodesHaveTheirKinds =
    (test : SyntaxKind → Bool) (g : Tables) (rule : ℕ) (ts : List Sight)
    → ((i : ℕ) (o : Op) → slice_get g.ops i ≡ Some o → makes_kind test o ≡ false)
    → (i : ℕ) (k : SyntaxKind) (from : ℕ) → slice_get (events_of g rule ts) i ≡ Some (event.Node k from) → test k ≡ false

abbrev pub is_brace : SyntaxKind → Bool
is_brace k = opens_brace k || closes_brace k

-- what is so of the tree of each file
pub record IsFile (e : Edition) (s : List ℕ) (t : Tree) : Type 0 where
  pub text_is : text t ≡ s
  pub root : kind_of t ≡ Node node.SOURCE_FILE
  pub braces : BracesAreTokens t

abbrev pub FilesHaveTheirKinds : Type 0
FilesHaveTheirKinds =
    (e : Edition) (s : List ℕ) (t : Tree) → IsUtf8 s → length s < 2 ^ 32 → length (events_in e s) < 2 ^ 32
    → BuildsFile e s t → IsFile e s t

-- so the law of the cursors of edits is one of all files
abbrev pub CursorsOfFiles : Type 0
CursorsOfFiles =
    (e : Edition) (s : List ℕ) (t : Tree) (edit : Edit) (c : Cursor) (r : Reparser)
    → IsUtf8 s → length s < 2 ^ 32 → length (events_in e s) < 2 ^ 32
    → BuildsFile e s t → IsEditOf s edit
    → first_exact rust_exact edit.delete (nodes_around t edit) ≡ Some (c, r)
    → IsExactCursor t edit c r
