-- Which nodes of a tree of Rust are pieces: those of sealed calls.
use Rattle.std.specs.Prelude.{◌≡◌, ℕ, ◌+◌, ◌<◌, ◌^◌, min, false, Some, IsUtf8, List, ◌∷◌, length, reverse, take}
use Rattle.syntax_kind.specs.declared.syntax_kind.SyntaxKind.{SyntaxKind}
use Rattle.syntax_kind.specs.declared.syntax_kind.SyntaxKind.TheVariants.{Node}
use Rattle.syntax_kind.specs.declared.syntax_kind.node_kind.NodeKind.TheVariants as node
use Rattle.syntax_kind.specs.Kinds.{is_trivia}
use Rattle.tree_model.specs.Tree.{Tree, Forest, cons, Place, IsPlace, subtree, start}
use Rattle.tree_model.specs.Tree as tree
use Rattle.tree_model.specs.Events.{BuildsNode}
use Rattle.ras_front_end.specs.declared.edition.Edition.{Edition}
use Rattle.ras_front_end.specs.declared.edition.Entry.TheVariants.{SourceFile}
use Rattle.ras_front_end.specs.declared.edition.Reparser.{Reparser}
use Rattle.ras_front_end.specs.Reading.{events_from}
use Rattle.grammar_machine.specs.declared.event.Event.{Event}
use Rattle.event_layout.specs.Amid.{sum_len}
use Rattle.event_layout.specs.Layout.{root_of}
use Rattle.event_layout.specs.Made.{Left, past}
use Rattle.rust_grammar.specs.declared.tables.rules.Rule.TheVariants as rule
use Rattle.rust_grammar.specs.Rules.{first_op}
use Rattle.rust_grammar.specs.Seeing.{sights_of}
use Rattle.rust_grammar.specs.Tables.{rust_tables}
use Rattle.rust_lexer.specs.Lexing.{tokens_of}
use Rattle.rust_front.specs.Front.{made_of, parsed_of}
use Rattle.rust_front.specs.Pieces.{exact_chosen_of}
use Rattle.rust_front.specs.Roots.{attaching_kinds}
use Rattle.document_laws.specs.Calls.{IsOfCall}
use Rattle.document_laws.specs.Nodes.{made_left, IsOfEvent}
use Rattle.document_laws.specs.Tables.{IsExactRule}

-- the events of a file
abbrev pub events_in : Edition → List ℕ → List Event
events_in e text = made_of rule.SourceFile e text

-- the node at a place of a file's tree is that of an event, which is the last one of a sealed call;
-- that calls the rule of the reparser
pub record IsCalledPiece (e : Edition) (text : List ℕ) (t : Tree) (p : Place) (k : SyntaxKind) (r : Reparser) : Type 0 where
  pub exact : IsExactRule k r
  pub event : IsOfEvent (Node node.SOURCE_FILE) attaching_kinds text (tokens_of e text) (events_in e text) t p k
  pub called :
      IsOfCall rust_tables (sights_of e text (tokens_of e text)) (first_op rule.SourceFile) k event.from
      (reverse (take event.number (events_in e text)))
  pub target : called.call.target ≡ exact.target

-- so is each node of a kind with a reparser for exact pieces
abbrev pub PiecesOfTreesAreCalls : Type 0
PiecesOfTreesAreCalls =
    (e : Edition) (text : List ℕ) (t : Tree) (i : ℕ) (p : Place) (k : SyntaxKind) (f : Forest) (r : Reparser)
    → IsUtf8 text → length text < 2 ^ 32 → length (events_in e text) < 2 ^ 32
    → BuildsNode (events_from (parsed_of SourceFile e text).steps text) t
    → IsPlace t (i ∷ p) → subtree t (i ∷ p) ≡ tree.node k f → exact_chosen_of k ≡ Some r
    → IsCalledPiece e text t (i ∷ p) k r

-- what the first n events of a file leave of its tokens, from the next one on that is neither white
-- space nor a comment
abbrev pub left_behind : Edition → List ℕ → ℕ → Left
left_behind e text n =
    past (made_left (root_of (events_in e text)) 0 (take n (events_in e text)) (record { tokens = tokens_of e text; text = text }))

-- such a node, if its first child is a token, starts where the tokens begin that the events before
-- its first one leave
pub record StartsThere (e : Edition) (text : List ℕ) (t : Tree) (p : Place) (k : SyntaxKind) (r : Reparser) : Type 0 where
  pub piece : IsCalledPiece e text t p k r
  pub rest : start t p + sum_len (left_behind e text (min piece.event.from piece.event.number)).tokens ≡ length text

abbrev pub PiecesStartAtTheirTokens : Type 0
PiecesStartAtTheirTokens =
    (e : Edition) (text : List ℕ) (t : Tree) (i : ℕ) (p : Place) (k l : SyntaxKind) (w : List ℕ) (f : Forest) (r : Reparser)
    → IsUtf8 text → length text < 2 ^ 32 → length (events_in e text) < 2 ^ 32
    → BuildsNode (events_from (parsed_of SourceFile e text).steps text) t
    → IsPlace t (i ∷ p) → subtree t (i ∷ p) ≡ tree.node k (cons (tree.token l w) f) → is_trivia l ≡ false → exact_chosen_of k ≡ Some r
    → StartsThere e text t (i ∷ p) k r
