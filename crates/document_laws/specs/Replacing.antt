-- The tree of a text in which a piece was replaced.
use Rattle.std.specs.Prelude.{◌≡◌, ℕ, ◌-◌, ◌<◌, ◌^◌, List, length}
use Rattle.syntax_kind.specs.declared.syntax_kind.SyntaxKind.{SyntaxKind}
use Rattle.tree_model.specs.Tree.{Tree, Place, IsPlace, subtree, start}
use Rattle.tree_model.specs.Edit.{replace}
use Rattle.tree_model.specs.Events.{BuildsNode}
use Rattle.ras_front_end.specs.Reading.{events_from}
use Rattle.token_layout.specs.Laid.{IsCut}
use Rattle.grammar_machine.specs.declared.event.Event.{Event}
use Rattle.grammar_machine.specs.Running.{Tables}
use Rattle.event_layout.specs.Filled.{Stretch, laid}
use Rattle.event_layout.specs.Replaced.{Part, whole_of, piece_of, LaidAround}

-- the tree that is laid of a text
abbrev pub BuildsLaid : SyntaxKind → List SyntaxKind → Stretch → Tree → Type 0
BuildsLaid root attaching p t = BuildsNode (events_from (laid root attaching p).steps p.text) t

-- the old piece's tree is at a place of the old text's, behind the text before it; with the new
-- piece's tree there it is the new text's
pub record IsReplacedTree
    (root k : SyntaxKind) (attaching : List SyntaxKind) (g : Tables) (rule : ℕ) (a q c : Part) (t old new : Tree) : Type 0 where
  pub place : Place
  pub is_place : IsPlace t place
  pub is_old : subtree t place ≡ old
  pub starts : start t place ≡ length a.text
  pub is_new : BuildsLaid root attaching (whole_of g rule a q c) (replace t place new)

-- where the law of replaced pieces lays a text in two ways, the trees are so
abbrev pub ReplacedPiecesAreTrees : Type 0
ReplacedPiecesAreTrees =
    (root k : SyntaxKind) (attaching : List SyntaxKind) (g : Tables) (rule : ℕ) (a p q c : Part) (es fs : List Event) (t old new : Tree)
    → LaidAround root k attaching g rule a p q c es fs → length a.text < 2 ^ 32 - 1
    → IsCut p.tokens p.text → IsCut q.tokens q.text → length p.text < 2 ^ 32 → length q.text < 2 ^ 32
    → BuildsLaid root attaching (whole_of g rule a p c) t
    → BuildsLaid k attaching (piece_of k p es) old → BuildsLaid k attaching (piece_of k q fs) new
    → IsReplacedTree root k attaching g rule a q c t old new
