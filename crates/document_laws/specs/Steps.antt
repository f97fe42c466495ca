-- Trees of a front end's steps, of which some build one node by themselves.
use Rattle.std.specs.Prelude.{◌≡◌, ℕ, List, ◌++◌, length}
use Rattle.tree_model.specs.Tree.{Tree, Place, IsPlace, subtree, start}
use Rattle.tree_model.specs.Edit.{replace}
use Rattle.tree_model.specs.Events.{BuildsNode}
use Rattle.ras_front_end.specs.Reading.{FrontStep, events_from, Cuts}
use Rattle.event_layout.specs.Filled.{bytes_taken}

-- a node is at a place of a tree, behind the text a; with another text and its steps in the place
-- of the node's, the tree has their node there
pub record IsBehind (a c : List ℕ) (before behind : List FrontStep) (t old : Tree) : Type 0 where
  pub place : Place
  pub is_place : IsPlace t place
  pub is_old : subtree t place ≡ old
  pub starts : start t place ≡ length a
  pub replaced :
      (q : List ℕ) (new : List FrontStep) (piece : Tree) → Cuts new q → BuildsNode (events_from new q) piece
      → BuildsNode (events_from (before ++ (new ++ behind)) (a ++ (q ++ c))) (replace t place piece)

abbrev pub BlocksOfStepsAreAtPlaces : Type 0
BlocksOfStepsAreAtPlaces =
    (a p c : List ℕ) (before own behind : List FrontStep) (t old : Tree)
    → bytes_taken before ≡ length a → Cuts own p
    → BuildsNode (events_from (before ++ (own ++ behind)) (a ++ (p ++ c))) t → BuildsNode (events_from own p) old
    → IsBehind a c before behind t old
