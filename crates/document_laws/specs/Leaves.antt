-- Tokens of trees of a front end's steps.
use Rattle.std.specs.Prelude.{◌≡◌, ℕ, ◌+◌, ◌≤◌, ◌<◌, List, ◌∷◌, ◌++◌, length}
use Rattle.syntax_kind.specs.declared.syntax_kind.SyntaxKind.{SyntaxKind}
use Rattle.tree_model.specs.Tree.{Tree, token, Place, IsPlace, subtree, start}
use Rattle.tree_model.specs.Edit.{replace}
use Rattle.tree_model.specs.Events.{BuildsNode}
use Rattle.ras_front_end.specs.Reading.{FrontStep, takes, events_from, Cuts}
use Rattle.event_layout.specs.Filled.{bytes_taken}

-- a token is at a place of a tree, behind the text a; with another text in its place, the tree has
-- the token with that text there
pub record IsLeafBehind
    (a c : List ℕ) (before behind : List FrontStep) (k : SyntaxKind) (old : List ℕ) (t : Tree)
    : Type 0 where
  pub place : Place
  pub is_place : IsPlace t place
  pub is_old : subtree t place ≡ token k old
  pub starts : start t place ≡ length a
  pub replaced :
      (new : List ℕ)
      → BuildsNode
      (events_from (before ++ takes k (length new) ∷ behind) (a ++ (new ++ c)))
      (replace t place (token k new))

abbrev pub LeavesOfStepsAreAtPlaces : Type 0
LeavesOfStepsAreAtPlaces =
    (a old c : List ℕ) (before behind : List FrontStep) (k : SyntaxKind) (t : Tree)
    → bytes_taken before ≡ length a
    → BuildsNode (events_from (before ++ takes k (length old) ∷ behind) (a ++ (old ++ c))) t
    → IsLeafBehind a c before behind k old t

-- a token of a tree has a byte of the text
pub record HasByte (t : Tree) (p : Place) (at : ℕ) : Type 0 where
  pub is_place : IsPlace t p
  pub kind : SyntaxKind
  pub its_text : List ℕ
  pub is : subtree t p ≡ token kind its_text
  pub begun : start t p ≤ at
  pub ended : at < start t p + length its_text

-- no other token has it
abbrev pub BytesHaveOneToken : Type 0
BytesHaveOneToken = (t : Tree) (p q : Place) (at : ℕ) → HasByte t p at → HasByte t q at → p ≡ q

-- the steps are in two parts, of which the first takes so many bytes
pub record StepsPart (steps : List FrontStep) (bytes : ℕ) : Type 0 where
  pub before : List FrontStep
  pub behind : List FrontStep
  pub is : steps ≡ before ++ behind
  pub taken : bytes_taken before ≡ bytes

-- where a node or token begins, the steps are in two parts
abbrev pub PlacesPartSteps : Type 0
PlacesPartSteps =
    (steps : List FrontStep) (s : List ℕ) (t : Tree) (p : Place)
    → Cuts steps s → BuildsNode (events_from steps s) t → IsPlace t p → StepsPart steps (start t p)
