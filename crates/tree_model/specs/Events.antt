-- Events, the forest that they build, and why they may build no tree.
-- (Upstream: the calls of `rowan`'s `GreenNodeBuilder`.)
use Rattle.std.specs.Prelude.{◌≡◌, ℕ, zero, suc, ◌+◌, ◌<◌, ◌^◌, List, [], ◌∷◌, ◌++◌, length, ◌≤◌, Option, None, Some, nat_lt, if◌then◌else◌, MatchOption, ⊤}
use Rattle.syntax_kind.specs.declared.syntax_kind.SyntaxKind.{SyntaxKind}
use Rattle.tree_model.specs.Tree.{Tree, node, token, Forest, nil, cons, IsNode, text, forest_text}
use Rattle.tree_model.specs.declared.error.FinishError.{FinishError}
use Rattle.tree_model.specs.declared.error.FinishError.TheVariants.{TooLong, OverClosed, Unclosed, Empty, ManyRoots, TokenRoot, ErrorPastText, Memory}

pub data Event : Type 0 where
  enter : SyntaxKind → Event
  leaf : SyntaxKind → List ℕ → Event
  exit : Event

-- the forest that events build, by cases: no events build no trees; a token event builds a token;
-- the events between entering a node and leaving it build the node's children
pub data Builds : List Event → Forest → Type 0 where
  nothing : Builds [] nil
  token_then : {k : SyntaxKind} {t : List ℕ} {rest : List Event} {f : Forest} → Builds rest f → Builds (leaf k t ∷ rest) (cons (token k t) f)
  node_then : {k : SyntaxKind} {inner rest : List Event} {c f : Forest} → Builds inner c → Builds rest f → Builds (enter k ∷ (inner ++ exit ∷ rest)) (cons (node k c) f)

-- the events that build a forest
abbrev pub events_of : Forest → List Event
events_of nil = []
events_of (cons (token k t) r) = leaf k t ∷ events_of r
events_of (cons (node k c) r) = enter k ∷ (events_of c ++ exit ∷ events_of r)

-- the bytes of the texts
abbrev pub text_len : List Event → ℕ
text_len [] = 0
text_len (enter k ∷ es) = text_len es
text_len (leaf k t ∷ es) = length t + text_len es
text_len (exit ∷ es) = text_len es

-- the texts, joined in order
abbrev pub texts : List Event → List ℕ
texts [] = []
texts (enter k ∷ es) = texts es
texts (leaf k t ∷ es) = t ++ texts es
texts (exit ∷ es) = texts es

-- how many nodes are open after the events, if d are open before them; None if some prefix has more
-- exits than that
abbrev pub open_after : ℕ → List Event → Option ℕ
open_after d [] = Some d
open_after d (enter k ∷ es) = open_after (suc d) es
open_after d (leaf k t ∷ es) = open_after d es
open_after zero (exit ∷ es) = None
open_after (suc d) (exit ∷ es) = open_after d es

-- reading from the right: the forests that are before each exit that is not matched yet
abbrev pub first_forest : List Forest → Forest
first_forest [] = nil
first_forest (f ∷ fs) = f

abbrev pub later_forests : List Forest → List Forest
later_forests [] = []
later_forests (f ∷ fs) = fs

unfoldable pub forests : List Event → List Forest
forests [] = nil ∷ []
forests (enter k ∷ es) = cons (node k (first_forest (forests es))) (first_forest (later_forests (forests es))) ∷ later_forests (later_forests (forests es))
forests (leaf k t ∷ es) = cons (token k t) (first_forest (forests es)) ∷ later_forests (forests es)
forests (exit ∷ es) = nil ∷ forests es

-- the forest of balanced events
abbrev pub forest_of : List Event → Forest
forest_of es = first_forest (forests es)

abbrev pub append_forest : Forest → Forest → Forest
append_forest nil g = g
append_forest (cons t r) g = cons t (append_forest r g)

-- the errors of balanced events depend on the top elements
abbrev pub root_refusal : Forest → Option FinishError
root_refusal nil = Some Empty
root_refusal (cons (token k t) nil) = Some TokenRoot
root_refusal (cons (node k c) nil) = None
root_refusal (cons t (cons u r)) = Some ManyRoots

abbrev pub balance_refusal : Option ℕ → List Event → Option FinishError
balance_refusal None es = Some OverClosed
balance_refusal (Some (suc d)) es = Some Unclosed
balance_refusal (Some zero) es = root_refusal (forest_of es)

-- the first error that applies to the events, other than out of memory
abbrev pub first_refusal : List Event → Option FinishError
first_refusal es = if nat_lt (text_len es) (2 ^ 32) then balance_refusal (open_after 0 es) es else Some TooLong

-- the error itself, or None for out of memory
abbrev pub refusal_of : FinishError → Option FinishError
refusal_of TooLong = Some TooLong
refusal_of OverClosed = Some OverClosed
refusal_of Unclosed = Some Unclosed
refusal_of Empty = Some Empty
refusal_of ManyRoots = Some ManyRoots
refusal_of TokenRoot = Some TokenRoot
refusal_of ErrorPastText = Some ErrorPastText
refusal_of Memory = None

-- the tree is the one node that the events build
abbrev pub BuildsNode : List Event → Tree → Type 0
BuildsNode es t = Builds es (cons t nil) × IsNode t

-- how often a node is entered, and left
abbrev pub enters : List Event → ℕ
enters [] = 0
enters (enter k ∷ es) = suc (enters es)
enters (leaf k t ∷ es) = enters es
enters (exit ∷ es) = enters es

abbrev pub exits : List Event → ℕ
exits [] = 0
exits (enter k ∷ es) = exits es
exits (leaf k t ∷ es) = exits es
exits (exit ∷ es) = suc (exits es)

-- some prefix of the events has more exits than enters, if d nodes are open before them
pub record HasOverClosedFront (d : ℕ) (es : List Event) : Type 0 where
  pub front : List Event
  pub rest : List Event
  pub is : es ≡ front ++ rest
  pub more_exits : d + enters front < exits front

-- the events build two or more top elements
pub record BuildsMany (es : List Event) : Type 0 where
  pub first : Tree
  pub second : Tree
  pub later : Forest
  pub builds : Builds es (cons first (cons second later))

-- the events build one top element, a token
pub record BuildsToken (es : List Event) : Type 0 where
  pub kind : SyntaxKind
  pub its_text : List ℕ
  pub builds : Builds es (cons (token kind its_text) nil)

-- what each error means for the events: an error past the text never applies to events alone, and
-- memory can run out with any
abbrev pub Holds : FinishError → List Event → Type 0
Holds TooLong es = 2 ^ 32 ≤ text_len es
Holds OverClosed es = HasOverClosedFront 0 es
Holds Unclosed es = exits es < enters es
Holds Empty es = Builds es nil
Holds ManyRoots es = BuildsMany es
Holds TokenRoot es = BuildsToken es
Holds ErrorPastText es = ⊥
Holds Memory es = ⊤

-- the order in which the errors are checked
abbrev pub refusal_number : FinishError → ℕ
refusal_number TooLong = 1
refusal_number OverClosed = 2
refusal_number Unclosed = 3
refusal_number Empty = 4
refusal_number ManyRoots = 5
refusal_number TokenRoot = 6
refusal_number ErrorPastText = 7
refusal_number Memory = 8

-- the error applies, and none before it: so out of memory is returned only if no other error
-- applies
pub record IsFirstRefusal (es : List Event) (e : FinishError) : Type 0 where
  pub holds : Holds e es
  pub first : (d : FinishError) → refusal_number d < refusal_number e → Holds d es → ⊥

-- the events build the one node t, and their text is not too long
pub record IsAccepted (es : List Event) : Type 0 where
  pub short : text_len es < 2 ^ 32
  pub root : Tree
  pub builds : BuildsNode es root

-- what `first_refusal` computes is the first error that applies: over-closed and unclosed events
-- are defined by counts of enters and exits in prefixes of the list, the others by what the events
-- build
abbrev pub RefusalsHold : Type 0
RefusalsHold = (es : List Event) → MatchOption (first_refusal es) (IsAccepted es) (IsFirstRefusal es)

-- a forest that events build has their texts, joined
abbrev pub TextsAreBuilt : Type 0
TextsAreBuilt = (es : List Event) (f : Forest) → Builds es f → forest_text f ≡ texts es

-- events that build one node of a text shorter than 2^32 have no error
abbrev pub NodesAreAccepted : Type 0
NodesAreAccepted = (es : List Event) (t : Tree) → BuildsNode es t → length (text t) < 2 ^ 32 → first_refusal es ≡ None
