-- What each step of the walk of a tree adds to the new tree.
use Rattle.std.specs.Prelude.{◌≡◌, ◌<◌, ◌≤◌, length, ℕ, zero, suc, List, [], ◌∷◌, ◌++◌, Bool, true, false, if◌then◌else◌, Option}
use Rattle.tree_model.specs.Tree.{Tree, node, token, nil, cons, Place, size, IsNode}
use Rattle.tree_model.specs.Rows.{place_at}
use Rattle.tree_model.specs.Cursor.{Cursor, focus}
use Rattle.tree_model.specs.Events.{Event, enter, leaf, exit, events_of}
use Rattle.tree_rows.specs.Walks.{IsWalk, walk_left, open_count}
use Rattle.tree_edit_model.specs.Changes.{Change, forest_from, change_at}

-- a tree as it is entered (true), and left (false)
abbrev pub step_events : Tree → Bool → List Event
step_events (node k c) true = enter k ∷ []
step_events (node k c) false = exit ∷ []
step_events (token k t) true = leaf k t ∷ []
step_events (token k t) false = []

abbrev pub events_from_all : List Tree → List Event
events_from_all ts = events_of (forest_from ts)

-- a place that is entered, and left, and is not replaced
abbrev pub events_inside : Tree → List Tree → List Event
events_inside (node k c) ts = events_from_all ts
events_inside (token k t) ts = []

abbrev pub entered : Change → Tree → List Event
entered c t = events_from_all c.before ++ (if c.replaced then events_from_all c.instead else (step_events t true ++ events_inside t c.first))

abbrev pub left : Change → Tree → List Event
left c t = events_inside t c.last ++ (step_events t false ++ events_from_all c.after)

-- how many levels are open below the place that is replaced, itself counted: 0 outside of one
abbrev pub skip_after : Change → ℕ
skip_after c = if c.replaced then 1 else 0

-- what the rest of a walk adds
abbrev pub walked : (Place → Change) → ℕ → List (Bool × Cursor) → List Event
walked at s [] = []
walked at zero ((true, d) ∷ w) = entered (at d.place) (focus d) ++ walked at (skip_after (at d.place)) w
walked at zero ((false, d) ∷ w) = left (at d.place) (focus d) ++ walked at 0 w
walked at (suc s) ((true, d) ∷ w) = walked at (suc (suc s)) w
walked at (suc zero) ((false, d) ∷ w) = events_from_all (at d.place).after ++ walked at 0 w
walked at (suc (suc s)) ((false, d) ∷ w) = walked at (suc s) w

-- the changes of the rows are those at their places; there is none before, after or in the place of
-- the root
pub record AreChangesOf (at : Place → Change) (tree : Tree) (marks : List ℕ) (changes : List Change) : Type 0 where
  pub long : length marks ≡ size tree
  pub each : (n : ℕ) → n < size tree → at (place_at tree n) ≡ change_at marks changes n
  pub none_before : (at []).before ≡ []
  pub none_instead : (at []).replaced ≡ false
  pub none_after : (at []).after ≡ []

-- the events are those of one node
pub record IsOneNode (es : List Event) : Type 0 where
  pub tree : Tree
  pub is : es ≡ events_of (cons tree nil)
  pub node : IsNode tree

-- what a step adds, whatever the rest of the walk adds
pub record Stepped (at : Place → Change) (out new : List Event) (enters : Bool) (d : Cursor) (s t : ℕ) : Type 0 where
  pub made : (rest : List (Bool × Cursor)) → new ++ walked at t rest ≡ out ++ walked at s ((enters, d) ∷ rest)

-- a walk with s levels open in a place that is replaced goes on from one state to another, and what
-- its steps between add is appended
pub record IsWalkedOn (at : Place → Change) (tree : Tree) (out new : List Event) (s next : ℕ) (o : Option ℕ) (after : ℕ) (o' : Option ℕ) : Type 0 where
  pub walks : IsWalk tree 0 after o'
  pub made : new ++ walked at s (walk_left tree 0 after o') ≡ out ++ walked at s (walk_left tree 0 next o)
  pub level : s ≤ open_count tree 0 o → s ≤ open_count tree 0 o'
  pub shorter : length (walk_left tree 0 after o') ≤ length (walk_left tree 0 next o)
