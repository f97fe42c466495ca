-- Rows without changes between others: their steps, and where the texts of their tokens are in the
-- text of the tree.
use Rattle.std.specs.Prelude.{◌≡◌, ◌≤◌, ◌-◌, ℕ, true, List, [], ◌∷◌, ◌++◌, take, drop, map, length, Option, None, Some, if◌then◌else◌, nat_lt, ⊤, IsUtf8}
use Rattle.tree_model.specs.Tree.{Tree, node, token, Place, size, text}
use Rattle.tree_model.specs.Rows.{tree_at, start_at, end_at}
use Rattle.tree_model.specs.Events.{Event, enter, leaf, exit, texts}
use Rattle.tree_rows.specs.declared.builder_event.BuilderEvent.{BuilderEvent}
use Rattle.tree_rows.specs.Builder.{step_of}
use Rattle.tree_edit_model.specs.Changes.{Change}
use Rattle.tree_edits.specs.declared.unchanged.Reached.{Reached}
use Rattle.tree_edits.specs.Walked.{IsWalkedOn, step_events}

-- where row n starts; behind the last row, where the text ends
abbrev pub offset_of : Tree → ℕ → ℕ
offset_of t n = if nat_lt n (size t) then start_at t n else length (text t)

-- where the token at a row ends; none for a node
abbrev pub end_of_token : Tree → ℕ → Tree → Option ℕ
end_of_token t n (node k c) = None
end_of_token t n (token k s) = Some (end_at t n)

abbrev pub token_end : Tree → ℕ → Option ℕ
token_end t n = end_of_token t n (tree_at t n)

-- the steps of a row that is entered
abbrev pub entering : Tree → ℕ → List BuilderEvent
entering t n = map step_of (step_events (tree_at t n) true)

-- the text from byte a to byte b
abbrev pub between : List ℕ → ℕ → ℕ → List ℕ
between s a b = take (b - a) (drop a s)

-- each text of the events is text
abbrev pub AreTexts : List Event → Type 0
AreTexts [] = ⊤
AreTexts (enter k ∷ es) = AreTexts es
AreTexts (leaf k t ∷ es) = IsUtf8 t × AreTexts es
AreTexts (exit ∷ es) = AreTexts es

-- a walk over rows without changes goes on from one state to another; its steps are appended, and
-- the texts of its tokens are those of the tree between where it was and where it is
pub record AreUnchanged (at : Place → Change) (tree : Tree) (old new : List BuilderEvent) (next inner : ℕ) (to : Reached) : Type 0 where
  pub events : List Event
  pub steps : new ≡ old ++ map step_of events
  pub utf8 : AreTexts events
  pub ordered : offset_of tree next ≤ to.end
  pub end_is : to.end ≡ offset_of tree to.next
  pub text_is : texts events ≡ between (text tree) (offset_of tree next) to.end
  pub walked_on : IsWalkedOn at tree [] events 0 next (Some inner) to.next (Some to.innermost)
