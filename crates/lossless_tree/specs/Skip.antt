-- What is left of a walk that passes over what it has not entered yet of the innermost element.
use Rattle.std.specs.Prelude.{◌≡◌, ℕ, zero, suc, Bool, true, false, not, ◌&&◌, List, [], ◌∷◌, ◌⊎◌, ⊤}
use Rattle.std.specs.List.{filter}
use Rattle.tree_model.specs.Cursor.{Cursor, moves_at_node}

-- the steps of a walk from the first on that leaves what was entered before them, and none if there
-- is none; `inner` counts what was entered since and is not left yet
abbrev pub from_leave : ℕ → List (Bool × Cursor) → List (Bool × Cursor)
from_leave inner [] = []
from_leave inner ((true, c) ∷ w) = from_leave (suc inner) w
from_leave zero ((false, c) ∷ w) = (false, c) ∷ w
from_leave (suc inner) ((false, c) ∷ w) = from_leave inner w

-- each token of a walk is left by the step after the one that enters it; `inside` says whether one
-- is entered and not left yet
abbrev pub LeavesTokens : Bool → List (Bool × Cursor) → Type 0
LeavesTokens inside [] = ⊤
LeavesTokens false (w ∷ ws) = (moves_at_node w ≡ false → w.0 ≡ true) × LeavesTokens (w.0 && not (moves_at_node w)) ws
LeavesTokens true (w ∷ ws) = (moves_at_node w ≡ false) × (w.0 ≡ false) × LeavesTokens false ws

-- a walk that is inside of no token, or has no nodes left
abbrev pub IsAtNode : List (Bool × Cursor) → Type 0
IsAtNode ws = LeavesTokens false ws ⊎ (filter moves_at_node ws ≡ [])
