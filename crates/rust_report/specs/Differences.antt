-- The places where two trees differ, one after the other.
use Rattle.std.specs.Prelude.{◌≡◌, ℕ, zero, suc, ⊤, List, [], ◌∷◌, Option, Some, None, Bool, true, false, map, drop}
use Rattle.lossless_tree.specs.declared.cursor.preorder.WalkEvent.TheVariants.{Enter, Leave}
use Rattle.rust_report.specs.declared.same.Difference.{Difference}
use Rattle.rust_report.specs.Steps.{Element, Event, step, IsFirstDifference}

-- what follows the ends of n nodes and tokens that were entered before
abbrev pub past : ℕ → List Event → List Event
past zero es = es
past (suc n) [] = []
past (suc n) (Enter x ∷ es) = past (suc (suc n)) es
past (suc n) (Leave x ∷ es) = past n es

-- the first of the events enters or leaves a node or token, and the others follow
abbrev pub IsNextTurn : List Event → Option Bool → List Event → Type 0
IsNextTurn old None new = (old ≡ []) × (new ≡ [])
IsNextTurn old (Some true) new = (x : Element) × (old ≡ Enter x ∷ new)
IsNextTurn old (Some false) new = (x : Element) × (old ≡ Leave x ∷ new)

-- how many ends are passed after a difference: where both walks enter a node or token, its own;
-- where only this one does, its own and its parent's, which the other walk leaves or has left
abbrev pub levels : Option Event → Option Event → ℕ
levels (Some (Enter x)) (Some (Enter y)) = 1
levels (Some (Enter x)) (Some (Leave y)) = 2
levels (Some (Enter x)) None = 2
levels (Some (Leave x)) other = 0
levels None other = 0

-- the first differences of two lists of events, at most n, each after the elements that differed
-- before; where there are fewer, what is left shows the same steps
abbrev pub AreDifferences : ℕ → List Event → List Event → List Difference → Type 0
AreDifferences zero olds news [] = ⊤
AreDifferences (suc n) olds news [] = map step olds ≡ map step news
AreDifferences zero olds news (d ∷ ds) = ⊥
AreDifferences (suc n) olds news (d ∷ ds) =
    (first : IsFirstDifference olds news d) × AreDifferences n (past (levels d.old d.new) (drop 1 first.behind)) (past (levels d.new d.old) (drop 1 first.rest)) ds

-- two lists of events differ first so, and these follow
pub record DifferThen (old new : List Event) (d : Difference) (olds news : List Event) : Type 0 where
  pub first : IsFirstDifference old new d
  pub old_left : olds ≡ drop 1 first.behind
  pub new_left : news ≡ drop 1 first.rest
