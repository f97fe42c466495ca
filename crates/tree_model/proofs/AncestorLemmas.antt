-- Ancestors step by step.
use Rattle.std.proofs.Common.{◌≡◌, ℕ, List, [], ◌∷◌, ◌++◌, Option, Some, map, refl, sym, ap, ◌∙◌}
use Rattle.tree_model.specs.Tree.{Tree, Place, ancestor_places, place_above}
use Rattle.tree_model.specs.Cursor.{Cursor, at_place, parent_of, ancestors_of, ancestors_from}

ancestor_places-step : (i : ℕ) (p : Place) → ancestor_places (i ∷ p) ≡ (i ∷ p) ∷ ancestor_places (place_above (i ∷ p))
ancestor_places-step i [] = refl
ancestor_places-step i (j ∷ p) = ap (λ l. map (λ q. i ∷ q) l ++ [] ∷ []) (ancestor_places-step j p)

at-step : (tree : Tree) (p : Place) → ancestors_of (record { tree = tree; place = p }) ≡ record { tree = tree; place = p } ∷ ancestors_from (parent_of (record { tree = tree; place = p }))
at-step tree [] = refl
at-step tree (i ∷ p) = ap (map (at_place (record { tree = tree; place = i ∷ p }))) (ancestor_places-step i p)

-- a cursor's ancestors are itself and those of its parent
pub ancestors_of-step : (c : Cursor) → ancestors_of c ≡ c ∷ ancestors_from (parent_of c)
ancestors_of-step c = at-step c.tree c.place

-- A step up: where a cursor is next, what is left is that cursor, and what is left from its parent
-- on.
pub ancestors_from-step : (left : List Cursor) (next : Option Cursor) (c : Cursor) (up : Option Cursor) → ancestors_from next ≡ left → next ≡ Some c → up ≡ parent_of c → left ≡ c ∷ ancestors_from up
ancestors_from-step left next c up is_left is_next is_up =
    sym is_left ∙ ap ancestors_from is_next ∙ ancestors_of-step c ∙ ap (λ p. c ∷ ancestors_from p) (sym is_up)
