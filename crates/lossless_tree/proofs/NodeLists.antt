-- The nodes among elements: what a filter keeps at each step of an iterator.
use Rattle.std.proofs.Common.{◌≡◌, List, [], ◌∷◌, map, cond, Bool, true, false, refl, sym, ap, ◌∙◌}
use Rattle.std.specs.Prelude.{Option, None, Some, MatchOption}
use Rattle.std.specs.List.{filter, find}
use Rattle.tree_model.specs.Tree.{Tree, node, token, is_node}
use Rattle.tree_model.specs.Cursor.{Cursor, focus, at_node}
use Rattle.lossless_tree.specs.Element.{element_of, element_by, cursor_of, node_part}
use Rattle.tree_model.proofs.At.{cong₂}

pub cursor_of-element_by : (t : Tree) (c : Cursor) → cursor_of (element_by t c) ≡ c
cursor_of-element_by (node k f) c = refl
cursor_of-element_by (token k s) c = refl

cursors_back : (l : List Cursor) → map cursor_of (map element_of l) ≡ l
cursors_back [] = refl
cursors_back (c ∷ l) = cong₂ ◌∷◌ (cursor_of-element_by (focus c) c) (cursors_back l)

pub same_cursors : (l m : List Cursor) → map element_of l ≡ map element_of m → l ≡ m
same_cursors l m e = sym (cursors_back l) ∙ ap (map cursor_of) e ∙ cursors_back m

unfoldable pub head_of : {A : Type 0} → A → List A → A
head_of d [] = d
head_of d (x ∷ l) = x

unfoldable pub tail_of : {A : Type 0} → List A → List A
tail_of [] = []
tail_of (x ∷ l) = l

-- a filter keeps an element where it is a node
pub adds_node : (c : Cursor) (l : List Cursor) → MatchOption (node_part (element_of c)) (filter at_node (c ∷ l) ≡ filter at_node l) (λ n. filter at_node (c ∷ l) ≡ n ∷ filter at_node l)
adds_node c l = by (focus c) c (filter at_node l)
  where
    by : (t : Tree) (c : Cursor) (k : List Cursor) → MatchOption (node_part (element_by t c)) (cond (is_node t) (c ∷ k) k ≡ k) (λ n. cond (is_node t) (c ∷ k) k ≡ n ∷ k)
    by (node k f) c l = refl
    by (token k s) c l = refl

same_first : {A : Type 0} (x y : A) (l m : List A) → x ∷ l ≡ y ∷ m → x ≡ y
same_first x y l m h = cc

found_by : {A : Type 0} (b : Bool) (y : A) (l t : List A) (x : A) (o : Option A) → (l ≡ x ∷ t → Some x ≡ o) → cond b (y ∷ l) l ≡ x ∷ t → Some x ≡ cond b (Some y) o
found_by true y l t x o later h = ap Some (sym (same_first y x l t h))
found_by false y l t x o later h = later h

found_first : {A : Type 0} (test : A → Bool) (l t : List A) (x : A) → filter test l ≡ x ∷ t → Some x ≡ find test l
found_first test [] t x e = (let no : [] ≡ x ∷ t = e in cc)
found_first test (y ∷ l) t x e = found_by (test y) y (filter test l) t x (find test l) (found_first test l t x) e

none_by : {A : Type 0} (b : Bool) (y : A) (l : List A) (o : Option A) → (l ≡ [] → None ≡ o) → cond b (y ∷ l) l ≡ [] → None ≡ cond b (Some y) o
none_by true y l o later h = (let no : y ∷ l ≡ [] = h in cc)
none_by false y l o later h = later h

found_none : {A : Type 0} (test : A → Bool) (l : List A) → filter test l ≡ [] → None ≡ find test l
found_none test [] e = refl
found_none test (y ∷ l) e = none_by (test y) y (filter test l) (find test l) (found_none test l) e

-- the first item of what a filter keeps is the first that passes
pub first_kept : {A : Type 0} (test : A → Bool) (l s t : List A) (r : Option A) → s ≡ filter test l → MatchOption r ((s ≡ []) × (t ≡ [])) (λ x. s ≡ x ∷ t) → r ≡ find test l
first_kept test l s t None is w = found_none test l (sym is ∙ w.0)
first_kept test l s t (Some x) is w = found_first test l t x (sym is ∙ w)
