-- One step on: to the next sibling, or to the parent.
use Rattle.std.proofs.Common.{◌≡◌, ◌≤◌, ◌<◌, ℕ, zero, suc, List, [], ◌∷◌, ◌++◌, map, Bool, true, false, cond, Option, Some, None, refl, sym, ap, subst, ◌∙◌, arith, append_assoc}
use Rattle.std.specs.Prelude.{nat_lt, option_map, if◌then◌else◌}
use Rattle.std.proofs.lemmas.Bool.{ltb-true}
use Rattle.syntax_kind.specs.declared.syntax_kind.SyntaxKind.{SyntaxKind}
use Rattle.syntax_kind.specs.Kinds.{is_trivia}
use Rattle.tree_model.specs.Tree.{Tree, node, token, Forest, nil, cons, Place, child_at, child_count, forest_of_children, forest_size, subtree, place_above, last_position, sibling_count, parent_place, kind_of}
use Rattle.tree_model.specs.Cursor.{Cursor, focus, at_place, parent_of, next_sibling_of, descendants_of}
use Rattle.lossless_tree.specs.declared.cursor.element.NodeOrToken.{NodeOrToken}
use Rattle.lossless_tree.specs.declared.cursor.element.NodeOrToken.TheVariants.{Token as OfToken}
use Rattle.lossless_tree.specs.Element.{element_of, element_by, cursor_of}
use Rattle.lossless_tree.proofs.NodeLists.{cursor_of-element_by}
use Rattle.operator_terms.specs.Token.{Token}
use Rattle.operator_trees.specs.Leaves.{leaves, leaves_of, behind_child, leaves_behind}
use Rattle.tree_model.specs.Tree.{IsToken}
use Rattle.std.specs.Prelude.{is_some}
use Rattle.operator_powers.specs.Edges.{leaf_kind}
use Rattle.operator_powers.proofs.Walk.{leaf_here, flat, leaves_descendants}
use Rattle.operator_pairs.specs.Next.{first_kind, or_else, first_leaf, kind_in, kind_behind, steps}

leaves-cons : (t : Tree) (r : Forest) → leaves (cons t r) ≡ leaves_of t ++ leaves r
leaves-cons (node k c) r = refl
leaves-cons (token k x) r = by (is_trivia k)
  where
    by : (b : Bool) → cond b (leaves r) (record { kind = k; text = x } ∷ leaves r) ≡ cond b [] (record { kind = k; text = x } ∷ []) ++ leaves r
    by true = refl
    by false = refl

size-cons : (t : Tree) (r : Forest) → forest_size r < forest_size (cons t r)
size-cons (node k c) r = omega arith
size-cons (token k x) r = omega arith

record Next (c : Forest) (i : ℕ) : Type 0 where
  read : leaves (behind_child c i) ≡ leaves_of (child_at c (suc i)) ++ leaves (behind_child c (suc i))
  fewer : forest_size (behind_child c (suc i)) < forest_size (behind_child c i)

behind-next : (c : Forest) (i : ℕ) → suc i < child_count c → Next c i
behind-next nil i h = absurd (omega arith)
behind-next (cons t nil) zero h = absurd (omega arith)
behind-next (cons t (cons u s)) zero h = record { read = leaves-cons u s; fewer = size-cons u s }
behind-next (cons t r) (suc i) h = let n : Next r i = behind-next r i (omega arith) in record { read = n.read; fewer = n.fewer }

behind-none : (c : Forest) (i : ℕ) → child_count c ≤ suc i → leaves (behind_child c i) ≡ []
behind-none nil i h = refl
behind-none (cons t nil) zero h = refl
behind-none (cons t (cons u s)) zero h = absurd (omega arith)
behind-none (cons t r) (suc i) h = behind-none r i (omega arith)

abbrev next_place : Place → Place
next_place p = place_above p ++ suc (last_position p) ∷ []

record On (t : Tree) (p : Place) : Type 0 where
  read : leaves_behind t p ≡ leaves_of (subtree t (next_place p)) ++ leaves_behind t (next_place p)
  fewer : steps t (next_place p) < steps t p

on : (t : Tree) (p : Place) → suc (last_position p) < sibling_count t p → On t p
on t [] h = absurd (omega arith)
on t (i ∷ []) h =
    let n : Next (forest_of_children t) i = behind-next (forest_of_children t) i h in
    record { read = n.read; fewer = omega (arith, n.fewer) }
on t (i ∷ j ∷ p) h =
    let n : On (child_at (forest_of_children t) i) (j ∷ p) = on (child_at (forest_of_children t) i) (j ∷ p) h in
    record {
      read = ap (λ ts. ts ++ leaves (behind_child (forest_of_children t) i)) n.read
          ∙ append_assoc (leaves_of (subtree (child_at (forest_of_children t) i) (next_place (j ∷ p)))) (leaves_behind (child_at (forest_of_children t) i) (next_place (j ∷ p))) (leaves (behind_child (forest_of_children t) i));
      fewer = omega (arith, n.fewer);
    }

record Up (t : Tree) (p : Place) : Type 0 where
  read : leaves_behind t p ≡ leaves_behind t (place_above p)
  fewer : steps t (place_above p) < steps t p

up : (t : Tree) (i : ℕ) (p : Place) → sibling_count t (i ∷ p) ≤ suc (last_position (i ∷ p)) → Up t (i ∷ p)
up t i [] h = record { read = behind-none (forest_of_children t) i h; fewer = omega arith }
up t i (j ∷ p) h =
    let n : Up (child_at (forest_of_children t) i) (j ∷ p) = up (child_at (forest_of_children t) i) j p h in
    record { read = ap (λ ts. ts ++ leaves (behind_child (forest_of_children t) i)) n.read; fewer = omega (arith, n.fewer) }

-- ---- of cursors
first-append : (ts us : List Token) → first_kind (ts ++ us) ≡ or_else (first_kind ts) (first_kind us)
first-append [] us = refl
first-append (t ∷ ts) us = refl

pub record Goes (c d : Cursor) (o : Option SyntaxKind) : Type 0 where
  pub read : or_else o (kind_behind d) ≡ kind_behind c
  pub fewer : steps d.tree d.place < steps c.tree c.place

pub next_goes : (c : Cursor) (x : NodeOrToken Cursor Cursor) → Some x ≡ option_map element_of (next_sibling_of c) → Goes c (cursor_of x) (kind_in (cursor_of x))
next_goes c x e = by (nat_lt (suc (last_position c.place)) (sibling_count c.tree c.place)) refl e
  where
    by : (b : Bool) → nat_lt (suc (last_position c.place)) (sibling_count c.tree c.place) ≡ b → Some x ≡ option_map element_of (option_map (at_place c) (if b then Some (next_place c.place) else None)) → Goes c (cursor_of x) (kind_in (cursor_of x))
    by false t e = absurd (let bad : Some x ≡ None = e in cc)
    by true t e =
        let d : Cursor = at_place c (next_place c.place) in
        let is : x ≡ element_of d = (let g : Some x ≡ Some (element_of d) = e in cc) in
        let same : cursor_of x ≡ d = ap cursor_of is ∙ cursor_of-element_by (focus d) d in
        let n : On c.tree c.place = on c.tree c.place (ltb-true _ _ t) in
        subst (λ d. Goes c d (kind_in d)) (sym same) (record { read = sym (ap first_kind n.read ∙ first-append (leaves_of (focus d)) (leaves_behind d.tree d.place)); fewer = n.fewer })

none_next : (c : Cursor) → None ≡ option_map element_of (next_sibling_of c) → sibling_count c.tree c.place ≤ suc (last_position c.place)
none_next c e = by (nat_lt (suc (last_position c.place)) (sibling_count c.tree c.place)) refl e
  where
    by : (b : Bool) → nat_lt (suc (last_position c.place)) (sibling_count c.tree c.place) ≡ b → None ≡ option_map element_of (option_map (at_place c) (if b then Some (next_place c.place) else None)) → sibling_count c.tree c.place ≤ suc (last_position c.place)
    by true t e = absurd (let bad : None ≡ Some (element_of (at_place c (next_place c.place))) = e in cc)
    by false t e = grind arith

pub up_goes : (c d : Cursor) → None ≡ option_map element_of (next_sibling_of c) → Some d ≡ parent_of c → Goes c d None
up_goes c d e g = by c.place refl
  where
    by : (p : Place) → c.place ≡ p → Goes c d None
    by [] is = absurd (let bad : Some d ≡ None = g ∙ ap (λ p. option_map (at_place c) (parent_place p)) is in cc)
    by (i ∷ p) is =
        let same : d ≡ at_place c (place_above (i ∷ p)) = (let h : Some d ≡ Some (at_place c (place_above (i ∷ p))) = g ∙ ap (λ p. option_map (at_place c) (parent_place p)) is in cc) in
        let n : Up c.tree (i ∷ p) = up c.tree i p (subst (λ p. sibling_count c.tree p ≤ suc (last_position p)) is (none_next c e)) in
        subst (λ d. Goes c d None) (sym same) (record { read = ap first_kind (sym n.read) ∙ ap (λ p. first_kind (leaves_behind c.tree p)) (sym is); fewer = subst (λ q. steps c.tree (place_above (i ∷ p)) < steps c.tree q) (sym is) n.fewer })

pub none_goes : (c : Cursor) → None ≡ parent_of c → None ≡ kind_behind c
none_goes c g = by c.place refl
  where
    by : (p : Place) → c.place ≡ p → None ≡ kind_behind c
    by [] is = ap (λ p. first_kind (leaves_behind c.tree p)) (sym is)
    by (i ∷ p) is = absurd (let bad : None ≡ Some (at_place c (place_above (i ∷ p))) = g ∙ ap (λ p. option_map (at_place c) (parent_place p)) is in cc)

-- ---- the first token in a node
leaf-first : (c : Cursor) → leaf_kind (element_of c) ≡ first_kind (leaf_here (focus c))
leaf-first c = by (focus c) refl
  where
    by : (t : Tree) → focus c ≡ t → leaf_kind (element_by t c) ≡ first_kind (leaf_here t)
    by (node k d) is = refl
    by (token k x) is = ap (λ t. cond (is_trivia (kind_of t)) None (Some (kind_of t))) is ∙ both (is_trivia k)
      where
        both : (b : Bool) → cond b None (Some k) ≡ first_kind (cond b [] (record { kind = k; text = x } ∷ []))
        both true = refl
        both false = refl

first-leaves : (cs : List Cursor) → first_leaf cs ≡ first_kind (flat (λ d. leaf_here (focus d)) cs)
first-leaves [] = refl
first-leaves (c ∷ cs) =
    ap (λ o. or_else o (first_leaf cs)) (leaf-first c) ∙ ap (or_else (first_kind (leaf_here (focus c)))) (first-leaves cs)
    ∙ sym (first-append (leaf_here (focus c)) (flat (λ d. leaf_here (focus d)) cs))

pub first-of-node : (c : Cursor) → first_leaf (descendants_of c) ≡ kind_in c
first-of-node c = first-leaves (descendants_of c) ∙ ap first_kind (leaves_descendants c)

elements_first : List (NodeOrToken Cursor Cursor) → Option SyntaxKind
elements_first [] = None
elements_first (x ∷ xs) = or_else (leaf_kind x) (elements_first xs)

elements-are : (cs : List Cursor) → elements_first (map element_of cs) ≡ first_leaf cs
unfolding elements_first
elements-are [] = refl
elements-are (c ∷ cs) = ap (or_else (leaf_kind (element_of c))) (elements-are cs)

or_some : (o r : Option SyntaxKind) → is_some o ≡ true → or_else o r ≡ o
or_some None r h = absurd (let bad : false ≡ true = h in cc)
or_some (Some k) r h = refl

or_none : (o r : Option SyntaxKind) → is_some o ≡ false → or_else o r ≡ r
or_none None r h = refl
or_none (Some k) r h = absurd (let bad : true ≡ false = h in cc)

first_step : (cs ds : List Cursor) (x : NodeOrToken Cursor Cursor) → map element_of cs ≡ x ∷ map element_of ds → first_leaf cs ≡ or_else (leaf_kind x) (first_leaf ds)
unfolding elements_first
first_step cs ds x e = sym (elements-are cs) ∙ ap elements_first e ∙ ap (or_else (leaf_kind x)) (elements-are ds)

pub first_found : (cs ds : List Cursor) (x : NodeOrToken Cursor Cursor) (o : Option SyntaxKind) → map element_of cs ≡ x ∷ map element_of ds → o ≡ leaf_kind x → is_some o ≡ true → first_leaf cs ≡ o
first_found cs ds x o e is h = first_step cs ds x e ∙ ap (λ o. or_else o (first_leaf ds)) (sym is) ∙ or_some o (first_leaf ds) h

pub first_passed : (cs ds : List Cursor) (x : NodeOrToken Cursor Cursor) (o : Option SyntaxKind) → map element_of cs ≡ x ∷ map element_of ds → o ≡ leaf_kind x → is_some o ≡ false → first_leaf cs ≡ first_leaf ds
first_passed cs ds x o e is h = first_step cs ds x e ∙ ap (λ o. or_else o (first_leaf ds)) (sym is) ∙ or_none o (first_leaf ds) h

pub first_end : (cs : List Cursor) → map element_of cs ≡ [] → first_leaf cs ≡ None
unfolding elements_first
first_end cs e = sym (elements-are cs) ∙ ap elements_first e

pub token_first : (c : Cursor) → IsToken (focus c) → leaf_kind (OfToken c) ≡ kind_in c
token_first c h = by (focus c) refl h
  where
    by : (t : Tree) → focus c ≡ t → IsToken t → cond (is_trivia (kind_of t)) None (Some (kind_of t)) ≡ first_kind (leaves_of t)
    by (node k d) is h = absurd h
    by (token k x) is h = both (is_trivia k)
      where
        both : (b : Bool) → cond b None (Some k) ≡ first_kind (cond b [] (record { kind = k; text = x } ∷ []))
        both true = refl
        both false = refl
