-- Where an edit lies, and the texts of what is around it.
use Rattle.std.proofs.Common.{◌≡◌, ℕ, zero, suc, ◌+◌, ◌-◌, ◌<◌, ◌≤◌, List, [], ◌∷◌, ◌++◌, map, length, get_or, refl, sym, ap, ◌∙◌, subst, arith, length-append, Option, Some, None}
use Rattle.std.specs.Prelude.{Contains, IsCharBoundary, slice_index}
use Rattle.std.proofs.Math.ListN.{get_or-append}
use Rattle.std.proofs.Math.Seq.{get_or-append_right}
use Rattle.tree_model.specs.Tree.{Tree, node, token, text, Place, IsPlace}
use Rattle.tree_model.specs.Cursor.{Cursor, focus, at_place, range_start, range_end, parent_of, ancestors_of, ancestors_from}
use Rattle.tree_model.specs.Edit.{replace, root_of, splice, text_before, text_behind}
use Rattle.tree_model.proofs.AncestorLemmas.{ancestors_of-step}
use Rattle.tree_model.proofs.EditLaws.{text_around, edited_inside}
use Rattle.tree_model.proofs.EditLemmas.{length-splice}
use Rattle.tree_model.proofs.PlaceLemmas.{places_are_reached}
use Rattle.lossless_tree.specs.Element.{element_by, ancestors_of_element}
use Rattle.lossless_tree.proofs.CoveringLaws.{covering_holds}
use Rattle.ras_front_end.specs.declared.edition.Reparser.{Reparser}
use Rattle.ras_front_end.specs.Front.{Front}
use Rattle.ras_parsing.specs.Edit.{Edit, IsEditOf, edited, covered, edited_at}
use Rattle.ras_parsing.specs.Reparse.{reparser_of, or_later, first_reparsable, nodes_around}
use Rattle.ras_parsing.specs.Rereading.{IsAround}

-- ---- what is in a list

pub later_in : {X : Type 0} (x a : X) (xs : List X) → Contains xs a → Contains (x ∷ xs) a
later_in x a xs h = (suc h.0, omega (arith, h.1), h.2)

at_tree : (c a : Cursor) (ps : List Place) (k : ℕ) → k < length ps → get_or (map (at_place c) ps) k a ≡ a → a.tree ≡ c.tree
at_tree c a [] k lt e = absurd (omega (arith, lt))
at_tree c a (p ∷ ps) zero lt e = sym (ap (λ (d : Cursor). d.tree) e)
at_tree c a (p ∷ ps) (suc k) lt e = at_tree c a ps k (omega (arith, lt)) e

length-map : (c : Cursor) (ps : List Place) → length (map (at_place c) ps) ≡ length ps
length-map c [] = refl
length-map c (p ∷ ps) = ap suc (length-map c ps)

same_tree : (c a : Cursor) (ps : List Place) → Contains (map (at_place c) ps) a → a.tree ≡ c.tree
same_tree c a ps h = at_tree c a ps h.0 (omega (arith, h.1, length-map c ps)) h.2

-- the nodes around a place are among its ancestors
element_above : (t : Tree) (c a : Cursor) → Contains (ancestors_of_element (element_by t c)) a → Contains (ancestors_of c) a
element_above (node k f) c a h = h
element_above (token k s) c a h = subst (λ l. Contains l a) (sym (ancestors_of-step c)) (later_in c a (ancestors_from (parent_of c)) h)

-- what `first_reparsable` gives is in the list, and has the reparser
pub record IsIn (front : Front) (cs : List Cursor) (c : Cursor) (r : Reparser) : Type 0 where
  pub among : Contains cs c
  pub asked : reparser_of front c ≡ Some r

by_answer : (front : Front) (c : Cursor) (cs : List Cursor) (a : Cursor) (r : Reparser) (o : Option Reparser) → reparser_of front c ≡ o → or_later c o (first_reparsable front cs) ≡ Some (a, r) → (first_reparsable front cs ≡ Some (a, r) → IsIn front cs a r) → IsIn front (c ∷ cs) a r
by_answer front c cs a r None is e later =
    let w = later e in
    record { among = later_in c a cs w.among; asked = w.asked }
by_answer front c cs a r (Some s) is e later =
    let p : Cursor × Reparser = (c, s) in
    let q : Cursor × Reparser = (a, r) in
    let same : p ≡ q = (let f : Some p ≡ Some q = e in cc) in
    let first : c ≡ a = ap (λ (x : Cursor × Reparser). x.0) same in
    let second : s ≡ r = ap (λ (x : Cursor × Reparser). x.1) same in
    record { among = (0, omega arith, first); asked = ap (reparser_of front) (sym first) ∙ is ∙ ap Some second }

pub first_is_in : (front : Front) (cs : List Cursor) (c : Cursor) (r : Reparser) → first_reparsable front cs ≡ Some (c, r) → IsIn front cs c r
first_is_in front [] c r e = (let p : Cursor × Reparser = (c, r) in let none : None ≡ Some p = e in cc)
first_is_in front (d ∷ cs) c r e = by_answer front d cs c r (reparser_of front d) refl e (first_is_in front cs c r)

-- ---- around an edit

ends_within : (t : Tree) (p : Place) → IsPlace t p → range_end (record { tree = t; place = p }) ≤ length (text t)
ends_within t p h =
    let w = text_around t p h in
    omega (arith, w.1, ap length w.0, length-append (text_before t p) (text (focus (record { tree = t; place = p })) ++ text_behind t p), length-append (text (focus (record { tree = t; place = p }))) (text_behind t p))

root_is_place : (t : Tree) → IsPlace t []
root_is_place t = (places_are_reached t []).1 tt

-- what is among the ancestors of what covers an edit has the edit inside
pub around_ancestor : (tree : Tree) (edit : Edit) → IsEditOf (text tree) edit → (a : Cursor) → Contains (ancestors_of (covered tree edit)) a → IsPlace a.tree a.place → IsAround a edit
around_ancestor tree edit e a above is_place =
    let h = covering_holds (root_of tree) edit.delete (root_is_place tree) e.forwards in
    let w = h.1 (omega arith) (omega (arith, e.within)) a above in
    record { is_place = is_place; begun = w.0; ended = w.1; within = ends_within a.tree a.place is_place }

pub around_covered : (tree : Tree) (edit : Edit) → IsEditOf (text tree) edit → IsAround (covered tree edit) edit
around_covered tree edit e =
    let c = covered tree edit in
    around_ancestor tree edit e c (subst (λ l. Contains l c) (sym (ancestors_of-step c)) (0, omega arith, refl))
    (covering_holds (root_of tree) edit.delete (root_is_place tree) e.forwards).0

pub record IsNodeAround (tree : Tree) (edit : Edit) (a : Cursor) : Type 0 where
  pub same_tree : a.tree ≡ tree
  pub around : IsPlace a.tree a.place → IsAround a edit

pub node_around : (tree : Tree) (edit : Edit) → IsEditOf (text tree) edit → (a : Cursor) → Contains (nodes_around tree edit) a → IsNodeAround tree edit a
node_around tree edit e a h =
    let c = covered tree edit in
    let above = element_above (focus c) c a h in
    record { same_tree = same_tree c a _ above; around = around_ancestor tree edit e a above }

-- ---- the piece at a place around an edit

pub piece_length : (c : Cursor) (edit : Edit) → IsAround c edit → edit.delete.start ≤ edit.delete.end
    → length (edited_at c edit) ≡ ((range_end c - range_start c) + length edit.insert) - (edit.delete.end - edit.delete.start)
piece_length c edit w forwards =
    let l = length-splice (text (focus c)) edit.insert (edit.delete.start - range_start c) (edit.delete.end - range_start c) (omega arith) (omega (arith, w.ended)) in
    omega (arith, l, w.begun, w.ended)

pub spliced_length : (s : List ℕ) (edit : Edit) → edit.delete.start ≤ edit.delete.end → edit.delete.end ≤ length s → length (edited s edit) ≡ (length s + length edit.insert) - (edit.delete.end - edit.delete.start)
spliced_length s edit forwards within =
    let l = length-splice s edit.insert edit.delete.start edit.delete.end forwards within in
    omega (arith, l, forwards, within)

pub edited_length : (s : List ℕ) (edit : Edit) → IsEditOf s edit → length (edited s edit) ≡ (length s + length edit.insert) - (edit.delete.end - edit.delete.start)
edited_length s edit e = spliced_length s edit e.forwards e.within

pub piece_short : (c : Cursor) (edit : Edit) → IsAround c edit → IsEditOf (text c.tree) edit → length (edited_at c edit) ≤ length (edited (text c.tree) edit)
piece_short c edit w e =
    let p = piece_length c edit w e.forwards in
    let q = edited_length (text c.tree) edit e in
    omega (arith, p, q, w.within, w.begun, w.ended, e.forwards, e.within)

pub piece_text : (c : Cursor) (edit : Edit) (u : Tree) → IsAround c edit → edit.delete.start ≤ edit.delete.end → text u ≡ edited_at c edit → text (replace c.tree c.place u) ≡ edited (text c.tree) edit
piece_text c edit u w forwards e = edited_inside c.tree c.place u edit.delete.start edit.delete.end edit.insert w.is_place w.begun forwards w.ended e

cut_boundary : (before piece behind : List ℕ) (o : ℕ) → length before ≤ o → o ≤ length before + length piece → IsCharBoundary (before ++ (piece ++ behind)) o → IsCharBoundary piece (o - length before)
cut_boundary before piece behind o begun ended h = (
  omega arith,
  λ lt high.
      let here : slice_index (before ++ (piece ++ behind)) o ≡ slice_index piece (o - length before) =
      get_or-append_right before (piece ++ behind) o 0 begun ∙ get_or-append piece behind 0 (o - length before) lt in
      let low : 192 ≤ slice_index (before ++ (piece ++ behind)) o = h.1 (omega (arith, length-append before (piece ++ behind), length-append piece behind)) (omega (arith, here)) in
      omega (arith, low, here),
)

pub piece_boundary : (c : Cursor) (o : ℕ) → IsPlace c.tree c.place → range_start c ≤ o → o ≤ range_end c → IsCharBoundary (text c.tree) o → IsCharBoundary (text (focus c)) (o - range_start c)
piece_boundary c o is_place begun ended h =
    let w = text_around c.tree c.place is_place in
    subst (λ n. IsCharBoundary (text (focus c)) (o - n)) w.1
    (cut_boundary (text_before c.tree c.place) (text (focus c)) (text_behind c.tree c.place) o (omega (arith, w.1)) (omega (arith, w.1)) (subst (λ s. IsCharBoundary s o) w.0 h))

-- the same, in the words of a caller
pub boundary_at : (c : Cursor) (o n : ℕ) (s whole : List ℕ) → IsPlace c.tree c.place → s ≡ text (focus c) → n ≡ range_start c → whole ≡ text c.tree → range_start c ≤ o → o ≤ range_end c → IsCharBoundary whole o → IsCharBoundary s (o - n)
boundary_at c o n s whole is_place e f same begun ended h =
    subst (λ m. IsCharBoundary s (o - m)) (sym f) (subst (λ l. IsCharBoundary l (o - range_start c)) (sym e) (piece_boundary c o is_place begun ended (subst (λ l. IsCharBoundary l o) same h)))

pub edited_is : (c : Cursor) (edit : Edit) (s t : List ℕ) (n : ℕ) → s ≡ splice t (edit.delete.start - n) (edit.delete.end - n) edit.insert → t ≡ text (focus c) → n ≡ range_start c → s ≡ edited_at c edit
edited_is c edit s t n e f h =
    e ∙ ap (λ l. splice l (edit.delete.start - n) (edit.delete.end - n) edit.insert) f ∙ ap (λ m. splice (text (focus c)) (edit.delete.start - m) (edit.delete.end - m) edit.insert) h
