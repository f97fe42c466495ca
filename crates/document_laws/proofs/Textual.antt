-- Texts of trees are UTF-8, and so are the parts of a text that tokens cut.
use Rattle.std.proofs.Common.{◌≡◌, ℕ, zero, suc, List, [], ◌∷◌, ◌++◌, length, take, drop, sym, ap, subst, ◌∙◌, arith}
use Rattle.std.specs.Prelude.{IsUtf8}
use Rattle.std.proofs.Math.Seq.{take-append_seam, drop-append_seam}
use Rattle.std.proofs.lemmas.List.{length-append}
use Rattle.std.proofs.lemmas.Str.{IsUtf8-drop, IsCharBoundary-from_take}
use Rattle.tree_model.specs.Tree.{Tree, node, token, Forest, nil, cons, Place, text, forest_of_children, child_at, subtree}
use Rattle.tree_model.specs.Events.{Event, enter, leaf, exit, events_of, BuildsNode}
use Rattle.tree_model.specs.Rows.{TextsAreUtf8}
use Rattle.tree_model.proofs.Balance.{events_of-builds}
use Rattle.tree_model.proofs.EventTexts.{forest_text-one}
use Rattle.tree_model.proofs.Texts.{IsUtf8-forest_text}
use Rattle.ras_front_end.specs.Reading.{FrontStep, begins, takes, ends, reports, events_from, Cuts}
use Rattle.token_layout.specs.declared.span.Token.{Token}
use Rattle.token_layout.specs.Laid.{IsCut}
use Rattle.event_layout.proofs.Filled.{cut_sum}
use Rattle.lexer_laws.specs.Cuts.{bytes_of}
use Rattle.document_laws.proofs.Around.{Parts, parts}
use Rattle.document_laws.proofs.Opening.{bytes_are}

-- ---- trees

-- the texts of the events are UTF-8
abbrev LeavesAreUtf8 : List Event → Type 0
LeavesAreUtf8 [] = Unit {0}
LeavesAreUtf8 (enter k ∷ es) = LeavesAreUtf8 es
LeavesAreUtf8 (leaf k s ∷ es) = IsUtf8 s × LeavesAreUtf8 es
LeavesAreUtf8 (exit ∷ es) = LeavesAreUtf8 es

cut_leaves : (xs : List FrontStep) (s : List ℕ) → Cuts xs s → LeavesAreUtf8 (events_from xs s)
cut_leaves [] s h = tt
cut_leaves (begins k ∷ xs) s h = cut_leaves xs s h
cut_leaves (takes k n ∷ xs) s h = (h.1, cut_leaves xs (drop n s) h.2)
cut_leaves (ends ∷ xs) s h = cut_leaves xs s h
cut_leaves (reports m p ∷ xs) s h = cut_leaves xs s h

both_leaves : (es fs : List Event) → LeavesAreUtf8 (es ++ fs) → LeavesAreUtf8 es × LeavesAreUtf8 fs
both_leaves [] fs h = (tt, h)
both_leaves (enter k ∷ es) fs h = both_leaves es fs h
both_leaves (leaf k s ∷ es) fs h = (let w = both_leaves es fs h.1 in ((h.0, w.0), w.1))
both_leaves (exit ∷ es) fs h = both_leaves es fs h

forest_utf8 : (f : Forest) → LeavesAreUtf8 (events_of f) → TextsAreUtf8 f
forest_utf8 nil h = tt
forest_utf8 (cons (token k s) r) h = (h.0, forest_utf8 r h.1)
forest_utf8 (cons (node k c) r) h = (let w = both_leaves (events_of c) (exit ∷ events_of r) h in (forest_utf8 c w.0, forest_utf8 r w.1))

abbrev IsTextual : Tree → Type 0
IsTextual t = TextsAreUtf8 (cons t nil)

child_utf8 : (f : Forest) (i : ℕ) → TextsAreUtf8 f → IsTextual (child_at f i)
child_utf8 nil i h = (tt, tt)
child_utf8 (cons (token k s) r) zero h = (h.0, tt)
child_utf8 (cons (node k c) r) zero h = (h.0, tt)
child_utf8 (cons (token k s) r) (suc i) h = child_utf8 r i h.1
child_utf8 (cons (node k c) r) (suc i) h = child_utf8 r i h.1

children_utf8 : (t : Tree) → IsTextual t → TextsAreUtf8 (forest_of_children t)
children_utf8 (node k c) h = h.0
children_utf8 (token k s) h = tt

subtree_utf8 : (t : Tree) (p : Place) → IsTextual t → IsTextual (subtree t p)
subtree_utf8 t [] h = h
subtree_utf8 t (i ∷ p) h =
    subtree_utf8 (child_at (forest_of_children t) i) p (child_utf8 (forest_of_children t) i (children_utf8 t h))

-- what is at a place of a tree of steps that cut a text
pub text_there : (xs : List FrontStep) (s : List ℕ) (t : Tree) (p : Place) → Cuts xs s → BuildsNode (events_from xs s) t → IsUtf8 (text (subtree t p))
text_there xs s t p cuts b =
    let leaves : LeavesAreUtf8 (events_of (cons t nil)) = subst LeavesAreUtf8 (sym (events_of-builds b.0)) (cut_leaves xs s cuts) in
    subst IsUtf8 (forest_text-one (subtree t p)) (IsUtf8-forest_text (cons (subtree t p) nil) (subtree_utf8 t p (forest_utf8 (cons t nil) leaves)))

-- ---- parts

pub same_front : (x y s r : List ℕ) → x ++ y ≡ s ++ r → length x ≡ length s → x ≡ s
same_front x y s r e n =
    sym (take-append_seam x y) ∙ ap (take (length x)) e ∙ ap (λ (m : ℕ). take m (s ++ r)) n ∙ take-append_seam s r

pub same_back : (x y s r : List ℕ) → x ++ y ≡ s ++ r → length x ≡ length s → y ≡ r
same_back x y s r e n =
    sym (drop-append_seam x y) ∙ ap (drop (length x)) e ∙ ap (λ (m : ℕ). drop m (s ++ r)) n ∙ drop-append_seam s r

-- tokens that have as many bytes as the first part of a text cut it, and the others the second one
pub both_cut : (xs ys : List Token) (s r : List ℕ) → IsCut (xs ++ ys) (s ++ r) → bytes_of xs ≡ length s → IsCut xs s × IsCut ys r
both_cut xs ys s r cut bytes =
    let x : Parts xs ys (s ++ r) = parts xs ys (s ++ r) cut in
    let long : length x.front ≡ length s = sym (cut_sum xs x.front x.cut_front) ∙ sym (bytes_are xs) ∙ bytes in (
      subst (IsCut xs) (same_front x.front x.back s r (sym x.is) long) x.cut_front,
      subst (IsCut ys) (same_back x.front x.back s r (sym x.is) long) x.cut_back,
    )

-- what is behind UTF-8 in UTF-8
pub rest_utf8 : (s r : List ℕ) → IsUtf8 (s ++ r) → IsUtf8 s → IsUtf8 r
rest_utf8 s r u v =
    subst IsUtf8 (drop-append_seam s r)
    (IsUtf8-drop (s ++ r) (length s) u (IsCharBoundary-from_take (s ++ r) (length s) u (omega (arith, length-append s r)) (subst IsUtf8 (sym (take-append_seam s r)) v)))
