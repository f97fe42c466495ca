-- What the walk of a tree adds is the edit of its text.
use Rattle.std.proofs.Common.{◌≡◌, ℕ, zero, suc, ◌+◌, ◌<◌, List, [], ◌∷◌, ◌++◌, length, map, drop, get_or, refl, sym, ap, subst, ◌∙◌, arith, append_assoc, append-nil, true, false, Bool, inl, inr}
use Rattle.std.specs.Prelude.{if◌then◌else◌, None, Result, Ok, Err, OnOk}
use Rattle.text_size.specs.TextRange.{Bounds}
use Rattle.std.proofs.lemmas.Bool.{cases_Bool}
use Rattle.std.proofs.lemmas.List.{drop_more}
use Rattle.syntax_kind.specs.declared.syntax_kind.SyntaxKind.{SyntaxKind}
use Rattle.tree_model.specs.Tree.{Tree, node, token, Forest, nil, cons, child_at, Place, subtree, start, bytes_before, text, forest_text, walk, walk_from, IsNode}
use Rattle.tree_model.specs.Cursor.{Cursor, focus, range_start, walk_of}
use Rattle.tree_model.proofs.Texts.{forest_text-cons}
use Rattle.tree_rows.specs.Walks.{walk_left}
use Rattle.tree_rows.proofs.WalkSteps.{walk_left-whole}
use Rattle.text_edit.specs.Replacements.{Replacement, nonempty}
use Rattle.text_edit.proofs.Empty.{put_nothing, nonempty-append, nonempty-empty}
use Rattle.tree_edit_model.specs.Changes.{Change, no_change, forest_from}
use Rattle.tree_edit_model.specs.Texts.{put, edits_around, edits_inside, edits_from, text_edit_of}
use Rattle.tree_edits.specs.Walked.{skip_after, AreChangesOf}
use Rattle.tree_edits.specs.Edited.{edits_within, edits_entered, edits_left, edits_after, edits_walked, IsEditedStep}
use Rattle.tree_edits.proofs.WalkLemmas.{lifted, parts, map-lifted, cursor}

-- the trees and starts of the places from child number i on are those of the forest, which starts
-- at byte b
record Stands (g : Place → Tree) (st : Place → ℕ) (i b : ℕ) (f : Forest) : Type 0 where
  tree : (j : ℕ) (p : Place) → g ((i + j) ∷ p) ≡ subtree (child_at f j) p
  begin : (j : ℕ) (p : Place) → st ((i + j) ∷ p) ≡ b + (bytes_before f j + start (child_at f j) p)

first_tree : (g : Place → Tree) (st : Place → ℕ) (i b : ℕ) (t : Tree) (r : Forest) → Stands g st i b (cons t r) → g (i ∷ []) ≡ t
first_tree g st i b t r h = let e : i ≡ i + 0 = omega arith in ap (λ n. g (n ∷ [])) e ∙ h.tree 0 []

first_start : (g : Place → Tree) (st : Place → ℕ) (i b : ℕ) (t : Tree) (r : Forest) → Stands g st i b (cons t r) → st (i ∷ []) ≡ b
first_start g st i b t r h = let e : i ≡ i + 0 = omega arith in let s : st ((i + 0) ∷ []) ≡ b + (0 + 0) = h.begin 0 [] in ap (λ n. st (n ∷ [])) e ∙ omega (arith, s)

rest_stands : (g : Place → Tree) (st : Place → ℕ) (i b : ℕ) (t : Tree) (r : Forest) → Stands g st i b (cons t r) → Stands g st (suc i) (b + length (text t)) r
rest_stands g st i b t r h = record {
  tree = λ j p. let e : suc i + j ≡ i + suc j = omega arith in ap (λ n. g (n ∷ p)) e ∙ h.tree (suc j) p;
  begin = λ j p.
      let e : suc i + j ≡ i + suc j = omega arith in
      let s : st ((i + suc j) ∷ p) ≡ b + ((length (text t) + bytes_before r j) + start (child_at r j) p) = h.begin (suc j) p in
      ap (λ n. st (n ∷ p)) e ∙ omega (arith, s);
}

below_stands : (g : Place → Tree) (st : Place → ℕ) (i b : ℕ) (k : SyntaxKind) (c r : Forest) → Stands g st i b (cons (node k c) r) → Stands (λ p. g (i ∷ p)) (λ p. st (i ∷ p)) 0 b c
below_stands g st i b k c r h = record {
  tree = λ j p. let e : i ≡ i + 0 = omega arith in let z : 0 + j ≡ j = omega arith in ap (λ n. g (n ∷ ((0 + j) ∷ p))) e ∙ h.tree 0 ((0 + j) ∷ p) ∙ ap (λ n. subtree (child_at c n) p) z;
  begin = λ j p.
      let e : i ≡ i + 0 = omega arith in
      let z : 0 + j ≡ j = omega arith in
      let s : st ((i + 0) ∷ ((0 + j) ∷ p)) ≡ b + (0 + (bytes_before c (0 + j) + start (child_at c (0 + j)) p)) = h.begin 0 ((0 + j) ∷ p) in
      ap (λ n. st (n ∷ ((0 + j) ∷ p))) e ∙ s ∙ ap (λ n. b + (0 + (bytes_before c n + start (child_at c n) p))) z ∙ omega arith;
}

-- `edits_walked` by places
adds : (Place → Change) → (Place → Tree) → (Place → ℕ) → ℕ → List (Bool × Place) → List Replacement
adds at g st s [] = []
adds at g st zero ((true, p) ∷ w) = edits_entered (at p) (g p) (st p) ++ adds at g st (skip_after (at p)) w
adds at g st zero ((false, p) ∷ w) = edits_left (at p) (g p) (st p) ++ adds at g st 0 w
adds at g st (suc s) ((true, p) ∷ w) = adds at g st (suc (suc s)) w
adds at g st (suc zero) ((false, p) ∷ w) = edits_after (at p) (g p) (st p) ++ adds at g st 0 w
adds at g st (suc (suc s)) ((false, p) ∷ w) = adds at g st (suc s) w

-- nothing below a replaced place adds anything
skips : (f : Forest) (at : Place → Change) (g : Place → Tree) (st : Place → ℕ) (q : Place → Place) (s i : ℕ) (v : List (Bool × Place)) → adds at g st (suc s) (map (lifted q) (walk_from i f) ++ v) ≡ adds at g st (suc s) v
unfolding adds lifted
skips nil at g st q s i v = refl
skips (cons (token k t) r) at g st q s i v = skips r at g st q s (suc i) v
skips (cons (node k c) r) at g st q s i v =
    let V : List (Bool × Place) = (false, q (i ∷ [])) ∷ (map (lifted q) (walk_from (suc i) r) ++ v) in
    ap (adds at g st (suc (suc s))) (parts q i c r v)
    ∙ skips c at g st (λ p. q (i ∷ p)) (suc s) 0 V
    ∙ skips r at g st q s (suc i) v

-- what the walk of a node's children adds, before anything that follows
record Inner (at : Place → Change) (g : Place → Tree) (st : Place → ℕ) (I : List (Bool × Place)) (es : List Replacement) : Type 0 where
  made : (v : List (Bool × Place)) → adds at g st 0 (I ++ v) ≡ es ++ adds at g st 0 v
  skipped : (v : List (Bool × Place)) → adds at g st 1 (I ++ v) ≡ adds at g st 1 v

-- an element that is not replaced, and one that is
kept : (c : Change) (t : Tree) (a : ℕ) → c.replaced ≡ false → edits_entered c t a ≡ put a a c.before ∷ edits_within t a c.first
kept c t a e = ap (λ b. put a a c.before ∷ (if b then put a (a + length (text t)) c.instead ∷ [] else edits_within t a c.first)) e

replaced : (c : Change) (t : Tree) (a : ℕ) → c.replaced ≡ true → edits_entered c t a ≡ put a a c.before ∷ (put a (a + length (text t)) c.instead ∷ [])
replaced c t a e = ap (λ b. put a a c.before ∷ (if b then put a (a + length (text t)) c.instead ∷ [] else edits_within t a c.first)) e

around_kept : (c : Change) (a e : ℕ) (es : List Replacement) → c.replaced ≡ false → edits_around c a e es ≡ put a a c.before ∷ (es ++ put e e c.after ∷ [])
around_kept c a e es h = ap (λ b. put a a c.before ∷ ((if b then put a e c.instead ∷ [] else es) ++ put e e c.after ∷ [])) h

around_replaced : (c : Change) (a e : ℕ) (es : List Replacement) → c.replaced ≡ true → edits_around c a e es ≡ put a a c.before ∷ (put a e c.instead ∷ (put e e c.after ∷ []))
around_replaced c a e es h = ap (λ b. put a a c.before ∷ ((if b then put a e c.instead ∷ [] else es) ++ put e e c.after ∷ [])) h

skip_kept : (c : Change) → c.replaced ≡ false → skip_after c ≡ 0
skip_kept c e = ap (λ b. if b then 1 else 0) e

skip_replaced : (c : Change) → c.replaced ≡ true → skip_after c ≡ 1
skip_replaced c e = ap (λ b. if b then 1 else 0) e

adds_token : (at : Place → Change) (g : Place → Tree) (st : Place → ℕ) (p : Place) (k : SyntaxKind) (t : List ℕ) (b : ℕ) (w : List (Bool × Place)) → g p ≡ token k t → st p ≡ b
    → adds at g st 0 ((true, p) ∷ ((false, p) ∷ w)) ≡ edits_around (at p) b (b + length t) [] ++ adds at g st 0 w
unfolding adds
adds_token at g st p k t b w e s = elim (cases_Bool (at p).replaced) [
  | inl was ↦
      ap (λ n. edits_entered (at p) (g p) (st p) ++ adds at g st n ((false, p) ∷ w)) (skip_replaced (at p) was)
      ∙ ap (λ l. l ++ (edits_after (at p) (g p) (st p) ++ adds at g st 0 w)) (replaced (at p) (g p) (st p) was)
      ∙ ap (λ x. (put (st p) (st p) (at p).before ∷ (put (st p) (st p + length (text x)) (at p).instead ∷ [])) ++ (edits_after (at p) x (st p) ++ adds at g st 0 w)) e
      ∙ ap (λ n. (put n n (at p).before ∷ (put n (n + length t) (at p).instead ∷ [])) ++ (edits_after (at p) (token k t) n ++ adds at g st 0 w)) s
      ∙ ap (λ l. l ++ adds at g st 0 w) (sym (around_replaced (at p) b (b + length t) [] was))
  | inr stays ↦
      ap (λ n. edits_entered (at p) (g p) (st p) ++ adds at g st n ((false, p) ∷ w)) (skip_kept (at p) stays)
      ∙ ap (λ l. l ++ (edits_left (at p) (g p) (st p) ++ adds at g st 0 w)) (kept (at p) (g p) (st p) stays)
      ∙ ap (λ x. (put (st p) (st p) (at p).before ∷ edits_within x (st p) (at p).first) ++ (edits_left (at p) x (st p) ++ adds at g st 0 w)) e
      ∙ ap (λ n. (put n n (at p).before ∷ []) ++ (edits_left (at p) (token k t) n ++ adds at g st 0 w)) s
      ∙ ap (λ l. l ++ adds at g st 0 w) (sym (around_kept (at p) b (b + length t) [] stays))
]

adds_node : (at : Place → Change) (g : Place → Tree) (st : Place → ℕ) (p : Place) (k : SyntaxKind) (c : Forest) (b : ℕ) (es : List Replacement) (I w : List (Bool × Place)) → g p ≡ node k c → st p ≡ b → Inner at g st I es
    → adds at g st 0 ((true, p) ∷ (I ++ (false, p) ∷ w)) ≡ edits_around (at p) b (b + length (forest_text c)) (edits_inside (at p) b (b + length (forest_text c)) es) ++ adds at g st 0 w
unfolding adds
adds_node at g st p k c b es I w e s h =
    let n : ℕ = b + length (forest_text c) in
    let d : Change = at p in
    elim (cases_Bool d.replaced) [
      | inl was ↦
          ap (λ m. edits_entered d (g p) (st p) ++ adds at g st m (I ++ (false, p) ∷ w)) (skip_replaced d was)
          ∙ ap (λ l. l ++ adds at g st 1 (I ++ (false, p) ∷ w)) (replaced d (g p) (st p) was)
          ∙ ap (λ l. (put (st p) (st p) d.before ∷ (put (st p) (st p + length (text (g p))) d.instead ∷ [])) ++ l) (h.skipped ((false, p) ∷ w))
          ∙ ap (λ x. (put (st p) (st p) d.before ∷ (put (st p) (st p + length (text x)) d.instead ∷ [])) ++ (edits_after d x (st p) ++ adds at g st 0 w)) e
          ∙ ap (λ m. (put m m d.before ∷ (put m (m + length (forest_text c)) d.instead ∷ [])) ++ (edits_after d (node k c) m ++ adds at g st 0 w)) s
          ∙ ap (λ l. l ++ adds at g st 0 w) (sym (around_replaced d b n (edits_inside d b n es) was))
      | inr stays ↦
          ap (λ m. edits_entered d (g p) (st p) ++ adds at g st m (I ++ (false, p) ∷ w)) (skip_kept d stays)
          ∙ ap (λ l. l ++ adds at g st 0 (I ++ (false, p) ∷ w)) (kept d (g p) (st p) stays)
          ∙ ap (λ l. (put (st p) (st p) d.before ∷ edits_within (g p) (st p) d.first) ++ l) (h.made ((false, p) ∷ w))
          ∙ ap (λ x. (put (st p) (st p) d.before ∷ edits_within x (st p) d.first) ++ (es ++ (edits_left d x (st p) ++ adds at g st 0 w))) e
          ∙ ap (λ m. (put m m d.before ∷ (put m m d.first ∷ [])) ++ (es ++ (edits_left d (node k c) m ++ adds at g st 0 w))) s
          ∙ regroup es (adds at g st 0 w) (put b b d.before) (put b b d.first) (put n n d.last) (put n n d.after)
          ∙ ap (λ l. l ++ adds at g st 0 w) (sym (around_kept d b n (edits_inside d b n es) stays))
    ]
  where
    regroup : (es w : List Replacement) (a f l z : Replacement) → (a ∷ (f ∷ [])) ++ (es ++ ((l ∷ (z ∷ [])) ++ w)) ≡ (a ∷ ((f ∷ (es ++ l ∷ [])) ++ z ∷ [])) ++ w
    regroup es w a f l z = simp append_assoc

-- the walk of a forest adds the edit of its text
makes : (f : Forest) (at : Place → Change) (g : Place → Tree) (st : Place → ℕ) (q : Place → Place) (i b : ℕ) (v : List (Bool × Place)) → Stands (λ p. g (q p)) (λ p. st (q p)) i b f
    → adds at g st 0 (map (lifted q) (walk_from i f) ++ v) ≡ edits_from (λ p. at (q p)) i b f ++ adds at g st 0 v
unfolding lifted
makes nil at g st q i b v h = refl
makes (cons (token k t) r) at g st q i b v h =
    let here : List Replacement = edits_around (at (q (i ∷ []))) b (b + length t) [] in
    let rest : List Replacement = edits_from (λ p. at (q p)) (suc i) (b + length t) r in
    adds_token at g st (q (i ∷ [])) k t b (map (lifted q) (walk_from (suc i) r) ++ v) (first_tree (λ p. g (q p)) (λ p. st (q p)) i b (token k t) r h) (first_start (λ p. g (q p)) (λ p. st (q p)) i b (token k t) r h)
    ∙ ap (λ l. here ++ l) (makes r at g st q (suc i) (b + length t) v (rest_stands (λ p. g (q p)) (λ p. st (q p)) i b (token k t) r h))
    ∙ sym (append_assoc here rest (adds at g st 0 v))
makes (cons (node k c) r) at g st q i b v h =
    let inner : List Replacement = edits_from (λ p. at (q (i ∷ p))) 0 b c in
    let n : ℕ = b + length (forest_text c) in
    let here : List Replacement = edits_around (at (q (i ∷ []))) b n (edits_inside (at (q (i ∷ []))) b n inner) in
    let rest : List Replacement = edits_from (λ p. at (q p)) (suc i) n r in
    ap (λ l. adds at g st 0 ((true, q (i ∷ [])) ∷ l)) (parts q i c r v)
    ∙ adds_node at g st (q (i ∷ [])) k c b inner (map (lifted (λ p. q (i ∷ p))) (walk_from 0 c)) (map (lifted q) (walk_from (suc i) r) ++ v) (first_tree (λ p. g (q p)) (λ p. st (q p)) i b (node k c) r h)
    (first_start (λ p. g (q p)) (λ p. st (q p)) i b (node k c) r h)
    (record { made = λ u. makes c at g st (λ p. q (i ∷ p)) 0 b u (below_stands (λ p. g (q p)) (λ p. st (q p)) i b k c r h); skipped = λ u. skips c at g st (λ p. q (i ∷ p)) 0 0 u })
    ∙ ap (λ l. here ++ l) (makes r at g st q (suc i) n v (rest_stands (λ p. g (q p)) (λ p. st (q p)) i b (node k c) r h))
    ∙ sym (append_assoc here rest (adds at g st 0 v))

children_stand : (k : SyntaxKind) (c : Forest) → Stands (subtree (node k c)) (start (node k c)) 0 0 c
children_stand k c = record {
  tree = λ j p. let z : 0 + j ≡ j = omega arith in ap (λ n. subtree (child_at c n) p) z;
  begin = λ j p. let z : 0 + j ≡ j = omega arith in ap (λ n. bytes_before c n + start (child_at c n) p) z ∙ omega arith;
}

adds-walk : (at : Place → Change) (k : SyntaxKind) (c : Forest) → adds at (subtree (node k c)) (start (node k c)) 0 (walk (node k c)) ≡ edits_around (at []) 0 (0 + length (forest_text c)) (edits_inside (at []) 0 (0 + length (forest_text c)) (edits_from at 0 0 c))
unfolding adds
adds-walk at k c =
    let g : Place → Tree = subtree (node k c) in
    let st : Place → ℕ = start (node k c) in
    let n : ℕ = 0 + length (forest_text c) in
    let inner : List Replacement = edits_from at 0 0 c in
    adds_node at g st [] k c 0 inner (walk_from 0 c) [] refl refl (record {
      made = λ u. ap (λ l. adds at g st 0 (l ++ u)) (sym (map-lifted (walk_from 0 c))) ∙ makes c at g st (λ p. p) 0 0 u (children_stand k c);
      skipped = λ u. ap (λ l. adds at g st 1 (l ++ u)) (sym (map-lifted (walk_from 0 c))) ∙ skips c at g st (λ p. p) 0 0 u;
    })
    ∙ append-nil (edits_around (at []) 0 n (edits_inside (at []) 0 n inner))

walked-adds : (ws : List (Bool × Place)) (at : Place → Change) (t : Tree) (s : ℕ) → edits_walked at s (map (cursor t) ws) ≡ adds at (subtree t) (start t) s ws
unfolding adds cursor
walked-adds [] at t s = refl
walked-adds ((true, p) ∷ ws) at t zero = ap (λ l. edits_entered (at p) (subtree t p) (start t p) ++ l) (walked-adds ws at t (skip_after (at p)))
walked-adds ((false, p) ∷ ws) at t zero = ap (λ l. edits_left (at p) (subtree t p) (start t p) ++ l) (walked-adds ws at t 0)
walked-adds ((true, p) ∷ ws) at t (suc s) = walked-adds ws at t (suc (suc s))
walked-adds ((false, p) ∷ ws) at t (suc zero) = ap (λ l. edits_after (at p) (subtree t p) (start t p) ++ l) (walked-adds ws at t 0)
walked-adds ((false, p) ∷ ws) at t (suc (suc s)) = walked-adds ws at t (suc s)

-- the whole walk adds the edit of the text, where the changes at the root are inside it
whole_walk : (at : Place → Change) (t : Tree) → IsNode t → (at []).before ≡ [] → (at []).replaced ≡ false → (at []).after ≡ [] → nonempty (edits_walked at 0 (walk_of (record { tree = t; place = [] }))) ≡ text_edit_of at t
unfolding cursor
whole_walk at (token k x) n a b c = absurd n
whole_walk at (node k f) n a b c =
    let len : ℕ = length (forest_text f) in
    let z : 0 + len ≡ len = omega arith in
    let es : List Replacement = edits_inside (at []) 0 len (edits_from at 0 0 f) in
    ap nonempty (walked-adds (walk (node k f)) at (node k f) 0 ∙ adds-walk at k f
    ∙ ap (λ m. edits_around (at []) 0 m (edits_inside (at []) 0 m (edits_from at 0 0 f))) z
    ∙ around_kept (at []) 0 len es b)
    ∙ nonempty-empty (put 0 0 (at []).before) (es ++ put len len (at []).after ∷ []) (put_nothing (put 0 0 (at []).before) (ap (λ l. forest_text (forest_from l)) a) refl)
    ∙ nonempty-append es (put len len (at []).after ∷ [])
    ∙ ap (λ l. nonempty es ++ l) (nonempty-empty (put len len (at []).after) [] (put_nothing (put len len (at []).after) (ap (λ l. forest_text (forest_from l)) c) refl))
    ∙ append-nil (nonempty es)

pub edits-root : (at : Place → Change) (t : Tree) (marks : List ℕ) (changes : List Change) → AreChangesOf at t marks changes → IsNode t → nonempty (edits_walked at 0 (walk_left t 0 0 None)) ≡ text_edit_of at t
edits-root at (token k x) marks changes w n = absurd n
edits-root at (node k f) marks changes w n = ap (λ l. nonempty (edits_walked at 0 l)) (walk_left-whole (node k f) 0) ∙ whole_walk at (node k f) n w.none_before w.none_instead w.none_after

-- ---- steps

nonempty_step : (out new es rest : List Replacement) → new ≡ out ++ nonempty es → new ++ nonempty rest ≡ out ++ nonempty (es ++ rest)
nonempty_step out new es rest added = ap (λ l. l ++ nonempty rest) added ∙ append_assoc out (nonempty es) (nonempty rest) ∙ ap (λ l. out ++ l) (sym (nonempty-append es rest))

pub edited-entered : (at : Place → Change) (out new : List Replacement) (d : Cursor) (t : ℕ) → new ≡ out ++ nonempty (edits_entered (at d.place) (focus d) (range_start d)) → t ≡ skip_after (at d.place) → IsEditedStep at out new true d 0 t
edited-entered at out new d t added next = record {
  made = λ rest.
      ap (λ n. new ++ nonempty (edits_walked at n rest)) next
      ∙ nonempty_step out new (edits_entered (at d.place) (focus d) (range_start d)) (edits_walked at (skip_after (at d.place)) rest) added;
}

pub edited-left : (at : Place → Change) (out new : List Replacement) (d : Cursor) → new ≡ out ++ nonempty (edits_left (at d.place) (focus d) (range_start d)) → IsEditedStep at out new false d 0 0
edited-left at out new d added = record { made = λ rest. nonempty_step out new (edits_left (at d.place) (focus d) (range_start d)) (edits_walked at 0 rest) added }

pub edited-deeper : (at : Place → Change) (out : List Replacement) (d : Cursor) (s t : ℕ) → 0 < s → t ≡ s + 1 → IsEditedStep at out out true d s t
edited-deeper at out d zero t some next = absurd (omega arith)
edited-deeper at out d (suc s) t some next = let e : t ≡ suc (suc s) = omega arith in record { made = λ rest. ap (λ n. out ++ nonempty (edits_walked at n rest)) e }

pub edited-higher : (at : Place → Change) (out : List Replacement) (d : Cursor) (s t : ℕ) → 0 < t → t + 1 ≡ s → IsEditedStep at out out false d s t
edited-higher at out d s zero some next = absurd (omega arith)
edited-higher at out d s (suc t) some next = let e : s ≡ suc (suc t) = omega arith in record { made = λ rest. ap (λ n. out ++ nonempty (edits_walked at n ((false, d) ∷ rest))) (sym e) }

pub edited-after : (at : Place → Change) (out new : List Replacement) (d : Cursor) (s t : ℕ) → s ≡ 1 → t ≡ 0 → new ≡ out ++ nonempty (edits_after (at d.place) (focus d) (range_start d)) → IsEditedStep at out new false d s t
edited-after at out new d s t one none added = record {
  made = λ rest.
      ap (λ n. new ++ nonempty (edits_walked at n rest)) none
      ∙ nonempty_step out new (edits_after (at d.place) (focus d) (range_start d)) (edits_walked at 0 rest) added
      ∙ ap (λ n. out ++ nonempty (edits_walked at n ((false, d) ∷ rest))) (sym one);
}

pub edited-step : (at : Place → Change) (out new whole : List Replacement) (enters : Bool) (d : Cursor) (w rest : List (Bool × Cursor)) (s t : ℕ) → w ≡ (enters, d) ∷ rest → IsEditedStep at out new enters d s t → out ++ nonempty (edits_walked at s w) ≡ whole
    → new ++ nonempty (edits_walked at t rest) ≡ whole
edited-step at out new whole enters d w rest s t is step h = step.made rest ∙ ap (λ l. out ++ nonempty (edits_walked at s l)) (sym is) ∙ h

pub edited-end : (at : Place → Change) (out whole : List Replacement) (w : List (Bool × Cursor)) (s : ℕ) → w ≡ [] → out ++ nonempty (edits_walked at s w) ≡ whole → out ≡ whole
edited-end at out whole w s is h = sym (append-nil out) ∙ ap (λ l. out ++ l) (nothing at s) ∙ ap (λ l. out ++ nonempty (edits_walked at s l)) (sym is) ∙ h
  where
    nothing : (at : Place → Change) (s : ℕ) → [] ≡ nonempty (edits_walked at s [])
    nothing at s = refl

-- ---- one row

-- what several calls append, one after another
pub both : (out o1 o2 es fs : List Replacement) → o1 ≡ out ++ nonempty es → o2 ≡ o1 ++ nonempty fs → o2 ≡ out ++ nonempty (es ++ fs)
both out o1 o2 es fs a b = b ∙ ap (λ l. l ++ nonempty fs) a ∙ append_assoc out (nonempty es) (nonempty fs) ∙ ap (λ l. out ++ l) (sym (nonempty-append es fs))

pub entered_replaced : (c : Change) (t : Tree) (a : ℕ) (out o1 o2 : List Replacement) → c.replaced ≡ true → o1 ≡ out ++ nonempty (put a a c.before ∷ []) → o2 ≡ o1 ++ nonempty (put a (a + length (text t)) c.instead ∷ []) → o2 ≡ out ++ nonempty (edits_entered c t a)
entered_replaced c t a out o1 o2 was x y = both out o1 o2 (put a a c.before ∷ []) (put a (a + length (text t)) c.instead ∷ []) x y ∙ ap (λ l. out ++ nonempty l) (sym (replaced c t a was))

pub entered_kept : (c : Change) (t : Tree) (a : ℕ) (out o1 o2 : List Replacement) → c.replaced ≡ false → o1 ≡ out ++ nonempty (put a a c.before ∷ []) → o2 ≡ o1 ++ nonempty (edits_within t a c.first) → o2 ≡ out ++ nonempty (edits_entered c t a)
entered_kept c t a out o1 o2 stays x y = both out o1 o2 (put a a c.before ∷ []) (edits_within t a c.first) x y ∙ ap (λ l. out ++ nonempty l) (sym (kept c t a stays))

nothing_put : (n : ℕ) (es : List Replacement) → nonempty (put n n [] ∷ es) ≡ nonempty es
nothing_put n es = nonempty-empty (put n n []) es (put_nothing (put n n []) refl refl)

within_nothing : (t : Tree) (n : ℕ) (es : List Replacement) → nonempty (edits_within t n [] ++ es) ≡ nonempty es
within_nothing (node k c) n es = nothing_put n es
within_nothing (token k t) n es = refl

-- a row that has no change adds nothing
pub no_entered : (c : Change) (t : Tree) (a : ℕ) (out : List Replacement) → no_change ≡ c → out ≡ out ++ nonempty (edits_entered c t a)
no_entered c t a out e =
    sym (append-nil out) ∙ ap (λ l. out ++ l) (sym (nothing_put a (edits_within t a []) ∙ ap nonempty (sym (append-nil (edits_within t a []))) ∙ within_nothing t a []))
    ∙ ap (λ d. out ++ nonempty (edits_entered d t a)) e

pub no_left : (c : Change) (t : Tree) (a : ℕ) (out : List Replacement) → no_change ≡ c → out ≡ out ++ nonempty (edits_left c t a)
no_left c t a out e =
    let n : ℕ = a + length (text t) in
    sym (append-nil out) ∙ ap (λ l. out ++ l) (sym (within_nothing t n (put n n [] ∷ []) ∙ nothing_put n []))
    ∙ ap (λ d. out ++ nonempty (edits_left d t a)) e

pub no_after : (c : Change) (t : Tree) (a : ℕ) (out : List Replacement) → no_change ≡ c → out ≡ out ++ nonempty (edits_after c t a)
no_after c t a out e =
    let n : ℕ = a + length (text t) in
    sym (append-nil out) ∙ ap (λ l. out ++ l) (sym (nothing_put n [])) ∙ ap (λ d. out ++ nonempty (edits_after d t a)) e

-- ---- the texts of elements

pub texts-step : (out new s whole : List ℕ) (ts : List Tree) (i : ℕ) (t : Tree) → i < length ts → get_or ts i t ≡ t → s ≡ text t → new ≡ out ++ s → out ++ forest_text (forest_from (drop i ts)) ≡ whole → new ++ forest_text (forest_from (drop (i + 1) ts)) ≡ whole
texts-step out new s whole ts i t lt is is_text added h =
    let cut : drop i ts ≡ t ∷ drop (i + 1) ts = drop_more ts i t lt ∙ ap (λ x. x ∷ drop (i + 1) ts) is in
    let rest : Forest = forest_from (drop (i + 1) ts) in
    ap (λ l. l ++ forest_text rest) (added ∙ ap (λ l. out ++ l) is_text) ∙ append_assoc out (text t) (forest_text rest) ∙ ap (λ l. out ++ l) (sym (forest_text-cons t rest)) ∙ ap (λ l. out ++ forest_text (forest_from l)) (sym cut) ∙ h

-- a call that may fail, after one that did not
pub left_made : {T E : Type 0} (r : Result T E) (c : Change) (t : Tree) (a n : ℕ) (range : Bounds) (last after : List Tree) (out o1 o2 : List Replacement) → n ≡ a + length (text t) → range ≡ record { start = n; end = n } → last ≡ c.last → after ≡ c.after
    → o1 ≡ out ++ nonempty (edits_within t n last) → OnOk r (o2 ≡ o1 ++ nonempty (put range.start range.end after ∷ [])) → OnOk r (o2 ≡ out ++ nonempty (edits_left c t a))
left_made (Err e) c t a n range last after out o1 o2 is_n is_range is_last is_after x y = tt
left_made (Ok v) c t a n range last after out o1 o2 is_n is_range is_last is_after x y =
    let m : ℕ = a + length (text t) in
    both out o1 o2 (edits_within t m c.last) (put m m c.after ∷ [])
    (x ∙ ap (λ k. out ++ nonempty (edits_within t k last)) is_n ∙ ap (λ l. out ++ nonempty (edits_within t m l)) is_last)
    (y ∙ ap (λ w. o1 ++ nonempty (put w.start w.end after ∷ [])) is_range ∙ ap (λ k. o1 ++ nonempty (put k k after ∷ [])) is_n ∙ ap (λ l. o1 ++ nonempty (put m m l ∷ [])) is_after)

pub step_is : (at : Place → Change) (out new : List Replacement) (enters b : Bool) (d : Cursor) (s n t : ℕ) → enters ≡ b → s ≡ n → IsEditedStep at out new b d n t → IsEditedStep at out new enters d s t
step_is at out new enters b d s n t e z h = subst (λ x. IsEditedStep at out new x d s t) (sym e) (subst (λ m. IsEditedStep at out new b d m t) (sym z) h)
