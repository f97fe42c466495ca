-- What is kept has the row in the new tree that a walk counts.
use Rattle.std.proofs.Common.{◌≡◌, ℕ, zero, suc, ◌+◌, ◌<◌, List, [], ◌∷◌, ◌++◌, length, map, refl, sym, ap, subst, ◌∙◌, arith, append_assoc, append-nil, true, false, Bool, inl, inr}
use Rattle.std.specs.Prelude.{if◌then◌else◌, None, ⊤, Result, Ok, Err, IfOk}
use Rattle.tree_rows.specs.Walks.{walk_left}
use Rattle.tree_rows.proofs.WalkSteps.{walk_left-whole}
use Rattle.std.proofs.lemmas.Bool.{cases_Bool}
use Rattle.syntax_kind.specs.declared.syntax_kind.SyntaxKind.{SyntaxKind}
use Rattle.tree_model.specs.Tree.{Tree, node, token, Forest, nil, cons, child_at, child_count, forest_size, Place, subtree, places, places_from, walk, walk_from, under, IsNode, is_token}
use Rattle.tree_model.specs.Cursor.{Cursor, focus, walk_of}
use Rattle.tree_model.specs.Events.{append_forest}
use Rattle.tree_model.specs.Edit.{Within}
use Rattle.tree_edit_model.specs.Changes.{Change, forest_from, around, inside, below, changed_from, changed}
use Rattle.tree_edit_model.specs.Moved.{changed_child, count_before, moved}
use Rattle.tree_edit_model.proofs.MovedLemmas.{kept_child, child_kept, changed_from-cons, count_fits, count-append, count-from}
use Rattle.tree_edits.specs.Rowed.{row_of}
use Rattle.tree_edits.specs.Walked.{skip_after, AreChangesOf}
use Rattle.tree_edits.specs.Kept.{is_kept, new_row, new_rows_of, rows_in, rows_within, rows_entered, rows_left, row_entered, IsCounted, entered_places, IsCountedStep}
use Rattle.tree_edits.proofs.WalkLemmas.{lifted, parts, map-lifted, cursor, IsForestAt, first_is, rest_is, below_is, children_are}

-- ---- rows of joined forests

pub size-append : (f g : Forest) → forest_size (append_forest f g) ≡ forest_size f + forest_size g
size-append nil g = omega arith
size-append (cons (token k t) r) g = omega (arith, size-append r g)
size-append (cons (node k c) r) g = omega (arith, size-append r g)

row-behind : (f g : Forest) (j : ℕ) (p : Place) → row_of (append_forest f g) ((child_count f + j) ∷ p) ≡ forest_size f + row_of g (j ∷ p)
row-behind nil g j p = let e : 0 + j ≡ j = omega arith in ap (λ n. row_of g (n ∷ p)) e ∙ omega arith
row-behind (cons (token k t) r) g j p =
    let e : suc (child_count r) + j ≡ suc (child_count r + j) = omega arith in
    ap (λ n. row_of (cons (token k t) (append_forest r g)) (n ∷ p)) e ∙ omega (arith, row-behind r g j p)
row-behind (cons (node k c) r) g j p =
    let e : suc (child_count r) + j ≡ suc (child_count r + j) = omega arith in
    ap (λ n. row_of (cons (node k c) (append_forest r g)) (n ∷ p)) e ∙ omega (arith, row-behind r g j p)

-- the first tree's rows, whatever follows
row-first : (x : Tree) (r s : Forest) (p : Place) → row_of (cons x r) (0 ∷ p) ≡ row_of (cons x s) (0 ∷ p)
row-first (token k t) r s p = refl
row-first (node k c) r s [] = refl
row-first (node k c) r s (j ∷ p) = refl

row-before : (f g : Forest) (j : ℕ) (p : Place) → j < child_count f → row_of (append_forest f g) (j ∷ p) ≡ row_of f (j ∷ p)
row-before nil g j p h = absurd (omega arith)
row-before (cons t r) g zero p h = row-first t (append_forest r g) r p
row-before (cons (token k t) r) g (suc j) p h = ap suc (row-before r g j p (omega (arith, h)))
row-before (cons (node k c) r) g (suc j) p h = ap (λ n. suc (forest_size c + n)) (row-before r g j p (omega (arith, h)))

-- ---- what is kept of a child, and its rows

row-child : (at : Place → Change) (i : ℕ) (t : Tree) (r : Forest) (p : Place) → (at (i ∷ [])).replaced ≡ false
    → row_of (changed_from at i (cons t r)) (length (at (i ∷ [])).before ∷ p) ≡ rows_in (at (i ∷ [])).before + row_of (cons (changed (below i at) t) nil) (0 ∷ p)
unfolding kept_child
row-child at i t r p e =
    let c : Change = at (i ∷ []) in
    let x : Tree = changed (below i at) t in
    let B : Forest = forest_from c.before in
    let Y : Forest = append_forest (cons x nil) (forest_from c.after) in
    let R : Forest = changed_from at (suc i) r in
    let n : length c.before ≡ child_count B + 0 = omega (arith, count-from c.before) in
    let fits : length c.before < child_count (append_forest B Y) = omega (arith, count-append B Y, count-from c.before) in
    ap (λ l. row_of l (length c.before ∷ p)) (changed_from-cons at i t r ∙ ap (λ l. append_forest l R) (child_kept at i t e))
    ∙ row-before (append_forest B Y) R (length c.before) p fits
    ∙ ap (λ m. row_of (append_forest B Y) (m ∷ p)) n
    ∙ row-behind B Y 0 p
    ∙ ap (λ m. forest_size B + m) (row-first x (forest_from c.after) nil p)

row-rest : (at : Place → Change) (i m : ℕ) (t : Tree) (r : Forest) (p : Place) → row_of (changed_from at i (cons t r)) ((child_count (changed_child at i t) + m) ∷ p) ≡ forest_size (changed_child at i t) + row_of (changed_from at (suc i) r) (m ∷ p)
row-rest at i m t r p = ap (λ l. row_of l ((child_count (changed_child at i t) + m) ∷ p)) (changed_from-cons at i t r) ∙ row-behind (changed_child at i t) (changed_from at (suc i) r) m p

-- inside a node that is kept, from its children
row-inside : (d : Change) (k : SyntaxKind) (C : Forest) (m : ℕ) (p : Place) → m < child_count C → row_of (cons (node k (inside d C)) nil) (0 ∷ ((length d.first + m) ∷ p)) ≡ suc (rows_in d.first + row_of C (m ∷ p))
row-inside d k C m p h =
    let F : Forest = forest_from d.first in
    let L : Forest = forest_from d.last in
    let n : length d.first + m ≡ child_count F + m = omega (arith, count-from d.first) in
    ap (λ x. suc (row_of (append_forest F (append_forest C L)) (x ∷ p))) n
    ∙ ap suc (row-behind F (append_forest C L) m p)
    ∙ ap (λ x. suc (forest_size F + x)) (row-before C L m p h)

-- ---- rows by places

-- where a child of a forest, whose first tree is child number i, is in the changed forest
abbrev moved_in : (Place → Change) → ℕ → Forest → ℕ → Place → Place
moved_in at i f j p = (count_before at i f j + length (at ((i + j) ∷ [])).before) ∷ moved (below (i + j) at) (child_at f j) p

-- the rows of a forest's places, where n rows are before it
record Rows (row : Place → ℕ) (at : Place → Change) (i n : ℕ) (f : Forest) : Type 0 where
  none : (j : ℕ) (p : Place) → j < child_count f → Within (child_at f j) p → is_kept at ((i + j) ∷ p) ≡ false → row ((i + j) ∷ p) ≡ 0
  some : (j : ℕ) (p : Place) → j < child_count f → Within (child_at f j) p → is_kept at ((i + j) ∷ p) ≡ true → row ((i + j) ∷ p) ≡ suc (n + row_of (changed_from at i f) (moved_in at i f j p))

-- nothing is kept in a forest
record Gone (row : Place → ℕ) (i : ℕ) (f : Forest) : Type 0 where
  all : (j : ℕ) (p : Place) → j < child_count f → Within (child_at f j) p → row ((i + j) ∷ p) ≡ 0

gone_first : (row : Place → ℕ) (i : ℕ) (t : Tree) (r : Forest) → Gone row i (cons t r) → row (i ∷ []) ≡ 0
gone_first row i t r h = let e : i ≡ i + 0 = omega arith in ap (λ n. row (n ∷ [])) e ∙ h.all 0 [] (omega arith) tt

gone_rest : (row : Place → ℕ) (i : ℕ) (t : Tree) (r : Forest) → Gone row i (cons t r) → Gone row (suc i) r
gone_rest row i t r h = record { all = λ j p lt w. let e : suc i + j ≡ i + suc j = omega arith in ap (λ n. row (n ∷ p)) e ∙ h.all (suc j) p (omega (arith, lt)) w }

gone_below : (row : Place → ℕ) (i : ℕ) (k : SyntaxKind) (c r : Forest) → Gone row i (cons (node k c) r) → Gone (λ p. row (i ∷ p)) 0 c
gone_below row i k c r h = record {
  all = λ j p lt w.
      let e : i ≡ i + 0 = omega arith in
      let z : 0 + j ≡ j = omega arith in
      ap (λ n. row (n ∷ ((0 + j) ∷ p))) e
      ∙ h.all 0 ((0 + j) ∷ p) (omega arith) (subst (λ n. n < child_count c) (sym z) lt, subst (λ n. Within (child_at c n) p) (sym z) w);
}

kept_here : (at : Place → Change) (i : ℕ) (p : Place) → (at (i ∷ [])).replaced ≡ false → is_kept at (i ∷ p) ≡ is_kept (below i at) p
kept_here at i p e = ap (λ b. if b then false else is_kept (below i at) p) e

gone_here : (at : Place → Change) (i : ℕ) (p : Place) → (at (i ∷ [])).replaced ≡ true → is_kept at (i ∷ p) ≡ false
gone_here at i p e = ap (λ b. if b then false else is_kept (below i at) p) e

not_replaced : (at : Place → Change) (i : ℕ) (p : Place) → is_kept at (i ∷ p) ≡ true → (at (i ∷ [])).replaced ≡ false
not_replaced at i p h = elim (cases_Bool (at (i ∷ [])).replaced) [
  | inl was ↦ (let off : false ≡ true = sym (gone_here at i p was) ∙ h in cc)
  | inr stays ↦ stays
]

rows_first : (row : Place → ℕ) (at : Place → Change) (i n : ℕ) (t : Tree) (r : Forest) → Rows row at i n (cons t r) → row (i ∷ []) ≡ row_entered (at (i ∷ [])) n
rows_first row at i n t r h =
    let e : i ≡ i + 0 = omega arith in
    elim (cases_Bool (at (i ∷ [])).replaced) [
      | inl was ↦
          ap (λ m. row (m ∷ [])) e ∙ h.none 0 [] (omega arith) tt (ap (λ m. is_kept at (m ∷ [])) (sym e) ∙ gone_here at i [] was)
          ∙ ap (λ b. if b then 0 else suc (n + rows_in (at (i ∷ [])).before)) (sym was)
      | inr stays ↦
          ap (λ m. row (m ∷ [])) e ∙ h.some 0 [] (omega arith) tt (ap (λ m. is_kept at (m ∷ [])) (sym e) ∙ kept_here at i [] stays)
          ∙ ap (λ m. suc (n + row_of (changed_from at i (cons t r)) ((0 + length (at (m ∷ [])).before) ∷ []))) (sym e)
          ∙ ap (λ m. suc (n + row_of (changed_from at i (cons t r)) (m ∷ []))) (zero_add (length (at (i ∷ [])).before))
          ∙ ap (λ m. suc (n + m)) (row-child at i t r [] stays)
          ∙ ap (λ m. suc (n + (rows_in (at (i ∷ [])).before + m))) (row-root (changed (below i at) t))
          ∙ add_zero n (rows_in (at (i ∷ [])).before)
          ∙ ap (λ b. if b then 0 else suc (n + rows_in (at (i ∷ [])).before)) (sym stays)
    ]
  where
    zero_add : (m : ℕ) → 0 + m ≡ m
    zero_add m = omega arith

    add_zero : (n m : ℕ) → suc (n + (m + 0)) ≡ suc (n + m)
    add_zero n m = omega arith

    row-root : (x : Tree) → row_of (cons x nil) (0 ∷ []) ≡ 0
    row-root (node k c) = refl
    row-root (token k t) = refl

rows_rest : (row : Place → ℕ) (at : Place → Change) (i n : ℕ) (t : Tree) (r : Forest) → Rows row at i n (cons t r) → Rows row at (suc i) (n + forest_size (changed_child at i t)) r
rows_rest row at i n t r h = record {
  none = λ j p lt w k. let e : suc i + j ≡ i + suc j = omega arith in ap (λ m. row (m ∷ p)) e ∙ h.none (suc j) p (omega (arith, lt)) w (ap (λ m. is_kept at (m ∷ p)) (sym e) ∙ k);
  some = λ j p lt w k.
      let e : suc i + j ≡ i + suc j = omega arith in
      let C : ℕ = child_count (changed_child at i t) in
      let S : ℕ = forest_size (changed_child at i t) in
      let m : ℕ = count_before at (suc i) r j + length (at ((suc i + j) ∷ [])).before in
      let q : Place = moved (below (suc i + j) at) (child_at r j) p in
      ap (λ x. row (x ∷ p)) e ∙ h.some (suc j) p (omega (arith, lt)) w (ap (λ x. is_kept at (x ∷ p)) (sym e) ∙ k)
      ∙ ap (λ x. suc (n + row_of (changed_from at i (cons t r)) (((C + count_before at (suc i) r j) + length (at (x ∷ [])).before) ∷ moved (below x at) (child_at r j) p))) (sym e)
      ∙ ap (λ x. suc (n + row_of (changed_from at i (cons t r)) (x ∷ q))) (sum C (count_before at (suc i) r j) (length (at ((suc i + j) ∷ [])).before))
      ∙ ap (λ x. suc (n + x)) (row-rest at i m t r q)
      ∙ ap suc (sym (sum n S (row_of (changed_from at (suc i) r) (m ∷ q))));
}
  where
    sum : (a b c : ℕ) → (a + b) + c ≡ a + (b + c)
    sum a b c = omega arith

rows_below : (row : Place → ℕ) (at : Place → Change) (i n : ℕ) (k : SyntaxKind) (c r : Forest) → (at (i ∷ [])).replaced ≡ false → Rows row at i n (cons (node k c) r)
    → Rows (λ p. row (i ∷ p)) (below i at) 0 (n + (rows_in (at (i ∷ [])).before + suc (rows_in (at (i ∷ [])).first))) c
rows_below row at i n k c r stays h = record {
  none = λ j p lt w e.
      let i0 : i ≡ i + 0 = omega arith in
      let z : 0 + j ≡ j = omega arith in
      ap (λ m. row (m ∷ ((0 + j) ∷ p))) i0
      ∙ h.none 0 ((0 + j) ∷ p) (omega arith) (subst (λ m. m < child_count c) (sym z) lt, subst (λ m. Within (child_at c m) p) (sym z) w) (ap (λ m. is_kept at (m ∷ ((0 + j) ∷ p))) (sym i0) ∙ kept_here at i ((0 + j) ∷ p) stays ∙ e);
  some = λ j p lt w e.
      let i0 : i ≡ i + 0 = omega arith in
      let z : 0 + j ≡ j = omega arith in
      let d : Change = at (i ∷ []) in
      let C : Forest = changed_from (below i at) 0 c in
      let B : ℕ = rows_in d.before in
      let F : ℕ = rows_in d.first in
      let m : ℕ = count_before (below i at) 0 c j + length (below i at ((0 + j) ∷ [])).before in
      let q : Place = moved (below (0 + j) (below i at)) (child_at c j) p in
      let here : Place → ℕ = λ x. suc (n + row_of (changed_from at i (cons (node k c) r)) x) in
      ap (λ x. row (x ∷ ((0 + j) ∷ p))) i0
      ∙ h.some 0 ((0 + j) ∷ p) (omega arith) (subst (λ x. x < child_count c) (sym z) lt, subst (λ x. Within (child_at c x) p) (sym z) w) (ap (λ x. is_kept at (x ∷ ((0 + j) ∷ p))) (sym i0) ∙ kept_here at i ((0 + j) ∷ p) stays ∙ e)
      ∙ ap (λ x. here ((0 + length (at (x ∷ [])).before) ∷ moved (below x at) (node k c) ((0 + j) ∷ p))) (sym i0)
      ∙ ap (λ x. here (x ∷ moved (below i at) (node k c) ((0 + j) ∷ p))) (zero_add (length d.before))
      ∙ ap (λ x. here (length d.before ∷ ((length d.first + (count_before (below i at) 0 c x + length (below i at ((0 + j) ∷ [])).before)) ∷ moved (below (0 + j) (below i at)) (child_at c x) p))) z
      ∙ ap (λ x. suc (n + x)) (row-child at i (node k c) r ((length d.first + m) ∷ q) stays)
      ∙ ap (λ x. suc (n + (B + x))) (row-inside d k C m q (count_fits c (below i at) 0 j (0 + j) lt refl (not_replaced (below i at) (0 + j) p e)))
      ∙ sum n B F (row_of C (m ∷ q));
}
  where
    zero_add : (m : ℕ) → 0 + m ≡ m
    zero_add m = omega arith

    sum : (n b f x : ℕ) → suc (n + (b + suc (f + x))) ≡ suc ((n + (b + suc f)) + x)
    sum n b f x = omega arith

rows_gone : (row : Place → ℕ) (at : Place → Change) (i n : ℕ) (k : SyntaxKind) (c r : Forest) → (at (i ∷ [])).replaced ≡ true → Rows row at i n (cons (node k c) r) → Gone (λ p. row (i ∷ p)) 0 c
rows_gone row at i n k c r was h = record {
  all = λ j p lt w.
      let i0 : i ≡ i + 0 = omega arith in
      let z : 0 + j ≡ j = omega arith in
      ap (λ m. row (m ∷ ((0 + j) ∷ p))) i0
      ∙ h.none 0 ((0 + j) ∷ p) (omega arith) (subst (λ m. m < child_count c) (sym z) lt, subst (λ m. Within (child_at c m) p) (sym z) w) (ap (λ m. is_kept at (m ∷ ((0 + j) ∷ p))) (sym i0) ∙ gone_here at i ((0 + j) ∷ p) was);
}

-- ---- the walk by places

counts : (Place → Change) → (Place → Tree) → (Place → ℕ) → ℕ → ℕ → List (Bool × Place) → Type 0
counts at g row s n [] = ⊤
counts at g row zero n ((true, p) ∷ w) = (row p ≡ row_entered (at p) n) × counts at g row (skip_after (at p)) (n + rows_entered (at p) (g p)) w
counts at g row zero n ((false, p) ∷ w) = counts at g row 0 (n + rows_left (at p) (g p)) w
counts at g row (suc s) n ((true, p) ∷ w) = (row p ≡ 0) × counts at g row (suc (suc s)) n w
counts at g row (suc zero) n ((false, p) ∷ w) = counts at g row 0 (n + rows_in (at p).after) w
counts at g row (suc (suc s)) n ((false, p) ∷ w) = counts at g row (suc s) n w

skips : (f : Forest) (at : Place → Change) (g : Place → Tree) (row : Place → ℕ) (q : Place → Place) (s n i : ℕ) (v : List (Bool × Place)) → Gone (λ p. row (q p)) i f → counts at g row (suc s) n v → counts at g row (suc s) n (map (lifted q) (walk_from i f) ++ v)
unfolding counts lifted
skips nil at g row q s n i v h c = c
skips (cons (token k t) r) at g row q s n i v h c = (gone_first (λ p. row (q p)) i (token k t) r h, skips r at g row q s n (suc i) v (gone_rest (λ p. row (q p)) i (token k t) r h) c)
skips (cons (node k f) r) at g row q s n i v h c =
    let V : List (Bool × Place) = (false, q (i ∷ [])) ∷ (map (lifted q) (walk_from (suc i) r) ++ v) in
    let rest : counts at g row (suc s) n (map (lifted q) (walk_from (suc i) r) ++ v) = skips r at g row q s n (suc i) v (gone_rest (λ p. row (q p)) i (node k f) r h) c in (
      gone_first (λ p. row (q p)) i (node k f) r h,
      subst (λ l. counts at g row (suc (suc s)) n l) (sym (parts q i f r v)) (skips f at g row (λ p. q (i ∷ p)) (suc s) n 0 V (gone_below (λ p. row (q p)) i k f r h) rest),
    )

entered_gone : (c : Change) (t : Tree) (n : ℕ) → c.replaced ≡ true → n + rows_entered c t ≡ n + (rows_in c.before + rows_in c.instead)
entered_gone c t n e = ap (λ b. n + (rows_in c.before + (if b then rows_in c.instead else suc (rows_within t c.first)))) e

entered_kept : (c : Change) (t : Tree) (n : ℕ) → c.replaced ≡ false → n + rows_entered c t ≡ n + (rows_in c.before + suc (rows_within t c.first))
entered_kept c t n e = ap (λ b. n + (rows_in c.before + (if b then rows_in c.instead else suc (rows_within t c.first)))) e

skip_kept : (c : Change) → c.replaced ≡ false → skip_after c ≡ 0
skip_kept c e = ap (λ b. if b then 1 else 0) e

skip_gone : (c : Change) → c.replaced ≡ true → skip_after c ≡ 1
skip_gone c e = ap (λ b. if b then 1 else 0) e

size-gone : (c : Change) (x : Tree) → c.replaced ≡ true → forest_size (around c x) ≡ rows_in c.before + (rows_in c.instead + rows_in c.after)
size-gone c x e =
    ap (λ b. forest_size (append_forest (forest_from c.before) (append_forest (if b then forest_from c.instead else cons x nil) (forest_from c.after)))) e
    ∙ size-append (forest_from c.before) (append_forest (forest_from c.instead) (forest_from c.after)) ∙ ap (λ n. rows_in c.before + n) (size-append (forest_from c.instead) (forest_from c.after))

size-kept : (c : Change) (x : Tree) → c.replaced ≡ false → forest_size (around c x) ≡ rows_in c.before + (forest_size (cons x nil) + rows_in c.after)
size-kept c x e =
    ap (λ b. forest_size (append_forest (forest_from c.before) (append_forest (if b then forest_from c.instead else cons x nil) (forest_from c.after)))) e
    ∙ size-append (forest_from c.before) (append_forest (cons x nil) (forest_from c.after)) ∙ ap (λ n. rows_in c.before + n) (size-append (cons x nil) (forest_from c.after))

size-inside : (c : Change) (k : SyntaxKind) (f : Forest) → forest_size (cons (node k (inside c f)) nil) ≡ suc (rows_in c.first + (forest_size f + rows_in c.last))
size-inside c k f = omega (arith, size-append (forest_from c.first) (append_forest f (forest_from c.last)), size-append f (forest_from c.last))

moves : (at : Place → Change) (g : Place → Tree) (row : Place → ℕ) (s m n : ℕ) (w : List (Bool × Place)) → m ≡ n → counts at g row s m w → counts at g row s n w
moves at g row s m n w e c = subst (λ x. counts at g row s x w) e c

counts_token : (at : Place → Change) (g : Place → Tree) (row : Place → ℕ) (p : Place) (k : SyntaxKind) (t : List ℕ) (n : ℕ) (w : List (Bool × Place)) → g p ≡ token k t → row p ≡ row_entered (at p) n
    → counts at g row 0 (n + forest_size (around (at p) (token k t))) w → counts at g row 0 n ((true, p) ∷ ((false, p) ∷ w))
unfolding counts
counts_token at g row p k t n w e h c =
    let d : Change = at p in
    elim (cases_Bool d.replaced) [
      | inl was ↦ (
        h,
        subst (λ s. counts at g row s (n + rows_entered d (g p)) ((false, p) ∷ w)) (sym (skip_gone d was))
            (moves at g row 0 (n + forest_size (around d (token k t))) ((n + rows_entered d (g p)) + rows_in d.after) w (omega (arith, entered_gone d (g p) n was, size-gone d (token k t) was)) c),
      )
      | inr stays ↦ (
        h,
        subst (λ s. counts at g row s (n + rows_entered d (g p)) ((false, p) ∷ w)) (sym (skip_kept d stays))
            (subst (λ x. counts at g row 0 ((n + rows_entered d x) + rows_left d x) w) (sym e)
            (moves at g row 0 (n + forest_size (around d (token k t))) ((n + rows_entered d (token k t)) + rows_left d (token k t)) w (omega (arith, entered_kept d (token k t) n stays, size-kept d (token k t) stays)) c)),
      )
    ]

-- the walk of a node's children, before anything that follows
record Inner (at : Place → Change) (g : Place → Tree) (row : Place → ℕ) (d : Change) (n : ℕ) (I : List (Bool × Place)) (f : Forest) : Type 0 where
  made : (v : List (Bool × Place)) → d.replaced ≡ false → counts at g row 0 ((n + (rows_in d.before + suc (rows_in d.first))) + forest_size f) v → counts at g row 0 (n + (rows_in d.before + suc (rows_in d.first))) (I ++ v)
  skipped : (m : ℕ) (v : List (Bool × Place)) → d.replaced ≡ true → counts at g row 1 m v → counts at g row 1 m (I ++ v)

counts_node : (at : Place → Change) (g : Place → Tree) (row : Place → ℕ) (p : Place) (k : SyntaxKind) (c f : Forest) (n : ℕ) (I w : List (Bool × Place)) → g p ≡ node k c → row p ≡ row_entered (at p) n → Inner at g row (at p) n I f
    → counts at g row 0 (n + forest_size (around (at p) (node k (inside (at p) f)))) w → counts at g row 0 n ((true, p) ∷ (I ++ (false, p) ∷ w))
unfolding counts
counts_node at g row p k c f n I w e h inner after =
    let d : Change = at p in
    let x : Tree = node k (inside d f) in
    elim (cases_Bool d.replaced) [
      | inl was ↦ (
        h,
        subst (λ s. counts at g row s (n + rows_entered d (g p)) (I ++ (false, p) ∷ w)) (sym (skip_gone d was))
            (inner.skipped (n + rows_entered d (g p)) ((false, p) ∷ w) was
            (moves at g row 0 (n + forest_size (around d x)) ((n + rows_entered d (g p)) + rows_in d.after) w (omega (arith, entered_gone d (g p) n was, size-gone d x was)) after)),
      )
      | inr stays ↦ (
        h,
        subst (λ s. counts at g row s (n + rows_entered d (g p)) (I ++ (false, p) ∷ w)) (sym (skip_kept d stays))
            (subst (λ y. counts at g row 0 (n + rows_entered d y) (I ++ (false, p) ∷ w)) (sym e)
            (subst (λ m. counts at g row 0 m (I ++ (false, p) ∷ w)) (sym (entered_kept d (node k c) n stays))
            (inner.made ((false, p) ∷ w) stays
            (subst (λ y. counts at g row 0 (((n + (rows_in d.before + suc (rows_in d.first))) + forest_size f) + rows_left d y) w) (sym e)
            (moves at g row 0 (n + forest_size (around d x)) (((n + (rows_in d.before + suc (rows_in d.first))) + forest_size f) + rows_left d (node k c)) w (omega (arith, size-kept d x stays, size-inside d k f)) after))))),
      )
    ]

-- the walk of a forest
counts_from : (f : Forest) (at : Place → Change) (g : Place → Tree) (row : Place → ℕ) (q : Place → Place) (i n : ℕ) (v : List (Bool × Place)) → IsForestAt (λ p. g (q p)) i f → Rows (λ p. row (q p)) (λ p. at (q p)) i n f
    → counts at g row 0 (n + forest_size (changed_from (λ p. at (q p)) i f)) v → counts at g row 0 n (map (lifted q) (walk_from i f) ++ v)
unfolding lifted
counts_from nil at g row q i n v t h c = moves at g row 0 (n + 0) n v (omega arith) c
counts_from (cons (token k x) r) at g row q i n v t h c =
    let A : Place → Change = λ p. at (q p) in
    let here : Forest = around (A (i ∷ [])) (token k x) in
    let rest : Forest = changed_from A (suc i) r in
    counts_token at g row (q (i ∷ [])) k x n (map (lifted q) (walk_from (suc i) r) ++ v) (first_is (λ p. g (q p)) i (token k x) r t) (rows_first (λ p. row (q p)) A i n (token k x) r h)
    (counts_from r at g row q (suc i) (n + forest_size here) v (rest_is (λ p. g (q p)) i (token k x) r t) (rows_rest (λ p. row (q p)) A i n (token k x) r h)
    (moves at g row 0 (n + forest_size (append_forest here rest)) ((n + forest_size here) + forest_size rest) v (omega (arith, size-append here rest)) c))
counts_from (cons (node k x) r) at g row q i n v t h c =
    let A : Place → Change = λ p. at (q p) in
    let d : Change = A (i ∷ []) in
    let inner : Forest = changed_from (below i A) 0 x in
    let here : Forest = around d (node k (inside d inner)) in
    let rest : Forest = changed_from A (suc i) r in
    subst (λ l. counts at g row 0 n ((true, q (i ∷ [])) ∷ l)) (sym (parts q i x r v))
    (counts_node at g row (q (i ∷ [])) k x inner n (map (lifted (λ p. q (i ∷ p))) (walk_from 0 x)) (map (lifted q) (walk_from (suc i) r) ++ v) (first_is (λ p. g (q p)) i (node k x) r t) (rows_first (λ p. row (q p)) A i n (node k x) r h)
    (record {
      made = λ u stays m. counts_from x at g row (λ p. q (i ∷ p)) 0 (n + (rows_in d.before + suc (rows_in d.first))) u (below_is (λ p. g (q p)) i k x r t) (rows_below (λ p. row (q p)) A i n k x r stays h) m;
      skipped = λ m u was y. skips x at g row (λ p. q (i ∷ p)) 0 m 0 u (rows_gone (λ p. row (q p)) A i n k x r was h) y;
    })
    (counts_from r at g row q (suc i) (n + forest_size here) v (rest_is (λ p. g (q p)) i (node k x) r t) (rows_rest (λ p. row (q p)) A i n (node k x) r h)
    (moves at g row 0 (n + forest_size (append_forest here rest)) ((n + forest_size here) + forest_size rest) v (omega (arith, size-append here rest)) c)))

-- ---- the whole walk

counts-cursor : (ws : List (Bool × Place)) (at : Place → Change) (t : Tree) (row : Place → ℕ) (s n : ℕ) → counts at (subtree t) row s n ws → IsCounted at row s n (map (cursor t) ws)
unfolding counts cursor
counts-cursor [] at t row s n c = tt
counts-cursor ((true, p) ∷ ws) at t row zero n c = (c.0, counts-cursor ws at t row (skip_after (at p)) (n + rows_entered (at p) (subtree t p)) c.1)
counts-cursor ((false, p) ∷ ws) at t row zero n c = counts-cursor ws at t row 0 (n + rows_left (at p) (subtree t p)) c
counts-cursor ((true, p) ∷ ws) at t row (suc s) n c = (c.0, counts-cursor ws at t row (suc (suc s)) n c.1)
counts-cursor ((false, p) ∷ ws) at t row (suc zero) n c = counts-cursor ws at t row 0 (n + rows_in (at p).after) c
counts-cursor ((false, p) ∷ ws) at t row (suc (suc s)) n c = counts-cursor ws at t row (suc s) n c

-- the rows of the root's children
root_rows : (at : Place → Change) (k : SyntaxKind) (c : Forest) → Rows (new_row at (node k c)) at 0 (0 + (rows_in [] + suc (rows_in (at []).first))) c
root_rows at k c = record {
  none = λ j p lt w e. ap (λ b. if b then suc (row_of (cons (changed at (node k c)) nil) (0 ∷ moved at (node k c) ((0 + j) ∷ p))) else 0) e;
  some = λ j p lt w e.
      let z : 0 + j ≡ j = omega arith in
      let d : Change = at [] in
      let C : Forest = changed_from at 0 c in
      let m : ℕ = count_before at 0 c j + length (at ((0 + j) ∷ [])).before in
      let q : Place = moved (below (0 + j) at) (child_at c j) p in
      ap (λ b. if b then suc (row_of (cons (changed at (node k c)) nil) (0 ∷ moved at (node k c) ((0 + j) ∷ p))) else 0) e
      ∙ ap (λ x. suc (row_of (cons (node k (inside d C)) nil) (0 ∷ ((length d.first + (count_before at 0 c x + length (at ((0 + j) ∷ [])).before)) ∷ moved (below (0 + j) at) (child_at c x) p)))) z
      ∙ ap suc (row-inside d k C m q (count_fits c at 0 j (0 + j) lt refl (not_replaced at (0 + j) p e)))
      ∙ sum (rows_in d.first) (row_of C (m ∷ q));
}
  where
    sum : (f x : ℕ) → suc (suc (f + x)) ≡ suc ((0 + (0 + suc f)) + x)
    sum f x = omega arith

counts-walk : (at : Place → Change) (k : SyntaxKind) (c : Forest) → (at []).before ≡ [] → (at []).replaced ≡ false → counts at (subtree (node k c)) (new_row at (node k c)) 0 0 (walk (node k c))
unfolding counts
counts-walk at k c none stays =
    let t : Tree = node k c in
    let row : Place → ℕ = new_row at t in
    let d : Change = at [] in
    let g : Place → Tree = subtree t in
    let n : ℕ = 0 + (rows_in [] + suc (rows_in d.first)) in
    let before : rows_in d.before ≡ rows_in [] = ap rows_in none in
    let rows : Rows row at 0 (0 + (rows_in d.before + suc (rows_in d.first))) c = subst (λ x. Rows row at 0 (0 + (x + suc (rows_in d.first))) c) (sym before) (root_rows at k c) in
    let here : row [] ≡ row_entered d 0 =
    ap suc (sym (ap (λ x. 0 + x) before)) ∙ ap (λ b. if b then 0 else suc (0 + rows_in d.before)) (sym stays) in
    counts_node at g row [] k c (changed_from at 0 c) 0 (walk_from 0 c) [] refl here (record {
      made = λ u _ m. subst (λ l. counts at g row 0 (0 + (rows_in d.before + suc (rows_in d.first))) (l ++ u)) (map-lifted (walk_from 0 c)) (counts_from c at g row (λ p. p) 0 (0 + (rows_in d.before + suc (rows_in d.first))) u (children_are k c) rows m);
      skipped = λ m u was y. (let off : false ≡ true = sym stays ∙ was in cc);
    }) tt

pub counted-root : (at : Place → Change) (t : Tree) → IsNode t → (at []).before ≡ [] → (at []).replaced ≡ false → IsCounted at (new_row at t) 0 0 (walk_of (record { tree = t; place = [] }))
unfolding cursor
counted-root at (token k x) h a b = absurd h
counted-root at (node k c) h a b = counts-cursor (walk (node k c)) at (node k c) (new_row at (node k c)) 0 0 (counts-walk at k c a b)

-- ---- the places that are entered are all places, in order

entered : List (Bool × Place) → List Place
entered [] = []
entered ((true, p) ∷ w) = p ∷ entered w
entered ((false, p) ∷ w) = entered w

entered-append : (v w : List (Bool × Place)) → entered (v ++ w) ≡ entered v ++ entered w
unfolding entered
entered-append [] w = refl
entered-append ((true, p) ∷ v) w = ap (λ l. p ∷ l) (entered-append v w)
entered-append ((false, p) ∷ v) w = entered-append v w

entered-under : (i : ℕ) (w : List (Bool × Place)) → entered (map (under i) w) ≡ map (λ p. i ∷ p) (entered w)
unfolding entered
entered-under i [] = refl
entered-under i ((true, p) ∷ w) = ap (λ l. (i ∷ p) ∷ l) (entered-under i w)
entered-under i ((false, p) ∷ w) = entered-under i w

entered-from : (i : ℕ) (f : Forest) → entered (walk_from i f) ≡ places_from i f
unfolding entered
entered-from i nil = refl
entered-from i (cons (token k t) r) = ap (λ l. (i ∷ []) ∷ l) (entered-from (suc i) r)
entered-from i (cons (node k c) r) =
    ap (λ l. (i ∷ []) ∷ l) (entered-append (map (under i) (walk_from 0 c)) ((false, i ∷ []) ∷ walk_from (suc i) r)
    ∙ ap (λ l. l ++ entered (walk_from (suc i) r)) (entered-under i (walk_from 0 c) ∙ ap (map (λ p. i ∷ p)) (entered-from 0 c))
    ∙ ap (λ l. map (λ p. i ∷ p) (places_from 0 c) ++ l) (entered-from (suc i) r))

entered-cursor : (ws : List (Bool × Place)) (t : Tree) → entered_places (map (cursor t) ws) ≡ entered ws
unfolding entered cursor
entered-cursor [] t = refl
entered-cursor ((true, p) ∷ w) t = ap (λ l. p ∷ l) (entered-cursor w t)
entered-cursor ((false, p) ∷ w) t = entered-cursor w t

entered-walk : (t : Tree) → entered (walk t) ≡ places t
unfolding entered
entered-walk (token k x) = refl
entered-walk (node k c) = ap (λ l. [] ∷ l) (entered-append (walk_from 0 c) ((false, []) ∷ []) ∙ append-nil (entered (walk_from 0 c)) ∙ entered-from 0 c)

pub entered-root : (t : Tree) → entered_places (walk_of (record { tree = t; place = [] })) ≡ places t
unfolding cursor
entered-root t = entered-cursor (walk t) t ∙ entered-walk t

-- ---- steps

pub counted-entered : (at : Place → Change) (row : Place → ℕ) (out new : List ℕ) (d : Cursor) (n t m : ℕ) → new ≡ out ++ row_entered (at d.place) n ∷ [] → t ≡ skip_after (at d.place) → m ≡ n + rows_entered (at d.place) (focus d) → IsCountedStep at row out new true d 0 n t m
counted-entered at row out new d n t m added next count = record {
  made = λ rest c. (
    subst (λ s. IsCounted at row s m rest) (sym next) (subst (λ x. IsCounted at row (skip_after (at d.place)) x rest) (sym count) c.1),
    ap (λ l. l ++ map row (entered_places rest)) (added ∙ ap (λ x. out ++ x ∷ []) (sym c.0)) ∙ append_assoc out (row d.place ∷ []) (map row (entered_places rest)),
  );
}

pub counted-left : (at : Place → Change) (row : Place → ℕ) (out : List ℕ) (d : Cursor) (n m : ℕ) → m ≡ n + rows_left (at d.place) (focus d) → IsCountedStep at row out out false d 0 n 0 m
counted-left at row out d n m count = record { made = λ rest c. (subst (λ x. IsCounted at row 0 x rest) (sym count) c, refl) }

pub counted-deeper : (at : Place → Change) (row : Place → ℕ) (out new : List ℕ) (d : Cursor) (s n t : ℕ) → 0 < s → t ≡ s + 1 → new ≡ out ++ 0 ∷ [] → IsCountedStep at row out new true d s n t n
counted-deeper at row out new d zero n t some next added = absurd (omega arith)
counted-deeper at row out new d (suc s) n t some next added =
    let e : t ≡ suc (suc s) = omega arith in
    record {
      made = λ rest c. (
        subst (λ x. IsCounted at row x n rest) (sym e) c.1,
        ap (λ l. l ++ map row (entered_places rest)) (added ∙ ap (λ x. out ++ x ∷ []) (sym c.0)) ∙ append_assoc out (row d.place ∷ []) (map row (entered_places rest)),
      );
    }

pub counted-higher : (at : Place → Change) (row : Place → ℕ) (out : List ℕ) (d : Cursor) (s n t : ℕ) → 0 < t → t + 1 ≡ s → IsCountedStep at row out out false d s n t n
counted-higher at row out d s n zero some next = absurd (omega arith)
counted-higher at row out d s n (suc t) some next =
    let e : s ≡ suc (suc t) = omega arith in record { made = λ rest c. (subst (λ x. IsCounted at row x n ((false, d) ∷ rest)) e c, refl) }

pub counted-after : (at : Place → Change) (row : Place → ℕ) (out : List ℕ) (d : Cursor) (s n t m : ℕ) → s ≡ 1 → t ≡ 0 → m ≡ n + rows_in (at d.place).after → IsCountedStep at row out out false d s n t m
counted-after at row out d s n t m one none count = record {
  made = λ rest c.
      let was : IsCounted at row 1 n ((false, d) ∷ rest) = subst (λ x. IsCounted at row x n ((false, d) ∷ rest)) one c in
      (subst (λ x. IsCounted at row x m rest) (sym none) (subst (λ x. IsCounted at row 0 x rest) (sym count) was), refl);
}

pub counted-is : (at : Place → Change) (row : Place → ℕ) (out new : List ℕ) (enters b : Bool) (d : Cursor) (s z n t m : ℕ) → enters ≡ b → s ≡ z → IsCountedStep at row out new b d z n t m → IsCountedStep at row out new enters d s n t m
counted-is at row out new enters b d s z n t m e f h = subst (λ x. IsCountedStep at row out new x d s n t m) (sym e) (subst (λ x. IsCountedStep at row out new b d x n t m) (sym f) h)

-- a step of the loop
pub counted-rest : (at : Place → Change) (row : Place → ℕ) (out new : List ℕ) (enters : Bool) (d : Cursor) (w rest : List (Bool × Cursor)) (s n t m : ℕ) → w ≡ (enters, d) ∷ rest → IsCountedStep at row out new enters d s n t m → IsCounted at row s n w → IsCounted at row t m rest
counted-rest at row out new enters d w rest s n t m is step c = (step.made rest (subst (λ l. IsCounted at row s n l) is c)).0

pub counted-column : (at : Place → Change) (row : Place → ℕ) (out new whole : List ℕ) (enters : Bool) (d : Cursor) (w rest : List (Bool × Cursor)) (s n t m : ℕ) → w ≡ (enters, d) ∷ rest → IsCountedStep at row out new enters d s n t m → IsCounted at row s n w
    → out ++ map row (entered_places w) ≡ whole → new ++ map row (entered_places rest) ≡ whole
counted-column at row out new whole enters d w rest s n t m is step c h = (step.made rest (subst (λ l. IsCounted at row s n l) is c)).1 ∙ ap (λ l. out ++ map row (entered_places l)) (sym is) ∙ h

pub column-end : (row : Place → ℕ) (out whole : List ℕ) (w : List (Bool × Cursor)) → w ≡ [] → out ++ map row (entered_places w) ≡ whole → out ≡ whole
column-end row out whole w is h = sym (append-nil out) ∙ ap (λ l. out ++ map row (entered_places l)) (sym is) ∙ h

pub within_node : (t : Tree) (b : Bool) (ts : List Tree) → b ≡ is_token t → b ≡ false → rows_within t ts ≡ rows_in ts
within_node (node k c) b ts e f = refl
within_node (token k x) b ts e f = (let off : false ≡ true = sym f ∙ e in cc)

pub ok_count : {E : Type 0} (r : Result ℕ E) (m n : ℕ) → m ≡ n → IfOk r (λ x. x ≡ m) → IfOk r (λ x. x ≡ n)
ok_count (Ok x) m n e h = h ∙ e
ok_count (Err x) m n e h = tt

pub loop-begins : (at : Place → Change) (t : Tree) (marks : List ℕ) (changes : List Change) → AreChangesOf at t marks changes → IsNode t → IsCounted at (new_row at t) 0 0 (walk_left t 0 0 None)
loop-begins at (token k x) marks changes w n = absurd n
loop-begins at (node k c) marks changes w n = subst (λ l. IsCounted at (new_row at (node k c)) 0 0 l) (sym (walk_left-whole (node k c) 0)) (counted-root at (node k c) n w.none_before w.none_instead)

pub column-begins : (at : Place → Change) (t : Tree) (out : List ℕ) → IsNode t → out ≡ [] → out ++ map (new_row at t) (entered_places (walk_left t 0 0 None)) ≡ new_rows_of at t
column-begins at (token k x) out n e = absurd n
column-begins at (node k c) out n e =
    ap (λ l. l ++ map (new_row at (node k c)) (entered_places (walk_left (node k c) 0 0 None))) e
    ∙ ap (λ l. map (new_row at (node k c)) (entered_places l)) (walk_left-whole (node k c) 0) ∙ ap (map (new_row at (node k c))) (entered-root (node k c))
