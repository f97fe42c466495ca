-- The node or token at a row and after it, as a rest of siblings.
use Rattle.std.proofs.Common.{◌≡◌, ℕ, zero, suc, ◌+◌, ◌-◌, ◌<◌, ◌≤◌, inl, inr, [], ◌∷◌, ◌++◌, Bool, true, false, nat_lt, leb, length, if◌then◌else◌, refl, sym, ap, subst, ◌∙◌, arith}
use Rattle.tree_model.specs.Tree.{Tree, node, token, Forest, nil, cons, text, size, forest_size, Place, forest_of_children, child_at, start}
use Rattle.lossless_tree.specs.Trees.{Siblings, is_done, first_of, rest_of, behind_first, inside_first}
use Rattle.lossless_tree.specs.SiblingRows.{forest_at, trees_at, IsTrees}
use Rattle.tree_model.specs.Rows.{tree_at, place_at, start_at, end_at}
use Rattle.tree_rows.specs.Rows.{row_at}
use Rattle.tree_model.proofs.At.{At, cong₂, here, below, after, lift, At-fits, subtree-At, start-At, below_or_after, some_row, find, forest_size-cons}
use Rattle.tree_model.proofs.TableLemmas.{at_row}
use Rattle.tree_rows.proofs.TableLemmas.{next_start_at, row_end_fits}
use Rattle.tree_model.proofs.StepLemmas.{place_from_At}
use Rattle.tree_rows.proofs.StepLemmas.{end_of_row, row_start}

pub lt_true : (a b : ℕ) → a < b → nat_lt a b ≡ true
lt_true a b h = grind arith

pub lt_false : (a b : ℕ) → b ≤ a → nat_lt a b ≡ false
lt_false a b h = grind arith

if_true : {A : Type 0} (b : Bool) (x y : A) → b ≡ true → (if b then x else y) ≡ x
if_true b x y e = rw e refl

if_false : {A : Type 0} (b : Bool) (x y : A) → b ≡ false → (if b then x else y) ≡ y
if_false b x y e = rw e refl

-- what follows a token, what is in a node, and what follows a node
at_in : (k : _) (c r : Forest) (n : ℕ) → n < forest_size c → forest_at (cons (node k c) r) (suc n) ≡ forest_at c n
at_in k c r n h = if_true (nat_lt n (forest_size c)) (forest_at c n) (forest_at r (n - forest_size c)) (lt_true n (forest_size c) h)

at_behind : (k : _) (c r : Forest) (n m : ℕ) → n ≡ forest_size c + m → forest_at (cons (node k c) r) (suc n) ≡ forest_at r m
at_behind k c r n m h =
    let e : n - forest_size c ≡ m = omega arith in
    if_false (nat_lt n (forest_size c)) (forest_at c n) (forest_at r (n - forest_size c)) (lt_false n (forest_size c) (omega (arith, h))) ∙ ap (forest_at r) e

-- the tree at a row, with its later siblings
pub standing_at : {f : Forest} {n : ℕ} {p : Place} {t : Tree} {b : ℕ} → At f n p t b → (r : Forest) × (forest_at f n ≡ cons t r)
standing_at (here {u} {r}) = (r, refl)
standing_at (below {k} {c} {r} {n} {t} a) = let found = standing_at a in (found.0, at_in k c r n (omega (arith, At-fits a, some_row t)) ∙ found.1)
standing_at (after {u = token k s} {r} {n} {m} e d a) = let found = standing_at a in (found.0, ap (forest_at (cons (token k s) r)) (let e' : m ≡ suc n = omega (arith, e) in e') ∙ found.1)
standing_at (after {u = node k c} {r} {n} {m} e d a) =
    let found = standing_at a in
    (found.0, ap (forest_at (cons (node k c) r)) (let e' : m ≡ suc (forest_size c + n) = omega (arith, e) in e') ∙ at_behind k c r (forest_size c + n) n refl ∙ found.1)

pub fits_at : (f : Forest) (n : ℕ) (t : Tree) (r : Forest) → forest_at f n ≡ cons t r → n + forest_size (cons t r) ≤ forest_size f
fits_at nil n t r e = absurd (let bad : nil ≡ cons t r = e in cc)
fits_at (cons v g) zero t r e = omega (arith, ap forest_size e)
fits_at (cons (token k s) g) (suc n) t r e = omega (arith, fits_at g n t r e)
fits_at (cons (node k c) g) (suc n) t r e =
    elim (below_or_after n (forest_size c)) [
      | inl lt ↦ omega (arith, fits_at c n t r (sym (at_in k c g n lt) ∙ e))
      | inr later ↦ omega (arith, later.1, fits_at g later.0 t r (sym (at_behind k c g n later.0 later.1) ∙ e))
    ]

pub behind : (f : Forest) (n : ℕ) (t u : Tree) (r : Forest) → forest_at f n ≡ cons t (cons u r) → forest_at f (n + size t) ≡ cons u r
behind nil n t u r e = absurd (let bad : nil ≡ cons t (cons u r) = e in cc)
behind (cons (token k s) g) zero t u r e =
    let first : token k s ≡ t = ap first_of e in
    let later : g ≡ cons u r = ap rest_of e in
    subst (λ x. forest_at (cons (token k s) g) (0 + size x) ≡ cons u r) first (subst (λ x. forest_at x 0 ≡ cons u r) (sym later) refl)
behind (cons (node k c) g) zero t u r e =
    let first : node k c ≡ t = ap first_of e in
    let later : g ≡ cons u r = ap rest_of e in
    subst (λ x. forest_at (cons (node k c) g) (0 + size x) ≡ cons u r) first
    (ap (forest_at (cons (node k c) g)) (let z : 0 + suc (forest_size c) ≡ suc (forest_size c) = omega arith in z)
    ∙ at_behind k c g (forest_size c) 0 (omega arith) ∙ subst (λ x. forest_at x 0 ≡ cons u r) (sym later) refl)
behind (cons (token k s) g) (suc n) t u r e = ap (forest_at (cons (token k s) g)) (let z : suc n + size t ≡ suc (n + size t) = omega arith in z) ∙ behind g n t u r e
behind (cons (node k c) g) (suc n) t u r e =
    elim (below_or_after n (forest_size c)) [
      | inl lt ↦
          let inner : forest_at c n ≡ cons t (cons u r) = sym (at_in k c g n lt) ∙ e in
          let room : n + size t < forest_size c = omega (arith, fits_at c n t (cons u r) inner, forest_size-cons t (cons u r), forest_size-cons u r, some_row u) in
          ap (forest_at (cons (node k c) g)) (let z : suc n + size t ≡ suc (n + size t) = omega arith in z) ∙ at_in k c g (n + size t) room ∙ behind c n t u r inner
      | inr later ↦ ap (forest_at (cons (node k c) g)) (let z : suc n + size t ≡ suc (n + size t) = omega arith in z) ∙ at_behind k c g (n + size t) (later.0 + size t) (omega (arith, later.1)) ∙ behind g later.0 t u r (sym (at_behind k c g n later.0 later.1) ∙ e)
    ]

pub below_first : (f : Forest) (n : ℕ) (k : _) (u : Tree) (c r : Forest) → forest_at f n ≡ cons (node k (cons u c)) r → forest_at f (suc n) ≡ cons u c
below_first nil n k u c r e = absurd (let bad : nil ≡ cons (node k (cons u c)) r = e in cc)
below_first (cons (token j s) g) zero k u c r e = absurd (let bad : token j s ≡ node k (cons u c) = ap first_of e in cc)
below_first (cons (node j d) g) zero k u c r e =
    let inner : d ≡ cons u c = ap (λ x. forest_of_children (first_of x)) e in
    at_in j d g 0 (omega (arith, ap forest_size inner, forest_size-cons u c, some_row u)) ∙ subst (λ x. forest_at x 0 ≡ cons u c) (sym inner) refl
below_first (cons (token j s) g) (suc n) k u c r e = below_first g n k u c r e
below_first (cons (node j d) g) (suc n) k u c r e =
    elim (below_or_after n (forest_size d)) [
      | inl lt ↦
          let inner : forest_at d n ≡ cons (node k (cons u c)) r = sym (at_in j d g n lt) ∙ e in
          let room : suc n < forest_size d = omega (arith, fits_at d n (node k (cons u c)) r inner, forest_size-cons (node k (cons u c)) r, forest_size-cons u c, some_row u) in
          at_in j d g (suc n) room ∙ below_first d n k u c r inner
      | inr later ↦ at_behind j d g (suc n) (suc later.0) (omega (arith, later.1)) ∙ below_first g later.0 k u c r (sym (at_behind j d g n later.0 later.1) ∙ e)
    ]

pub standing : (tree : Tree) (row : ℕ) → row < size tree → (r : Forest) × (forest_at (cons tree nil) row ≡ cons (tree_at tree row) r)
standing tree row h =
    let found = find tree row h in
    let there = standing_at found.is_at in
    let is : tree_at tree row ≡ found.t = subtree-At found.is_at in
    (there.0, there.1 ∙ ap (λ x. cons x there.0) (sym is))

pub none_left : (tree : Tree) (row end : ℕ) → end ≤ row → trees_at tree row end ≡ nil
none_left tree row end h = if_false (nat_lt row end) (forest_at (cons tree nil) row) nil (lt_false row end h)

some_left : (tree : Tree) (row end : ℕ) → row < end → trees_at tree row end ≡ forest_at (cons tree nil) row
some_left tree row end h = if_true (nat_lt row end) (forest_at (cons tree nil) row) nil (lt_true row end h)

-- the first tree that is left, and what is after it
pub record First (tree : Tree) (row end : ℕ) : Type 0 where
  pub later : Forest
  pub in_range : row < size tree
  pub is : trees_at tree row end ≡ cons (tree_at tree row) later
  pub total : row + (size (tree_at tree row) + forest_size later) ≡ end

pub first : (tree : Tree) (row end b : ℕ) → IsTrees tree row end b → row < end → First tree row end
first tree row end b w h =
    let in_range : row < size tree = omega (arith, w.within, h) in
    let there = standing tree row in_range in
    record {
      later = there.0;
      in_range = in_range;
      is = some_left tree row end h ∙ there.1;
      total = omega (arith, w.all_of_it h, ap forest_size there.1, forest_size-cons (tree_at tree row) there.0);
    }

pub first_is : (tree : Tree) (row end b : ℕ) → IsTrees tree row end b → row < end → tree_at tree row ≡ first_of (trees_at tree row end)
first_is tree row end b w h = sym (ap first_of (first tree row end b w h).is)

-- what is left after the first
pub record Later (tree : Tree) (row end e d : ℕ) : Type 0 where
  pub is : trees_at tree e end ≡ rest_of (trees_at tree row end)
  pub is_trees : IsTrees tree e end d

pub later : (tree : Tree) (row end b e d : ℕ) → IsTrees tree row end b → row < end → e ≡ (row_at tree row).end → d ≡ end_at tree row → Later tree row end e d
later tree row end b e d w h is_row_end is_d =
    let f = first tree row end b w h in
    let is_e : e ≡ row + size (tree_at tree row) = is_row_end ∙ end_of_row tree row f.in_range in
    elim f.later as (λ r. trees_at tree row end ≡ cons (tree_at tree row) r → row + (size (tree_at tree row) + forest_size r) ≡ end → Later tree row end e d) [
      | nil ↦ λ is total. record {
        is = none_left tree e end (omega (arith, is_e, total)) ∙ sym (ap rest_of is);
        is_trees = record { ordered = omega (arith, is_e, total); within = w.within; all_of_it = λ q. absurd (omega (arith, q, is_e, total)); starts = λ q. absurd (omega (arith, q, is_e, total)) };
      }
      | cons u r ↦ λ is total.
          let less : e < end = omega (arith, is_e, total, forest_size-cons u r, some_row u) in
          let in_range : e < size tree = omega (arith, less, w.within) in
          let at : forest_at (cons tree nil) row ≡ cons (tree_at tree row) (cons u r) = sym (some_left tree row end h) ∙ is in
          let next : forest_at (cons tree nil) e ≡ cons u r = ap (forest_at (cons tree nil)) is_e ∙ behind (cons tree nil) row (tree_at tree row) u r at in
          record {
            is = some_left tree e end less ∙ next ∙ sym (ap rest_of is);
            is_trees = record {
              ordered = omega (arith, less);
              within = w.within;
              all_of_it = λ q. omega (arith, ap forest_size next, is_e, total);
              starts = λ q. omega (arith, is_d, next_start_at tree row e f.in_range is_e in_range, row_start tree e in_range);
            };
          }
    ] f.is f.total

-- a first child starts where its parent starts
first_child_start : (whole : Tree) (n : ℕ) (t : Tree) → At (cons whole nil) n (0 ∷ place_at whole n) t (start_at whole n) → 1 < size t → start_at whole (suc n) ≡ start_at whole n
first_child_start whole n (token k x) a long = absurd (omega arith)
first_child_start whole n (node k nil) a long = absurd (omega arith)
first_child_start whole n (node k (cons u r)) a long =
    let child : At (cons whole nil) (suc n) ((0 ∷ place_at whole n) ++ 0 ∷ []) u (start_at whole n) = lift a (here {u = u} {r = r}) (omega arith) (omega arith) in
    omega (arith, start-At child, ap (start whole) (place_from_At child))

-- the children of the tree at a row
pub record Below (tree : Tree) (row e b : ℕ) : Type 0 where
  pub is : trees_at tree (row + 1) e ≡ forest_of_children (tree_at tree row)
  pub is_trees : IsTrees tree (row + 1) e b

no_trees : (tree : Tree) (m e b : ℕ) → e ≡ m → e ≤ size tree → IsTrees tree m e b
no_trees tree m e b q fits = record { ordered = omega (arith, q); within = fits; all_of_it = λ x. absurd (omega (arith, q, x)); starts = λ x. absurd (omega (arith, q, x)) }

abbrev Children : Tree → ℕ → ℕ → ℕ → Tree → Type 0
Children tree m e b t = (trees_at tree m e ≡ forest_of_children t) × IsTrees tree m e b

children_below : (tree : Tree) (row e b : ℕ) → row < size tree → e ≡ (row_at tree row).end → b ≡ start_at tree row → Children tree (row + 1) e b (tree_at tree row)
children_below tree row e b h is_row_end is_b =
    let is_e : e ≡ row + size (tree_at tree row) = is_row_end ∙ end_of_row tree row h in
    let there = standing tree row h in
    let fits : e ≤ size tree = omega (arith, is_row_end, row_end_fits tree row h) in
    let m_is : row + 1 ≡ suc row = omega arith in
    let starts : 1 < size (tree_at tree row) → b ≡ start_at tree (row + 1) = λ long. is_b ∙ sym (first_child_start tree row (tree_at tree row) (at_row tree row h) long) ∙ ap (start_at tree) (sym m_is) in
    elim (tree_at tree row) as (λ t. forest_at (cons tree nil) row ≡ cons t there.0 → e ≡ row + size t → (1 < size t → b ≡ start_at tree (row + 1)) → Children tree (row + 1) e b t) [
      | token k s ↦ λ at is _. (none_left tree (row + 1) e (omega (arith, is)), no_trees tree (row + 1) e b (omega (arith, is)) fits)
      | node k c ↦ λ at is begins. elim c as (λ c. forest_at (cons tree nil) row ≡ cons (node k c) there.0 → e ≡ row + suc (forest_size c) → (1 < suc (forest_size c) → b ≡ start_at tree (row + 1)) → Children tree (row + 1) e b (node k c)) [
        | nil ↦ λ at is _. (none_left tree (row + 1) e (omega (arith, is)), no_trees tree (row + 1) e b (omega (arith, is)) fits)
        | cons u r ↦ λ at is begins.
            let less : row + 1 < e = omega (arith, is, forest_size-cons u r, some_row u) in
            let next : forest_at (cons tree nil) (row + 1) ≡ cons u r = ap (forest_at (cons tree nil)) m_is ∙ below_first (cons tree nil) row k u r there.0 at in (
              some_left tree (row + 1) e less ∙ next,
              record { ordered = omega (arith, less); within = fits; all_of_it = λ q. omega (arith, ap forest_size next, is); starts = λ q. begins (omega (arith, forest_size-cons u r, some_row u)) },
            )
      ] at is begins
    ] there.1 is_e starts

pub trees_below : (tree : Tree) (row e b : ℕ) → row < size tree → e ≡ (row_at tree row).end → b ≡ start_at tree row → Below tree row e b
trees_below tree row e b h is_e is_b = let w = children_below tree row e b h is_e is_b in record { is = w.0; is_trees = w.1 }

-- what the calls see of the siblings that are left
pub first_seen : (now : Siblings) (tree : Tree) (row end b : ℕ) → (let s : Siblings = record { trees = trees_at tree row end; start = b } in s) ≡ now → IsTrees tree row end b → row < end → tree_at tree row ≡ first_of now.trees
first_seen now tree row end b view w h = first_is tree row end b w h ∙ ap (λ s. first_of s.trees) view

pub rest_seen : (now : Siblings) (tree : Tree) (row end b e d : ℕ) → (let s : Siblings = record { trees = trees_at tree row end; start = b } in s) ≡ now → IsTrees tree row end b → row < end
    → e ≡ (row_at tree row).end → d ≡ end_at tree row → (let s : Siblings = record { trees = trees_at tree e end; start = d } in s) ≡ behind_first now
rest_seen now tree row end b e d view w h is_e is_d =
    let starts : d ≡ b + length (text (first_of (trees_at tree row end))) = omega (arith, is_d, w.starts h, ap (λ t. length (text t)) (first_is tree row end b w h)) in
    cong₂ (λ f x. record { trees = f; start = x }) (later tree row end b e d w h is_e is_d).is starts ∙ ap behind_first view

pub inside_seen : (now : Siblings) (tree : Tree) (row end b : ℕ) → (let s : Siblings = record { trees = trees_at tree row end; start = b } in s) ≡ now → IsTrees tree row end b → row < end
    → (let s : Siblings = record { trees = forest_of_children (tree_at tree row); start = start_at tree row } in s) ≡ inside_first now
inside_seen now tree row end b view w h =
    cong₂ (λ f x. record { trees = f; start = x }) (ap forest_of_children (first_is tree row end b w h)) (sym (w.starts h)) ∙ ap inside_first view

pub done_seen : (tree : Tree) (row end b : ℕ) → IsTrees tree row end b → leb end row ≡ is_done (trees_at tree row end)
done_seen tree row end b w =
    elim (below_or_after row end) [
      | inl h ↦ not_done end row h ∙ sym (ap is_done (first tree row end b w h).is)
      | inr past ↦ done end row (omega (arith, past.1)) ∙ sym (ap is_done (none_left tree row end (omega (arith, past.1))))
    ]
  where
    not_done : (m n : ℕ) → n < m → leb m n ≡ false
    not_done m n h = grind arith

    done : (m n : ℕ) → m ≤ n → leb m n ≡ true
    done m n h = grind arith

-- a child after the first, counted from there
pub child_at_rest : (f : Forest) (n : ℕ) → is_done f ≡ false → child_at (rest_of f) n ≡ child_at f (suc n)
child_at_rest nil n e = (let no : true ≡ false = e in cc)
child_at_rest (cons t r) n e = refl
