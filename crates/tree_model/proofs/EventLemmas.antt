-- Where a row is entered and left in the walk.
use Rattle.std.proofs.Common.{◌≡◌, ℕ, zero, suc, ◌+◌, ◌-◌, ◌<◌, ◌≤◌, List, [], ◌∷◌, ◌++◌, length, map, get_or, refl, sym, ap, ◌∙◌, arith, append_assoc, length-append, true, false, Bool}
use Rattle.std.proofs.lemmas.List.{get_or-append-add, get_or_append_left, length-map, get_or-map, map-append}
use Rattle.syntax_kind.specs.declared.syntax_kind.SyntaxKind.{SyntaxKind}
use Rattle.tree_model.specs.Tree.{Tree, node, token, Forest, nil, cons, size, forest_size, Place, under, walk_from, walk}
use Rattle.tree_model.proofs.At.{At, here, below, after, some_row, shift, shift-suc, shift-zero, forest_size-cons, cong₂}

pub length-walk_from : (f : Forest) (i : ℕ) → length (walk_from i f) ≡ forest_size f + forest_size f
length-walk_from nil i = refl
length-walk_from (cons (token k t) r) i = omega (arith, length-walk_from r (suc i))
length-walk_from (cons (node k c) r) i =
    omega (arith, length-append (map (under i) (walk_from 0 c)) ((false, i ∷ []) ∷ walk_from (suc i) r), length-map (walk_from 0 c) (under i), length-walk_from c 0, length-walk_from r (suc i))

-- what comes before the walk of the later trees
record Front (u : Tree) (r : Forest) (i : ℕ) : Type 0 where
  part : List (Bool × Place)
  is : walk_from i (cons u r) ≡ part ++ walk_from (suc i) r
  long : length part ≡ size u + size u

front : (u : Tree) (r : Forest) (i : ℕ) → Front u r i
front (token k t) r i = record { part = (true, i ∷ []) ∷ ((false, i ∷ []) ∷ []); is = refl; long = refl }
front (node k c) r i = record {
  part = (true, i ∷ []) ∷ (map (under i) (walk_from 0 c) ++ (false, i ∷ []) ∷ []);
  is = ap (λ l. (true, i ∷ []) ∷ l) (sym (append_assoc (map (under i) (walk_from 0 c)) ((false, i ∷ []) ∷ []) (walk_from (suc i) r)));
  long = omega (arith, length-append (map (under i) (walk_from 0 c)) ((false, i ∷ []) ∷ []), length-map (walk_from 0 c) (under i), length-walk_from c 0);
}

-- row n is entered at place number k of the walk, and left at number e
pub record Visited (f : Forest) (n : ℕ) (p : Place) (t : Tree) : Type 0 where
  pub k : ℕ
  pub k_is : k + length p ≡ n + n + 1
  pub within : k + size t + size t ≤ forest_size f + forest_size f
  pub entered : (i : ℕ) (d : Bool × Place) → get_or (walk_from i f) k d ≡ (true, shift i p)
  pub left : (i : ℕ) (d : Bool × Place) → get_or (walk_from i f) (k + size t + size t - 1) d ≡ (false, shift i p)

visited_here : (u : Tree) (r : Forest) → Visited (cons u r) zero (zero ∷ []) u
visited_here (token x t) r = record {
  k = 0;
  k_is = refl;
  within = omega arith;
  entered = λ i d. ap (λ a. (true, a ∷ [])) (omega arith);
  left = λ i d. ap (λ a. (false, a ∷ [])) (omega arith);
}
visited_here (node x c) r = record {
  k = 0;
  k_is = refl;
  within = omega arith;
  entered = λ i d. ap (λ a. (true, a ∷ [])) (omega arith);
  left = λ i d.
      let e : 0 + suc (forest_size c) + suc (forest_size c) - 1 ≡ suc (length (map (under i) (walk_from 0 c)) + 0) = omega (arith, length-map (walk_from 0 c) (under i), length-walk_from c 0) in
      ap (λ j. get_or (walk_from i (cons (node x c) r)) j d) e
      ∙ get_or-append-add (map (under i) (walk_from 0 c)) ((false, i ∷ []) ∷ walk_from (suc i) r) 0 d
      ∙ ap (λ a. (false, a ∷ [])) (omega arith);
}

visited_below : (x : SyntaxKind) (c r : Forest) (n : ℕ) (p : Place) (t : Tree) → 0 < size t → Visited c n p t → Visited (cons (node x c) r) (suc n) (zero ∷ p) t
visited_below x c r n p t some v =
    let fits : v.k + size t + size t ≤ length (map (under zero) (walk_from 0 c)) = omega (arith, v.within, length-map (walk_from 0 c) (under zero), length-walk_from c 0) in
    record {
      k = suc v.k;
      k_is = omega (arith, v.k_is);
      within = omega (arith, v.within);
      entered = λ i d.
          let lt : v.k < length (map (under i) (walk_from 0 c)) = omega (arith, v.within, some, length-map (walk_from 0 c) (under i), length-walk_from c 0) in
          let lt2 : v.k < length (walk_from 0 c) = omega (arith, v.within, some, length-walk_from c 0) in
          get_or_append_left (map (under i) (walk_from 0 c)) ((false, i ∷ []) ∷ walk_from (suc i) r) d v.k lt
          ∙ get_or-map (under i) (walk_from 0 c) v.k (true, []) d lt2
          ∙ ap (under i) (v.entered 0 (true, []))
          ∙ cong₂ (λ a b. (true, a ∷ b)) (omega arith) (shift-zero p);
      left = λ i d.
          let m = v.k + size t + size t - 1 in
          let is_m : suc v.k + size t + size t - 1 ≡ suc m = omega (arith, some) in
          let lt : m < length (map (under i) (walk_from 0 c)) = omega (arith, v.within, some, length-map (walk_from 0 c) (under i), length-walk_from c 0) in
          let lt2 : m < length (walk_from 0 c) = omega (arith, v.within, some, length-walk_from c 0) in
          ap (λ j. get_or (walk_from i (cons (node x c) r)) j d) is_m
          ∙ get_or_append_left (map (under i) (walk_from 0 c)) ((false, i ∷ []) ∷ walk_from (suc i) r) d m lt
          ∙ get_or-map (under i) (walk_from 0 c) m (true, []) d lt2
          ∙ ap (under i) (v.left 0 (true, []))
          ∙ cong₂ (λ a b. (false, a ∷ b)) (omega arith) (shift-zero p);
    }

visited_after : (u : Tree) (r : Forest) (n m j : ℕ) (p : Place) (t : Tree) → 0 < size t → m ≡ size u + n → Visited r n (j ∷ p) t → Visited (cons u r) m (suc j ∷ p) t
visited_after u r n m j p t some is_m v =
    record {
      k = size u + size u + v.k;
      k_is = omega (arith, v.k_is, is_m);
      within = omega (arith, v.within, forest_size-cons u r);
      entered = λ i d. let w = front u r i in
          cong₂ (λ l x. get_or l x d) w.is (omega (arith, w.long)) ∙ get_or-append-add w.part (walk_from (suc i) r) v.k d ∙ v.entered (suc i) d ∙ ap (λ q. (true, q)) (shift-suc i j p);
      left = λ i d. let w = front u r i in
          let e : (size u + size u + v.k) + size t + size t - 1 ≡ length w.part + (v.k + size t + size t - 1) = omega (arith, some, w.long) in
          cong₂ (λ l x. get_or l x d) w.is e ∙ get_or-append-add w.part (walk_from (suc i) r) (v.k + size t + size t - 1) d ∙ v.left (suc i) d ∙ ap (λ q. (false, q)) (shift-suc i j p);
    }

pub visited : {f : Forest} {n : ℕ} {p : Place} {t : Tree} {b : ℕ} → At f n p t b → Visited f n p t
visited (here {u} {r}) = visited_here u r
visited (below {k = x} {c} {r} {n} {p} {t} a) = visited_below x c r n p t (some_row t) (visited a)
visited (after {u} {r} {n} {m} {i = j} {p} {t} is_m is_d a) = visited_after u r n m j p t (some_row t) is_m (visited a)

pub walk_from-walk : (t : Tree) → walk_from 0 (cons t nil) ≡ map (under 0) (walk t)
walk_from-walk (token x t) = refl
walk_from-walk (node x c) = ap (λ l. (true, 0 ∷ []) ∷ l) (sym (map-append (under 0) (walk_from 0 c) ((false, []) ∷ [])))

pub length-walk : (t : Tree) → length (walk t) ≡ size t + size t
length-walk t = sym (length-map (walk t) (under 0)) ∙ sym (ap length (walk_from-walk t)) ∙ length-walk_from (cons t nil) 0 ∙ omega (arith, forest_size-cons t nil)
