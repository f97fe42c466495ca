-- The text of a place as a part of the whole text.
use Rattle.std.proofs.Common.{◌≡◌, ℕ, suc, ◌+◌, ◌⊎◌, inl, inr, List, [], ◌∷◌, ◌++◌, length, refl, sym, ap, ◌∙◌, arith, append_assoc, length-append}
use Rattle.std.specs.Prelude.{IsUtf8}
use Rattle.std.proofs.lemmas.Str.{IsUtf8-append, IsUtf8-nil}
use Rattle.tree_model.specs.Tree.{Tree, node, token, Forest, nil, cons, text, size, forest_text, forest_size, Place}
use Rattle.tree_model.specs.Rows.{TextsAreUtf8}
use Rattle.tree_model.proofs.At.{At, here, below, after, no_empty_place, at_moved, forest_size-cons}

pub record Split (f : Forest) (t : Tree) (b : ℕ) : Type 0 where
  pub before : List ℕ
  pub behind : List ℕ
  pub is : forest_text f ≡ before ++ (text t ++ behind)
  pub start_is : length before ≡ b
  pub utf8_before : IsUtf8 before
  pub utf8_here : IsUtf8 (text t)
  pub utf8_behind : IsUtf8 behind

pub forest_text-cons : (u : Tree) (r : Forest) → forest_text (cons u r) ≡ text u ++ forest_text r
forest_text-cons (token k x) r = refl
forest_text-cons (node k c) r = refl

pub IsUtf8-forest_text : (f : Forest) → TextsAreUtf8 f → IsUtf8 (forest_text f)
IsUtf8-forest_text nil h = IsUtf8-nil
IsUtf8-forest_text (cons (token k t) r) h = IsUtf8-append t (forest_text r) h.0 (IsUtf8-forest_text r h.1)
IsUtf8-forest_text (cons (node k c) r) h = IsUtf8-append (forest_text c) (forest_text r) (IsUtf8-forest_text c h.0) (IsUtf8-forest_text r h.1)

first_utf8 : (u : Tree) (r : Forest) → TextsAreUtf8 (cons u r) → IsUtf8 (text u)
first_utf8 (token k x) r h = h.0
first_utf8 (node k c) r h = IsUtf8-forest_text c h.0

pub later_utf8 : (u : Tree) (r : Forest) → TextsAreUtf8 (cons u r) → TextsAreUtf8 r
later_utf8 (token k x) r h = h.1
later_utf8 (node k c) r h = h.1

pub split : {f : Forest} {n : ℕ} {p : Place} {t : Tree} {b : ℕ} → At f n p t b → TextsAreUtf8 f → Split f t b
split (here {u} {r}) h = record {
  before = [];
  behind = forest_text r;
  is = forest_text-cons u r;
  start_is = refl;
  utf8_before = IsUtf8-nil;
  utf8_here = first_utf8 u r h;
  utf8_behind = IsUtf8-forest_text r (later_utf8 u r h);
}
split (below {k} {c} {r} {n} {p} {t} {b} a) h =
    let w = split a h.0 in record {
      before = w.before;
      behind = w.behind ++ forest_text r;
      is = ap (λ l. l ++ forest_text r) w.is ∙ simp append_assoc;
      start_is = w.start_is;
      utf8_before = w.utf8_before;
      utf8_here = w.utf8_here;
      utf8_behind = IsUtf8-append w.behind (forest_text r) w.utf8_behind (IsUtf8-forest_text r h.1);
    }
split (after {u} {r} {n} {m} {i} {p} {t} {b} {d} is_m is_d a) h =
    let w = split a (later_utf8 u r h) in record {
      before = text u ++ w.before;
      behind = w.behind;
      is = forest_text-cons u r ∙ ap (λ l. text u ++ l) w.is ∙ sym (append_assoc (text u) w.before (text t ++ w.behind));
      start_is = length-append (text u) w.before ∙ omega (arith, w.start_is, is_d);
      utf8_before = IsUtf8-append (text u) w.before (first_utf8 u r h) w.utf8_before;
      utf8_here = w.utf8_here;
      utf8_behind = w.utf8_behind;
    }

pub record Next (f : Forest) (n b : ℕ) : Type 0 where
  pub p : Place
  pub t : Tree
  pub is_at : At f n p t b

next_in_later : (u : Tree) (r : Forest) (n m b d : ℕ) → m ≡ size u + n → d ≡ length (text u) + b → Next r n b → Next (cons u r) m d
next_in_later u r n m b d is_m is_d w =
    elim w.p as (λ p. At r n p w.t b → Next (cons u r) m d) [
      | [] ↦ λ a. absurd (no_empty_place a)
      | i ∷ p ↦ λ a. record { p = suc i ∷ p; t = w.t; is_at = after is_m is_d a }
    ] w.is_at

-- the row after a subtree starts where the subtree ends
pub next_row : {f : Forest} {n : ℕ} {p : Place} {t : Tree} {b : ℕ} → At f n p t b → Next f (n + size t) (b + length (text t)) ⊎ ((n + size t ≡ forest_size f) × (b + length (text t) ≡ length (forest_text f)))
next_row (here {u} {r = nil}) = inr (omega (arith, forest_size-cons u nil), omega (arith, ap length (forest_text-cons u nil), length-append (text u) []))
next_row (here {u} {r = cons v r}) = inl (record { p = 1 ∷ []; t = v; is_at = after (omega arith) (omega arith) here })
next_row (below {k} {c} {r = nil} {n} {p} {t} {b} a) =
    elim (next_row a) [
      | inl w ↦ inl (record { p = 0 ∷ w.p; t = w.t; is_at = at_moved (below w.is_at) (omega arith) refl })
      | inr done ↦ inr (omega (arith, done.0), omega (arith, done.1, length-append (forest_text c) []))
    ]
next_row (below {k} {c} {r = cons v r} {n} {p} {t} {b} a) =
    elim (next_row a) [
      | inl w ↦ inl (record { p = 0 ∷ w.p; t = w.t; is_at = at_moved (below w.is_at) (omega arith) refl })
      | inr done ↦ inl (record { p = 1 ∷ []; t = v; is_at = after (omega (arith, done.0)) (omega (arith, done.1)) here })
    ]
next_row (after {u} {r} {n} {m} {i} {p} {t} {b} {d} is_m is_d a) =
    elim (next_row a) [
      | inl w ↦ inl (next_in_later u r (n + size t) (m + size t) (b + length (text t)) (d + length (text t)) (omega (arith, is_m)) (omega (arith, is_d)) w)
      | inr done ↦ inr (omega (arith, done.0, is_m, forest_size-cons u r), omega (arith, done.1, is_d, ap length (forest_text-cons u r), length-append (text u) (forest_text r)))
    ]

-- the texts of a subtree
pub subtree_utf8 : {f : Forest} {n : ℕ} {p : Place} {t : Tree} {b : ℕ} → At f n p t b → TextsAreUtf8 f → TextsAreUtf8 (cons t nil)
subtree_utf8 (here {u = token k x}) h = (h.0, tt)
subtree_utf8 (here {u = node k c}) h = (h.0, tt)
subtree_utf8 (below a) h = subtree_utf8 a h.0
subtree_utf8 (after {u} {r} is_m is_d a) h = subtree_utf8 a (later_utf8 u r h)

pub whole_utf8 : (t : Tree) → TextsAreUtf8 (cons t nil) → IsUtf8 (text t)
whole_utf8 t h = first_utf8 t nil h
