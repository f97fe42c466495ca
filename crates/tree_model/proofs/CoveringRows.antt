-- What covers a range, by rows.
use Rattle.std.proofs.Common.{◌≡◌, ℕ, zero, suc, ◌+◌, ◌<◌, ◌≤◌, ◌∷◌, ◌++◌, length, List, refl, ap, ◌∙◌, arith, append-nil, []}
use Rattle.std.specs.Prelude.{None}
use Rattle.text_size.specs.TextRange.{Bounds}
use Rattle.tree_model.specs.Tree.{Tree, Forest, nil, cons, size, forest_of_children, child_at, child_count, bytes_before}
use Rattle.tree_model.specs.Rows.{tree_at, start_at, end_at, place_at}
use Rattle.tree_model.specs.Cursor.{cursor_at, at_place}
use Rattle.tree_model.specs.Covering.{child_ranges, child_towards, covering_of}
use Rattle.tree_model.proofs.At.{At, here, below, after, no_empty_place}
use Rattle.tree_model.proofs.CoveringPlaces.{place_stays, length-child_ranges}

-- ---- children by rows

abbrev pub children_at : Tree → ℕ → Forest
children_at whole n = forest_of_children (tree_at whole n)

pub child_in : (c : Forest) (j : ℕ) → j < child_count c → (m : ℕ) × At c m (j ∷ []) (child_at c j) (bytes_before c j)
child_in nil j h = absurd (omega arith)
child_in (cons t r) zero h = (0, here)
child_in (cons t r) (suc j) h = let w = child_in r j (omega (arith, h)) in (size t + w.0, after refl refl w.1)

pub top_order : {f : Forest} {n m i j : ℕ} {t u : Tree} {b d : ℕ} → At f n (j ∷ []) t b → At f m (i ∷ []) u d → j < i → n + size t ≤ m
top_order here here h = absurd (omega arith)
top_order (here {u}) (after is_m is_d a) h = omega (arith, is_m)
top_order here (below a) h = absurd (no_empty_place a)
top_order (below a) other h = absurd (no_empty_place a)
top_order (after is_m is_d a) here h = absurd (omega arith)
top_order (after is_m is_d a) (below b) h = absurd (no_empty_place b)
top_order (after is_m is_d a) (after e e' b) h = omega (arith, is_m, e, top_order a b (omega (arith, h)))

abbrev pub ranges_at : Tree → ℕ → List Bounds
ranges_at whole n = child_ranges (children_at whole n) (start_at whole n)

abbrev pub range_at : Tree → ℕ → Bounds
range_at whole v = record { start = start_at whole v; end = end_at whole v }

pub counted : (whole : Tree) (n j : ℕ) → j < length (ranges_at whole n) → j < child_count (children_at whole n)
counted whole n j h = omega (arith, h, length-child_ranges (children_at whole n) (start_at whole n))

-- ---- steps

pub stays : (whole : Tree) (n : ℕ) (asked : Bounds) → child_towards asked (ranges_at whole n) ≡ None → covering_of (cursor_at whole n) asked ≡ cursor_at whole n
stays whole n asked e = ap (at_place (cursor_at whole n)) (ap (λ p. place_at whole n ++ p) (place_stays asked (tree_at whole n) (start_at whole n) e) ∙ append-nil (place_at whole n))

-- ---- children, once more

pub At-counted : {f : Forest} {n i : ℕ} {t : Tree} {b : ℕ} → At f n (i ∷ []) t b → i < child_count f
At-counted here = omega arith
At-counted (below a) = absurd (no_empty_place a)
At-counted (after is_m is_d a) = omega (arith, At-counted a)

-- ---- up from a row that holds the range
