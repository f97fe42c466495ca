-- The starts of rows: they don't decrease with the row number, and a subtree's rows lie within its
-- text.
use Rattle.std.proofs.Common.{◌≡◌, ℕ, ◌+◌, ◌<◌, ◌≤◌, length, ap, arith, length-append, true, false}
use Rattle.std.specs.Prelude.{nat_lt}
use Rattle.std.proofs.lemmas.Bool.Decides.{nat_tests}
use Rattle.tree_model.specs.Tree.{Tree, node, Forest, text, size, forest_text, Place}
use Rattle.tree_model.specs.Rows.{start_at}
use Rattle.tree_model.proofs.At.{At, here, below, after, At-fits, some_row}
use Rattle.tree_model.proofs.Texts.{forest_text-cons}
use Rattle.tree_model.proofs.TableLemmas.{at_row}

-- a subtree's text lies within the forest's
pub At-text : {f : Forest} {n : ℕ} {p : Place} {t : Tree} {b : ℕ} → At f n p t b → b + length (text t) ≤ length (forest_text f)
At-text (here {u} {r}) = omega (arith, ap length (forest_text-cons u r), length-append (text u) (forest_text r))
At-text (below {k} {c} {r} a) = omega (arith, At-text a, length-append (forest_text c) (forest_text r))
At-text (after {u} {r} is_m is_d a) = omega (arith, At-text a, is_d, ap length (forest_text-cons u r), length-append (text u) (forest_text r))

-- a later row starts no earlier
pub At-ordered : {f : Forest} {n m : ℕ} {p q : Place} {t u : Tree} {b d : ℕ} → At f n p t b → At f m q u d → n ≤ m → b ≤ d
At-ordered here a h = omega arith
At-ordered (below a) here h = absurd (omega (arith, h))
At-ordered (below a) (below a') h = At-ordered a a' (omega (arith, h))
At-ordered (below {t} a) (after is_m is_d a') h = omega (arith, is_d, At-text a)
At-ordered (after {u} is_m is_d a) here h = absurd (omega (arith, h, is_m, some_row u))
At-ordered (after is_m is_d a) (below {t} a') h = absurd (omega (arith, h, is_m, At-fits a', some_row t))
At-ordered (after is_m is_d a) (after is_m' is_d' a') h = omega (arith, is_d, is_d', At-ordered a a' (omega (arith, h, is_m, is_m')))

-- the rows of a subtree have their subtrees and their texts in it
pub At-nested : {f : Forest} {n m : ℕ} {p q : Place} {t u : Tree} {b d : ℕ} → At f n p t b → At f m q u d → n ≤ m → m < n + size t → (m + size u ≤ n + size t) × (d + length (text u) ≤ b + length (text t))
At-nested here here h lt = (omega arith, omega arith)
At-nested (here {u = node k c}) (below a) h lt = (omega (arith, At-fits a), omega (arith, At-text a))
At-nested here (after is_m is_d a) h lt = absurd (omega (arith, lt, is_m))
At-nested (below a) here h lt = absurd (omega (arith, h))
At-nested (below a) (below a') h lt = let w = At-nested a a' (omega (arith, h)) (omega (arith, lt)) in (omega (arith, w.0), w.1)
At-nested (below a) (after is_m is_d a') h lt = absurd (omega (arith, lt, is_m, At-fits a))
At-nested (after {u} is_m is_d a) here h lt = absurd (omega (arith, h, is_m, some_row u))
At-nested (after is_m is_d a) (below {t} a') h lt = absurd (omega (arith, h, is_m, At-fits a', some_row t))
At-nested (after is_m is_d a) (after is_m' is_d' a') h lt =
    let w = At-nested a a' (omega (arith, h, is_m, is_m')) (omega (arith, lt, is_m, is_m')) in (omega (arith, w.0, is_m, is_m'), omega (arith, w.1, is_d, is_d'))

pub starts_rise : (whole : Tree) (n m : ℕ) → n ≤ m → m < size whole → start_at whole n ≤ start_at whole m
starts_rise whole n m h lt = At-ordered (at_row whole n (omega arith)) (at_row whole m lt) h

-- ---- searches by halves

pub earlier_passes : (a b offset : ℕ) → a ≤ b → nat_lt b offset ≡ true → nat_lt a offset ≡ true
earlier_passes a b offset h e = grind (arith, nat_tests)

pub passes : (a offset : ℕ) → nat_lt a offset ≡ true → a < offset
passes a offset e = grind (arith, nat_tests)

pub fails : (a offset : ℕ) → nat_lt a offset ≡ false → offset ≤ a
fails a offset e = grind (arith, nat_tests)
