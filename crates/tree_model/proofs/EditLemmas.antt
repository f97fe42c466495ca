-- What the rows and texts of a new table show.
use Rattle.std.proofs.Common.{◌≡◌, ℕ, suc, ◌+◌, ◌-◌, ◌<◌, ◌≤◌, List, ◌∷◌, ◌++◌, length, take, drop, ap, arith, length-append, []}
use Rattle.std.specs.Prelude.{◌^◌}
use Rattle.std.specs.Str.{IsCharBoundary}
use Rattle.std.proofs.lemmas.List.{length-drop, length-take-le}
use Rattle.tree_model.specs.Tree.{Tree, Place, subtree, node, token, Forest, nil, text, size, IsNode, IsToken}
use Rattle.tree_model.specs.Rows.{place_at, tree_at, start_at, end_at}
use Rattle.tree_model.specs.Edit.{splice, replace}
use Rattle.tree_model.proofs.At.{At, here, below, after, At-fits, forest_size-cons, up_of}
use Rattle.tree_model.proofs.TableLemmas.{at_row}
use Rattle.tree_model.proofs.Texts.{forest_text-cons}
use Rattle.tree_model.proofs.Starts.{At-text}
use Rattle.tree_model.proofs.EditLaws.{spliced}
use Rattle.tree_model.proofs.PlaceLemmas.{within_at}

pub up_of-earlier : {f : Forest} {n : ℕ} {p : _} {t : Tree} {b : ℕ} (a : At f n p t b) (m u : ℕ) → u ≤ m → up_of a m u ≤ m + n
up_of-earlier here m u h = omega (arith, h)
up_of-earlier (below a) m u h = omega (arith, up_of-earlier a (suc m) m (omega arith))
up_of-earlier (after {u = v} is_m is_d a) m u h = omega (arith, up_of-earlier a (m + size v) u (omega (arith, h)), is_m)

-- a subtree's rows are among the tree's
pub within_rows : (whole : Tree) (n : ℕ) → n < size whole → n + size (tree_at whole n) ≤ size whole
within_rows whole n h = omega (arith, At-fits (at_row whole n h), forest_size-cons whole nil)

-- a subtree's text lies within the whole text
pub within_text : (whole : Tree) (n : ℕ) → n < size whole → start_at whole n + length (text (tree_at whole n)) ≤ length (text whole)
within_text whole n h = omega (arith, At-text (at_row whole n h), ap length (forest_text-cons whole nil), length-append (text whole) [])

pub length-splice : (s new : List ℕ) (a b : ℕ) → a ≤ b → b ≤ length s → length (splice s a b new) ≡ (length s - (b - a)) + length new
length-splice s new a b h k = omega (arith, length-append (take a s) (new ++ drop b s), length-append new (drop b s), length-take-le a s (omega arith), length-drop b s)

pub length-spliced : (whole : Tree) (n : ℕ) (new : List ℕ) → n < size whole
    → length (splice (text whole) (start_at whole n) (end_at whole n) new) ≡ (length (text whole) - length (text (tree_at whole n))) + length new
length-spliced whole n new h = omega (arith, length-splice (text whole) new (start_at whole n) (end_at whole n) (omega arith) (within_text whole n h), within_text whole n h)

-- a tree with a piece replaced has a node at its root, where the old piece was a token or the new
-- one is a node
pub root_after_token : (t : Tree) (p : Place) (u : Tree) → IsNode t → IsToken (subtree t p) → IsNode (replace t p u)
root_after_token (token k x) p u h j = absurd h
root_after_token (node k c) [] u h j = absurd j
root_after_token (node k c) (i ∷ p) u h j = tt

pub root_after_node : (t : Tree) (p : Place) (u : Tree) → IsNode t → IsNode u → IsNode (replace t p u)
root_after_node (token k x) p u h j = absurd h
root_after_node (node k c) [] u h j = j
root_after_node (node k c) (i ∷ p) u h j = tt

-- where the text is cut
pub record Cuts (l : List ℕ) (whole : Tree) (a e : ℕ) : Type 0 where
  pub ordered : a ≤ e
  pub within : e ≤ length l
  pub whole_text : l ≡ text whole
  pub short : length l < 2 ^ 32
  pub start_boundary : IsCharBoundary l a
  pub end_boundary : IsCharBoundary l e

pub spliced_at : (whole : Tree) (n : ℕ) (u : Tree) → n < size whole → text (replace whole (place_at whole n) u) ≡ splice (text whole) (start_at whole n) (end_at whole n) (text u)
spliced_at whole n u h = spliced whole (place_at whole n) u (within_at whole n h)
