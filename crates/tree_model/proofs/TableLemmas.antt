-- What the rows of a table say of its tree.
use Rattle.std.proofs.Common.{◌≡◌, ℕ, ◌+◌, ◌-◌, ◌<◌, ◌≤◌, inl, inr, List, ◌∷◌, length, take, drop, sym, ap, subst, arith, length-append, []}
use Rattle.std.specs.Prelude.{◌^◌}
use Rattle.std.specs.Str.{IsCharBoundary}
use Rattle.tree_model.proofs.Texts.{next_row, forest_text-cons}
use Rattle.tree_model.specs.Tree.{Tree, nil, cons, text, size}
use Rattle.tree_model.specs.Rows.{place_at, tree_at, start_at, end_at}
use Rattle.tree_model.proofs.At.{At, find, up_of, At-fits, some_row, subtree-At, start-At, forest_size-cons}

-- row n is the place with that number
pub at_row : (whole : Tree) (n : ℕ) → n < size whole → At (cons whole nil) n (0 ∷ place_at whole n) (tree_at whole n) (start_at whole n)
at_row whole n h =
    let w = find whole n h in
    let start_is : start_at whole n ≡ w.b = omega (arith, start-At w.is_at) in
    subst (λ t. At (cons whole nil) n (0 ∷ place_at whole n) t (start_at whole n)) (sym (subtree-At w.is_at))
    (subst (λ b. At (cons whole nil) n (0 ∷ place_at whole n) w.t b) (sym start_is) w.is_at)

-- the row of the parent of row n, as the place says; the root is its own
abbrev pub up_at : (whole : Tree) (n : ℕ) → n < size whole → ℕ
up_at whole n h = up_of (at_row whole n h) 0 0

pub last_end_at : (whole : Tree) (n e : ℕ) → n < size whole → e ≡ n + size (tree_at whole n) → size whole ≤ e → length (text whole) ≡ end_at whole n
last_end_at whole n e h is_e h' =
    elim (next_row (at_row whole n h)) [
      | inl w ↦ absurd (omega (arith, is_e, h', forest_size-cons whole nil, At-fits w.is_at, some_row w.t))
      | inr done ↦ omega (arith, done.1, ap length (forest_text-cons whole nil), length-append (text whole) [])
    ]

-- where a subtree's text is in the text
pub record Cut (s : List ℕ) (whole : Tree) (n : ℕ) : Type 0 where
  pub start_in_order : start_at whole n ≤ end_at whole n
  pub end_in_text : end_at whole n ≤ length s
  pub short : length s < 2 ^ 32
  pub start_boundary : IsCharBoundary s (start_at whole n)
  pub end_boundary : IsCharBoundary s (end_at whole n)
  pub text_there : take (end_at whole n - start_at whole n) (drop (start_at whole n) s) ≡ text (tree_at whole n)

-- the piece from a to b of the text l may be cut out, and is this
pub record Piece (l : List ℕ) (a b : ℕ) (piece : List ℕ) : Type 0 where
  pub ordered : a ≤ b
  pub start_boundary : IsCharBoundary l a
  pub end_boundary : IsCharBoundary l b
  pub is : take (b - a) (drop a l) ≡ piece
