-- Pieces that are read one after the other.
use Rattle.std.proofs.Common.{◌≡◌, ℕ, ◌<◌, ◌≤◌, Bool, true, List, [], ◌∷◌, ◌++◌, drop, length, Option, Some, IfSome, sym, ap, subst, arith}
use Rattle.gitignore.specs.declared.piece.Piece.{Piece}
use Rattle.gitignore.specs.Pieces.{PieceAt, PiecesAt, is_behind_slash}

-- one more piece
pub one_more : (is_start : Bool) (bs : List ℕ) (ps : List Piece) (starts : Bool) (rest : List ℕ) (p : Piece) (n : ℕ)
    → PiecesAt is_start bs ps starts rest → 0 < length rest → PieceAt starts rest (Some (p, n))
    → PiecesAt is_start bs (ps ++ p ∷ []) (is_behind_slash n rest) (drop n rest)
one_more is_start bs [] starts rest p n r some at = (
  n,
  subst (λ l. 0 < length l) (sym r.1) some,
  subst (λ l. PieceAt is_start l (Some (p, n))) (sym r.1) (subst (λ s. PieceAt s rest (Some (p, n))) (sym r.0) at),
  (ap (is_behind_slash n) r.1, ap (drop n) r.1),
)
one_more is_start bs (q ∷ qs) starts rest p n r some at = (r.0, r.1, r.2, one_more (is_behind_slash r.0 bs) (drop r.0 bs) qs starts rest p n r.3 some at)

-- the pieces of a whole glob
pub room : (found : Option (Piece × ℕ)) (p : Piece) (n most : ℕ) → IfSome found (λ it. (0 < it.1) × (it.1 ≤ most)) → found ≡ Some (p, n) → (0 < n) × (n ≤ most)
room found p n most h is = subst (λ r. IfSome r (λ it. (0 < it.1) × (it.1 ≤ most))) is h

pub piece_read : (glob : List ℕ) (ps new : List Piece) (is_start : Bool) (rest behind : List ℕ) (found : Option (Piece × ℕ)) (p : Piece) (n : ℕ)
    → PiecesAt true glob ps is_start rest → PieceAt is_start rest found → IfSome found (λ it. (0 < it.1) × (it.1 ≤ length rest)) → found ≡ Some (p, n)
    → new ≡ ps ++ p ∷ [] → behind ≡ drop n rest
    → PiecesAt true glob new (is_behind_slash n rest) behind
piece_read glob ps new is_start rest behind found p n before at h is pushed left =
    subst (λ l. PiecesAt true glob l (is_behind_slash n rest) behind) (sym pushed)
    (subst (λ r. PiecesAt true glob (ps ++ p ∷ []) (is_behind_slash n rest) r) (sym left)
    (one_more true glob ps is_start rest p n before
    (let fits = room found p n (length rest) h is in omega (arith, fits.0, fits.1))
    (subst (PieceAt is_start rest) is at)))
