-- Globs as pieces, and how they are written. (gitignore(5), "PATTERN FORMAT".) 42 is `*`, 47 `/`,
-- 63 `?`, 91 `[`, 92 a backslash.
use Rattle.std.specs.Prelude.{◌≡◌, ℕ, ◌==◌, ◌+◌, ◌-◌, ◌<◌, Bool, true, false, not, ◌&&◌, ◌||◌, nat_lt, if◌then◌else◌, List, [], ◌∷◌, length, drop, slice_index, Option, Some, None}
use Rattle.gitignore.specs.declared.class.Class.{Class}
use Rattle.gitignore.specs.declared.piece.Piece.{Piece}
use Rattle.gitignore.specs.declared.piece.Piece.TheVariants.{Byte, Any, OneOf, Star, Folders, Rest}
use Rattle.gitignore.specs.Classes.{class_has, ClassAt}

-- a piece for a single byte takes this one
abbrev pub takes : Piece → ℕ → Bool
takes (Byte own) b = own == b
takes Any b = not (b == 47)
takes (OneOf c) b = class_has c b
takes Star b = false
takes Folders b = false
takes Rest b = false

-- how many stars a text begins with
abbrev pub stars : List ℕ → ℕ
stars [] = 0
stars (b ∷ bs) = if b == 42 then stars bs + 1 else 0

abbrev pub is_slash : List ℕ → Bool
is_slash [] = false
is_slash (b ∷ bs) = b == 47

abbrev pub is_escaped_slash : List ℕ → Bool
is_escaped_slash [] = false
is_escaped_slash (b ∷ bs) = (b == 92) && is_slash bs

abbrev pub is_nothing : List ℕ → Bool
is_nothing [] = true
is_nothing (b ∷ bs) = false

-- the piece of some stars before a text: two and more, at the start of a glob or behind a slash,
-- stand for folders or for the rest
abbrev pub piece_of_stars : Bool → ℕ → List ℕ → Piece × ℕ
piece_of_stars is_start n behind =
    if not is_start || nat_lt n 2 then (Star, n)
    else (if is_slash behind then (Folders, n + 1)
    else (if is_nothing behind || is_escaped_slash behind then (Rest, n) else (Star, n)))

abbrev pub stars_at : Bool → List ℕ → Piece × ℕ
stars_at is_start bs = piece_of_stars is_start (stars bs) (drop (stars bs) bs)

abbrev pub escaped_at : List ℕ → Option (Piece × ℕ)
escaped_at [] = None
escaped_at (b ∷ bs) = Some (Byte b, 2)

-- the piece of a class
abbrev pub OneOfAt : List ℕ → Option (Piece × ℕ) → Type 0
OneOfAt bs None = ClassAt bs None
OneOfAt bs (Some r) = (c : Class) × (r.0 ≡ OneOf c) × ClassAt bs (Some (c, r.1))

-- the piece at a byte, which others are behind, and how many bytes it has
pub record BeginsPiece (is_start : Bool) (b : ℕ) (bs : List ℕ) (r : Option (Piece × ℕ)) : Type 0 where
  pub stars : b ≡ 42 → r ≡ Some (stars_at is_start (b ∷ bs))
  pub any : b ≡ 63 → r ≡ Some (Any, 1)
  pub escaped : b ≡ 92 → r ≡ escaped_at bs
  pub class : b ≡ 91 → OneOfAt bs r
  pub other : (b ≡ 42 → ⊥) → (b ≡ 63 → ⊥) → (b ≡ 92 → ⊥) → (b ≡ 91 → ⊥) → r ≡ Some (Byte b, 1)

abbrev pub PieceAt : Bool → List ℕ → Option (Piece × ℕ) → Type 0
PieceAt is_start [] r = r ≡ None
PieceAt is_start (b ∷ bs) r = BeginsPiece is_start b bs r

-- the last of the first n bytes is a slash
abbrev pub is_behind_slash : ℕ → List ℕ → Bool
is_behind_slash n bs = slice_index bs (n - 1) == 47

-- these pieces are read one after the other; then this rest is left, which is at a start or not
abbrev pub PiecesAt : Bool → List ℕ → List Piece → Bool → List ℕ → Type 0
PiecesAt is_start bs [] starts rest = (is_start ≡ starts) × (bs ≡ rest)
PiecesAt is_start bs (p ∷ ps) starts rest =
    (n : ℕ) × (0 < length bs) × PieceAt is_start bs (Some (p, n)) × PiecesAt (is_behind_slash n bs) (drop n bs) ps starts rest

-- the pieces of a glob up to its end; none if one of them has no end
abbrev pub IsGlobOf : List ℕ → Option (List Piece) → Type 0
IsGlobOf bs (Some ps) = (starts : Bool) × PiecesAt true bs ps starts []
IsGlobOf bs None =
    (ps : List Piece) × (starts : Bool) × (rest : List ℕ) × PiecesAt true bs ps starts rest × (0 < length rest) × PieceAt starts rest None
