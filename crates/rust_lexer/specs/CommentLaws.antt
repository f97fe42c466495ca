-- Where a block comment ends, in terms of its text: a law of the definitions. Source: the Rust
-- Reference, "Comments".
use Rattle.std.specs.Prelude.{◌≡◌, ◌↔◌, ℕ, suc, ◌<◌, ◌^◌, Some, List, ◌∷◌, length, slice_get}
use Rattle.rust_lexer.specs.declared.scan.Scan.TheVariants.{Comment, Closed}
use Rattle.rust_lexer.specs.Scans.{run_of}

-- s follows the opening `/*` of a comment that is in d others, and r what closes the last of them:
-- comments nest, and a text is read from its start, so that no sign is of two marks
pub data Closes : ℕ → List ℕ → List ℕ → Type 0 where
  ends : (r : List ℕ) → Closes 0 (42 ∷ 47 ∷ r) r
  closes : (d : ℕ) (s r : List ℕ) → Closes d s r → Closes (suc d) (42 ∷ 47 ∷ s) r
  opens : (d : ℕ) (s r : List ℕ) → Closes (suc d) s r → Closes d (47 ∷ 42 ∷ s) r
  goes_on : (d b : ℕ) (s r : List ℕ) → (b ≡ 47 → slice_get s 0 ≡ Some 42 → ⊥) → (b ≡ 42 → slice_get s 0 ≡ Some 47 → ⊥) → Closes d s r → Closes d (b ∷ s) r

-- a block comment is read up to what closes it, and where nothing does it is not closed
abbrev pub BlockCommentsAreRead : Type 0
BlockCommentsAreRead = (s r : List ℕ) → length s < 2 ^ 32 → Closes 0 s r ↔ (run_of (Comment 0) s ≡ (Closed, r))
