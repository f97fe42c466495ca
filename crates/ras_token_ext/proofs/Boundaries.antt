-- Where a text may be cut.
use Rattle.std.proofs.Common.{◌≡◌, ℕ, ◌+◌, ◌<◌, List, length, ap, subst, arith}
use Rattle.std.specs.Prelude.{slice_index}
use Rattle.std.specs.Str.{IsUtf8, IsCharBoundary}
use Rattle.std.proofs.lemmas.Str.{IsCharBoundary-after_ascii}

-- after an ASCII byte, of the text's bytes under another name
pub after_ascii : (text bytes : List ℕ) (i : ℕ) → bytes ≡ text → IsUtf8 text → i < length bytes → slice_index bytes i < 128 → IsCharBoundary text (i + 1)
after_ascii text bytes i e u h l = IsCharBoundary-after_ascii text i u (omega (arith, ap length e, h)) (subst (λ bs. slice_index bs i < 128) e l)
