-- The result of a call for the value of a literal.
use Rattle.std.specs.Prelude.{◌≡◌, ℕ, true, List, Result, Ok, Err, is_ok}
use Rattle.literal_escape.specs.declared.error.EscapeError.{EscapeError}
use Rattle.ras_token_ext.specs.Literals.{value_as_text}
use Rattle.ras_token_ext.specs.declared.values.ValueError.{ValueError}
use Rattle.ras_token_ext.specs.declared.values.ValueError.TheVariants.{Escape, Memory}

-- the value, whose bytes a view shows; or the fault; or out of memory, if the literal has a value
abbrev pub IsValueOf : {V : Type 0} → (V → List ℕ) → Result (List ℕ) EscapeError → Result V ValueError → Type 0
IsValueOf bytes value (Ok v) = value ≡ Ok (bytes v)
IsValueOf bytes value (Err (Escape e)) = value ≡ Err e
IsValueOf bytes value (Err Memory) = is_ok value ≡ true

-- if there is a value, it is borrowed, and memory does not run out
abbrev pub TakesNoMemory : {V : Type 0} → (V → Type 0) → Result V ValueError → Type 0
TakesNoMemory borrowed (Ok v) = borrowed v
TakesNoMemory borrowed (Err (Escape e)) = Unit {0}
TakesNoMemory borrowed (Err Memory) = ⊥

-- the value as a text, or the fault; or out of memory, if the bytes have a value, whether it is a
-- text or not
abbrev pub IsTextOf : {V : Type 0} → (V → List ℕ) → Result (List ℕ) EscapeError → Result V ValueError → Type 0
IsTextOf bytes value (Ok v) = value_as_text value ≡ Ok (bytes v)
IsTextOf bytes value (Err (Escape e)) = value_as_text value ≡ Err e
IsTextOf bytes value (Err Memory) = is_ok value ≡ true
