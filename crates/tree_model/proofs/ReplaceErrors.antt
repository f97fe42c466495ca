-- Which error a replacement gives.
use Rattle.std.proofs.Common.{◌≡◌, ℕ, ◌<◌, ◌≤◌, inl, inr, refl, arith}
use Rattle.std.specs.Prelude.{◌^◌, ◌↔◌, IsErrAnd, IsErrOf, Result, Ok, Err}
use Rattle.tree_model.specs.declared.error.ReplaceError.{ReplaceError}
use Rattle.tree_model.specs.declared.error.ReplaceError.TheVariants.{TooLong, Memory}
use Rattle.tree_model.proofs.At.{below_or_after}

-- `TooLong` exactly where the text is too long
abbrev pub TooLongExactly : {T : Type 0} → Result T ReplaceError → ℕ → Type 0
TooLongExactly r n = IsErrOf r TooLong ↔ (2 ^ 32 ≤ n)

not_too_long : {T : Type 0} (e : ReplaceError) → (let r : Result T ReplaceError = Err e in r) ≡ Err TooLong → e ≡ Memory → ⊥
not_too_long e bad is = cc

pub memory_exactly : {T : Type 0} (r : Result T ReplaceError) (n : ℕ) → IsErrAnd r (λ e. e ≡ Memory) → n < 2 ^ 32 → TooLongExactly r n
memory_exactly (Ok x) n h short = absurd h
memory_exactly {T} (Err e) n h short = ((λ bad. absurd (not_too_long {T = T} e bad h)), (λ long. absurd (omega arith)))

was_too_long : {T U : Type 0} (r : Result T ReplaceError) (e d : ReplaceError) → (let s : Result U ReplaceError = Err d in s) ≡ Err TooLong → d ≡ e → r ≡ Err e → r ≡ Err TooLong
was_too_long r e d bad h is = cc

is_too_long : {T U : Type 0} (r : Result T ReplaceError) (e d : ReplaceError) → r ≡ Err e → d ≡ e → r ≡ Err TooLong → (let s : Result U ReplaceError = Err d in s) ≡ Err TooLong
is_too_long r e d is h too = cc

-- the error of a call is handed on
pub handed_on : {T U : Type 0} (r : Result T ReplaceError) (e : ReplaceError) (s : Result U ReplaceError) (n m : ℕ) → r ≡ Err e → IsErrAnd s (λ d. d ≡ e) → m ≡ n → TooLongExactly r n → TooLongExactly s m
handed_on r e (Ok x) n m is h same w = absurd h
handed_on {T} {U} r e (Err d) n m is h same w =
    ((λ bad. omega (arith, same, w.0 (was_too_long {T = T} {U = U} r e d bad h is))), (λ long. is_too_long {T = T} {U = U} r e d is h (w.1 (omega (arith, same)))))

ok_or_error : {T : Type 0} (r : Result T ReplaceError) (x : T) → r ≡ Ok x → r ≡ Err TooLong → ⊥
ok_or_error r x is bad = cc

-- an answer says that the text is short
pub answered : {T : Type 0} (r : Result T ReplaceError) (x : T) (n m : ℕ) → r ≡ Ok x → m ≡ n → TooLongExactly r n → m < 2 ^ 32
answered r x n m is same w =
    elim (below_or_after m (2 ^ 32)) [ inl lt ↦ lt | inr more ↦ absurd (ok_or_error r x is (w.1 (omega (arith, more.1, same)))) ]

pub ok_exactly : {T : Type 0} (x : T) (n : ℕ) → n < 2 ^ 32 → TooLongExactly (let s : Result T ReplaceError = Ok x in s) n
ok_exactly x n short = ((λ bad. absurd (ok_or_error (Ok x) x refl bad)), (λ long. absurd (omega arith)))
