-- A run ends within its fuel.
use Rattle.std.proofs.Common.{◌≡◌, ℕ, zero, suc, ◌+◌, ◌<◌, ◌≤◌, ◌^◌, ◌⊎◌, inl, inr, Bool, true, false, nat_lt, List, length, ap, ◌∙◌, sym, refl, arith}
use Rattle.std.specs.Prelude.{Option, Some, None, slice_get}
use Rattle.std.proofs.lemmas.Bool.Decides.{nat_tests}
use Rattle.grammar_machine.specs.declared.grammar.Sight.{Sight}
use Rattle.grammar_machine.specs.declared.grammar.Op.{Op}
use Rattle.grammar_machine.specs.Running.{Tables, State, step_of, runs, begin_of, fuel_of}
use Rattle.grammar_machine.specs.Ended.{RunsEnd}
use Rattle.grammar_machine.proofs.Running.{step-obeys, step-none, step-spent, runs-none, runs-suc, runs-done}
use Rattle.grammar_machine.proofs.Potential.{potential, obey-spends}

-- a run that changes nothing any more
record Stopped (n : ℕ) (g : Tables) (ts : List Sight) (s : State) : Type 0 where
  at : ℕ
  before : at ≤ n
  still : step_of g ts (runs at g ts s) ≡ runs at g ts s

abbrev Left : ℕ → Tables → ℕ → List Sight → Type 0
Left n g rule ts = n + potential ts (runs n g ts (begin_of rule)) ≤ fuel_of (length ts)

further : (n : ℕ) (g : Tables) (rule : ℕ) (ts : List Sight) → length ts + 3 < 2 ^ 64 → Left n g rule ts → Stopped (suc n) g ts (begin_of rule) ⊎ Left (suc n) g rule ts
further n g rule ts short left = by_op (slice_get g.ops (runs n g ts (begin_of rule)).place.next) refl
  where
    by_credit : (o : Op) → slice_get g.ops (runs n g ts (begin_of rule)).place.next ≡ Some o → (x : Bool) → nat_lt 0 (runs n g ts (begin_of rule)).place.credit ≡ x → Stopped (suc n) g ts (begin_of rule) ⊎ Left (suc n) g rule ts
    by_credit o e true some =
        let s = runs n g ts (begin_of rule) in
        let credit : 0 < s.place.credit = grind (arith, nat_tests, some) in
        let spends = obey-spends g ts o s short credit in
        let next = runs-suc n g ts (begin_of rule) ∙ step-obeys g ts s o e credit in
        let same = ap (potential ts) next in
        inr (omega (arith, left, spends, same))
    by_credit o e false none =
        let s = runs n g ts (begin_of rule) in
        let credit : s.place.credit ≡ 0 = grind (arith, nat_tests, none) in
        inl (record { at = n; before = omega arith; still = step-spent g ts s credit })

    by_op : (o : Option Op) → slice_get g.ops (runs n g ts (begin_of rule)).place.next ≡ o → Stopped (suc n) g ts (begin_of rule) ⊎ Left (suc n) g rule ts
    by_op None e = inl (record { at = n; before = omega arith; still = step-none g ts (runs n g ts (begin_of rule)) e })
    by_op (Some o) e = by_credit o e (nat_lt 0 (runs n g ts (begin_of rule)).place.credit) refl

goes_on : (n : ℕ) (g : Tables) (rule : ℕ) (ts : List Sight) → length ts + 3 < 2 ^ 64 → Stopped n g ts (begin_of rule) ⊎ Left n g rule ts → Stopped (suc n) g ts (begin_of rule) ⊎ Left (suc n) g rule ts
goes_on n g rule ts short (inl h) = inl (record { at = h.at; before = (let b = h.before in omega (arith, b)); still = h.still })
goes_on n g rule ts short (inr left) = further n g rule ts short left

either : (n : ℕ) (g : Tables) (rule : ℕ) (ts : List Sight) → length ts + 3 < 2 ^ 64 → Stopped n g ts (begin_of rule) ⊎ Left n g rule ts
either zero g rule ts short =
    let first = ap (potential ts) (runs-none g ts (begin_of rule)) in
    let start : potential ts (begin_of rule) ≤ fuel_of (length ts) = omega arith in
    inr (omega (arith, first, start))
either (suc n) g rule ts short = goes_on n g rule ts short (either n g rule ts short)

ended : (m : ℕ) (g : Tables) (rule : ℕ) (ts : List Sight) → m ≡ fuel_of (length ts) → Stopped m g ts (begin_of rule) ⊎ Left m g rule ts → Stopped m g ts (begin_of rule)
ended m g rule ts e (inl h) = h
ended m g rule ts e (inr left) =
    let s = runs m g ts (begin_of rule) in
    let none : s.place.credit ≡ 0 = omega (arith, left, e) in
    record { at = m; before = omega arith; still = step-spent g ts s none }

pub runs-end : RunsEnd
runs-end n g rule ts short most =
    let fuel = fuel_of (length ts) in
    let stop = ended fuel g rule ts refl (either fuel g rule ts short) in
    let before = stop.before in
    runs-done n stop.at g ts (begin_of rule) (omega (arith, before, most)) stop.still
    ∙ sym (runs-done fuel stop.at g ts (begin_of rule) before stop.still)
