-- A run comes only once to a sealed call with so many events before it.
use Rattle.std.proofs.Common.{◌≡◌, ℕ, suc, ◌+◌, ◌-◌, ◌<◌, ◌≤◌, ◌^◌, Bool, true, false, nat_lt, List, ◌++◌, length, refl, ap, ◌∙◌, subst, sym, arith}
use Rattle.std.specs.Prelude.{Some, reverse}
use Rattle.std.proofs.lemmas.Bool.Decides.{nat_tests}
use Rattle.std.proofs.lemmas.List.{length-append, length-map, length-reverse}
use Rattle.syntax_kind.specs.declared.syntax_kind.SyntaxKind.{SyntaxKind}
use Rattle.grammar_machine.specs.declared.event.Event.{Event}
use Rattle.grammar_machine.specs.declared.grammar.Sight.{Sight}
use Rattle.grammar_machine.specs.declared.grammar.Op.TheVariants as op
use Rattle.grammar_machine.specs.Exchanging.{Makes}
use Rattle.grammar_machine.specs.Framing.{moved_event, moved_events}
use Rattle.grammar_machine.specs.Running.{Tables, State, with_place, past_of, sealed_on, step_of, runs, begin_of}
use Rattle.grammar_machine.specs.Sealing.{SealedCall, returned}
use Rattle.grammar_machine.proofs.Growing.{Grows, runs-grow}
use Rattle.grammar_machine.proofs.Running.{runs-suc, runs-add, step-obeys}
use Rattle.document_laws.proofs.Opening.{SomeAt, some_at}

-- a call makes an event at once
makes_one : (g : Tables) (ts : List Sight) (k : SyntaxKind) (s : State) → SealedCall g ts k s → length (step_of g ts s).made.events ≡ suc (length s.made.events)
makes_one g ts k s c =
    let t : SomeAt ts s.place.at = some_at ts s.place.at c.token in
    let one : step_of g ts s ≡ sealed_on g c.target k (Some t.sight) (with_place past_of s) =
    step-obeys g ts s (op.Sealed c.target k) c.found c.left ∙ ap (λ o. sealed_on g c.target k o (with_place past_of s)) t.there in
    ap (λ (z : State). length z.made.events) one

-- from one state of a run to a later one
later : (m n : ℕ) (g : Tables) (ts : List Sight) (y : State) → n ≤ m → length ts + 3 < 2 ^ 64 → Grows (runs n g ts y) (runs m g ts y)
later m n g ts y h short =
    let is : runs m g ts y ≡ runs (m - n) g ts (runs n g ts y) = ap (λ i. runs i g ts y) (let e : m ≡ (m - n) + n = omega (arith, h) in e) ∙ runs-add (m - n) n g ts y in
    subst (λ (t : State). Grows (runs n g ts y) t) (sym is) (runs-grow (m - n) g ts (runs n g ts y) short)

abbrev at : Tables → List Sight → ℕ → ℕ → State
at g ts rule n = runs n g ts (begin_of rule)

more_behind : (g : Tables) (ts : List Sight) (rule m n : ℕ) (k : SyntaxKind) → length ts + 3 < 2 ^ 64 → SealedCall g ts k (at g ts rule m) → m < n → length (at g ts rule m).made.events < length (at g ts rule n).made.events
more_behind g ts rule m n k short c h =
    let one : length (at g ts rule (suc m)).made.events ≡ suc (length (at g ts rule m).made.events) =
    ap (λ (z : State). length z.made.events) (runs-suc m g ts (begin_of rule)) ∙ makes_one g ts k (at g ts rule m) c in
    let on : length (at g ts rule (suc m)).made.events ≤ length (at g ts rule n).made.events = (later n (suc m) g ts (begin_of rule) (omega (arith, h)) short).events in
    omega (arith, one, on)

same_step : (g : Tables) (ts : List Sight) (rule m n : ℕ) (k : SyntaxKind) → length ts + 3 < 2 ^ 64 → SealedCall g ts k (at g ts rule m) → SealedCall g ts k (at g ts rule n)
    → length (at g ts rule m).made.events ≡ length (at g ts rule n).made.events → m ≡ n
same_step g ts rule m n k short c d e = by (nat_lt m n) (nat_lt n m) refl refl
  where
    by : (x y : Bool) → nat_lt m n ≡ x → nat_lt n m ≡ y → m ≡ n
    by true y p q = absurd (omega (arith, e, more_behind g ts rule m n k short c (grind (arith, nat_tests, p))))
    by false true p q = absurd (omega (arith, e, more_behind g ts rule n m k short d (grind (arith, nat_tests, q))))
    by false false p q = grind (arith, nat_tests, p, q)

-- it returns where it first returns
not_before : (g : Tables) (ts : List Sight) (k : SyntaxKind) (s : State) (c d : SealedCall g ts k s) → c.steps < d.steps → ⊥
not_before g ts k s c d h =
    let more = d.within c.steps h c.last c.comes c.is_return in
    let own = c.own in
    omega (arith, more, own)

same_steps : (g : Tables) (ts : List Sight) (k : SyntaxKind) (s : State) (c d : SealedCall g ts k s) → c.steps ≡ d.steps
same_steps g ts k s c d = by (nat_lt c.steps d.steps) (nat_lt d.steps c.steps) refl refl
  where
    by : (x y : Bool) → nat_lt c.steps d.steps ≡ x → nat_lt d.steps c.steps ≡ y → c.steps ≡ d.steps
    by true y p q = absurd (not_before g ts k s c d (grind (arith, nat_tests, p)))
    by false true p q = absurd (not_before g ts k s d c (grind (arith, nat_tests, q)))
    by false false p q = grind (arith, nat_tests, p, q)

same_return : (g : Tables) (ts : List Sight) (k : SyntaxKind) (s : State) (c d : SealedCall g ts k s) → returned c ≡ returned d
same_return g ts k s c d = ap (λ (i : ℕ). step_of g ts (runs i g ts (step_of g ts s))) (same_steps g ts k s c d)

long_made : (g : Tables) (ts : List Sight) (k : SyntaxKind) (s : State) (c : SealedCall g ts k s) (es : List Event) → Makes c es → length (returned c).made.events ≡ suc (length es + length s.made.events)
long_made g ts k s c es makes =
    let n : ℕ = length s.made.events in
    let one : length (returned c).made.events ≡ suc (length (moved_events n (reverse es) ++ s.made.events)) = ap (λ (z : State). length z.made.events) makes in
    omega (arith, one, length-append (moved_events n (reverse es)) s.made.events, length-map (reverse es) (moved_event n), length-reverse es)

-- two calls of one run with as many events before them make as many
pub as_many : (g : Tables) (ts : List Sight) (rule m n : ℕ) (k : SyntaxKind) (es fs : List Event) → length ts + 3 < 2 ^ 64
    → (c : SealedCall g ts k (runs m g ts (begin_of rule))) (d : SealedCall g ts k (runs n g ts (begin_of rule)))
    → length (runs m g ts (begin_of rule)).made.events ≡ length (runs n g ts (begin_of rule)).made.events → Makes c es → Makes d fs → length es ≡ length fs
as_many g ts rule m n k es fs short c d e =
    subst (λ (i : ℕ). (x : SealedCall g ts k (runs i g ts (begin_of rule))) → Makes c es → Makes x fs → length es ≡ length fs) (same_step g ts rule m n k short c d e)
    (λ x p q. omega (arith, long_made g ts k (at g ts rule m) c es p, long_made g ts k (at g ts rule m) x fs q, ap (λ (z : State). length z.made.events) (same_return g ts k (at g ts rule m) c x))) d
