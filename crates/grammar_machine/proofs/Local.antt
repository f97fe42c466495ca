-- A run up to a brace does not depend on what is behind the brace.
use Rattle.std.proofs.Common.{◌≡◌, ℕ, zero, suc, ◌<◌, ◌≤◌, ◌+◌, ◌-◌, ◌^◌, List, length, ap, ap₂, ◌∙◌, sym, refl, arith, Bool, true, false, not, ◌&&◌, ◌||◌, nat_lt, nat_le, nat_eq, if◌then◌else◌, mod-eq_of_lt, subst}
use Rattle.std.specs.Prelude.{Option, Some, None, slice_get}
use Rattle.std.proofs.lemmas.Bool.{leb-false}
use Rattle.std.proofs.lemmas.Bool.Decides.{nat_tests}
use Rattle.grammar_machine.specs.declared.grammar.Sight.{Sight}
use Rattle.grammar_machine.specs.declared.grammar.View.{View}
use Rattle.grammar_machine.specs.declared.grammar.View.TheVariants.{One, Two, Three, Word}
use Rattle.grammar_machine.specs.declared.grammar.Test.{Test}
use Rattle.grammar_machine.specs.declared.grammar.Test.TheVariants as test
use Rattle.grammar_machine.specs.declared.grammar.Op.{Op}
use Rattle.grammar_machine.specs.declared.grammar.Op.TheVariants as op
use Rattle.grammar_machine.specs.declared.event.Event.TheVariants as event
use Rattle.grammar_machine.specs.declared.machine.Place.{Place}
use Rattle.grammar_machine.specs.Running.{Tables, State, seen_of, seen_at_of, further_of, has_of, is_brace_of, hides_of, sees_of, target_of, holds_of, goto_of, goto_if_of, bind_of, power_of, is_some, with_place, past_of, take_on, piece_on, sealed_on, make_of, start_of, with_made, obey_of, step_on, step_of, runs}
use Rattle.grammar_machine.specs.Locality.{Agree, IsBraceAt, RunsAreLocal}
use Rattle.grammar_machine.proofs.Running.{step-at, runs-none, runs-suc}
use Rattle.grammar_machine.proofs.Hiding.{hides-none, hides-suc, hides-behind}
use Rattle.grammar_machine.proofs.Growing.{step-grows}

-- two lists of tokens that are the same up to a brace
record Alike (p : ℕ) (g : Tables) (ts us : List Sight) : Type 0 where
  same : Agree (p + 1) ts us
  brace : IsBraceAt g ts p
  short : p + 1 < 2 ^ 64

here-same : (p at : ℕ) (ts us : List Sight) → Agree (p + 1) ts us → at ≤ p → slice_get ts at ≡ slice_get us at
here-same p at ts us same h = same at (omega (arith, h))

and-same : (b x y : Bool) → (b ≡ true → x ≡ y) → (b && x) ≡ (b && y)
and-same true x y h = h refl
and-same false x y h = refl

before-same : (p at : ℕ) (ts us : List Sight) → Agree (p + 1) ts us → at ≤ p → nat_lt 0 at ≡ true → slice_get ts (at - 1) ≡ slice_get us (at - 1)
before-same p at ts us same h e =
    let some : 0 < at = grind (arith, nat_tests, e) in
    same (at - 1) (omega (arith, some, h))

-- ---- a look ahead

ahead-same : (p at n : ℕ) (g : Tables) (ts us : List Sight) → Alike p g ts us → at + n ≤ p → slice_get ts (further_of at n) ≡ slice_get us (further_of at n)
ahead-same p at n g ts us a h =
    let short = a.short in
    let fits : at + n < 2 ^ 64 = omega (arith, h, short) in
    let is : further_of at n ≡ at + n = mod-eq_of_lt fits in
    here-same p (further_of at n) ts us a.same (subst (λ k. k ≤ p) (sym is) h)

hides-same : (p at n : ℕ) (g : Tables) (ts us : List Sight) → Alike p g ts us → at + n ≤ p → hides_of g ts at n ≡ hides_of g us at n
hides-same p at zero g ts us a h = hides-none g ts at ∙ sym (hides-none g us at)
hides-same p at (suc n) g ts us a h =
    hides-suc g ts at n
    ∙ ap₂ (λ x o. x || is_brace_of g (seen_of One o)) (hides-same p at n g ts us a (omega (arith, h))) (ahead-same p at n g ts us a (omega (arith, h)))
    ∙ sym (hides-suc g us at n)

-- over the brace nothing is seen
hidden : (p at n : ℕ) (g : Tables) (ts : List Sight) → IsBraceAt g ts p → p + 1 < 2 ^ 64 → at ≤ p → p < at + n → hides_of g ts at n ≡ true
hidden p at n g ts brace short h over =
    let fits : at + (p - at) < 2 ^ 64 = omega (arith, h, short) in
    let is : at + (p - at) ≡ p = omega (arith, h) in
    hides-behind g ts at n (p - at) (omega (arith, h, over)) (ap (λ k. is_brace_of g (seen_at_of ts One k)) (mod-eq_of_lt fits ∙ is) ∙ brace)

brace-same : (p : ℕ) (g : Tables) (ts us : List Sight) → Alike p g ts us → IsBraceAt g us p
brace-same p g ts us a = ap (λ o. is_brace_of g (seen_of One o)) (sym (here-same p p ts us a.same (omega arith))) ∙ a.brace

nothing : (x y : Bool) (m n : ℕ) → x ≡ true → y ≡ true → (if x then 0 else m) ≡ (if y then 0 else n)
nothing true true m n e f = refl
nothing true false m n e f = (let bad : false ≡ true = f in cc)
nothing false y m n e f = (let bad : false ≡ true = e in cc)

sees-same : (p : ℕ) (v : View) (n : ℕ) (g : Tables) (ts us : List Sight) (q : Place) → Alike p g ts us → q.at ≤ p → sees_of g ts v n q ≡ sees_of g us v n q
sees-same p v n g ts us q a h = by_test (nat_le (q.at + n) p) refl
  where
    by_test : (b : Bool) → nat_le (q.at + n) p ≡ b → sees_of g ts v n q ≡ sees_of g us v n q
    by_test true e =
        let near : q.at + n ≤ p = grind (arith, nat_tests, e) in
        ap₂ (λ x o. if x then 0 else seen_of v o) (hides-same p q.at n g ts us a near) (ahead-same p q.at n g ts us a near)
    by_test false e =
        let over : p < q.at + n = leb-false (q.at + n) p e in
        nothing (hides_of g ts q.at n) (hides_of g us q.at n) (seen_at_of ts v (further_of q.at n)) (seen_at_of us v (further_of q.at n))
        (hidden p q.at n g ts a.brace a.short h over) (hidden p q.at n g us (brace-same p g ts us a) a.short h over)

holds-same : (p : ℕ) (g : Tables) (ts us : List Sight) (t : Test) (q : Place) → Alike p g ts us → q.at ≤ p → holds_of g ts t q ≡ holds_of g us t q
holds-same p g ts us (test.Sees v n k) q a h = ap (λ x. nat_eq x k) (sees-same p v n g ts us q a h)
holds-same p g ts us (test.In n set) q a h = ap (has_of g set) (sees-same p One n g ts us q a h)
holds-same p g ts us (test.WordIn n set) q a h = ap (has_of g set) (sees-same p Word n g ts us q a h)
holds-same p g ts us (test.After k) q a h = and-same (nat_lt 0 q.at) _ _ (λ e. ap (λ o. nat_eq (seen_of One o) k) (before-same p q.at ts us a.same h e))
holds-same p g ts us (test.Flag mask) q a h = refl
holds-same p g ts us (test.Answered x) q a h = refl

-- ---- an operation

obey-same : (p : ℕ) (g : Tables) (ts us : List Sight) (o : Op) (s : State) → Alike p g ts us → s.place.at ≤ p → obey_of g ts o s ≡ obey_of g us o s
obey-same p g ts us (op.IfKind k target) s a h = ap (λ x. with_place (goto_if_of (nat_eq (seen_of One x) k) target) s) (here-same p s.place.at ts us a.same h)
obey-same p g ts us (op.UnlessKind k target) s a h = ap (λ x. with_place (goto_if_of (not (nat_eq (seen_of One x) k)) target) s) (here-same p s.place.at ts us a.same h)
obey-same p g ts us (op.IfIn set target) s a h = ap (λ x. with_place (goto_if_of (has_of g set (seen_of One x)) target) s) (here-same p s.place.at ts us a.same h)
obey-same p g ts us (op.UnlessIn set target) s a h = ap (λ x. with_place (goto_if_of (not (has_of g set (seen_of One x))) target) s) (here-same p s.place.at ts us a.same h)
obey-same p g ts us (op.If t target) s a h = ap (λ b. with_place (goto_if_of b target) s) (holds-same p g ts us t s.place a h)
obey-same p g ts us (op.Unless t target) s a h = ap (λ b. with_place (goto_if_of (not b) target) s) (holds-same p g ts us t s.place a h)
obey-same p g ts us (op.Switch row) s a h = ap (λ x. with_place (goto_of (target_of g row (seen_of One x))) s) (here-same p s.place.at ts us a.same h)
obey-same p g ts us (op.Jump target) s a h = refl
obey-same p g ts us op.Take s a h = ap (λ x. take_on g One x s) (here-same p s.place.at ts us a.same h)
obey-same p g ts us (op.TakeAs v) s a h = ap (λ x. take_on g v x s) (here-same p s.place.at ts us a.same h)
obey-same p g ts us op.TakeOperator s a h =
    ap (λ x. take_on g (if is_some (power_of g (seen_of Three x)) then Three else (if is_some (power_of g (seen_of Two x)) then Two else One)) x s) (here-same p s.place.at ts us a.same h)
obey-same p g ts us (op.Expect k n) s a h =
    ap (λ x. if nat_eq (seen_of One x) k then take_on g One x s else with_made (make_of (event.Error n)) s) (here-same p s.place.at ts us a.same h)
obey-same p g ts us (op.Piece part last) s a h = ap (λ x. piece_on part last x s) (here-same p s.place.at ts us a.same h)
obey-same p g ts us op.Open s a h = refl
obey-same p g ts us op.Drop s a h = refl
obey-same p g ts us (op.Wrap k) s a h = refl
obey-same p g ts us (op.Close k) s a h = refl
obey-same p g ts us (op.Leaf k) s a h = ap (λ x. with_made (make_of (event.Node k (start_of s.made))) (take_on g One x s)) (here-same p s.place.at ts us a.same h)
obey-same p g ts us op.Extend s a h = refl
obey-same p g ts us (op.Error n) s a h = refl
obey-same p g ts us (op.Call target) s a h = refl
obey-same p g ts us (op.Enter target) s a h = refl
obey-same p g ts us (op.CallWith target l keep add) s a h = refl
obey-same p g ts us (op.Sealed target k) s a h = ap (λ x. sealed_on g target k x s) (here-same p s.place.at ts us a.same h)
obey-same p g ts us (op.Become target l keep add) s a h = refl
obey-same p g ts us op.Return s a h = refl
obey-same p g ts us op.Leave s a h = refl
obey-same p g ts us (op.Reply x) s a h = refl
obey-same p g ts us (op.Answer x) s a h = refl
obey-same p g ts us (op.Flags keep add) s a h = refl
obey-same p g ts us (op.Operator target) s a h =
    ap (λ x. with_place (bind_of (power_of g (seen_of (if is_some (power_of g (seen_of Three x)) then Three else (if is_some (power_of g (seen_of Two x)) then Two else One)) x)) target) s)
    (here-same p s.place.at ts us a.same h)

step-on-same : (p : ℕ) (g : Tables) (ts us : List Sight) (o : Option Op) (s : State) → Alike p g ts us → s.place.at ≤ p → step_on g ts o s ≡ step_on g us o s
step-on-same p g ts us None s a h = refl
step-on-same p g ts us (Some o) s a h = ap (λ t. if nat_lt 0 s.place.credit then t else s) (obey-same p g ts us o (with_place past_of s) a h)

step-same : (p : ℕ) (g : Tables) (ts us : List Sight) (s : State) → Alike p g ts us → s.place.at ≤ p → step_of g ts s ≡ step_of g us s
step-same p g ts us s a h =
    step-at g ts s (slice_get g.ops s.place.next) refl ∙ step-on-same p g ts us (slice_get g.ops s.place.next) s a h ∙ sym (step-at g us s (slice_get g.ops s.place.next) refl)

runs-alike : (n p : ℕ) (g : Tables) (ts us : List Sight) (s : State) → Alike p g ts us → length ts + 3 < 2 ^ 64 → (runs n g ts s).place.at ≤ p → runs n g ts s ≡ runs n g us s
runs-alike zero p g ts us s a short h = runs-none g ts s ∙ sym (runs-none g us s)
runs-alike (suc n) p g ts us s a short h =
    let last : (step_of g ts (runs n g ts s)).place.at ≤ p = subst (λ (t : State). t.place.at ≤ p) (runs-suc n g ts s) h in
    let grows = (step-grows g ts (runs n g ts s) short).at in
    let before : (runs n g ts s).place.at ≤ p = omega (arith, last, grows) in
    runs-suc n g ts s ∙ step-same p g ts us (runs n g ts s) a before ∙ ap (step_of g us) (runs-alike n p g ts us s a short before) ∙ sym (runs-suc n g us s)

-- the law
pub runs-same : RunsAreLocal
runs-same n p g ts us s same brace far short h = runs-alike n p g ts us s (record { same = same; brace = brace; short = far }) short h
