-- How many operations a run may still have: each one takes one away, and a token that is taken
-- gives no more than it stood for.
use Rattle.std.proofs.Common.{◌≡◌, ℕ, ◌+◌, ◌*◌, ◌-◌, ◌<◌, ◌≤◌, ◌^◌, min, Bool, true, false, nat_lt, nat_eq, not, ◌||◌, if◌then◌else◌, List, [], ◌∷◌, length, ap, ◌∙◌, sym, subst, refl, arith, mod-eq_of_lt}
use Rattle.std.specs.Prelude.{Option, Some, None, slice_get}
use Rattle.std.proofs.lemmas.Option.{slice_get_within}
use Rattle.std.proofs.Math.Nat.{min-le_left}
use Rattle.syntax_kind.specs.declared.syntax_kind.SyntaxKind.{SyntaxKind}
use Rattle.grammar_machine.specs.declared.event.Part.{Part}
use Rattle.grammar_machine.specs.declared.event.Event.TheVariants as event
use Rattle.grammar_machine.specs.declared.grammar.Sight.{Sight}
use Rattle.grammar_machine.specs.declared.grammar.View.{View}
use Rattle.grammar_machine.specs.declared.grammar.View.TheVariants.{One, Two, Three, Word}
use Rattle.grammar_machine.specs.declared.grammar.Power.{Power}
use Rattle.grammar_machine.specs.declared.grammar.Op.{Op}
use Rattle.grammar_machine.specs.declared.grammar.Op.TheVariants as op
use Rattle.grammar_machine.specs.declared.machine.Place.{Place}
use Rattle.grammar_machine.specs.declared.made.Frame.{Frame}
use Rattle.grammar_machine.specs.declared.made.Seal.{Seal}
use Rattle.grammar_machine.specs.Running.{Tables, Stacks, State, further_of, signs_of_view, signs_taken_of, seen_as_of, operator_view_of, here_of, has_of, holds_of, seen_at_of, power_of, goto_of, goto_if_of, bind_of, mark_of, rest_of, first_of, node_of, make_of, forget_of, close_of, with_place, with_made, resume_of, returned_of, left_on, left_of, return_to, return_of, answer_of, take_on, part_of, piece_on, sealed_on, past_of, obey_of, step_of, runs, run_of, begin_of, fuel_of}
use Rattle.grammar_machine.proofs.Running.{step-obeys, runs-none, runs-more, runs-done}

-- what sealed calls keep
abbrev pub kept_of : List Seal → ℕ
kept_of [] = 0
kept_of (x ∷ xs) = (x.credit + 1201) + kept_of xs

abbrev pub potential : List Sight → State → ℕ
potential ts s = (s.place.credit + kept_of s.made.seals) + 2402 * (length ts - s.place.at)

-- a state that a run comes to
pub record Comes (g : Tables) (rule : ℕ) (ts : List Sight) (s : State) : Type 0 where
  pub steps : ℕ
  pub is : s ≡ runs steps g ts (begin_of rule)
  pub within : steps + potential ts s ≤ fuel_of (length ts)

same : (n : ℕ) → n ≤ n
same n = omega arith

-- ---- the parts of operations

goes : (x : Bool) (target : ℕ) (ts : List Sight) (s : State) → potential ts (with_place (goto_if_of x target) s) ≤ potential ts s
goes true target ts s = same (potential ts s)
goes false target ts s = same (potential ts s)

binds : (w : Option Power) (target : ℕ) (ts : List Sight) (s : State) → potential ts (with_place (bind_of w target) s) ≤ potential ts s
binds None target ts s = same (potential ts s)
binds (Some w) target ts s = by_test (nat_eq w.level 0 || nat_lt w.level s.place.level)
  where
    by_test : (x : Bool) → potential ts (with_place (λ p. if x then goto_of target p else record p { operand = w.right }) s) ≤ potential ts s
    by_test true = same (potential ts s)
    by_test false = same (potential ts s)

nodes : (k : SyntaxKind) (o : Option ℕ) (ts : List Sight) (s : State) → potential ts (with_made (node_of k o) s) ≤ potential ts s
nodes k None ts s = same (potential ts s)
nodes k (Some from) ts s = same (potential ts s)

forgotten : (m : Stacks) → (forget_of m).seals ≡ m.seals
forgotten m = by_test (nat_lt m.floor (length m.marks))
  where
    by_test : (x : Bool) → (if x then record m { marks = rest_of m.marks } else m).seals ≡ m.seals
    by_test true = refl
    by_test false = refl

forgets : (ts : List Sight) (s : State) → potential ts (with_made forget_of s) ≤ potential ts s
forgets ts s = subst (λ xs. (s.place.credit + kept_of xs) + 2402 * (length ts - s.place.at) ≤ potential ts s) (sym (forgotten s.made)) (same (potential ts s))

after : (a b c : ℕ) → a ≤ b → b ≤ c → a ≤ c
after a b c p q = omega (arith, p, q)

-- a token that is taken
passes : (n c kept at k : ℕ) → at < n → n + 3 < 2 ^ 64 → 1 ≤ k → k ≤ 3 → (min (c + 1200) (2 ^ 64 - 1) + kept) + 2402 * (n - further_of at k) ≤ (c + kept) + 2402 * (n - at)
passes n c kept at k here short some few =
    let fits : at + k < 2 ^ 64 = omega (arith, here, short, few) in
    let is : further_of at k ≡ at + k = mod-eq_of_lt fits in
    let most : min (c + 1200) (2 ^ 64 - 1) ≤ c + 1200 = min-le_left (c + 1200) (2 ^ 64 - 1) in
    subst (λ i. (min (c + 1200) (2 ^ 64 - 1) + kept) + 2402 * (n - i) ≤ (c + kept) + 2402 * (n - at)) (sym is) (omega (arith, most, here, some))

signs : (v : View) → (1 ≤ signs_of_view v) × (signs_of_view v ≤ 3)
signs One = (omega arith, omega arith)
signs Two = (omega arith, omega arith)
signs Three = (omega arith, omega arith)
signs Word = (omega arith, omega arith)

signs-by : (x : Bool) (v : View) → (1 ≤ (if x then 1 else signs_of_view v)) × ((if x then 1 else signs_of_view v) ≤ 3)
signs-by true v = (omega arith, omega arith)
signs-by false v = signs v

signs-taken : (v : View) (t : Sight) → (1 ≤ signs_taken_of v t) × (signs_taken_of v t ≤ 3)
signs-taken v t = signs-by (nat_eq (seen_as_of v t) 0) v

takes : (g : Tables) (ts : List Sight) (v : View) (o : Option Sight) (s : State) → length ts + 3 < 2 ^ 64 → slice_get ts s.place.at ≡ o → potential ts (take_on g v o s) ≤ potential ts s
takes g ts v None s short e = same (potential ts s)
takes g ts v (Some t) s short e = passes (length ts) s.place.credit (kept_of s.made.seals) s.place.at (signs_taken_of v t) (slice_get_within ts s.place.at t e) short (signs-taken v t).0 (signs-taken v t).1

pieces : (ts : List Sight) (part : Part) (last : Bool) (o : Option Sight) (s : State) → length ts + 3 < 2 ^ 64 → slice_get ts s.place.at ≡ o → potential ts (piece_on part last o s) ≤ potential ts s
pieces ts part last None s short e = same (potential ts s)
pieces ts part last (Some t) s short e = by_test (nat_eq t.word 0)
  where
    by_last : (y : Bool) → potential ts (part_of part y s) ≤ potential ts s
    by_last false = same (potential ts s)
    by_last true = passes (length ts) s.place.credit (kept_of s.made.seals) s.place.at 1 (slice_get_within ts s.place.at t e) short (omega arith) (omega arith)

    by_test : (x : Bool) → potential ts (if x then s else part_of part last s) ≤ potential ts s
    by_test true = same (potential ts s)
    by_test false = by_last last

seals : (g : Tables) (ts : List Sight) (target : ℕ) (k : SyntaxKind) (o : Option Sight) (s : State) → length ts + 3 < 2 ^ 64 → slice_get ts s.place.at ≡ o → potential ts (sealed_on g target k o s) ≤ potential ts s
seals g ts target k None s short e = same (potential ts s)
seals g ts target k (Some t) s short e =
    let here : s.place.at < length ts = slice_get_within ts s.place.at t e in
    let fits : s.place.at + 1 < 2 ^ 64 = omega (arith, here, short) in
    subst (λ i. (1200 + ((s.place.credit + 1201) + kept_of s.made.seals)) + 2402 * (length ts - i) ≤ potential ts s) (sym (mod-eq_of_lt fits)) (omega (arith, here))

leaves : (ts : List Sight) (xs : List Seal) (p : Place) (m : Stacks) → potential ts (left_on (first_of xs) (record { place = p; made = record m { seals = xs } })) ≤ potential ts (record { place = p; made = record m { seals = xs } })
leaves ts [] p m = same (potential ts (record { place = p; made = record m { seals = [] } }))
leaves ts (x ∷ xs) p m =
    let most : min (x.credit + 1200) (2 ^ 64 - 1) ≤ x.credit + 1200 = min-le_left (x.credit + 1200) (2 ^ 64 - 1) in
    omega (arith, most)

returns_to : (ts : List Sight) (o : Option Frame) (s : State) → potential ts (return_to o s) ≤ potential ts s
returns_to ts None s = same (potential ts s)
returns_to ts (Some f) s = by_test f.sealed
  where
    by_test : (x : Bool) → potential ts (if x then left_of (with_place (resume_of f) s) else with_place (resume_of f) s) ≤ potential ts s
    by_test true = leaves ts s.made.seals (resume_of f s.place) s.made
    by_test false = same (potential ts s)

returns : (ts : List Sight) (s : State) → potential ts (return_of s) ≤ potential ts s
returns ts s = returns_to ts (first_of s.made.frames) (with_made returned_of s)

expects : (g : Tables) (ts : List Sight) (x : Bool) (n : ℕ) (s : State) → length ts + 3 < 2 ^ 64 → potential ts (if x then take_on g One (slice_get ts s.place.at) s else with_made (make_of (event.Error n)) s) ≤ potential ts s
expects g ts true n s short = takes g ts One (slice_get ts s.place.at) s short refl
expects g ts false n s short = same (potential ts s)

-- ---- an operation

pub obey-keeps : (g : Tables) (ts : List Sight) (o : Op) (s : State) → length ts + 3 < 2 ^ 64 → potential ts (obey_of g ts o s) ≤ potential ts s
obey-keeps g ts (op.IfKind k target) s short = goes (nat_eq (here_of ts s.place) k) target ts s
obey-keeps g ts (op.UnlessKind k target) s short = goes (not (nat_eq (here_of ts s.place) k)) target ts s
obey-keeps g ts (op.IfIn set target) s short = goes (has_of g set (here_of ts s.place)) target ts s
obey-keeps g ts (op.UnlessIn set target) s short = goes (not (has_of g set (here_of ts s.place))) target ts s
obey-keeps g ts (op.If t target) s short = goes (holds_of g ts t s.place) target ts s
obey-keeps g ts (op.Unless t target) s short = goes (not (holds_of g ts t s.place)) target ts s
obey-keeps g ts (op.Switch row) s short = same (potential ts s)
obey-keeps g ts (op.Jump target) s short = same (potential ts s)
obey-keeps g ts op.Take s short = takes g ts One (slice_get ts s.place.at) s short refl
obey-keeps g ts (op.TakeAs v) s short = takes g ts v (slice_get ts s.place.at) s short refl
obey-keeps g ts op.TakeOperator s short = takes g ts (operator_view_of g ts s.place.at) (slice_get ts s.place.at) s short refl
obey-keeps g ts (op.Expect k n) s short = expects g ts (nat_eq (here_of ts s.place) k) n s short
obey-keeps g ts (op.Piece part last) s short = pieces ts part last (slice_get ts s.place.at) s short refl
obey-keeps g ts op.Open s short = same (potential ts s)
obey-keeps g ts op.Drop s short = forgets ts s
obey-keeps g ts (op.Wrap k) s short = nodes k (mark_of s.made) ts s
obey-keeps g ts (op.Close k) s short = after (potential ts (with_made (close_of k) s)) (potential ts (with_made forget_of s)) (potential ts s) (nodes k (mark_of s.made) ts (with_made forget_of s)) (forgets ts s)
obey-keeps g ts (op.Leaf k) s short = takes g ts One (slice_get ts s.place.at) s short refl
obey-keeps g ts op.Extend s short = same (potential ts s)
obey-keeps g ts (op.Error n) s short = same (potential ts s)
obey-keeps g ts (op.Call target) s short = same (potential ts s)
obey-keeps g ts (op.Enter target) s short = same (potential ts s)
obey-keeps g ts (op.CallWith target l keep add) s short = same (potential ts s)
obey-keeps g ts (op.Sealed target k) s short = seals g ts target k (slice_get ts s.place.at) s short refl
obey-keeps g ts (op.Become target l keep add) s short = same (potential ts s)
obey-keeps g ts op.Return s short = returns ts s
obey-keeps g ts op.Leave s short = after (potential ts (return_of (with_made forget_of s))) (potential ts (with_made forget_of s)) (potential ts s) (returns ts (with_made forget_of s)) (forgets ts s)
obey-keeps g ts (op.Reply a) s short = returns ts (with_place (answer_of a) s)
obey-keeps g ts (op.Answer a) s short = same (potential ts s)
obey-keeps g ts (op.Flags keep add) s short = same (potential ts s)
obey-keeps g ts (op.Operator target) s short = binds (power_of g (seen_at_of ts (operator_view_of g ts s.place.at) s.place.at)) target ts s

-- each one takes one away
pub obey-spends : (g : Tables) (ts : List Sight) (o : Op) (s : State) → length ts + 3 < 2 ^ 64 → 0 < s.place.credit → potential ts (obey_of g ts o (with_place past_of s)) < potential ts s
obey-spends g ts o s short some =
    let kept = obey-keeps g ts o (with_place past_of s) short in
    omega (arith, kept, some)

-- ---- the states of a run

abbrev pub comes-first : (g : Tables) (rule : ℕ) (ts : List Sight) (s : State) → s ≡ begin_of rule → Comes g rule ts s
comes-first g rule ts s e = record {
  steps = 0;
  is = e ∙ sym (runs-none g ts (begin_of rule));
  within = subst (λ (x : State). 0 + potential ts x ≤ fuel_of (length ts)) (sym e) (omega arith);
}

abbrev pub comes-next : (g : Tables) (rule : ℕ) (ts : List Sight) (s t : State) (o : Op) → length ts + 3 < 2 ^ 64 → slice_get g.ops s.place.next ≡ Some o → 0 < s.place.credit
    → t ≡ obey_of g ts o (with_place past_of s) → Comes g rule ts s → Comes g rule ts t
comes-next g rule ts s t o short found some e c =
    let falls : potential ts t < potential ts s = subst (λ (x : State). potential ts x < potential ts s) (sym e) (obey-spends g ts o s short some) in
    let within = c.within in
    record {
      steps = c.steps + 1;
      is = e ∙ sym (step-obeys g ts s o found some) ∙ ap (step_of g ts) c.is ∙ sym (runs-more c.steps g ts (begin_of rule));
      within = omega (arith, falls, within);
    }

-- where a step changes nothing, the run ends
pub comes-last : (g : Tables) (rule : ℕ) (ts : List Sight) (s : State) → Comes g rule ts s → step_of g ts s ≡ s → s ≡ run_of g rule ts
comes-last g rule ts s c still =
    let within = c.within in
    let at_most : c.steps ≤ fuel_of (length ts) = omega (arith, within) in
    let there : step_of g ts (runs c.steps g ts (begin_of rule)) ≡ runs c.steps g ts (begin_of rule) = ap (step_of g ts) (sym c.is) ∙ still ∙ c.is in
    c.is ∙ sym (runs-done (fuel_of (length ts)) c.steps g ts (begin_of rule) at_most there)
