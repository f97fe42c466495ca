-- No operation goes back, unmakes an event, or parts the calls that are sealed from what they keep.
use Rattle.std.proofs.Common.{◌≡◌, ℕ, zero, suc, ◌+◌, ◌<◌, ◌≤◌, ◌^◌, Bool, true, false, not, nat_eq, nat_lt, ◌||◌, if◌then◌else◌, List, [], ◌∷◌, length, ap, ◌∙◌, sym, subst, refl, arith, mod-eq_of_lt}
use Rattle.std.specs.Prelude.{Option, Some, None, slice_get}
use Rattle.std.proofs.lemmas.Option.{slice_get_within}
use Rattle.syntax_kind.specs.declared.syntax_kind.SyntaxKind.{SyntaxKind}
use Rattle.grammar_machine.specs.declared.event.Part.{Part}
use Rattle.grammar_machine.specs.declared.event.Event.{Event}
use Rattle.grammar_machine.specs.declared.event.Event.TheVariants as event
use Rattle.grammar_machine.specs.declared.grammar.Sight.{Sight}
use Rattle.grammar_machine.specs.declared.grammar.View.{View}
use Rattle.grammar_machine.specs.declared.grammar.View.TheVariants.{One, Two, Three, Word}
use Rattle.grammar_machine.specs.declared.grammar.Power.{Power}
use Rattle.grammar_machine.specs.declared.grammar.Op.{Op}
use Rattle.grammar_machine.specs.declared.grammar.Op.TheVariants as op
use Rattle.grammar_machine.specs.declared.machine.Place.{Place}
use Rattle.grammar_machine.specs.declared.made.Frame.{Frame}
use Rattle.grammar_machine.specs.declared.made.Seal.{Seal}
use Rattle.grammar_machine.specs.Running.{Tables, Stacks, State, further_of, signs_of_view, signs_taken_of, seen_as_of, operator_view_of, here_of, has_of, holds_of, seen_at_of, power_of, goto_of, goto_if_of, bind_of, mark_of, rest_of, node_of, make_of, start_of, forget_of, close_of, extended_on, with_place, with_made, resume_of, left_of, return_of, answer_of, take_on, part_of, piece_on, sealed_on, past_of, obey_of, step_on, step_of, runs}
use Rattle.grammar_machine.specs.Framing.{sealed_count, IsNested, ground_of}
use Rattle.grammar_machine.proofs.Running.{step-at, runs-none, runs-suc}

-- from one state to a later one
pub record Grows (s t : State) : Type 0 where
  pub at : s.place.at ≤ t.place.at
  pub events : length s.made.events ≤ length t.made.events
  pub nested : IsNested s.made → IsNested t.made
  pub ground : ground_of t.made.floor t.made.seals ≡ ground_of s.made.floor s.made.seals

same : (n : ℕ) → n ≤ n
same n = omega arith

stays : (s : State) → Grows s s
stays s = record { at = same s.place.at; events = same (length s.made.events); nested = λ h. h; ground = refl }

pub grows-twice : (s t u : State) → Grows s t → Grows t u → Grows s u
grows-twice s t u a b =
    let p = a.at in
    let q = b.at in
    let e = a.events in
    let f = b.events in
    record { at = omega (arith, p, q); events = omega (arith, e, f); nested = λ h. b.nested (a.nested h); ground = b.ground ∙ a.ground }

-- ---- the parts of operations

makes : (e : Event) (s : State) → Grows s (with_made (make_of e) s)
makes e s = record { at = same s.place.at; events = omega arith; nested = λ h. h; ground = refl }

goes : (x : Bool) (target : ℕ) (s : State) → Grows s (with_place (goto_if_of x target) s)
goes true target s = record { at = same s.place.at; events = same (length s.made.events); nested = λ h. h; ground = refl }
goes false target s = stays s

binds : (w : Option Power) (target : ℕ) (s : State) → Grows s (with_place (bind_of w target) s)
binds None target s = record { at = same s.place.at; events = same (length s.made.events); nested = λ h. h; ground = refl }
binds (Some w) target s = by_test (nat_eq w.level 0 || nat_lt w.level s.place.level)
  where
    by_test : (x : Bool) → Grows s (with_place (λ p. if x then goto_of target p else record p { operand = w.right }) s)
    by_test true = record { at = same s.place.at; events = same (length s.made.events); nested = λ h. h; ground = refl }
    by_test false = record { at = same s.place.at; events = same (length s.made.events); nested = λ h. h; ground = refl }

nodes : (k : SyntaxKind) (o : Option ℕ) (s : State) → Grows s (with_made (node_of k o) s)
nodes k None s = stays s
nodes k (Some from) s = makes (event.Node k from) s

forgets : (s : State) → Grows s (with_made forget_of s)
forgets s = by_test (nat_lt s.made.floor (length s.made.marks))
  where
    by_test : (x : Bool) → Grows s (with_made (λ m. if x then record m { marks = rest_of m.marks } else m) s)
    by_test true = record { at = same s.place.at; events = same (length s.made.events); nested = λ h. h; ground = refl }
    by_test false = stays s

extended : (ks : List SyntaxKind) (o : Option ℕ) (es : List Event) → length es ≤ length (extended_on ks o es)
extended ks o [] = same 0
extended ks o (e ∷ es) = omega arith

moves : (n at k : ℕ) → at < n → n + 3 < 2 ^ 64 → k ≤ 3 → at ≤ further_of at k
moves n at k here short few =
    let fits : at + k < 2 ^ 64 = omega (arith, here, short, few) in
    subst (λ i. at ≤ i) (sym (mod-eq_of_lt fits)) (omega arith)

signs : (v : View) → signs_of_view v ≤ 3
signs One = omega arith
signs Two = omega arith
signs Three = omega arith
signs Word = omega arith

signs-by : (x : Bool) (v : View) → (if x then 1 else signs_of_view v) ≤ 3
signs-by true v = omega arith
signs-by false v = signs v

signs-taken : (v : View) (t : Sight) → signs_taken_of v t ≤ 3
signs-taken v t = signs-by (nat_eq (seen_as_of v t) 0) v

takes : (g : Tables) (ts : List Sight) (v : View) (o : Option Sight) (s : State) → length ts + 3 < 2 ^ 64 → slice_get ts s.place.at ≡ o → Grows s (take_on g v o s)
takes g ts v None s short e = stays s
takes g ts v (Some t) s short e = record { at = moves (length ts) s.place.at (signs_taken_of v t) (slice_get_within ts s.place.at t e) short (signs-taken v t); events = omega arith; nested = λ h. h; ground = refl }

pieces : (ts : List Sight) (part : Part) (last : Bool) (o : Option Sight) (s : State) → length ts + 3 < 2 ^ 64 → slice_get ts s.place.at ≡ o → Grows s (piece_on part last o s)
pieces ts part last None s short e = stays s
pieces ts part last (Some t) s short e = by_test (nat_eq t.word 0)
  where
    by_last : (y : Bool) → Grows s (part_of part y s)
    by_last false = makes (event.Piece part false) s
    by_last true = record { at = moves (length ts) s.place.at 1 (slice_get_within ts s.place.at t e) short (omega arith); events = omega arith; nested = λ h. h; ground = refl }

    by_test : (x : Bool) → Grows s (if x then s else part_of part last s)
    by_test true = stays s
    by_test false = by_last last

seals : (g : Tables) (ts : List Sight) (target : ℕ) (k : SyntaxKind) (o : Option Sight) (s : State) → length ts + 3 < 2 ^ 64 → slice_get ts s.place.at ≡ o → Grows s (sealed_on g target k o s)
seals g ts target k None s short e = stays s
seals g ts target k (Some t) s short e = record {
  at = moves (length ts) s.place.at 1 (slice_get_within ts s.place.at t e) short (omega arith);
  events = omega arith;
  nested = λ h. ap suc h;
  ground = refl;
}

-- a return, by the calls and by what the sealed ones keep
abbrev with : List Frame → List Seal → Place → Stacks → State
with fs xs p m = record { place = p; made = record m { frames = fs; seals = xs } }

abbrev behind : Bool → Frame → List Frame → List Seal → Place → Stacks → State
behind x f fs xs p m = if x then left_of (with_place (resume_of f) (with fs xs p m)) else with_place (resume_of f) (with fs xs p m)

still : (x : Bool) (f : Frame) (fs : List Frame) (xs : List Seal) (p : Place) (m : Stacks) → (p.at ≤ (behind x f fs xs p m).place.at) × (length m.events ≤ length (behind x f fs xs p m).made.events)
still true f fs [] p m = (same p.at, same (length m.events))
still true f fs (x ∷ xs) p m = (same p.at, omega arith)
still false f fs xs p m = (same p.at, same (length m.events))

count : (x : Bool) (f : Frame) (fs : List Frame) (xs : List Seal) (p : Place) (m : Stacks) → (if x then suc (sealed_count fs) else sealed_count fs) ≡ length xs → IsNested (behind x f fs xs p m).made
count true f fs [] p m h = absurd (omega (arith, h))
count true f fs (x ∷ xs) p m h = omega (arith, h)
count false f fs xs p m h = h

bottom : (x : Bool) (f : Frame) (fs : List Frame) (xs : List Seal) (p : Place) (m : Stacks) → ground_of (behind x f fs xs p m).made.floor (behind x f fs xs p m).made.seals ≡ ground_of m.floor xs
bottom true f fs [] p m = refl
bottom true f fs (x ∷ xs) p m = refl
bottom false f fs xs p m = refl

returns_with : (fs : List Frame) (xs : List Seal) (p : Place) (m : Stacks) → Grows (with fs xs p m) (return_of (with fs xs p m))
returns_with [] xs p m = record { at = same p.at; events = same (length m.events); nested = λ h. h; ground = refl }
returns_with (f ∷ fs) xs p m = record { at = (still f.sealed f fs xs p m).0; events = (still f.sealed f fs xs p m).1; nested = λ h. count f.sealed f fs xs p m h; ground = bottom f.sealed f fs xs p m }

returns : (s : State) → Grows s (return_of s)
returns s = returns_with s.made.frames s.made.seals s.place s.made

expects : (g : Tables) (ts : List Sight) (x : Bool) (n : ℕ) (s : State) → length ts + 3 < 2 ^ 64 → Grows s (if x then take_on g One (slice_get ts s.place.at) s else with_made (make_of (event.Error n)) s)
expects g ts true n s short = takes g ts One (slice_get ts s.place.at) s short refl
expects g ts false n s short = makes (event.Error n) s

-- ---- an operation

pub obey-grows : (g : Tables) (ts : List Sight) (o : Op) (s : State) → length ts + 3 < 2 ^ 64 → Grows s (obey_of g ts o s)
obey-grows g ts (op.IfKind k target) s short = goes (nat_eq (here_of ts s.place) k) target s
obey-grows g ts (op.UnlessKind k target) s short = goes (not (nat_eq (here_of ts s.place) k)) target s
obey-grows g ts (op.IfIn set target) s short = goes (has_of g set (here_of ts s.place)) target s
obey-grows g ts (op.UnlessIn set target) s short = goes (not (has_of g set (here_of ts s.place))) target s
obey-grows g ts (op.If t target) s short = goes (holds_of g ts t s.place) target s
obey-grows g ts (op.Unless t target) s short = goes (not (holds_of g ts t s.place)) target s
obey-grows g ts (op.Switch row) s short = record { at = same s.place.at; events = same (length s.made.events); nested = λ h. h; ground = refl }
obey-grows g ts (op.Jump target) s short = record { at = same s.place.at; events = same (length s.made.events); nested = λ h. h; ground = refl }
obey-grows g ts op.Take s short = takes g ts One (slice_get ts s.place.at) s short refl
obey-grows g ts (op.TakeAs v) s short = takes g ts v (slice_get ts s.place.at) s short refl
obey-grows g ts op.TakeOperator s short = takes g ts (operator_view_of g ts s.place.at) (slice_get ts s.place.at) s short refl
obey-grows g ts (op.Expect k n) s short = expects g ts (nat_eq (here_of ts s.place) k) n s short
obey-grows g ts (op.Piece part last) s short = pieces ts part last (slice_get ts s.place.at) s short refl
obey-grows g ts op.Open s short = record { at = same s.place.at; events = same (length s.made.events); nested = λ h. h; ground = refl }
obey-grows g ts op.Drop s short = forgets s
obey-grows g ts (op.Wrap k) s short = nodes k (mark_of s.made) s
obey-grows g ts (op.Close k) s short = grows-twice s (with_made forget_of s) (with_made (close_of k) s) (forgets s) (nodes k (mark_of s.made) (with_made forget_of s))
obey-grows g ts (op.Leaf k) s short =
    grows-twice s (take_on g One (slice_get ts s.place.at) s) (with_made (make_of (event.Node k (start_of s.made))) (take_on g One (slice_get ts s.place.at) s))
    (takes g ts One (slice_get ts s.place.at) s short refl) (makes (event.Node k (start_of s.made)) (take_on g One (slice_get ts s.place.at) s))
obey-grows g ts op.Extend s short = record { at = same s.place.at; events = extended g.sealed (mark_of s.made) s.made.events; nested = λ h. h; ground = refl }
obey-grows g ts (op.Error n) s short = makes (event.Error n) s
obey-grows g ts (op.Call target) s short = record { at = same s.place.at; events = same (length s.made.events); nested = λ h. h; ground = refl }
obey-grows g ts (op.Enter target) s short = record { at = same s.place.at; events = same (length s.made.events); nested = λ h. h; ground = refl }
obey-grows g ts (op.CallWith target l keep add) s short = record { at = same s.place.at; events = same (length s.made.events); nested = λ h. h; ground = refl }
obey-grows g ts (op.Sealed target k) s short = seals g ts target k (slice_get ts s.place.at) s short refl
obey-grows g ts (op.Become target l keep add) s short = record { at = same s.place.at; events = same (length s.made.events); nested = λ h. h; ground = refl }
obey-grows g ts op.Return s short = returns s
obey-grows g ts op.Leave s short = grows-twice s (with_made forget_of s) (return_of (with_made forget_of s)) (forgets s) (returns (with_made forget_of s))
obey-grows g ts (op.Reply a) s short = grows-twice s (with_place (answer_of a) s) (return_of (with_place (answer_of a) s)) (record { at = same s.place.at; events = same (length s.made.events); nested = λ h. h; ground = refl }) (returns (with_place (answer_of a) s))
obey-grows g ts (op.Answer a) s short = record { at = same s.place.at; events = same (length s.made.events); nested = λ h. h; ground = refl }
obey-grows g ts (op.Flags keep add) s short = record { at = same s.place.at; events = same (length s.made.events); nested = λ h. h; ground = refl }
obey-grows g ts (op.Operator target) s short = binds (power_of g (seen_at_of ts (operator_view_of g ts s.place.at) s.place.at)) target s

step-on-grows : (g : Tables) (ts : List Sight) (o : Option Op) (s : State) → length ts + 3 < 2 ^ 64 → Grows s (step_on g ts o s)
step-on-grows g ts None s short = stays s
step-on-grows g ts (Some o) s short = by_test (nat_lt 0 s.place.credit)
  where
    by_test : (x : Bool) → Grows s (if x then obey_of g ts o (with_place past_of s) else s)
    by_test true =
        grows-twice s (with_place past_of s) (obey_of g ts o (with_place past_of s)) (record { at = same s.place.at; events = same (length s.made.events); nested = λ h. h; ground = refl })
        (obey-grows g ts o (with_place past_of s) short)
    by_test false = stays s

pub step-grows : (g : Tables) (ts : List Sight) (s : State) → length ts + 3 < 2 ^ 64 → Grows s (step_of g ts s)
step-grows g ts s short = subst (λ (t : State). Grows s t) (sym (step-at g ts s (slice_get g.ops s.place.next) refl)) (step-on-grows g ts (slice_get g.ops s.place.next) s short)

pub runs-grow : (n : ℕ) (g : Tables) (ts : List Sight) (s : State) → length ts + 3 < 2 ^ 64 → Grows s (runs n g ts s)
runs-grow zero g ts s short = subst (λ (t : State). Grows s t) (sym (runs-none g ts s)) (stays s)
runs-grow (suc n) g ts s short =
    subst (λ (t : State). Grows s t) (sym (runs-suc n g ts s)) (grows-twice s (runs n g ts s) (step_of g ts (runs n g ts s)) (runs-grow n g ts s short) (step-grows g ts (runs n g ts s) short))
