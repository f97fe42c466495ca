-- The events take as many tokens as were taken.
use Rattle.std.proofs.Common.{◌≡◌, ℕ, zero, suc, ◌+◌, ◌<◌, ◌≤◌, ◌^◌, Bool, true, false, not, nat_eq, nat_lt, ◌||◌, if◌then◌else◌, List, [], ◌∷◌, length, ap, sym, subst, refl, arith, mod-eq_of_lt}
use Rattle.std.specs.Prelude.{Option, Some, None, slice_get}
use Rattle.std.proofs.lemmas.Option.{slice_get_within}
use Rattle.syntax_kind.specs.declared.syntax_kind.SyntaxKind.{SyntaxKind}
use Rattle.grammar_machine.specs.declared.event.Part.{Part}
use Rattle.grammar_machine.specs.declared.event.Event.{Event}
use Rattle.grammar_machine.specs.declared.event.Event.TheVariants as event
use Rattle.grammar_machine.specs.declared.grammar.Sight.{Sight}
use Rattle.grammar_machine.specs.declared.grammar.View.{View}
use Rattle.grammar_machine.specs.declared.grammar.View.TheVariants.{One, Two, Three, Word}
use Rattle.grammar_machine.specs.declared.grammar.Power.{Power}
use Rattle.grammar_machine.specs.declared.grammar.Op.{Op}
use Rattle.grammar_machine.specs.declared.grammar.Op.TheVariants as op
use Rattle.grammar_machine.specs.declared.machine.Place.{Place}
use Rattle.grammar_machine.specs.declared.made.Frame.{Frame}
use Rattle.grammar_machine.specs.declared.made.Seal.{Seal}
use Rattle.grammar_machine.specs.Running.{begin_of, longer_of, Tables, Stacks, State, further_of, signs_of_view, signs_taken_of, seen_as_of, operator_view_of, here_of, has_of, holds_of, seen_at_of, power_of, goto_of, goto_if_of, bind_of, mark_of, rest_of, node_of, make_of, start_of, forget_of, close_of, extended_on, with_place, with_made, resume_of, left_of, return_of, answer_of, take_on, part_of, piece_on, sealed_on, past_of, obey_of, step_on, step_of, runs}
use Rattle.grammar_machine.specs.Counting.{signs_by, taken_by, RunsCountTokens}
use Rattle.grammar_machine.proofs.Running.{step-at, runs-none, runs-suc}

-- as many more tokens were taken as the events made since take
pub record Counts (s t : State) : Type 0 where
  pub is : s.place.at + taken_by t.made.events ≡ t.place.at + taken_by s.made.events

stays : (s : State) → Counts s s
stays s = record { is = refl }

still : (s : State) (p : Place) (m : Stacks) → p.at ≡ s.place.at → m.events ≡ s.made.events → Counts s (record { place = p; made = m })
still s p m e f = record { is = omega (arith, e, ap taken_by f) }

counts-twice : (s t u : State) → Counts s t → Counts t u → Counts s u
counts-twice s t u a b =
    let p = a.is in
    let q = b.is in
    record { is = omega (arith, p, q) }

-- ---- the parts of operations

makes : (e : Event) (s : State) → signs_by e ≡ 0 → Counts s (with_made (make_of e) s)
makes e s z = record { is = omega (arith, z) }

goes : (x : Bool) (target : ℕ) (s : State) → Counts s (with_place (goto_if_of x target) s)
goes true target s = record { is = refl }
goes false target s = stays s

binds : (w : Option Power) (target : ℕ) (s : State) → Counts s (with_place (bind_of w target) s)
binds None target s = record { is = refl }
binds (Some w) target s = by_test (nat_eq w.level 0 || nat_lt w.level s.place.level)
  where
    by_test : (x : Bool) → Counts s (with_place (λ p. if x then goto_of target p else record p { operand = w.right }) s)
    by_test true = record { is = refl }
    by_test false = record { is = refl }

nodes : (k : SyntaxKind) (o : Option ℕ) (s : State) → Counts s (with_made (node_of k o) s)
nodes k None s = stays s
nodes k (Some from) s = makes (event.Node k from) s refl

forgets : (s : State) → Counts s (with_made forget_of s)
forgets s = by_test (nat_lt s.made.floor (length s.made.marks))
  where
    by_test : (x : Bool) → Counts s (with_made (λ m. if x then record m { marks = rest_of m.marks } else m) s)
    by_test true = record { is = refl }
    by_test false = stays s

-- a longer node takes no more
longer : (ks : List SyntaxKind) (o : Option ℕ) (e : Event) → signs_by (longer_of ks o e) ≡ signs_by e
longer ks None e = refl
longer ks (Some mark) (event.Node k from) = refl
longer ks (Some mark) (event.Token k n) = refl
longer ks (Some mark) (event.Piece p last) = refl
longer ks (Some mark) (event.Error n) = refl

extended : (ks : List SyntaxKind) (o : Option ℕ) (es : List Event) → taken_by (extended_on ks o es) ≡ taken_by es
extended ks o [] = refl
extended ks o (e ∷ es) = ap (λ n. n + taken_by es) (longer ks o e)

moved : (n at k : ℕ) → at < n → n + 3 < 2 ^ 64 → k ≤ 3 → further_of at k ≡ at + k
moved n at k here short few = mod-eq_of_lt (omega (arith, here, short, few))

signs : (v : View) → signs_of_view v ≤ 3
signs One = omega arith
signs Two = omega arith
signs Three = omega arith
signs Word = omega arith

signs-by : (x : Bool) (v : View) → (if x then 1 else signs_of_view v) ≤ 3
signs-by true v = omega arith
signs-by false v = signs v

signs-taken : (v : View) (t : Sight) → signs_taken_of v t ≤ 3
signs-taken v t = signs-by (nat_eq (seen_as_of v t) 0) v

takes : (g : Tables) (ts : List Sight) (v : View) (o : Option Sight) (s : State) → length ts + 3 < 2 ^ 64 → slice_get ts s.place.at ≡ o → Counts s (take_on g v o s)
takes g ts v None s short e = stays s
takes g ts v (Some t) s short e = record { is = omega (arith, moved (length ts) s.place.at (signs_taken_of v t) (slice_get_within ts s.place.at t e) short (signs-taken v t)) }

pieces : (ts : List Sight) (part : Part) (last : Bool) (o : Option Sight) (s : State) → length ts + 3 < 2 ^ 64 → slice_get ts s.place.at ≡ o → Counts s (piece_on part last o s)
pieces ts part last None s short e = stays s
pieces ts part last (Some t) s short e = by_test (nat_eq t.word 0)
  where
    by_last : (y : Bool) → Counts s (part_of part y s)
    by_last false = makes (event.Piece part false) s refl
    by_last true = record { is = omega (arith, moved (length ts) s.place.at 1 (slice_get_within ts s.place.at t e) short (omega arith)) }

    by_test : (x : Bool) → Counts s (if x then s else part_of part last s)
    by_test true = stays s
    by_test false = by_last last

seals : (g : Tables) (ts : List Sight) (target : ℕ) (k : SyntaxKind) (o : Option Sight) (s : State) → length ts + 3 < 2 ^ 64 → slice_get ts s.place.at ≡ o → Counts s (sealed_on g target k o s)
seals g ts target k None s short e = stays s
seals g ts target k (Some t) s short e = record { is = omega (arith, moved (length ts) s.place.at 1 (slice_get_within ts s.place.at t e) short (omega arith)) }

-- a return, by the calls and by what the sealed ones keep
abbrev with : List Frame → List Seal → Place → Stacks → State
with fs xs p m = record { place = p; made = record m { frames = fs; seals = xs } }

abbrev behind : Bool → Frame → List Frame → List Seal → Place → Stacks → State
behind x f fs xs p m = if x then left_of (with_place (resume_of f) (with fs xs p m)) else with_place (resume_of f) (with fs xs p m)

leaves : (x : Bool) (f : Frame) (fs : List Frame) (xs : List Seal) (p : Place) (m : Stacks) → p.at + taken_by (behind x f fs xs p m).made.events ≡ (behind x f fs xs p m).place.at + taken_by m.events
leaves true f fs [] p m = refl
leaves true f fs (x ∷ xs) p m = omega arith
leaves false f fs xs p m = refl

returns_with : (fs : List Frame) (xs : List Seal) (p : Place) (m : Stacks) → Counts (with fs xs p m) (return_of (with fs xs p m))
returns_with [] xs p m = record { is = refl }
returns_with (f ∷ fs) xs p m = record { is = leaves f.sealed f fs xs p m }

returns : (s : State) → Counts s (return_of s)
returns s = returns_with s.made.frames s.made.seals s.place s.made

expects : (g : Tables) (ts : List Sight) (x : Bool) (n : ℕ) (s : State) → length ts + 3 < 2 ^ 64 → Counts s (if x then take_on g One (slice_get ts s.place.at) s else with_made (make_of (event.Error n)) s)
expects g ts true n s short = takes g ts One (slice_get ts s.place.at) s short refl
expects g ts false n s short = makes (event.Error n) s refl

-- ---- an operation

pub obey-counts : (g : Tables) (ts : List Sight) (o : Op) (s : State) → length ts + 3 < 2 ^ 64 → Counts s (obey_of g ts o s)
obey-counts g ts (op.IfKind k target) s short = goes (nat_eq (here_of ts s.place) k) target s
obey-counts g ts (op.UnlessKind k target) s short = goes (not (nat_eq (here_of ts s.place) k)) target s
obey-counts g ts (op.IfIn set target) s short = goes (has_of g set (here_of ts s.place)) target s
obey-counts g ts (op.UnlessIn set target) s short = goes (not (has_of g set (here_of ts s.place))) target s
obey-counts g ts (op.If t target) s short = goes (holds_of g ts t s.place) target s
obey-counts g ts (op.Unless t target) s short = goes (not (holds_of g ts t s.place)) target s
obey-counts g ts (op.Switch row) s short = record { is = refl }
obey-counts g ts (op.Jump target) s short = record { is = refl }
obey-counts g ts op.Take s short = takes g ts One (slice_get ts s.place.at) s short refl
obey-counts g ts (op.TakeAs v) s short = takes g ts v (slice_get ts s.place.at) s short refl
obey-counts g ts op.TakeOperator s short = takes g ts (operator_view_of g ts s.place.at) (slice_get ts s.place.at) s short refl
obey-counts g ts (op.Expect k n) s short = expects g ts (nat_eq (here_of ts s.place) k) n s short
obey-counts g ts (op.Piece part last) s short = pieces ts part last (slice_get ts s.place.at) s short refl
obey-counts g ts op.Open s short = record { is = refl }
obey-counts g ts op.Drop s short = forgets s
obey-counts g ts (op.Wrap k) s short = nodes k (mark_of s.made) s
obey-counts g ts (op.Close k) s short = counts-twice s (with_made forget_of s) (with_made (close_of k) s) (forgets s) (nodes k (mark_of s.made) (with_made forget_of s))
obey-counts g ts (op.Leaf k) s short =
    counts-twice s (take_on g One (slice_get ts s.place.at) s) (with_made (make_of (event.Node k (start_of s.made))) (take_on g One (slice_get ts s.place.at) s))
    (takes g ts One (slice_get ts s.place.at) s short refl) (makes (event.Node k (start_of s.made)) (take_on g One (slice_get ts s.place.at) s) refl)
obey-counts g ts op.Extend s short = record { is = ap (λ n. s.place.at + n) (extended g.sealed (mark_of s.made) s.made.events) }
obey-counts g ts (op.Error n) s short = makes (event.Error n) s refl
obey-counts g ts (op.Call target) s short = record { is = refl }
obey-counts g ts (op.Enter target) s short = record { is = refl }
obey-counts g ts (op.CallWith target l keep add) s short = record { is = refl }
obey-counts g ts (op.Sealed target k) s short = seals g ts target k (slice_get ts s.place.at) s short refl
obey-counts g ts (op.Become target l keep add) s short = record { is = refl }
obey-counts g ts op.Return s short = returns s
obey-counts g ts op.Leave s short = counts-twice s (with_made forget_of s) (return_of (with_made forget_of s)) (forgets s) (returns (with_made forget_of s))
obey-counts g ts (op.Reply a) s short = counts-twice s (with_place (answer_of a) s) (return_of (with_place (answer_of a) s)) (record { is = refl }) (returns (with_place (answer_of a) s))
obey-counts g ts (op.Answer a) s short = record { is = refl }
obey-counts g ts (op.Flags keep add) s short = record { is = refl }
obey-counts g ts (op.Operator target) s short = binds (power_of g (seen_at_of ts (operator_view_of g ts s.place.at) s.place.at)) target s

step-on-counts : (g : Tables) (ts : List Sight) (o : Option Op) (s : State) → length ts + 3 < 2 ^ 64 → Counts s (step_on g ts o s)
step-on-counts g ts None s short = stays s
step-on-counts g ts (Some o) s short = by_test (nat_lt 0 s.place.credit)
  where
    by_test : (x : Bool) → Counts s (if x then obey_of g ts o (with_place past_of s) else s)
    by_test true =
        counts-twice s (with_place past_of s) (obey_of g ts o (with_place past_of s)) (record { is = refl })
        (obey-counts g ts o (with_place past_of s) short)
    by_test false = stays s

pub step-counts : (g : Tables) (ts : List Sight) (s : State) → length ts + 3 < 2 ^ 64 → Counts s (step_of g ts s)
step-counts g ts s short = subst (λ (t : State). Counts s t) (sym (step-at g ts s (slice_get g.ops s.place.next) refl)) (step-on-counts g ts (slice_get g.ops s.place.next) s short)

pub runs-count : (n : ℕ) (g : Tables) (ts : List Sight) (s : State) → length ts + 3 < 2 ^ 64 → Counts s (runs n g ts s)
runs-count zero g ts s short = subst (λ (t : State). Counts s t) (sym (runs-none g ts s)) (stays s)
runs-count (suc n) g ts s short =
    subst (λ (t : State). Counts s t) (sym (runs-suc n g ts s)) (counts-twice s (runs n g ts s) (step_of g ts (runs n g ts s)) (runs-count n g ts s short) (step-counts g ts (runs n g ts s) short))

pub runs-counted : RunsCountTokens
runs-counted n g ts rule short =
    let c = (runs-count n g ts (begin_of rule) short).is in
    omega (arith, c)
