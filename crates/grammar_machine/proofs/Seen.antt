-- What the events of a run take is seen at its place.
use Rattle.std.proofs.Common.{◌≡◌, ℕ, zero, suc, ◌+◌, ◌<◌, ◌^◌, Bool, true, false, nat_eq, nat_lt, if◌then◌else◌, List, [], ◌∷◌, length, ap, ◌∙◌, refl, subst, sym, arith}
use Rattle.std.specs.Prelude.{Option, Some, None, slice_get}
use Rattle.std.proofs.lemmas.Bool.Decides.{nat_tests}
use Rattle.syntax_kind.specs.declared.syntax_kind.SyntaxKind.{SyntaxKind}
use Rattle.grammar_machine.specs.declared.event.Part.{Part}
use Rattle.grammar_machine.specs.declared.event.Event.{Event}
use Rattle.grammar_machine.specs.declared.event.Event.TheVariants as event
use Rattle.grammar_machine.specs.declared.grammar.Sight.{Sight}
use Rattle.grammar_machine.specs.declared.grammar.View.{View}
use Rattle.grammar_machine.specs.declared.grammar.View.TheVariants.{One, Two, Three, Word}
use Rattle.grammar_machine.specs.declared.grammar.Op.{Op}
use Rattle.grammar_machine.specs.declared.grammar.Op.TheVariants as op
use Rattle.grammar_machine.specs.declared.machine.Place.{Place}
use Rattle.grammar_machine.specs.declared.made.Frame.{Frame}
use Rattle.grammar_machine.specs.declared.made.Seal.{Seal}
use Rattle.grammar_machine.specs.Running.{Tables, Stacks, State, seen_as_of, operator_view_of, here_of, mark_of, rest_of, node_of, longer_of, signs_of_view, begin_of, make_of, forget_of, extended_on, with_place, with_made, resume_of, left_of, return_of, answer_of, take_on, part_of, piece_on, sealed_on, past_of, obey_of, step_on, runs}
use Rattle.grammar_machine.specs.Counting.{taken_by}
use Rattle.grammar_machine.specs.Seen.{IsSeen, EventIsSeen, AllSeen, RunsTakeWhatIsSeen}
use Rattle.grammar_machine.proofs.Counted.{runs-count}
use Rattle.grammar_machine.proofs.Running.{step-at, runs-none, runs-suc}

abbrev Sees : List Sight → Stacks → Type 0
Sees ts m = AllSeen ts m.events

nodes : (ts : List Sight) (k : SyntaxKind) (o : Option ℕ) (m : Stacks) → Sees ts m → Sees ts (node_of k o m)
nodes ts k None m h = h
nodes ts k (Some from) m h = (tt, h)

forgets : (ts : List Sight) (m : Stacks) → Sees ts m → Sees ts (forget_of m)
forgets ts m h = by_test (nat_lt m.floor (length m.marks))
  where
    by_test : (x : Bool) → Sees ts (if x then record m { marks = rest_of m.marks } else m)
    by_test true = h
    by_test false = h

longer : (ts : List Sight) (at : ℕ) (ks : List SyntaxKind) (o : Option ℕ) (e : Event) → EventIsSeen ts at e → EventIsSeen ts at (longer_of ks o e)
longer ts at ks None e h = h
longer ts at ks (Some mark) (event.Node k from) h = tt
longer ts at ks (Some mark) (event.Token k n) h = h
longer ts at ks (Some mark) (event.Piece p last) h = h
longer ts at ks (Some mark) (event.Error n) h = tt

extends : (ts : List Sight) (ks : List SyntaxKind) (o : Option ℕ) (es : List Event) → AllSeen ts es → AllSeen ts (extended_on ks o es)
extends ts ks o [] h = tt
extends ts ks o (e ∷ es) h = (longer ts (taken_by es) ks o e h.0, h.1)

-- what a view takes is seen in it
some_is : (n : ℕ) → nat_eq n 0 ≡ false → 0 < n
some_is n e = grind (arith, nat_tests, e)

by_view : (ts : List Sight) (at : ℕ) (v : View) (t : Sight) (x : Bool) → slice_get ts at ≡ Some t → nat_eq (seen_as_of v t) 0 ≡ x → IsSeen ts at (if x then 1 else signs_of_view v)
by_view ts at v t true e z = record { sight = t; there = e; some = omega arith; few = omega arith; two = λ h. absurd (omega (arith, h)); three = λ h. absurd (omega (arith, h)) }
by_view ts at One t false e z = record { sight = t; there = e; some = omega arith; few = omega arith; two = λ h. absurd (omega (arith, h)); three = λ h. absurd (omega (arith, h)) }
by_view ts at Two t false e z = record { sight = t; there = e; some = omega arith; few = omega arith; two = λ h. some_is t.two z; three = λ h. absurd (omega (arith, h)) }
by_view ts at Three t false e z = record { sight = t; there = e; some = omega arith; few = omega arith; two = λ h. absurd (omega (arith, h)); three = λ h. some_is t.three z }
by_view ts at Word t false e z = record { sight = t; there = e; some = omega arith; few = omega arith; two = λ h. absurd (omega (arith, h)); three = λ h. absurd (omega (arith, h)) }

-- the events made so far take the tokens before the next one
abbrev Counted : State → Type 0
Counted s = taken_by s.made.events ≡ s.place.at

takes : (ts : List Sight) (g : Tables) (v : View) (o : Option Sight) (s : State) → slice_get ts s.place.at ≡ o → Counted s → Sees ts s.made → Sees ts (take_on g v o s).made
takes ts g v None s e c h = h
takes ts g v (Some t) s e c h = (by_view ts (taken_by s.made.events) v t (nat_eq (seen_as_of v t) 0) (ap (slice_get ts) c ∙ e) refl, h)

pieces : (ts : List Sight) (part : Part) (last : Bool) (o : Option Sight) (s : State) → slice_get ts s.place.at ≡ o → Counted s → Sees ts s.made → Sees ts (piece_on part last o s).made
pieces ts part last None s e c h = h
pieces ts part last (Some t) s e c h = by_test (nat_eq t.word 0) refl
  where
    by_test : (x : Bool) → nat_eq t.word 0 ≡ x → Sees ts (if x then s else part_of part last s).made
    by_test true z = h
    by_test false z = (record { sight = t; there = ap (slice_get ts) c ∙ e; finer = some_is t.word z }, h)

seals : (ts : List Sight) (g : Tables) (target : ℕ) (k : SyntaxKind) (o : Option Sight) (s : State) → slice_get ts s.place.at ≡ o → Counted s → Sees ts s.made → Sees ts (sealed_on g target k o s).made
seals ts g target k None s e c h = h
seals ts g target k (Some t) s e c h = (record { sight = t; there = ap (slice_get ts) c ∙ e; some = omega arith; few = omega arith; two = λ h. absurd (omega (arith, h)); three = λ h. absurd (omega (arith, h)) }, h)

expects : (ts : List Sight) (g : Tables) (x : Bool) (n : ℕ) (s : State) → Counted s → Sees ts s.made → Sees ts (if x then take_on g One (slice_get ts s.place.at) s else with_made (make_of (event.Error n)) s).made
expects ts g true n s c h = takes ts g One (slice_get ts s.place.at) s refl c h
expects ts g false n s c h = (tt, h)

abbrev with : List Frame → List Seal → Place → Stacks → State
with fs xs p m = record { place = p; made = record m { frames = fs; seals = xs } }

back : (ts : List Sight) (x : Bool) (f : Frame) (fs : List Frame) (xs : List Seal) (p : Place) (m : Stacks) → Sees ts m → Sees ts (if x then left_of (with_place (resume_of f) (with fs xs p m)) else with_place (resume_of f) (with fs xs p m)).made
back ts true f fs [] p m h = h
back ts true f fs (x ∷ xs) p m h = (tt, h)
back ts false f fs xs p m h = h

returns_with : (ts : List Sight) (fs : List Frame) (xs : List Seal) (p : Place) (m : Stacks) → Sees ts m → Sees ts (return_of (with fs xs p m)).made
returns_with ts [] xs p m h = h
returns_with ts (f ∷ fs) xs p m h = back ts f.sealed f fs xs p m h

returns : (ts : List Sight) (s : State) → Sees ts s.made → Sees ts (return_of s).made
returns ts s h = returns_with ts s.made.frames s.made.seals s.place s.made h

obey-sees : (g : Tables) (ts : List Sight) (o : Op) (s : State) → Counted s → Sees ts s.made → Sees ts (obey_of g ts o s).made
obey-sees g ts (op.IfKind k target) s c h = h
obey-sees g ts (op.UnlessKind k target) s c h = h
obey-sees g ts (op.IfIn set target) s c h = h
obey-sees g ts (op.UnlessIn set target) s c h = h
obey-sees g ts (op.If t target) s c h = h
obey-sees g ts (op.Unless t target) s c h = h
obey-sees g ts (op.Switch row) s c h = h
obey-sees g ts (op.Jump target) s c h = h
obey-sees g ts op.Take s c h = takes ts g One (slice_get ts s.place.at) s refl c h
obey-sees g ts (op.TakeAs v) s c h = takes ts g v (slice_get ts s.place.at) s refl c h
obey-sees g ts op.TakeOperator s c h = takes ts g (operator_view_of g ts s.place.at) (slice_get ts s.place.at) s refl c h
obey-sees g ts (op.Expect k n) s c h = expects ts g (nat_eq (here_of ts s.place) k) n s c h
obey-sees g ts (op.Piece part last) s c h = pieces ts part last (slice_get ts s.place.at) s refl c h
obey-sees g ts op.Open s c h = h
obey-sees g ts op.Drop s c h = forgets ts s.made h
obey-sees g ts (op.Wrap k) s c h = nodes ts k (mark_of s.made) s.made h
obey-sees g ts (op.Close k) s c h = nodes ts k (mark_of s.made) (forget_of s.made) (forgets ts s.made h)
obey-sees g ts (op.Leaf k) s c h = (tt, takes ts g One (slice_get ts s.place.at) s refl c h)
obey-sees g ts op.Extend s c h = extends ts g.sealed (mark_of s.made) s.made.events h
obey-sees g ts (op.Error n) s c h = (tt, h)
obey-sees g ts (op.Call target) s c h = h
obey-sees g ts (op.Enter target) s c h = h
obey-sees g ts (op.CallWith target l keep add) s c h = h
obey-sees g ts (op.Sealed target k) s c h = seals ts g target k (slice_get ts s.place.at) s refl c h
obey-sees g ts (op.Become target l keep add) s c h = h
obey-sees g ts op.Return s c h = returns ts s h
obey-sees g ts op.Leave s c h = returns ts (with_made forget_of s) (forgets ts s.made h)
obey-sees g ts (op.Reply a) s c h = returns ts (with_place (answer_of a) s) h
obey-sees g ts (op.Answer a) s c h = h
obey-sees g ts (op.Flags keep add) s c h = h
obey-sees g ts (op.Operator target) s c h = h

step-on-sees : (g : Tables) (ts : List Sight) (o : Option Op) (s : State) → Counted s → Sees ts s.made → Sees ts (step_on g ts o s).made
step-on-sees g ts None s c h = h
step-on-sees g ts (Some o) s c h = by_test (nat_lt 0 s.place.credit)
  where
    by_test : (x : Bool) → Sees ts (if x then obey_of g ts o (with_place past_of s) else s).made
    by_test true = obey-sees g ts o (with_place past_of s) c h
    by_test false = h

runs-see : (n : ℕ) (g : Tables) (ts : List Sight) (s : State) → length ts + 3 < 2 ^ 64 → Counted s → Sees ts s.made → Sees ts (runs n g ts s).made
runs-see zero g ts s short c h = subst (λ (t : State). Sees ts t.made) (sym (runs-none g ts s)) h
runs-see (suc n) g ts s short c h =
    let counts = (runs-count n g ts s short).is in
    let counted : taken_by (runs n g ts s).made.events ≡ (runs n g ts s).place.at = omega (arith, counts, c) in
    subst (λ (t : State). Sees ts t.made) (sym (runs-suc n g ts s))
    (subst (λ (t : State). Sees ts t.made) (sym (step-at g ts (runs n g ts s) (slice_get g.ops (runs n g ts s).place.next) refl))
    (step-on-sees g ts (slice_get g.ops (runs n g ts s).place.next) (runs n g ts s) counted (runs-see n g ts s short c h)))

pub runs-seen : RunsTakeWhatIsSeen
runs-seen n g ts rule short = runs-see n g ts (begin_of rule) short refl tt
