-- A mark, and the start of a sealed call, is the number of an event that was made, or of the next
-- one.
use Rattle.std.proofs.Common.{ℕ, zero, suc, ◌-◌, ◌≤◌, ◌^◌, Bool, true, false, nat_eq, nat_lt, if◌then◌else◌, List, [], ◌∷◌, map, drop, length, refl, subst, sym, arith}
use Rattle.std.specs.Prelude.{Option, Some, None, slice_get, ⊤}
use Rattle.std.proofs.Math.Nat.{min-le_left}
use Rattle.syntax_kind.specs.declared.syntax_kind.SyntaxKind.{SyntaxKind}
use Rattle.grammar_machine.specs.declared.event.Part.{Part}
use Rattle.grammar_machine.specs.declared.event.Event.{Event}
use Rattle.grammar_machine.specs.declared.event.Event.TheVariants as event
use Rattle.grammar_machine.specs.declared.grammar.Sight.{Sight}
use Rattle.grammar_machine.specs.declared.grammar.View.{View}
use Rattle.grammar_machine.specs.declared.grammar.View.TheVariants.{One}
use Rattle.grammar_machine.specs.declared.grammar.Op.{Op}
use Rattle.grammar_machine.specs.declared.grammar.Op.TheVariants as op
use Rattle.grammar_machine.specs.declared.machine.Place.{Place}
use Rattle.grammar_machine.specs.declared.made.Frame.{Frame}
use Rattle.grammar_machine.specs.declared.made.Seal.{Seal}
use Rattle.grammar_machine.specs.Running.{Tables, Stacks, State, kind_of, seen_as_of, signs_taken_of, operator_view_of, here_of, mark_of, rest_of, node_of, make_of, start_of, open_of, forget_of, extended_on, with_place, with_made, resume_of, left_of, return_of, answer_of, take_on, part_of, piece_on, sealed_on, past_of, obey_of, step_on, runs}
use Rattle.grammar_machine.proofs.Running.{step-at, runs-none, runs-suc}

abbrev pub AtMost : ℕ → List ℕ → Type 0
AtMost n [] = ⊤
AtMost n (x ∷ xs) = (x ≤ n) × AtMost n xs

abbrev pub IsMarked : Stacks → Type 0
IsMarked m = AtMost (length m.events) m.marks × AtMost (length m.events) (map (λ (x : Seal). x.from) m.seals)

more : (m n : ℕ) (xs : List ℕ) → m ≤ n → AtMost m xs → AtMost n xs
more m n [] h a = a
more m n (x ∷ xs) h a = (omega (arith, h, a.0), more m n xs h a.1)

without : (n k : ℕ) (xs : List ℕ) → AtMost n xs → AtMost n (drop k xs)
without n zero xs a = a
without n (suc k) [] a = a
without n (suc k) (x ∷ xs) a = without n k xs a.1

without_one : (n : ℕ) (xs : List ℕ) → AtMost n xs → AtMost n (rest_of xs)
without_one n [] a = a
without_one n (x ∷ xs) a = a.1

makes : (e : Event) (m : Stacks) → IsMarked m → IsMarked (make_of e m)
makes e m h =
    let on : length m.events ≤ length (e ∷ m.events) = omega arith in
    (more (length m.events) (length (e ∷ m.events)) m.marks on h.0, more (length m.events) (length (e ∷ m.events)) (map (λ (x : Seal). x.from) m.seals) on h.1)

start : (m : Stacks) → start_of m ≤ length m.events
start m = min-le_left (length m.events) (2 ^ 32 - 1)

opens : (m : Stacks) → IsMarked m → IsMarked (open_of m)
opens m h = ((start m, h.0), h.1)

forgets : (m : Stacks) → IsMarked m → IsMarked (forget_of m)
forgets m h = by_test (nat_lt m.floor (length m.marks))
  where
    by_test : (x : Bool) → IsMarked (if x then record m { marks = rest_of m.marks } else m)
    by_test true = (without_one (length m.events) m.marks h.0, h.1)
    by_test false = h

nodes : (k : SyntaxKind) (o : Option ℕ) (m : Stacks) → IsMarked m → IsMarked (node_of k o m)
nodes k None m h = h
nodes k (Some from) m h = makes (event.Node k from) m h

takes : (g : Tables) (v : View) (o : Option Sight) (s : State) → IsMarked s.made → IsMarked (take_on g v o s).made
takes g v None s h = h
takes g v (Some t) s h = makes (event.Token (kind_of g (seen_as_of v t)) (signs_taken_of v t)) s.made h

pieces : (part : Part) (last : Bool) (o : Option Sight) (s : State) → IsMarked s.made → IsMarked (piece_on part last o s).made
pieces part last None s h = h
pieces part last (Some t) s h = by_test (nat_eq t.word 0)
  where
    by_test : (x : Bool) → IsMarked (if x then s else part_of part last s).made
    by_test true = h
    by_test false = makes (event.Piece part last) s.made h

seals : (g : Tables) (target : ℕ) (k : SyntaxKind) (o : Option Sight) (s : State) → IsMarked s.made → IsMarked (sealed_on g target k o s).made
seals g target k None s h = h
seals g target k (Some t) s h = makes (event.Token (kind_of g t.one) 1) (record s.made { seals = record { kind = k; from = start_of s.made; floor = s.made.floor; credit = s.place.credit } ∷ s.made.seals }) (h.0, (start s.made, h.1))

extends : (ks : List SyntaxKind) (o : Option ℕ) (es : List Event) (m : Stacks) → AtMost (length es) m.marks × AtMost (length es) (map (λ (x : Seal). x.from) m.seals) → IsMarked (record m { events = extended_on ks o es })
extends ks o [] m h = h
extends ks o (e ∷ es) m h = h

expects : (g : Tables) (x : Bool) (o : Option Sight) (n : ℕ) (s : State) → IsMarked s.made → IsMarked (if x then take_on g One o s else with_made (make_of (event.Error n)) s).made
expects g true o n s h = takes g One o s h
expects g false o n s h = makes (event.Error n) s.made h

abbrev with : List Frame → List Seal → Place → Stacks → State
with fs xs p m = record { place = p; made = record m { frames = fs; seals = xs } }

back : (x : Bool) (f : Frame) (fs : List Frame) (xs : List Seal) (p : Place) (m : Stacks) → IsMarked (record m { frames = fs; seals = xs }) → IsMarked (if x then left_of (with_place (resume_of f) (with fs xs p m)) else with_place (resume_of f) (with fs xs p m)).made
back true f fs [] p m h = h
back true f fs (x ∷ xs) p m h = makes (event.Node x.kind x.from) (record m { frames = fs; seals = xs; marks = drop (length m.marks - m.floor) m.marks; floor = x.floor }) (without (length m.events) (length m.marks - m.floor) m.marks h.0, h.1.1)
back false f fs xs p m h = h

returns_with : (fs : List Frame) (xs : List Seal) (p : Place) (m : Stacks) → IsMarked (record m { frames = fs; seals = xs }) → IsMarked (return_of (with fs xs p m)).made
returns_with [] xs p m h = h
returns_with (f ∷ fs) xs p m h = back f.sealed f fs xs p m h

returns : (s : State) → IsMarked s.made → IsMarked (return_of s).made
returns s h = returns_with s.made.frames s.made.seals s.place s.made h

obey-marks : (g : Tables) (ts : List Sight) (o : Op) (s : State) → IsMarked s.made → IsMarked (obey_of g ts o s).made
obey-marks g ts (op.IfKind k target) s h = h
obey-marks g ts (op.UnlessKind k target) s h = h
obey-marks g ts (op.IfIn set target) s h = h
obey-marks g ts (op.UnlessIn set target) s h = h
obey-marks g ts (op.If t target) s h = h
obey-marks g ts (op.Unless t target) s h = h
obey-marks g ts (op.Switch row) s h = h
obey-marks g ts (op.Jump target) s h = h
obey-marks g ts op.Take s h = takes g One (slice_get ts s.place.at) s h
obey-marks g ts (op.TakeAs v) s h = takes g v (slice_get ts s.place.at) s h
obey-marks g ts op.TakeOperator s h = takes g (operator_view_of g ts s.place.at) (slice_get ts s.place.at) s h
obey-marks g ts (op.Expect k n) s h = expects g (nat_eq (here_of ts s.place) k) (slice_get ts s.place.at) n s h
obey-marks g ts (op.Piece part last) s h = pieces part last (slice_get ts s.place.at) s h
obey-marks g ts op.Open s h = opens s.made h
obey-marks g ts op.Drop s h = forgets s.made h
obey-marks g ts (op.Wrap k) s h = nodes k (mark_of s.made) s.made h
obey-marks g ts (op.Close k) s h = nodes k (mark_of s.made) (forget_of s.made) (forgets s.made h)
obey-marks g ts (op.Leaf k) s h = makes (event.Node k (start_of s.made)) (take_on g One (slice_get ts s.place.at) s).made (takes g One (slice_get ts s.place.at) s h)
obey-marks g ts op.Extend s h = extends g.sealed (mark_of s.made) s.made.events s.made h
obey-marks g ts (op.Error n) s h = makes (event.Error n) s.made h
obey-marks g ts (op.Call target) s h = h
obey-marks g ts (op.Enter target) s h = opens s.made h
obey-marks g ts (op.CallWith target l keep add) s h = h
obey-marks g ts (op.Sealed target k) s h = seals g target k (slice_get ts s.place.at) s h
obey-marks g ts (op.Become target l keep add) s h = h
obey-marks g ts op.Return s h = returns s h
obey-marks g ts op.Leave s h = returns (with_made forget_of s) (forgets s.made h)
obey-marks g ts (op.Reply a) s h = returns (with_place (answer_of a) s) h
obey-marks g ts (op.Answer a) s h = h
obey-marks g ts (op.Flags keep add) s h = h
obey-marks g ts (op.Operator target) s h = h

step-on-marks : (g : Tables) (ts : List Sight) (o : Option Op) (s : State) → IsMarked s.made → IsMarked (step_on g ts o s).made
step-on-marks g ts None s h = h
step-on-marks g ts (Some o) s h = by_test (nat_lt 0 s.place.credit)
  where
    by_test : (x : Bool) → IsMarked (if x then obey_of g ts o (with_place past_of s) else s).made
    by_test true = obey-marks g ts o (with_place past_of s) h
    by_test false = h

pub runs-marks : (n : ℕ) (g : Tables) (ts : List Sight) (s : State) → IsMarked s.made → IsMarked (runs n g ts s).made
runs-marks zero g ts s h = subst (λ (t : State). IsMarked t.made) (sym (runs-none g ts s)) h
runs-marks (suc n) g ts s h =
    subst (λ (t : State). IsMarked t.made) (sym (runs-suc n g ts s))
    (subst (λ (t : State). IsMarked t.made) (sym (step-at g ts (runs n g ts s) (slice_get g.ops (runs n g ts s).place.next) refl))
    (step-on-marks g ts (slice_get g.ops (runs n g ts s).place.next) (runs n g ts s) (runs-marks n g ts s h)))
