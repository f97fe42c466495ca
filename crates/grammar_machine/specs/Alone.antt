-- Runs over a piece of a text that look at nothing else: neither before its first token nor behind
-- its last.
use Rattle.std.specs.Prelude.{ℕ, zero, suc, ◌+◌, ◌-◌, ◌^◌, min, Bool, true, false, ◌&&◌, not, nat_le, nat_eq, if◌then◌else◌, Option, Some, None, List, length, reverse, slice_get}
use Rattle.grammar_machine.specs.declared.event.Event.{Event}
use Rattle.grammar_machine.specs.declared.grammar.Sight.{Sight}
use Rattle.grammar_machine.specs.declared.grammar.Test.{Test}
use Rattle.grammar_machine.specs.declared.grammar.Test.TheVariants as test
use Rattle.grammar_machine.specs.declared.grammar.Op.{Op}
use Rattle.grammar_machine.specs.declared.grammar.Op.TheVariants as op
use Rattle.grammar_machine.specs.Running.{Tables, State, begin_of, runs, run_of, events_of, fuel_of}

-- the number of tokens, from the next one on, that a test or an operation may look at
abbrev pub test_reach : Test → ℕ
test_reach (test.Sees v n k) = n + 1
test_reach (test.In n set) = n + 1
test_reach (test.WordIn n set) = n + 1
test_reach (test.After k) = 0
test_reach (test.Flag mask) = 0
test_reach (test.Answered a) = 0

abbrev pub reach_of : Op → ℕ
reach_of (op.IfKind k target) = 1
reach_of (op.UnlessKind k target) = 1
reach_of (op.IfIn set target) = 1
reach_of (op.UnlessIn set target) = 1
reach_of (op.If t target) = test_reach t
reach_of (op.Unless t target) = test_reach t
reach_of (op.Switch row) = 1
reach_of op.Take = 1
reach_of (op.TakeAs v) = 1
reach_of op.TakeOperator = 1
reach_of (op.Expect k n) = 1
reach_of (op.Piece part last) = 1
reach_of (op.Leaf k) = 1
reach_of (op.Operator target) = 1
reach_of (op.Sealed target k) = 1
reach_of _ = 0

-- whether it looks at the token before the next one
abbrev pub test_looks_back : Test → Bool
test_looks_back (test.After k) = true
test_looks_back _ = false

abbrev pub looks_back_of : Op → Bool
looks_back_of (op.If t target) = test_looks_back t
looks_back_of (op.Unless t target) = test_looks_back t
looks_back_of _ = false

-- with the next token `at` of n, an operation looks at no other tokens than these
abbrev pub stays_of : Op → ℕ → ℕ → Bool
stays_of o at n = nat_le (min (at + reach_of o) (2 ^ 64 - 1)) n && not (nat_eq at 0 && looks_back_of o)

abbrev pub stays_on : Option Op → ℕ → ℕ → Bool
stays_on None at n = true
stays_on (Some o) at n = stays_of o at n

abbrev pub stays_at : Tables → List Sight → State → Bool
stays_at g ts s = stays_on (slice_get g.ops s.place.next) s.place.at (length ts)

-- so do the first n operations of a run
unfoldable pub stays_until : ℕ → Tables → List Sight → State → Bool
stays_until zero g ts s = true
stays_until (suc n) g ts s = stays_until n g ts s && stays_at g ts (runs n g ts s)

-- there is no further operation
abbrev pub is_none_of : Option Op → Bool
is_none_of None = true
is_none_of (Some o) = false

abbrev pub is_over_of : Tables → State → Bool
is_over_of g s = is_none_of (slice_get g.ops s.place.next)

-- it stops right behind the last token, where the rule has returned
abbrev pub has_returned_of : Tables → List Sight → State → Bool
has_returned_of g ts s = is_over_of g s && (nat_eq s.place.at (length ts) && nat_eq (length s.made.frames) 0)

-- the run of a rule looks at the tokens alone, and returns right behind the last
abbrev pub is_alone_of : Tables → ℕ → List Sight → Bool
is_alone_of g rule ts =
    stays_until (fuel_of (length ts)) g ts (begin_of rule) && has_returned_of g ts (run_of g rule ts)

-- the events of such a run
abbrev pub alone_of : Tables → ℕ → List Sight → Option (List Event)
alone_of g rule ts = if is_alone_of g rule ts then Some (reverse (run_of g rule ts).made.events) else None

-- the events of a run, which is to be alone or may be any
abbrev pub run_as_of : Bool → Tables → ℕ → List Sight → Option (List Event)
run_as_of is_alone g rule ts = if is_alone then alone_of g rule ts else Some (events_of g rule ts)
