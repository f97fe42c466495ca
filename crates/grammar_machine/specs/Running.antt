-- What the machine does, operation by operation.
use Rattle.std.specs.Prelude.{ℕ, zero, suc, ◌+◌, ◌*◌, ◌/◌, ◌%◌, ◌-◌, ◌^◌, min, Bool, true, false, ◌||◌, ◌&&◌, not, nat_lt, nat_eq, bit_and, bit_or, if◌then◌else◌, Option, Some, None, List, [], ◌∷◌, length, reverse, drop, slice_get}
use Rattle.std.specs.List.{list_any}
use Rattle.syntax_kind.specs.declared.syntax_kind.SyntaxKind.{SyntaxKind}
use Rattle.syntax_kind.specs.Kinds.{kind_raw}
use Rattle.syntax_kind.specs.declared.syntax_kind.SyntaxKind.TheVariants as syntax
use Rattle.syntax_kind.specs.declared.syntax_kind.token_kind.TokenKind.TheVariants as token
use Rattle.grammar_machine.specs.declared.event.Part.{Part}
use Rattle.grammar_machine.specs.declared.event.Event.{Event}
use Rattle.grammar_machine.specs.declared.event.Event.TheVariants as event
use Rattle.grammar_machine.specs.declared.grammar.Sight.{Sight}
use Rattle.grammar_machine.specs.declared.grammar.View.{View}
use Rattle.grammar_machine.specs.declared.grammar.View.TheVariants.{One, Two, Three, Word}
use Rattle.grammar_machine.specs.declared.grammar.Test.{Test}
use Rattle.grammar_machine.specs.declared.grammar.Test.TheVariants as test
use Rattle.grammar_machine.specs.declared.grammar.Level.{Level}
use Rattle.grammar_machine.specs.declared.grammar.Level.TheVariants.{Own, Same, Operand}
use Rattle.grammar_machine.specs.declared.grammar.Op.{Op}
use Rattle.grammar_machine.specs.declared.grammar.Op.TheVariants as op
use Rattle.grammar_machine.specs.declared.grammar.Power.{Power}
use Rattle.grammar_machine.specs.declared.grammar.Grammar.{Grammar}
use Rattle.grammar_machine.specs.declared.machine.Place.{Place}
use Rattle.grammar_machine.specs.declared.made.Frame.{Frame}
use Rattle.grammar_machine.specs.declared.made.Seal.{Seal}
use Rattle.grammar_machine.specs.declared.made.Made.{Made}

-- a grammar's tables
pub record Tables : Type 0 where
  pub ops : List Op
  pub sets : List ℕ
  pub rows : List ℕ
  pub powers : List (Option Power)
  pub kinds : List SyntaxKind
  pub sealed : List SyntaxKind
  pub opening : ℕ
  pub closing : ℕ

abbrev pub tables_of : Grammar → Tables
tables_of g = record {
  ops = g.ops.now;
  sets = g.sets.now;
  rows = g.rows.now;
  powers = g.powers.now;
  kinds = g.kinds.now;
  sealed = g.sealed.now;
  opening = g.opening;
  closing = g.closing;
}

-- what was made and what is open, last first; and how many of the marks are hidden
pub record Stacks : Type 0 where
  pub frames : List Frame
  pub seals : List Seal
  pub marks : List ℕ
  pub floor : ℕ
  pub events : List Event

-- the whole machine
pub record State : Type 0 where
  pub place : Place
  pub made : Stacks

abbrev pub stacks_of : Made → Stacks
stacks_of m = record {
  frames = reverse m.frames.items;
  seals = reverse m.seals.items;
  marks = reverse m.marks.items;
  floor = m.floor;
  events = reverse m.events.items;
}

abbrev pub state_of : Place → Made → State
state_of p m = record { place = p; made = stacks_of m }

-- numbers of 32 and of 64 bits wrap around; the start of a node saturates
abbrev pub after_of : ℕ → ℕ
after_of i = (i + 1) % 2 ^ 32

abbrev pub further_of : ℕ → ℕ → ℕ
further_of at n = (at + n) % 2 ^ 64

abbrev pub saturated_of : ℕ → ℕ
saturated_of n = min n (2 ^ 32 - 1)

-- ---- how a token is seen

abbrev pub seen_as_of : View → Sight → ℕ
seen_as_of One t = t.one
seen_as_of Two t = t.two
seen_as_of Three t = t.three
seen_as_of Word t = t.word

-- after the last token
abbrev pub end_as_of : View → ℕ
end_as_of One = 1
end_as_of Two = 0
end_as_of Three = 0
end_as_of Word = 0

abbrev pub signs_of_view : View → ℕ
signs_of_view One = 1
signs_of_view Two = 2
signs_of_view Three = 3
signs_of_view Word = 1

-- how many tokens are taken by a view: one, where nothing is seen in it
abbrev pub signs_taken_of : View → Sight → ℕ
signs_taken_of v t = if nat_eq (seen_as_of v t) 0 then 1 else signs_of_view v

abbrev pub seen_of : View → Option Sight → ℕ
seen_of v None = end_as_of v
seen_of v (Some t) = seen_as_of v t

abbrev pub seen_at_of : List Sight → View → ℕ → ℕ
seen_at_of ts v i = seen_of v (slice_get ts i)

-- the kind of the next token
abbrev pub here_of : List Sight → Place → ℕ
here_of ts p = seen_at_of ts One p.at

-- ---- what the tables hold

abbrev pub not_zero : ℕ → Bool
not_zero zero = false
not_zero (suc n) = true

abbrev pub bit_of : Option ℕ → ℕ → Bool
bit_of None k = false
bit_of (Some w) k = not_zero (bit_and (w / 2 ^ (k % 64)) 1)

-- whether the set has the kind
abbrev pub has_of : Tables → ℕ → ℕ → Bool
has_of g set k = bit_of (slice_get g.sets (set * 4 + k / 64)) k

abbrev pub number_or : ℕ → Option ℕ → ℕ
number_or n None = n
number_or n (Some m) = m

abbrev pub target_of : Tables → ℕ → ℕ → ℕ
target_of g row k = number_or (2 ^ 32 - 1) (slice_get g.rows (row + k))

abbrev pub kind_or : Option SyntaxKind → SyntaxKind
kind_or None = syntax.Token token.ERROR
kind_or (Some k) = k

abbrev pub kind_of : Tables → ℕ → SyntaxKind
kind_of g k = kind_or (slice_get g.kinds k)

abbrev pub power_or : Option (Option Power) → Option Power
power_or None = None
power_or (Some p) = p

abbrev pub power_of : Tables → ℕ → Option Power
power_of g k = power_or (slice_get g.powers k)

abbrev pub is_some : Option Power → Bool
is_some None = false
is_some (Some p) = true

-- the longest of three signs, two and one that is an operator
abbrev pub operator_view_of : Tables → List Sight → ℕ → View
operator_view_of g ts at =
    if is_some (power_of g (seen_at_of ts Three at)) then Three else (
    if is_some (power_of g (seen_at_of ts Two at)) then Two else One)

abbrev pub is_brace_of : Tables → ℕ → Bool
is_brace_of g k = nat_eq k g.opening || nat_eq k g.closing

-- one of the next n tokens is a brace
unfoldable pub hides_of : Tables → List Sight → ℕ → ℕ → Bool
hides_of g ts at zero = false
hides_of g ts at (suc n) = hides_of g ts at n || is_brace_of g (seen_at_of ts One (further_of at n))

-- what is seen of the token n tokens ahead: nothing over a brace
abbrev pub sees_of : Tables → List Sight → View → ℕ → Place → ℕ
sees_of g ts v n p = if hides_of g ts p.at n then 0 else seen_at_of ts v (further_of p.at n)

-- ---- tests

abbrev pub holds_of : Tables → List Sight → Test → Place → Bool
holds_of g ts (test.Sees v n k) p = nat_eq (sees_of g ts v n p) k
holds_of g ts (test.In n set) p = has_of g set (sees_of g ts One n p)
holds_of g ts (test.WordIn n set) p = has_of g set (sees_of g ts Word n p)
holds_of g ts (test.After k) p = nat_lt 0 p.at && nat_eq (seen_at_of ts One (p.at - 1)) k
holds_of g ts (test.Flag mask) p = not_zero (bit_and p.flags mask)
holds_of g ts (test.Answered a) p = nat_eq p.answer a

-- ---- operations on the place

abbrev pub goto_of : ℕ → Place → Place
goto_of target p = record p { next = target }

abbrev pub goto_if_of : Bool → ℕ → Place → Place
goto_if_of b target p = if b then goto_of target p else p

abbrev pub level_for_of : Level → Place → ℕ
level_for_of (Own l) p = l
level_for_of Same p = p.level
level_for_of Operand p = p.operand

abbrev pub enter_of : ℕ → Level → ℕ → ℕ → Place → Place
enter_of target l keep add p = record p { next = target; level = level_for_of l p; flags = bit_or (bit_and p.flags keep) add }

abbrev pub bind_of : Option Power → ℕ → Place → Place
bind_of None target p = goto_of target p
bind_of (Some w) target p = if nat_eq w.level 0 || nat_lt w.level p.level then goto_of target p else record p { operand = w.right }

abbrev pub frame_of : Bool → Place → Frame
frame_of sealed p = record { next = p.next; level = p.level; flags = p.flags; sealed = sealed }

-- 1,200 more operations
abbrev pub more_of : ℕ → ℕ
more_of credit = min (credit + 1200) (2 ^ 64 - 1)

-- n tokens were taken
abbrev pub pass_of : ℕ → Place → Place
pass_of n p = record p { at = further_of p.at n; credit = more_of p.credit }

-- as at the beginning of a text, but for the place
abbrev pub fresh_of : ℕ → Place → Place
fresh_of target p = record { next = target; at = p.at; credit = 1200; level = 0; flags = 0; operand = 0; answer = 0 }

-- to where a call came from
abbrev pub resume_of : Frame → Place → Place
resume_of f p = record p { next = f.next; level = f.level; flags = f.flags }

-- behind a sealed call
abbrev pub leave_of : Seal → Place → Place
leave_of seal p = record p { credit = more_of seal.credit; operand = 0; answer = 0 }

-- ---- operations on the stacks

abbrev pub first_of : {A : Type 0} → List A → Option A
first_of [] = None
first_of (x ∷ xs) = Some x

abbrev pub rest_of : {A : Type 0} → List A → List A
rest_of [] = []
rest_of (x ∷ xs) = xs

abbrev pub make_of : Event → Stacks → Stacks
make_of e m = record m { events = e ∷ m.events }

abbrev pub start_of : Stacks → ℕ
start_of m = saturated_of (length m.events)

abbrev pub open_of : Stacks → Stacks
open_of m = record m { marks = start_of m ∷ m.marks }

-- the last mark, if it is not hidden
abbrev pub mark_of : Stacks → Option ℕ
mark_of m = if nat_lt m.floor (length m.marks) then first_of m.marks else None

abbrev pub forget_of : Stacks → Stacks
forget_of m = if nat_lt m.floor (length m.marks) then record m { marks = rest_of m.marks } else m

abbrev pub node_of : SyntaxKind → Option ℕ → Stacks → Stacks
node_of k None m = m
node_of k (Some from) m = make_of (event.Node k from) m

abbrev pub wrap_of : SyntaxKind → Stacks → Stacks
wrap_of k m = node_of k (mark_of m) m

abbrev pub close_of : SyntaxKind → Stacks → Stacks
close_of k m = node_of k (mark_of m) (forget_of m)

-- the kind is one of the list
abbrev pub is_among : List SyntaxKind → SyntaxKind → Bool
is_among ks k = list_any (λ other. nat_eq (kind_raw other) (kind_raw k)) ks

-- the node begins at the mark, if that is earlier; but for those of sealed calls
abbrev pub longer_of : List SyntaxKind → Option ℕ → Event → Event
longer_of sealed None e = e
longer_of sealed (Some mark) (event.Node k from) = event.Node k (if is_among sealed k then from else min from mark)
longer_of sealed (Some mark) (event.Token k n) = event.Token k n
longer_of sealed (Some mark) (event.Piece p last) = event.Piece p last
longer_of sealed (Some mark) (event.Error n) = event.Error n

abbrev pub extended_on : List SyntaxKind → Option ℕ → List Event → List Event
extended_on sealed mark [] = []
extended_on sealed mark (e ∷ es) = longer_of sealed mark e ∷ es

abbrev pub extend_of : List SyntaxKind → Stacks → Stacks
extend_of sealed m = record m { events = extended_on sealed (mark_of m) m.events }

abbrev pub call_of : Frame → Stacks → Stacks
call_of f m = record m { frames = f ∷ m.frames }

abbrev pub returned_of : Stacks → Stacks
returned_of m = record m { frames = rest_of m.frames }

-- a sealed call hides all marks
abbrev pub seal_of : Frame → SyntaxKind → ℕ → Stacks → Stacks
seal_of f k credit m = record m {
  frames = f ∷ m.frames;
  seals = record { kind = k; from = start_of m; floor = m.floor; credit = credit } ∷ m.seals;
  floor = length m.marks;
}

abbrev pub opened_of : Stacks → Stacks
opened_of m = record m { seals = rest_of m.seals }

-- those that were hidden
abbrev pub hidden_of : Stacks → List ℕ
hidden_of m = drop (length m.marks - m.floor) m.marks

-- its node, and the marks from before it
abbrev pub unseal_of : Seal → Stacks → Stacks
unseal_of seal m = make_of (event.Node seal.kind seal.from) (record m { marks = hidden_of m; floor = seal.floor })

-- ---- operations on both

abbrev pub with_place : (Place → Place) → State → State
with_place f s = record s { place = f s.place }

abbrev pub with_made : (Stacks → Stacks) → State → State
with_made f s = record s { made = f s.made }

abbrev pub take_on : Tables → View → Option Sight → State → State
take_on g v None s = s
take_on g v (Some t) s = record {
  place = pass_of (signs_taken_of v t) s.place;
  made = make_of (event.Token (kind_of g (seen_as_of v t)) (signs_taken_of v t)) s.made;
}

abbrev pub take_of : Tables → List Sight → View → State → State
take_of g ts v s = take_on g v (slice_get ts s.place.at) s

abbrev pub expect_of : Tables → List Sight → ℕ → ℕ → State → State
expect_of g ts k n s = if nat_eq (here_of ts s.place) k then take_of g ts One s else with_made (make_of (event.Error n)) s

abbrev pub part_of : Part → Bool → State → State
part_of part last s = record {
  place = if last then pass_of 1 s.place else s.place;
  made = make_of (event.Piece part last) s.made;
}

-- a token without a finer kind has no parts
abbrev pub piece_on : Part → Bool → Option Sight → State → State
piece_on part last None s = s
piece_on part last (Some t) s = if nat_eq t.word 0 then s else part_of part last s

abbrev pub piece_of : List Sight → Part → Bool → State → State
piece_of ts part last s = piece_on part last (slice_get ts s.place.at) s

abbrev pub leaf_of : Tables → List Sight → SyntaxKind → State → State
leaf_of g ts k s = with_made (make_of (event.Node k (start_of s.made))) (take_of g ts One s)

abbrev pub left_on : Option Seal → State → State
left_on None s = s
left_on (Some seal) s = record { place = leave_of seal s.place; made = unseal_of seal (opened_of s.made) }

-- the node of a sealed call that returned
abbrev pub left_of : State → State
left_of s = left_on (first_of s.made.seals) s

abbrev pub return_to : Option Frame → State → State
return_to None s = with_place (goto_of (2 ^ 32 - 1)) s
return_to (Some f) s = if f.sealed then left_of (with_place (resume_of f) s) else with_place (resume_of f) s

abbrev pub return_of : State → State
return_of s = return_to (first_of s.made.frames) (with_made returned_of s)

abbrev pub call_with : ℕ → Level → ℕ → ℕ → State → State
call_with target l keep add s = record {
  place = enter_of target l keep add s.place;
  made = call_of (frame_of false s.place) s.made;
}

-- a sealed call takes the next token
abbrev pub sealed_on : Tables → ℕ → SyntaxKind → Option Sight → State → State
sealed_on g target k None s = s
sealed_on g target k (Some t) s = record {
  place = fresh_of target (record s.place { at = further_of s.place.at 1 });
  made = make_of (event.Token (kind_of g t.one) 1) (seal_of (frame_of true s.place) k s.place.credit s.made);
}

abbrev pub sealed_of : Tables → List Sight → ℕ → SyntaxKind → State → State
sealed_of g ts target k s = sealed_on g target k (slice_get ts s.place.at) s

abbrev pub answer_of : ℕ → Place → Place
answer_of a p = record p { answer = a }

abbrev pub flags_of : ℕ → ℕ → Place → Place
flags_of keep add p = record p { flags = bit_or (bit_and p.flags keep) add }

-- one equation an operation
abbrev pub obey_of : Tables → List Sight → Op → State → State
obey_of g ts (op.IfKind k target) s = with_place (goto_if_of (nat_eq (here_of ts s.place) k) target) s
obey_of g ts (op.UnlessKind k target) s = with_place (goto_if_of (not (nat_eq (here_of ts s.place) k)) target) s
obey_of g ts (op.IfIn set target) s = with_place (goto_if_of (has_of g set (here_of ts s.place)) target) s
obey_of g ts (op.UnlessIn set target) s = with_place (goto_if_of (not (has_of g set (here_of ts s.place))) target) s
obey_of g ts (op.If t target) s = with_place (goto_if_of (holds_of g ts t s.place) target) s
obey_of g ts (op.Unless t target) s = with_place (goto_if_of (not (holds_of g ts t s.place)) target) s
obey_of g ts (op.Switch row) s = with_place (goto_of (target_of g row (here_of ts s.place))) s
obey_of g ts (op.Jump target) s = with_place (goto_of target) s
obey_of g ts op.Take s = take_of g ts One s
obey_of g ts (op.TakeAs v) s = take_of g ts v s
obey_of g ts op.TakeOperator s = take_of g ts (operator_view_of g ts s.place.at) s
obey_of g ts (op.Expect k n) s = expect_of g ts k n s
obey_of g ts (op.Piece part last) s = piece_of ts part last s
obey_of g ts op.Open s = with_made open_of s
obey_of g ts op.Drop s = with_made forget_of s
obey_of g ts (op.Wrap k) s = with_made (wrap_of k) s
obey_of g ts (op.Close k) s = with_made (close_of k) s
obey_of g ts (op.Leaf k) s = leaf_of g ts k s
obey_of g ts op.Extend s = with_made (extend_of g.sealed) s
obey_of g ts (op.Error n) s = with_made (make_of (event.Error n)) s
obey_of g ts (op.Call target) s = call_with target (Own 0) 0 0 s
obey_of g ts (op.Enter target) s = with_made open_of (call_with target (Own 0) 0 0 s)
obey_of g ts (op.CallWith target l keep add) s = call_with target l keep add s
obey_of g ts (op.Sealed target k) s = sealed_of g ts target k s
obey_of g ts (op.Become target l keep add) s = with_place (enter_of target l keep add) s
obey_of g ts op.Return s = return_of s
obey_of g ts op.Leave s = return_of (with_made forget_of s)
obey_of g ts (op.Reply a) s = return_of (with_place (answer_of a) s)
obey_of g ts (op.Answer a) s = with_place (answer_of a) s
obey_of g ts (op.Flags keep add) s = with_place (flags_of keep add) s
obey_of g ts (op.Operator target) s = with_place (bind_of (power_of g (seen_at_of ts (operator_view_of g ts s.place.at) s.place.at)) target) s

-- ---- a run

abbrev pub past_of : Place → Place
past_of p = record p { next = after_of p.next; credit = p.credit - 1 }

-- where there is no operation, or none is left, the machine stays as it is
abbrev pub step_on : Tables → List Sight → Option Op → State → State
step_on g ts None s = s
step_on g ts (Some o) s = if nat_lt 0 s.place.credit then obey_of g ts o (with_place past_of s) else s

unfoldable pub step_of : Tables → List Sight → State → State
step_of g ts s = step_on g ts (slice_get g.ops s.place.next) s

-- n operations
unfoldable pub runs : ℕ → Tables → List Sight → State → State
runs zero g ts s = s
runs (suc n) g ts s = step_of g ts (runs n g ts s)

abbrev pub nothing_of : Stacks
nothing_of = record { frames = []; seals = []; marks = []; floor = 0; events = [] }

abbrev pub begin_of : ℕ → State
begin_of rule = record {
  place = record { next = saturated_of rule; at = 0; credit = 1200; level = 0; flags = 0; operand = 0; answer = 0 };
  made = nothing_of;
}

-- no run has more operations
abbrev pub fuel_of : ℕ → ℕ
fuel_of n = 1200 + 2402 * n

-- the machine after the last operation
abbrev pub run_of : Tables → ℕ → List Sight → State
run_of g rule ts = runs (fuel_of (length ts)) g ts (begin_of rule)

-- the events that a rule makes of the tokens, in order
abbrev pub events_of : Tables → ℕ → List Sight → List Event
events_of g rule ts = reverse (run_of g rule ts).made.events
