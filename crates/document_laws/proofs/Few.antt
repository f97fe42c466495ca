-- An operation makes at most one event more than it takes tokens.
use Rattle.std.proofs.Common.{◌≡◌, ℕ, zero, suc, ◌+◌, ◌<◌, ◌≤◌, ◌^◌, Bool, true, false, not, nat_eq, nat_lt, ◌||◌, if◌then◌else◌, List, [], ◌∷◌, length, sym, subst, refl, arith, mod-eq_of_lt}
use Rattle.std.specs.Prelude.{Option, Some, None, slice_get}
use Rattle.std.proofs.lemmas.List.{length-reverse}
use Rattle.std.proofs.lemmas.Option.{slice_get_within}
use Rattle.syntax_kind.specs.declared.syntax_kind.SyntaxKind.{SyntaxKind}
use Rattle.token_layout.specs.declared.span.Token.{Token as RawToken}
use Rattle.grammar_machine.specs.declared.event.Part.{Part}
use Rattle.grammar_machine.specs.declared.event.Event.{Event}
use Rattle.grammar_machine.specs.declared.event.Event.TheVariants as event
use Rattle.grammar_machine.specs.declared.grammar.Sight.{Sight}
use Rattle.grammar_machine.specs.declared.grammar.View.{View}
use Rattle.grammar_machine.specs.declared.grammar.View.TheVariants.{One, Two, Three, Word}
use Rattle.grammar_machine.specs.declared.grammar.Power.{Power}
use Rattle.grammar_machine.specs.declared.grammar.Op.{Op}
use Rattle.grammar_machine.specs.declared.grammar.Op.TheVariants as op
use Rattle.grammar_machine.specs.Running.{Tables, Stacks, State, further_of, signs_of_view, signs_taken_of, seen_as_of, operator_view_of, here_of, has_of, holds_of, seen_at_of, power_of, goto_of, goto_if_of, bind_of, mark_of, rest_of, node_of, make_of, start_of, forget_of, close_of, extended_on, with_place, with_made, resume_of, left_of, return_of, answer_of, take_on, part_of, piece_on, sealed_on, past_of, obey_of, step_on, step_of, runs, begin_of, fuel_of, run_of}
use Rattle.grammar_machine.proofs.Running.{step-at, runs-none, runs-suc}
use Rattle.event_layout.proofs.Filled.{cut_sum}
use Rattle.rust_grammar.specs.Rules.{first_op}
use Rattle.rust_grammar.specs.Seeing.{sights_of}
use Rattle.rust_grammar.specs.Tables.{rust_tables}
use Rattle.rust_lexer.specs.Laws.{IsLexed}
use Rattle.rust_lexer.specs.Lexing.{tokens_of}
use Rattle.rust_lexer.proofs.Kept.{lexed}
use Rattle.document_laws.specs.Few.{EventsAreFew, RustMakesFewEvents, ShortTextsMakeFewEvents}
use Rattle.document_laws.proofs.Calling.{Place, Frame, Seal}
use Rattle.document_laws.proofs.Ending.{take_no_more}
use Rattle.document_laws.proofs.Knowns.{lexer_known}
use Rattle.document_laws.proofs.Owning.{few_at, few_sights, few_tokens}
use Rattle.document_laws.proofs.Sights.{sights_are}

-- from one state to a later one, at most n events more than tokens
pub record Few (n : ℕ) (s t : State) : Type 0 where
  pub is : length t.made.events + s.place.at ≤ (length s.made.events + t.place.at) + n

stays : (n : ℕ) (s : State) → Few n s s
stays n s = record { is = omega arith }

still : (n : ℕ) (s t : State) → t.place.at ≡ s.place.at → length t.made.events ≡ length s.made.events → Few n s t
still n s t e f = record { is = omega (arith, e, f) }

few-twice : (n m : ℕ) (s t u : State) → Few n s t → Few m t u → Few (n + m) s u
few-twice n m s t u a b = let p = a.is in let q = b.is in record { is = omega (arith, p, q) }

more : (n m : ℕ) (s t : State) → n ≤ m → Few n s t → Few m s t
more n m s t h a = let p = a.is in record { is = omega (arith, p, h) }

-- ---- the parts of operations

makes : (e : Event) (s : State) → Few 1 s (with_made (make_of e) s)
makes e s = record { is = omega arith }

goes : (x : Bool) (target : ℕ) (s : State) → Few 1 s (with_place (goto_if_of x target) s)
goes true target s = still 1 s (with_place (goto_of target) s) refl refl
goes false target s = stays 1 s

binds : (w : Option Power) (target : ℕ) (s : State) → Few 1 s (with_place (bind_of w target) s)
binds None target s = still 1 s (with_place (goto_of target) s) refl refl
binds (Some w) target s = by_test (nat_eq w.level 0 || nat_lt w.level s.place.level)
  where
    by_test : (x : Bool) → Few 1 s (with_place (λ p. if x then goto_of target p else record p { operand = w.right }) s)
    by_test true = still 1 s (with_place (goto_of target) s) refl refl
    by_test false = still 1 s (with_place (λ p. record p { operand = w.right }) s) refl refl

nodes : (k : SyntaxKind) (o : Option ℕ) (s : State) → Few 1 s (with_made (node_of k o) s)
nodes k None s = stays 1 s
nodes k (Some from) s = makes (event.Node k from) s

forgets : (n : ℕ) (s : State) → Few n s (with_made forget_of s)
forgets n s = by_test (nat_lt s.made.floor (length s.made.marks))
  where
    by_test : (x : Bool) → Few n s (with_made (λ m. if x then record m { marks = rest_of m.marks } else m) s)
    by_test true = still n s (with_made (λ m. record m { marks = rest_of m.marks }) s) refl refl
    by_test false = stays n s

extended : (ks : List SyntaxKind) (o : Option ℕ) (es : List Event) → length (extended_on ks o es) ≡ length es
extended ks o [] = refl
extended ks o (e ∷ es) = refl

moves : (n at k : ℕ) → at < n → n + 3 < 2 ^ 64 → k ≤ 3 → further_of at k ≡ at + k
moves n at k here short few = mod-eq_of_lt (omega (arith, here, short, few))

signs : (v : View) → (signs_of_view v ≤ 3) × (1 ≤ signs_of_view v)
signs One = (omega arith, omega arith)
signs Two = (omega arith, omega arith)
signs Three = (omega arith, omega arith)
signs Word = (omega arith, omega arith)

signs-by : (x : Bool) (v : View) → ((if x then 1 else signs_of_view v) ≤ 3) × (1 ≤ (if x then 1 else signs_of_view v))
signs-by true v = (omega arith, omega arith)
signs-by false v = signs v

signs-taken : (v : View) (t : Sight) → (signs_taken_of v t ≤ 3) × (1 ≤ signs_taken_of v t)
signs-taken v t = signs-by (nat_eq (seen_as_of v t) 0) v

-- an event that takes a token
takes : (g : Tables) (ts : List Sight) (v : View) (o : Option Sight) (s : State) → length ts + 3 < 2 ^ 64 → slice_get ts s.place.at ≡ o → Few 0 s (take_on g v o s)
takes g ts v None s short e = stays 0 s
takes g ts v (Some t) s short e =
    let n = signs-taken v t in
    record { is = omega (arith, n.1, moves (length ts) s.place.at (signs_taken_of v t) (slice_get_within ts s.place.at t e) short n.0) }

pieces : (ts : List Sight) (part : Part) (last : Bool) (o : Option Sight) (s : State) → length ts + 3 < 2 ^ 64 → slice_get ts s.place.at ≡ o → Few 1 s (piece_on part last o s)
pieces ts part last None s short e = stays 1 s
pieces ts part last (Some t) s short e = by_test (nat_eq t.word 0)
  where
    by_last : (y : Bool) → Few 1 s (part_of part y s)
    by_last false = makes (event.Piece part false) s
    by_last true = record { is = omega (arith, moves (length ts) s.place.at 1 (slice_get_within ts s.place.at t e) short (omega arith)) }

    by_test : (x : Bool) → Few 1 s (if x then s else part_of part last s)
    by_test true = stays 1 s
    by_test false = by_last last

seals : (g : Tables) (ts : List Sight) (target : ℕ) (k : SyntaxKind) (o : Option Sight) (s : State) → length ts + 3 < 2 ^ 64 → slice_get ts s.place.at ≡ o → Few 1 s (sealed_on g target k o s)
seals g ts target k None s short e = stays 1 s
seals g ts target k (Some t) s short e = record { is = omega (arith, moves (length ts) s.place.at 1 (slice_get_within ts s.place.at t e) short (omega arith)) }

-- a return, by the calls and by what the sealed ones keep
abbrev with : List Frame → List Seal → Place → Stacks → State
with fs xs p m = record { place = p; made = record m { frames = fs; seals = xs } }

abbrev behind : Bool → Frame → List Frame → List Seal → Place → Stacks → State
behind x f fs xs p m = if x then left_of (with_place (resume_of f) (with fs xs p m)) else with_place (resume_of f) (with fs xs p m)

leaves : (x : Bool) (f : Frame) (fs : List Frame) (xs : List Seal) (p : Place) (m : Stacks) → length (behind x f fs xs p m).made.events + p.at ≤ (length m.events + (behind x f fs xs p m).place.at) + 1
leaves true f fs [] p m = omega arith
leaves true f fs (x ∷ xs) p m = omega arith
leaves false f fs xs p m = omega arith

returns_with : (fs : List Frame) (xs : List Seal) (p : Place) (m : Stacks) → Few 1 (with fs xs p m) (return_of (with fs xs p m))
returns_with [] xs p m = record { is = omega arith }
returns_with (f ∷ fs) xs p m = record { is = leaves f.sealed f fs xs p m }

returns : (s : State) → Few 1 s (return_of s)
returns s = returns_with s.made.frames s.made.seals s.place s.made

expects : (g : Tables) (ts : List Sight) (x : Bool) (n : ℕ) (s : State) → length ts + 3 < 2 ^ 64 → Few 1 s (if x then take_on g One (slice_get ts s.place.at) s else with_made (make_of (event.Error n)) s)
expects g ts true n s short = more 0 1 s (take_on g One (slice_get ts s.place.at) s) (omega arith) (takes g ts One (slice_get ts s.place.at) s short refl)
expects g ts false n s short = makes (event.Error n) s

-- ---- an operation

pub obey-few : (g : Tables) (ts : List Sight) (o : Op) (s : State) → length ts + 3 < 2 ^ 64 → Few 1 s (obey_of g ts o s)
obey-few g ts (op.IfKind k target) s short = goes (nat_eq (here_of ts s.place) k) target s
obey-few g ts (op.UnlessKind k target) s short = goes (not (nat_eq (here_of ts s.place) k)) target s
obey-few g ts (op.IfIn set target) s short = goes (has_of g set (here_of ts s.place)) target s
obey-few g ts (op.UnlessIn set target) s short = goes (not (has_of g set (here_of ts s.place))) target s
obey-few g ts (op.If t target) s short = goes (holds_of g ts t s.place) target s
obey-few g ts (op.Unless t target) s short = goes (not (holds_of g ts t s.place)) target s
obey-few g ts (op.Switch row) s short = still 1 s (obey_of g ts (op.Switch row) s) refl refl
obey-few g ts (op.Jump target) s short = still 1 s (obey_of g ts (op.Jump target) s) refl refl
obey-few g ts op.Take s short = expects g ts true 0 s short
obey-few g ts (op.TakeAs v) s short =
    more 0 1 s (take_on g v (slice_get ts s.place.at) s) (omega arith) (takes g ts v (slice_get ts s.place.at) s short refl)
obey-few g ts op.TakeOperator s short =
    more 0 1 s (take_on g (operator_view_of g ts s.place.at) (slice_get ts s.place.at) s) (omega arith)
    (takes g ts (operator_view_of g ts s.place.at) (slice_get ts s.place.at) s short refl)
obey-few g ts (op.Expect k n) s short = expects g ts (nat_eq (here_of ts s.place) k) n s short
obey-few g ts (op.Piece part last) s short = pieces ts part last (slice_get ts s.place.at) s short refl
obey-few g ts op.Open s short = still 1 s (obey_of g ts op.Open s) refl refl
obey-few g ts op.Drop s short = forgets 1 s
obey-few g ts (op.Wrap k) s short = nodes k (mark_of s.made) s
obey-few g ts (op.Close k) s short = few-twice 0 1 s (with_made forget_of s) (with_made (close_of k) s) (forgets 0 s) (nodes k (mark_of s.made) (with_made forget_of s))
obey-few g ts (op.Leaf k) s short =
    few-twice 0 1 s (take_on g One (slice_get ts s.place.at) s) (with_made (make_of (event.Node k (start_of s.made))) (take_on g One (slice_get ts s.place.at) s))
    (takes g ts One (slice_get ts s.place.at) s short refl) (makes (event.Node k (start_of s.made)) (take_on g One (slice_get ts s.place.at) s))
obey-few g ts op.Extend s short = still 1 s (obey_of g ts op.Extend s) refl (extended g.sealed (mark_of s.made) s.made.events)
obey-few g ts (op.Error n) s short = makes (event.Error n) s
obey-few g ts (op.Call target) s short = still 1 s (obey_of g ts (op.Call target) s) refl refl
obey-few g ts (op.Enter target) s short = still 1 s (obey_of g ts (op.Enter target) s) refl refl
obey-few g ts (op.CallWith target l keep add) s short = still 1 s (obey_of g ts (op.CallWith target l keep add) s) refl refl
obey-few g ts (op.Sealed target k) s short = seals g ts target k (slice_get ts s.place.at) s short refl
obey-few g ts (op.Become target l keep add) s short = still 1 s (obey_of g ts (op.Become target l keep add) s) refl refl
obey-few g ts op.Return s short = returns s
obey-few g ts op.Leave s short = few-twice 0 1 s (with_made forget_of s) (return_of (with_made forget_of s)) (forgets 0 s) (returns (with_made forget_of s))
obey-few g ts (op.Reply a) s short = few-twice 0 1 s (with_place (answer_of a) s) (return_of (with_place (answer_of a) s)) (still 0 s (with_place (answer_of a) s) refl refl) (returns (with_place (answer_of a) s))
obey-few g ts (op.Answer a) s short = still 1 s (obey_of g ts (op.Answer a) s) refl refl
obey-few g ts (op.Flags keep add) s short = still 1 s (obey_of g ts (op.Flags keep add) s) refl refl
obey-few g ts (op.Operator target) s short = binds (power_of g (seen_at_of ts (operator_view_of g ts s.place.at) s.place.at)) target s

step-on-few : (g : Tables) (ts : List Sight) (o : Option Op) (s : State) → length ts + 3 < 2 ^ 64 → Few 1 s (step_on g ts o s)
step-on-few g ts None s short = stays 1 s
step-on-few g ts (Some o) s short = by_test (nat_lt 0 s.place.credit)
  where
    by_test : (x : Bool) → Few 1 s (if x then obey_of g ts o (with_place past_of s) else s)
    by_test true =
        few-twice 0 1 s (with_place past_of s) (obey_of g ts o (with_place past_of s)) (still 0 s (with_place past_of s) refl refl)
        (obey-few g ts o (with_place past_of s) short)
    by_test false = stays 1 s

runs-few : (n : ℕ) (g : Tables) (ts : List Sight) (s : State) → length ts + 3 < 2 ^ 64 → Few n s (runs n g ts s)
runs-few zero g ts s short = subst (λ (t : State). Few 0 s t) (sym (runs-none g ts s)) (stays 0 s)
runs-few (suc n) g ts s short =
    let r : State = runs n g ts s in
    let one : Few 1 r (step_of g ts r) =
    subst (λ (t : State). Few 1 r t) (sym (step-at g ts r (slice_get g.ops r.place.next) refl)) (step-on-few g ts (slice_get g.ops r.place.next) r short) in
    subst (λ (t : State). Few (suc n) s t) (sym (runs-suc n g ts s))
    (more (n + 1) (suc n) s (step_of g ts r) (omega arith) (few-twice n 1 s r (step_of g ts r) (runs-few n g ts s short) one))

few_made : (n : ℕ) (g : Tables) (ts : List Sight) (rule : ℕ) → length ts + 3 < 2 ^ 64
    → length (runs n g ts (begin_of rule)).made.events ≤ n + (runs n g ts (begin_of rule)).place.at
few_made n g ts rule short = let h = (runs-few n g ts (begin_of rule) short).is in omega (arith, h)

-- ---- the laws

pub events_few : EventsAreFew
events_few g rule ts short =
    omega (
      arith,
      length-reverse (run_of g rule ts).made.events,
      few_made (fuel_of (length ts)) g ts rule short,
      few_at (fuel_of (length ts)) g ts rule short,
    )

pub rust_few : RustMakesFewEvents
rust_few rule e text u small =
    let ts : List RawToken = tokens_of e text in
    let ss : List Sight = sights_of e text ts in
    let l : IsLexed e text = lexed e text u small in
    let few : length ss ≤ length text =
    omega (arith, few_sights e text ts, few_tokens ts l.none_empty, cut_sum ts text l.cut) in
    let short : length ss + 3 < 2 ^ 64 = omega (arith, few, small) in
    omega (
      arith,
      few,
      length-reverse (run_of rust_tables (first_op rule) ss).made.events,
      few_made (fuel_of (length ss)) rust_tables ss (first_op rule) short,
      take_no_more (fuel_of (length ss)) rust_tables (first_op rule) ss ts short (sights_are e text ts (lexer_known e text)),
    )

pub short_few : ShortTextsMakeFewEvents
short_few rule e text u small = omega (arith, small, rust_few rule e text u (omega (arith, small)))
