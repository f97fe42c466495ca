-- A run does not depend on what was made before it, nor on the calls that are open around it.
use Rattle.std.proofs.Common.{◌≡◌, ℕ, zero, suc, ◌<◌, ◌≤◌, ◌+◌, ◌-◌, ◌^◌, min, List, [], ◌∷◌, ◌++◌, drop, length, ap, ap₂, ◌∙◌, sym, refl, arith, Bool, true, false, not, ◌&&◌, ◌||◌, nat_lt, nat_eq, if◌then◌else◌, mod-eq_of_lt}
use Rattle.std.specs.Prelude.{Option, Some, None, option_map, slice_get}
use Rattle.syntax_kind.specs.declared.syntax_kind.SyntaxKind.{SyntaxKind}
use Rattle.std.proofs.Math.Nat.{add-min-add_right}
use Rattle.std.proofs.lemmas.List.{length-map, length-append, drop-append-le, drop-map}
use Rattle.std.proofs.lemmas.Bool.Decides.{nat_tests}
use Rattle.grammar_machine.specs.declared.grammar.Sight.{Sight}
use Rattle.grammar_machine.specs.declared.grammar.View.{View}
use Rattle.grammar_machine.specs.declared.grammar.View.TheVariants.{One, Two, Three, Word}
use Rattle.grammar_machine.specs.declared.grammar.Level.{Level}
use Rattle.grammar_machine.specs.declared.grammar.Level.TheVariants.{Own, Same, Operand}
use Rattle.grammar_machine.specs.declared.grammar.Power.{Power}
use Rattle.grammar_machine.specs.declared.grammar.Test.{Test}
use Rattle.grammar_machine.specs.declared.grammar.Test.TheVariants as test
use Rattle.grammar_machine.specs.declared.grammar.Op.{Op}
use Rattle.grammar_machine.specs.declared.grammar.Op.TheVariants as op
use Rattle.grammar_machine.specs.declared.event.Event.{Event}
use Rattle.grammar_machine.specs.declared.event.Event.TheVariants as event
use Rattle.grammar_machine.specs.declared.event.Part.{Part}
use Rattle.grammar_machine.specs.declared.machine.Place.{Place}
use Rattle.grammar_machine.specs.declared.made.Frame.{Frame}
use Rattle.grammar_machine.specs.declared.made.Seal.{Seal}
use Rattle.grammar_machine.specs.Running.{Tables, Stacks, State, seen_of, signs_of_view, signs_taken_of, seen_as_of, further_of, saturated_of, has_of, is_brace_of, hides_of, sees_of, target_of, kind_of, holds_of, goto_of, goto_if_of, bind_of, power_of, is_some, enter_of, pass_of, fresh_of, resume_of, leave_of, with_place, past_of, take_on, part_of, piece_on, sealed_on, make_of, start_of, with_made, node_of, mark_of, forget_of, open_of, close_of, call_of, seal_of, hidden_of, unseal_of, left_of, extend_of, extended_on, is_among, longer_of, first_of, rest_of, level_for_of, answer_of, frame_of, return_of, call_with, obey_of, step_on, step_of, runs}
use Rattle.grammar_machine.specs.Framing.{Around, sealed_count, IsNested, moved_event, moved_events, moved_marks, moved_seal, place_in, made_in, in_place, Stands, TestStays, IsFew, Stays, NextStays}
use Rattle.grammar_machine.proofs.Running.{step-at, runs-none, runs-suc}
use Rattle.grammar_machine.proofs.Hiding.{hides-none, hides-suc}

-- ---- what is seen

pub ahead-in : (b at n : ℕ) (c : Around) (ts us : List Sight) → Stands b c ts us → b + c.taken < 2 ^ 64 → at + (n + 1) ≤ b → slice_get us (further_of (at + c.taken) n) ≡ slice_get ts (further_of at n)
ahead-in b at n c ts us stands short h =
    let below : at + n < b = omega (arith, h) in
    let fits : (at + c.taken) + n < 2 ^ 64 = omega (arith, below, short) in
    let near : at + n < 2 ^ 64 = omega (arith, below, short) in
    let far : further_of (at + c.taken) n ≡ (at + n) + c.taken = mod-eq_of_lt fits ∙ omega arith in
    ap (slice_get us) far ∙ stands (at + n) below ∙ ap (slice_get ts) (sym (mod-eq_of_lt near))

pub here-in : (b at : ℕ) (c : Around) (ts us : List Sight) → Stands b c ts us → at + 1 ≤ b → slice_get us (at + c.taken) ≡ slice_get ts at
here-in b at c ts us stands h = stands at (omega (arith, h))

hides-in : (b at n : ℕ) (c : Around) (g : Tables) (ts us : List Sight) → Stands b c ts us → b + c.taken < 2 ^ 64 → at + n ≤ b → hides_of g us (at + c.taken) n ≡ hides_of g ts at n
hides-in b at zero c g ts us stands short h = hides-none g us (at + c.taken) ∙ sym (hides-none g ts at)
hides-in b at (suc n) c g ts us stands short h =
    hides-suc g us (at + c.taken) n
    ∙ ap₂ (λ x o. x || is_brace_of g (seen_of One o)) (hides-in b at n c g ts us stands short (omega (arith, h))) (ahead-in b at n c ts us stands short (omega (arith, h)))
    ∙ sym (hides-suc g ts at n)

sees-in : (b : ℕ) (v : View) (n : ℕ) (c : Around) (g : Tables) (ts us : List Sight) (p : Place) → Stands b c ts us → b + c.taken < 2 ^ 64 → p.at + (n + 1) ≤ b → sees_of g us v n (place_in c p) ≡ sees_of g ts v n p
sees-in b v n c g ts us p stands short h =
    ap₂ (λ x o. if x then 0 else seen_of v o) (hides-in b p.at n c g ts us stands short (omega (arith, h))) (ahead-in b p.at n c ts us stands short h)

after-in : (b at k : ℕ) (c : Around) (ts us : List Sight) → Stands b c ts us → at ≤ b → 0 < at → (nat_lt 0 (at + c.taken) && nat_eq (seen_of One (slice_get us ((at + c.taken) - 1))) k) ≡ (nat_lt 0 at && nat_eq (seen_of One (slice_get ts (at - 1))) k)
after-in b at k c ts us stands h some =
    let here : nat_lt 0 at ≡ true = grind (arith, nat_tests, some) in
    let there : nat_lt 0 (at + c.taken) ≡ true = grind (arith, nat_tests, some) in
    let place : (at + c.taken) - 1 ≡ (at - 1) + c.taken = omega (arith, some) in
    let below : at - 1 < b = omega (arith, some, h) in
    let same : slice_get us ((at + c.taken) - 1) ≡ slice_get ts (at - 1) = ap (slice_get us) place ∙ stands (at - 1) below in
    ap₂ (λ x y. x && nat_eq (seen_of One y) k) (there ∙ sym here) same

pub holds-in : (b : ℕ) (c : Around) (g : Tables) (ts us : List Sight) (t : Test) (p : Place) → Stands b c ts us → b + c.taken < 2 ^ 64 → TestStays b t p → holds_of g us t (place_in c p) ≡ holds_of g ts t p
holds-in b c g ts us (test.Sees v n k) p stands short h = ap (λ x. nat_eq x k) (sees-in b v n c g ts us p stands short h.0)
holds-in b c g ts us (test.In n set) p stands short h = ap (has_of g set) (sees-in b One n c g ts us p stands short h.0)
holds-in b c g ts us (test.WordIn n set) p stands short h = ap (has_of g set) (sees-in b Word n c g ts us p stands short h.0)
holds-in b c g ts us (test.After k) p stands short h = after-in b p.at k c ts us stands (omega (arith, h.0)) (h.1 refl)
holds-in b c g ts us (test.Flag mask) p stands short h = refl
holds-in b c g ts us (test.Answered a) p stands short h = refl

-- ---- the place

goto-if-in : (c : Around) (x : Bool) (target : ℕ) (s : State) → with_place (goto_if_of x target) (in_place c s) ≡ in_place c (with_place (goto_if_of x target) s)
goto-if-in c true target s = refl
goto-if-in c false target s = refl

-- a test by a bool that is the same in place
goes-in : (c : Around) (x y : Bool) (target : ℕ) (s : State) → x ≡ y → with_place (goto_if_of x target) (in_place c s) ≡ in_place c (with_place (goto_if_of y target) s)
goes-in c x y target s e = ap (λ b. with_place (goto_if_of b target) (in_place c s)) e ∙ goto-if-in c y target s

bind-on : (c : Around) (x : Bool) (right target : ℕ) (s : State) →
    with_place (λ p. if x then goto_of target p else record p { operand = right }) (in_place c s) ≡ in_place c (with_place (λ p. if x then goto_of target p else record p { operand = right }) s)
bind-on c true right target s = refl
bind-on c false right target s = refl

bind-in : (c : Around) (w : Option Power) (target : ℕ) (s : State) → with_place (bind_of w target) (in_place c s) ≡ in_place c (with_place (bind_of w target) s)
bind-in c None target s = refl
bind-in c (Some w) target s = bind-on c (nat_eq w.level 0 || nat_lt w.level s.place.level) w.right target s

pub further-in : (at taken n : ℕ) → n ≤ 3 → (at + 3) + taken < 2 ^ 64 → further_of (at + taken) n ≡ further_of at n + taken
further-in at taken n h short =
    let fits : (at + taken) + n < 2 ^ 64 = omega (arith, h, short) in
    let near : at + n < 2 ^ 64 = omega (arith, h, short) in
    mod-eq_of_lt fits ∙ (let e : (at + taken) + n ≡ (at + n) + taken = omega arith in e) ∙ ap (λ k. k + taken) (sym (mod-eq_of_lt near))

few-signs : (v : View) → signs_of_view v ≤ 3
few-signs One = omega arith
few-signs Two = omega arith
few-signs Three = omega arith
few-signs Word = omega arith

few-by : (x : Bool) (v : View) → (if x then 1 else signs_of_view v) ≤ 3
few-by true v = omega arith
few-by false v = few-signs v

pub few-taken : (v : View) (t : Sight) → signs_taken_of v t ≤ 3
few-taken v t = few-by (nat_eq (seen_as_of v t) 0) v

pass-in : (c : Around) (n : ℕ) (p : Place) → n ≤ 3 → (p.at + 3) + c.taken < 2 ^ 64 → pass_of n (place_in c p) ≡ place_in c (pass_of n p)
pass-in c n p h short = ap (λ i. record (pass_of n p) { at = i }) (further-in p.at c.taken n h short)

level-in : (c : Around) (l : Level) (p : Place) → level_for_of l (place_in c p) ≡ level_for_of l p
level-in c (Own l) p = refl
level-in c Same p = refl
level-in c Operand p = refl

enter-in : (c : Around) (target : ℕ) (l : Level) (keep add : ℕ) (p : Place) → enter_of target l keep add (place_in c p) ≡ place_in c (enter_of target l keep add p)
enter-in c target l keep add p = ap (λ n. record (place_in c (enter_of target l keep add p)) { level = n }) (level-in c l p)

-- ---- what was made

take-on-in : (c : Around) (g : Tables) (v : View) (o : Option Sight) (s : State) → (s.place.at + 3) + c.taken < 2 ^ 64 → take_on g v o (in_place c s) ≡ in_place c (take_on g v o s)
take-on-in c g v None s short = refl
take-on-in c g v (Some t) s short = ap (λ p. record { place = p; made = (in_place c (take_on g v (Some t) s)).made }) (pass-in c (signs_taken_of v t) s.place (few-taken v t) short)

piece-on-in : (c : Around) (part : Part) (last : Bool) (o : Option Sight) (s : State) → (s.place.at + 3) + c.taken < 2 ^ 64 → piece_on part last o (in_place c s) ≡ in_place c (piece_on part last o s)
piece-on-in c part last None s short = refl
piece-on-in c part last (Some t) s short = by_test (nat_eq t.word 0)
  where
    by_last : (y : Bool) → part_of part y (in_place c s) ≡ in_place c (part_of part y s)
    by_last false = refl
    by_last true = ap (λ p. record { place = p; made = (in_place c (part_of part true s)).made }) (pass-in c 1 s.place (omega arith) short)

    by_test : (x : Bool) → (if x then in_place c s else part_of part last (in_place c s)) ≡ in_place c (if x then s else part_of part last s)
    by_test true = refl
    by_test false = by_last last

length-in : (c : Around) (es : List Event) → length (moved_events (length c.events) es ++ c.events) ≡ length es + length c.events
length-in c es = length-append (moved_events (length c.events) es) c.events ∙ ap (λ n. n + length c.events) (length-map es (moved_event (length c.events)))

pub min-low : (a b : ℕ) → a ≤ b → min a b ≡ a
min-low a b h = grind (arith, h)

start-in : (c : Around) (s : State) → IsFew c s → start_of (made_in c s.made) ≡ start_of s.made + length c.events
start-in c s few =
    let far : length s.made.events + length c.events ≤ 2 ^ 32 - 1 = omega (arith, few) in
    let near : length s.made.events ≤ 2 ^ 32 - 1 = omega (arith, few) in
    ap saturated_of (length-in c s.made.events) ∙ min-low _ _ far ∙ ap (λ n. n + length c.events) (sym (min-low _ _ near))

open-in : (c : Around) (s : State) → IsFew c s → with_made open_of (in_place c s) ≡ in_place c (with_made open_of s)
open-in c s few = ap (λ n. record (in_place c s) { made = record (made_in c s.made) { marks = n ∷ (made_in c s.made).marks } }) (start-in c s few)

leaf-in : (c : Around) (g : Tables) (k : SyntaxKind) (o : Option Sight) (s : State) → IsFew c s → (s.place.at + 3) + c.taken < 2 ^ 64 →
    with_made (make_of (event.Node k (start_of (made_in c s.made)))) (take_on g One o (in_place c s)) ≡ in_place c (with_made (make_of (event.Node k (start_of s.made))) (take_on g One o s))
leaf-in c g k o s few short = ap₂ (λ n (t : State). with_made (make_of (event.Node k n)) t) (start-in c s few) (take-on-in c g One o s short)

expect-in : (c : Around) (g : Tables) (x : Bool) (o : Option Sight) (n : ℕ) (s : State) → (s.place.at + 3) + c.taken < 2 ^ 64 →
    (if x then take_on g One o (in_place c s) else with_made (make_of (event.Error n)) (in_place c s)) ≡ in_place c (if x then take_on g One o s else with_made (make_of (event.Error n)) s)
expect-in c g true o n s short = take-on-in c g One o s short
expect-in c g false o n s short = refl

-- ---- marks that are not hidden

marks-in : (by : ℕ) (ms cs : List ℕ) → length (moved_marks by ms ++ cs) ≡ length ms + length cs
marks-in by ms cs = length-append (moved_marks by ms) cs ∙ ap (λ n. n + length cs) (length-map ms (λ m. m + by))

shown-in : (floor by : ℕ) (ms cs : List ℕ) → nat_lt (floor + length cs) (length (moved_marks by ms ++ cs)) ≡ nat_lt floor (length ms)
shown-in floor by ms cs = ap (nat_lt (floor + length cs)) (marks-in by ms cs) ∙ both (nat_lt floor (length ms)) refl
  where
    both : (x : Bool) → nat_lt floor (length ms) ≡ x → nat_lt (floor + length cs) (length ms + length cs) ≡ nat_lt floor (length ms)
    both true e = let low : floor < length ms = grind (arith, nat_tests, e) in (let high : nat_lt (floor + length cs) (length ms + length cs) ≡ true = grind (arith, nat_tests, low) in high) ∙ sym e
    both false e = let low : length ms ≤ floor = grind (arith, nat_tests, e) in (let high : nat_lt (floor + length cs) (length ms + length cs) ≡ false = grind (arith, nat_tests, low) in high) ∙ sym e

mark-by : (x : Bool) (floor by : ℕ) (ms cs : List ℕ) → nat_lt floor (length ms) ≡ x → (if x then first_of (moved_marks by ms ++ cs) else None) ≡ option_map (λ m. m + by) (if x then first_of ms else None)
mark-by false floor by ms cs e = refl
mark-by true floor by [] cs e = (let low : floor < 0 = grind (arith, nat_tests, e) in absurd (omega (arith, low)))
mark-by true floor by (m ∷ ms) cs e = refl

mark-in : (c : Around) (m : Stacks) → mark_of (made_in c m) ≡ option_map (λ n. n + length c.events) (mark_of m)
mark-in c m =
    ap (λ x. if x then first_of (moved_marks (length c.events) m.marks ++ c.marks) else None) (shown-in m.floor (length c.events) m.marks c.marks)
    ∙ mark-by (nat_lt m.floor (length m.marks)) m.floor (length c.events) m.marks c.marks refl

rest-by : (x : Bool) (floor : ℕ) (c : Around) (m : Stacks) (ms : List ℕ) → nat_lt floor (length ms) ≡ x
    → (if x then record (made_in c m) { marks = rest_of (moved_marks (length c.events) ms ++ c.marks) } else record (made_in c m) { marks = moved_marks (length c.events) ms ++ c.marks })
    ≡ made_in c (if x then record m { marks = rest_of ms } else record m { marks = ms })
rest-by false floor c m ms e = refl
rest-by true floor c m [] e = (let low : floor < 0 = grind (arith, nat_tests, e) in absurd (omega (arith, low)))
rest-by true floor c m (x ∷ ms) e = refl

pub forget-in : (c : Around) (m : Stacks) → forget_of (made_in c m) ≡ made_in c (forget_of m)
forget-in c m =
    ap (λ x. if x then record (made_in c m) { marks = rest_of (made_in c m).marks } else made_in c m) (shown-in m.floor (length c.events) m.marks c.marks)
    ∙ rest-by (nat_lt m.floor (length m.marks)) m.floor c m m.marks refl

node-on : (c : Around) (k : SyntaxKind) (o : Option ℕ) (m : Stacks) → node_of k (option_map (λ n. n + length c.events) o) (made_in c m) ≡ made_in c (node_of k o m)
node-on c k None m = refl
node-on c k (Some from) m = refl

node-in : (c : Around) (k : SyntaxKind) (a m : Stacks) → node_of k (mark_of (made_in c a)) (made_in c m) ≡ made_in c (node_of k (mark_of a) m)
node-in c k a m = ap (λ o. node_of k o (made_in c m)) (mark-in c a) ∙ node-on c k (mark_of a) m

close-in : (c : Around) (k : SyntaxKind) (m : Stacks) → close_of k (made_in c m) ≡ made_in c (close_of k m)
close-in c k m = ap (λ x. node_of k (mark_of (made_in c m)) x) (forget-in c m) ∙ node-in c k m (forget_of m)

earlier-in : (x : Bool) (by from m : ℕ) → (if x then from + by else min (from + by) (m + by)) ≡ (if x then from else min from m) + by
earlier-in true by from m = refl
earlier-in false by from m = add-min-add_right from m by

longer-in : (ks : List SyntaxKind) (by m : ℕ) (e : Event) → longer_of ks (Some (m + by)) (moved_event by e) ≡ moved_event by (longer_of ks (Some m) e)
longer-in ks by m (event.Node k from) = ap (λ n. event.Node k n) (earlier-in (is_among ks k) by from m)
longer-in ks by m (event.Token k n) = refl
longer-in ks by m (event.Piece p last) = refl
longer-in ks by m (event.Error n) = refl

longer-on : (ks : List SyntaxKind) (by : ℕ) (o : Option ℕ) (e : Event) → longer_of ks (option_map (λ n. n + by) o) (moved_event by e) ≡ moved_event by (longer_of ks o e)
longer-on ks by None e = refl
longer-on ks by (Some m) e = longer-in ks by m e

extended-in : (ks : List SyntaxKind) (by : ℕ) (o : Option ℕ) (es ds : List Event) → 0 < length es → extended_on ks (option_map (λ n. n + by) o) (moved_events by es ++ ds) ≡ moved_events by (extended_on ks o es) ++ ds
extended-in ks by o [] ds h = absurd (omega (arith, h))
extended-in ks by o (e ∷ es) ds h = ap (λ x. x ∷ (moved_events by es ++ ds)) (longer-on ks by o e)

extend-in : (ks : List SyntaxKind) (c : Around) (m : Stacks) → 0 < length m.events → extend_of ks (made_in c m) ≡ made_in c (extend_of ks m)
extend-in ks c m h =
    ap (λ o. record (made_in c m) { events = extended_on ks o (made_in c m).events }) (mark-in c m)
    ∙ ap (λ es. record (made_in c m) { events = es }) (extended-in ks (length c.events) (mark_of m) m.events c.events h)

-- ---- calls and returns

call-in : (c : Around) (target : ℕ) (l : Level) (keep add : ℕ) (s : State) → call_with target l keep add (in_place c s) ≡ in_place c (call_with target l keep add s)
call-in c target l keep add s = ap (λ (p : Place). record { place = p; made = made_in c (call_of (frame_of false s.place) s.made) }) (enter-in c target l keep add s.place)

seal-in : (c : Around) (f : Frame) (k : SyntaxKind) (credit : ℕ) (s : State) → IsFew c s → seal_of f k credit (made_in c s.made) ≡ made_in c (seal_of f k credit s.made)
seal-in c f k credit s few =
    ap₂ (λ n i. record (made_in c (seal_of f k credit s.made)) {
      seals = record { kind = k; from = n; floor = s.made.floor + length c.marks; credit = credit } ∷ (made_in c s.made).seals;
      floor = i;
    })
    (start-in c s few) (marks-in (length c.events) s.made.marks c.marks)

sealed-on-in : (c : Around) (g : Tables) (target : ℕ) (k : SyntaxKind) (o : Option Sight) (s : State) → IsFew c s → (s.place.at + 3) + c.taken < 2 ^ 64 → sealed_on g target k o (in_place c s) ≡ in_place c (sealed_on g target k o s)
sealed-on-in c g target k None s few short = refl
sealed-on-in c g target k (Some t) s few short =
    ap₂ (λ i (m : Stacks). record { place = fresh_of target (record s.place { at = i }); made = make_of (event.Token (kind_of g t.one) 1) m })
    (further-in s.place.at c.taken 1 (omega arith) short) (seal-in c (frame_of true s.place) k s.place.credit s few)

hidden-in : (c : Around) (m : Stacks) → hidden_of (made_in c m) ≡ moved_marks (length c.events) (hidden_of m) ++ c.marks
hidden-in c m =
    let by = length c.events in
    let n = length m.marks - m.floor in
    let count : length (moved_marks by m.marks ++ c.marks) - (m.floor + length c.marks) ≡ length m.marks - m.floor = ap (λ i. i - (m.floor + length c.marks)) (marks-in by m.marks c.marks) ∙ omega arith in
    let same : length (moved_marks by m.marks) ≡ length m.marks = length-map m.marks (λ x. x + by) in
    let inside : n ≤ length (moved_marks by m.marks) = omega (arith, same) in
    ap (λ i. drop i (moved_marks by m.marks ++ c.marks)) count ∙ drop-append-le n (moved_marks by m.marks) c.marks inside ∙ ap (λ xs. xs ++ c.marks) (drop-map (λ x. x + by) n m.marks)

unseal-in : (c : Around) (x : Seal) (m : Stacks) → unseal_of (moved_seal (length c.events) (length c.marks) x) (made_in c m) ≡ made_in c (unseal_of x m)
unseal-in c x m = ap (λ ms. make_of (event.Node x.kind (x.from + length c.events)) (record (made_in c m) { marks = ms; floor = x.floor + length c.marks })) (hidden-in c m)

-- by the calls and by what the sealed ones keep
abbrev with : List Frame → List Seal → Place → Stacks → State
with fs xs p m = record { place = p; made = record m { frames = fs; seals = xs } }

back-in : (x : Bool) (c : Around) (f : Frame) (fs : List Frame) (xs : List Seal) (p : Place) (m : Stacks) → (if x then suc (sealed_count fs) else sealed_count fs) ≡ length xs
    → (if x then left_of (with_place (resume_of f) (in_place c (with fs xs p m))) else with_place (resume_of f) (in_place c (with fs xs p m)))
    ≡ in_place c (if x then left_of (with_place (resume_of f) (with fs xs p m)) else with_place (resume_of f) (with fs xs p m))
back-in true c f fs [] p m h = absurd (omega (arith, h))
back-in true c f fs (x ∷ xs) p m h = ap (λ (t : Stacks). record { place = place_in c (leave_of x (resume_of f p)); made = t }) (unseal-in c x (record m { frames = fs; seals = xs }))
back-in false c f fs xs p m h = refl

return-with : (c : Around) (fs : List Frame) (xs : List Seal) (p : Place) (m : Stacks) → 0 < length fs → sealed_count fs ≡ length xs → return_of (in_place c (with fs xs p m)) ≡ in_place c (return_of (with fs xs p m))
return-with c [] xs p m h nested = absurd (omega (arith, h))
return-with c (f ∷ fs) xs p m h nested = back-in f.sealed c f fs xs p m nested

return-in : (c : Around) (s : State) → 0 < length s.made.frames → IsNested s.made → return_of (in_place c s) ≡ in_place c (return_of s)
return-in c s h nested = return-with c s.made.frames s.made.seals s.place s.made h nested

-- a mark is no call
forgotten : (m : Stacks) → (0 < length m.frames → 0 < length (forget_of m).frames) × (IsNested m → IsNested (forget_of m))
forgotten m = by_test (nat_lt m.floor (length m.marks))
  where
    by_test : (x : Bool) → (0 < length m.frames → 0 < length (if x then record m { marks = rest_of m.marks } else m).frames) × (IsNested m → IsNested (if x then record m { marks = rest_of m.marks } else m))
    by_test true = (λ h. h, λ h. h)
    by_test false = (λ h. h, λ h. h)

-- ---- an operation

unfoldable pub view_by : Tables → Option Sight → View
view_by g x = if is_some (power_of g (seen_of Three x)) then Three else (if is_some (power_of g (seen_of Two x)) then Two else One)

pub roomy : (b at taken : ℕ) → at ≤ b → b + taken + 3 < 2 ^ 64 → (at + 3) + taken < 2 ^ 64
roomy b at taken h short = omega (arith, h, short)

pub obey-in : (b : ℕ) (c : Around) (g : Tables) (ts us : List Sight) (o : Op) (s : State) → Stands b c ts us → b + c.taken + 3 < 2 ^ 64 → Stays b c o s → obey_of g us o (in_place c s) ≡ in_place c (obey_of g ts o s)
unfolding view_by
obey-in b c g ts us (op.IfKind k target) s stands short h = goes-in c _ _ target s (ap (λ x. nat_eq (seen_of One x) k) (here-in b s.place.at c ts us stands h.near))
obey-in b c g ts us (op.UnlessKind k target) s stands short h = goes-in c _ _ target s (ap (λ x. not (nat_eq (seen_of One x) k)) (here-in b s.place.at c ts us stands h.near))
obey-in b c g ts us (op.IfIn set target) s stands short h = goes-in c _ _ target s (ap (λ x. has_of g set (seen_of One x)) (here-in b s.place.at c ts us stands h.near))
obey-in b c g ts us (op.UnlessIn set target) s stands short h = goes-in c _ _ target s (ap (λ x. not (has_of g set (seen_of One x))) (here-in b s.place.at c ts us stands h.near))
obey-in b c g ts us (op.If t target) s stands short h = goes-in c _ _ target s (holds-in b c g ts us t s.place stands (omega (arith, short)) (h.near, h.back))
obey-in b c g ts us (op.Unless t target) s stands short h = goes-in c _ _ target s (ap not (holds-in b c g ts us t s.place stands (omega (arith, short)) (h.near, h.back)))
obey-in b c g ts us (op.Switch row) s stands short h = ap (λ x. with_place (goto_of (target_of g row (seen_of One x))) (in_place c s)) (here-in b s.place.at c ts us stands h.near)
obey-in b c g ts us (op.Jump target) s stands short h = refl
obey-in b c g ts us op.Take s stands short h = ap (λ x. take_on g One x (in_place c s)) (here-in b s.place.at c ts us stands h.near) ∙ take-on-in c g One (slice_get ts s.place.at) s (roomy b s.place.at c.taken (omega (arith, h.near)) short)
obey-in b c g ts us (op.TakeAs v) s stands short h = ap (λ x. take_on g v x (in_place c s)) (here-in b s.place.at c ts us stands h.near) ∙ take-on-in c g v (slice_get ts s.place.at) s (roomy b s.place.at c.taken (omega (arith, h.near)) short)
obey-in b c g ts us op.TakeOperator s stands short h =
    ap (λ x. take_on g (view_by g x) x (in_place c s)) (here-in b s.place.at c ts us stands h.near) ∙ take-on-in c g (view_by g (slice_get ts s.place.at)) (slice_get ts s.place.at) s (roomy b s.place.at c.taken (omega (arith, h.near)) short)
obey-in b c g ts us (op.Expect k n) s stands short h =
    ap (λ x. if nat_eq (seen_of One x) k then take_on g One x (in_place c s) else with_made (make_of (event.Error n)) (in_place c s)) (here-in b s.place.at c ts us stands h.near)
    ∙ expect-in c g (nat_eq (seen_of One (slice_get ts s.place.at)) k) (slice_get ts s.place.at) n s (roomy b s.place.at c.taken (omega (arith, h.near)) short)
obey-in b c g ts us (op.Piece part last) s stands short h =
    ap (λ x. piece_on part last x (in_place c s)) (here-in b s.place.at c ts us stands h.near) ∙ piece-on-in c part last (slice_get ts s.place.at) s (roomy b s.place.at c.taken (omega (arith, h.near)) short)
obey-in b c g ts us op.Open s stands short h = open-in c s h.few
obey-in b c g ts us op.Drop s stands short h = ap (λ (m : Stacks). record (in_place c s) { made = m }) (forget-in c s.made)
obey-in b c g ts us (op.Wrap k) s stands short h = ap (λ (m : Stacks). record (in_place c s) { made = m }) (node-in c k s.made s.made)
obey-in b c g ts us (op.Close k) s stands short h = ap (λ (m : Stacks). record (in_place c s) { made = m }) (close-in c k s.made)
obey-in b c g ts us (op.Leaf k) s stands short h =
    ap (λ x. with_made (make_of (event.Node k (start_of (made_in c s.made)))) (take_on g One x (in_place c s))) (here-in b s.place.at c ts us stands h.near)
    ∙ leaf-in c g k (slice_get ts s.place.at) s h.few (roomy b s.place.at c.taken (omega (arith, h.near)) short)
obey-in b c g ts us op.Extend s stands short h = ap (λ (m : Stacks). record (in_place c s) { made = m }) (extend-in g.sealed c s.made h.event)
obey-in b c g ts us (op.Error n) s stands short h = refl
obey-in b c g ts us (op.Call target) s stands short h = refl
obey-in b c g ts us (op.Enter target) s stands short h = open-in c (call_with target (Own 0) 0 0 s) h.few
obey-in b c g ts us (op.CallWith target l keep add) s stands short h = call-in c target l keep add s
obey-in b c g ts us (op.Sealed target k) s stands short h =
    ap (λ x. sealed_on g target k x (in_place c s)) (here-in b s.place.at c ts us stands h.near) ∙ sealed-on-in c g target k (slice_get ts s.place.at) s h.few (roomy b s.place.at c.taken (omega (arith, h.near)) short)
obey-in b c g ts us (op.Become target l keep add) s stands short h = ap (λ (p : Place). record (in_place c s) { place = p }) (enter-in c target l keep add s.place)
obey-in b c g ts us op.Return s stands short h = return-in c s (h.frame refl) h.nested
obey-in b c g ts us op.Leave s stands short h =
    ap (λ (m : Stacks). return_of (record (in_place c s) { made = m })) (forget-in c s.made) ∙ return-in c (with_made forget_of s) ((forgotten s.made).0 (h.frame refl)) ((forgotten s.made).1 h.nested)
obey-in b c g ts us (op.Reply a) s stands short h = return-in c (with_place (answer_of a) s) (h.frame refl) h.nested
obey-in b c g ts us (op.Answer a) s stands short h = refl
obey-in b c g ts us (op.Flags keep add) s stands short h = refl
obey-in b c g ts us (op.Operator target) s stands short h =
    ap (λ x. with_place (bind_of (power_of g (seen_of (view_by g x) x)) target) (in_place c s)) (here-in b s.place.at c ts us stands h.near)
    ∙ bind-in c (power_of g (seen_of (view_by g (slice_get ts s.place.at)) (slice_get ts s.place.at))) target s

moved_on : (b : ℕ) (c : Around) (o : Op) (s : State) → Stays b c o s → Stays b c o (with_place past_of s)
moved_on b c o s h = record { near = h.near; back = h.back; frame = h.frame; nested = h.nested; event = h.event; few = h.few }

spent-in : (c : Around) (x : Bool) (t : State) (s u : State) → u ≡ in_place c t → (if x then u else in_place c s) ≡ in_place c (if x then t else s)
spent-in c true t s u e = e
spent-in c false t s u e = refl

step-on-in : (b : ℕ) (c : Around) (g : Tables) (ts us : List Sight) (o : Option Op) (s : State) → Stands b c ts us → b + c.taken + 3 < 2 ^ 64 → slice_get g.ops s.place.next ≡ o → NextStays b c g s → step_on g us o (in_place c s) ≡ in_place c (step_on g ts o s)
step-on-in b c g ts us None s stands short e h = refl
step-on-in b c g ts us (Some o) s stands short e h =
    spent-in c (nat_lt 0 s.place.credit) (obey_of g ts o (with_place past_of s)) s (obey_of g us o (with_place past_of (in_place c s))) (obey-in b c g ts us o (with_place past_of s) stands short (moved_on b c o s (h o e)))

pub step-in : (b : ℕ) (c : Around) (g : Tables) (ts us : List Sight) (s : State) → Stands b c ts us → b + c.taken + 3 < 2 ^ 64 → NextStays b c g s → step_of g us (in_place c s) ≡ in_place c (step_of g ts s)
step-in b c g ts us s stands short h =
    step-at g us (in_place c s) (slice_get g.ops s.place.next) refl
    ∙ step-on-in b c g ts us (slice_get g.ops s.place.next) s stands short refl h
    ∙ ap (in_place c) (sym (step-at g ts s (slice_get g.ops s.place.next) refl))

-- a run that meets nothing of what lies around makes the same there
pub runs-in : (n b : ℕ) (c : Around) (g : Tables) (ts us : List Sight) (s : State) → Stands b c ts us → b + c.taken + 3 < 2 ^ 64 → ((m : ℕ) → m < n → NextStays b c g (runs m g ts s)) → runs n g us (in_place c s) ≡ in_place c (runs n g ts s)
runs-in zero b c g ts us s stands short h = runs-none g us (in_place c s) ∙ ap (in_place c) (sym (runs-none g ts s))
runs-in (suc n) b c g ts us s stands short h =
    let earlier : runs n g us (in_place c s) ≡ in_place c (runs n g ts s) = runs-in n b c g ts us s stands short (λ m below. h m (omega (arith, below))) in
    let last : n < suc n = omega arith in
    runs-suc n g us (in_place c s) ∙ ap (step_of g us) earlier ∙ step-in b c g ts us (runs n g ts s) stands short (h n last) ∙ ap (in_place c) (sym (runs-suc n g ts s))
