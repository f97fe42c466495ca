-- A run goes on in the same way whatever events a piece before it is made of.
use Rattle.std.proofs.Common.{◌≡◌, ℕ, zero, suc, ◌<◌, ◌≤◌, ◌+◌, ◌-◌, ◌^◌, min, List, [], ◌∷◌, ◌++◌, map, drop, length, ap, ap₂, ◌∙◌, sym, refl, arith, Bool, true, false, not, ◌||◌, nat_lt, nat_le, nat_eq, if◌then◌else◌, subst}
use Rattle.std.specs.Prelude.{Option, Some, None, option_map, slice_get}
use Rattle.syntax_kind.specs.declared.syntax_kind.SyntaxKind.{SyntaxKind}
use Rattle.std.proofs.lemmas.List.{length-map, length-append, drop-map}
use Rattle.std.proofs.lemmas.Bool.{leb-false}
use Rattle.std.proofs.lemmas.Bool.Decides.{nat_tests}
use Rattle.grammar_machine.specs.declared.grammar.Sight.{Sight}
use Rattle.grammar_machine.specs.declared.grammar.View.{View}
use Rattle.grammar_machine.specs.declared.grammar.View.TheVariants.{One}
use Rattle.grammar_machine.specs.declared.grammar.Level.{Level}
use Rattle.grammar_machine.specs.declared.grammar.Level.TheVariants.{Own, Same, Operand}
use Rattle.grammar_machine.specs.declared.grammar.Power.{Power}
use Rattle.grammar_machine.specs.declared.grammar.Op.{Op}
use Rattle.grammar_machine.specs.declared.grammar.Op.TheVariants as op
use Rattle.grammar_machine.specs.declared.event.Event.{Event}
use Rattle.grammar_machine.specs.declared.event.Event.TheVariants as event
use Rattle.grammar_machine.specs.declared.event.Part.{Part}
use Rattle.grammar_machine.specs.declared.machine.Place.{Place}
use Rattle.grammar_machine.specs.declared.made.Frame.{Frame}
use Rattle.grammar_machine.specs.declared.made.Seal.{Seal}
use Rattle.grammar_machine.specs.Running.{Tables, Stacks, State, seen_of, signs_taken_of, further_of, saturated_of, has_of, target_of, kind_of, seen_as_of, goto_of, goto_if_of, bind_of, power_of, enter_of, pass_of, fresh_of, resume_of, leave_of, with_place, past_of, take_on, part_of, piece_on, sealed_on, make_of, start_of, with_made, node_of, mark_of, forget_of, open_of, close_of, call_of, seal_of, hidden_of, unseal_of, left_of, extend_of, extended_on, is_among, longer_of, first_of, rest_of, level_for_of, answer_of, frame_of, return_of, call_with, obey_of, step_on, step_of, runs}
use Rattle.grammar_machine.specs.Alone.{reach_of, looks_back_of}
use Rattle.grammar_machine.specs.Framing.{Around}
use Rattle.grammar_machine.specs.Filling.{Hole, later_than, event_later, seal_later, inserted, place_after, made_after, filled, LooksAreShort, RunsGoOn}
use Rattle.grammar_machine.proofs.Running.{step-at, runs-none, runs-suc}
use Rattle.grammar_machine.proofs.Growing.{Grows, runs-grow, step-grows}
use Rattle.grammar_machine.proofs.Framed.{here-in, holds-in, min-low, view_by, roomy, further-in, few-taken}

-- the tokens go on in the same way below b
abbrev pub GoesBelow : ℕ → Hole → List Sight → List Sight → Type 0
GoesBelow b h ts us = (i : ℕ) → i < b → slice_get us (i + h.taken) ≡ slice_get ts i

-- what is asked of a step: no number wraps around, and the piece is behind
pub record Behind (b : ℕ) (h : Hole) (o : Op) (s : State) : Type 0 where
  pub near : s.place.at + reach_of o ≤ b
  pub back : looks_back_of o ≡ true → 0 < s.place.at
  pub over : h.below < length s.made.events
  pub few : length s.made.events + length h.rest < 2 ^ 32 - 1

abbrev pub NextBehind : ℕ → Hole → Tables → State → Type 0
NextBehind b h g s = (o : Op) → slice_get g.ops s.place.next ≡ Some o → Behind b h o s

-- only the place
around : Hole → Around
around h = record { taken = h.taken; frames = []; seals = []; marks = []; events = [] }

-- ---- numbers

later-above : (e n i : ℕ) → e < i → later_than e n i ≡ i + n
later-above e n i h = by_test (nat_le i e) refl
  where
    by_test : (x : Bool) → nat_le i e ≡ x → (if x then i else i + n) ≡ i + n
    by_test false q = refl
    by_test true q = let low : i ≤ e = grind (arith, nat_tests, q) in absurd (omega (arith, low, h))

pub later-below : (e n i : ℕ) → i ≤ e → later_than e n i ≡ i
later-below e n i h = by_test (nat_le i e) refl
  where
    by_test : (x : Bool) → nat_le i e ≡ x → (if x then i else i + n) ≡ i
    by_test true q = refl
    by_test false q = let high : e < i = leb-false i e q in absurd (omega (arith, high, h))

later-keeps : (e n i j : ℕ) → i ≤ j → later_than e n i ≤ later_than e n j
later-keeps e n i j h = by_tests (nat_le i e) refl (nat_le j e) refl
  where
    by_tests : (x : Bool) → nat_le i e ≡ x → (y : Bool) → nat_le j e ≡ y → (if x then i else i + n) ≤ (if y then j else j + n)
    by_tests true p true q = h
    by_tests true p false q = omega (arith, h)
    by_tests false p false q = omega (arith, h)
    by_tests false p true q =
        let high : e < i = leb-false i e p in
        let low : j ≤ e = grind (arith, nat_tests, q) in
        absurd (omega (arith, high, low, h))

min-high : (a b : ℕ) → b ≤ a → min a b ≡ b
min-high a b h = grind (arith, h)

later-min : (e n i j : ℕ) → min (later_than e n i) (later_than e n j) ≡ later_than e n (min i j)
later-min e n i j = by_test (nat_le i j) refl
  where
    by_test : (x : Bool) → nat_le i j ≡ x → min (later_than e n i) (later_than e n j) ≡ later_than e n (min i j)
    by_test true q =
        let h : i ≤ j = grind (arith, nat_tests, q) in
        min-low _ _ (later-keeps e n i j h) ∙ ap (later_than e n) (sym (min-low i j h))
    by_test false q =
        let k : j < i = leb-false i j q in
        let h : j ≤ i = omega (arith, k) in
        min-high _ _ (later-keeps e n j i h) ∙ ap (later_than e n) (sym (min-high i j h))

-- ---- events

pub inserted-more : (e : ℕ) (rest : List Event) (x : Event) (xs : List Event) → e < length (x ∷ xs) → inserted e rest (x ∷ xs) ≡ event_later e (length rest) x ∷ inserted e rest xs
unfolding inserted
inserted-more e rest x xs h = by_test (nat_le (length (x ∷ xs)) e) refl
  where
    by_test : (t : Bool) → nat_le (length (x ∷ xs)) e ≡ t → (if t then rest ++ (x ∷ xs) else event_later e (length rest) x ∷ inserted e rest xs) ≡ event_later e (length rest) x ∷ inserted e rest xs
    by_test false q = refl
    by_test true q = let low : length (x ∷ xs) ≤ e = grind (arith, nat_tests, q) in absurd (omega (arith, low, h))

pub length-inserted : (e : ℕ) (rest : List Event) (xs : List Event) → length (inserted e rest xs) ≡ length xs + length rest
unfolding inserted
length-inserted e rest [] = omega arith
length-inserted e rest (x ∷ xs) = by_test (length-inserted e rest xs) (nat_le (length (x ∷ xs)) e)
  where
    by_test : length (inserted e rest xs) ≡ length xs + length rest → (t : Bool) → length (if t then rest ++ (x ∷ xs) else event_later e (length rest) x ∷ inserted e rest xs) ≡ length (x ∷ xs) + length rest
    by_test more true = length-append rest (x ∷ xs) ∙ omega arith
    by_test more false = omega (arith, more)

one-more : (e : ℕ) (x : Event) (xs : List Event) → e < length xs → e < length (x ∷ xs)
one-more e x xs h = omega (arith, h)

make-after : (h : Hole) (x : Event) (m : Stacks) → h.below < length m.events → make_of (event_later h.below (length h.rest) x) (made_after h m) ≡ made_after h (make_of x m)
make-after h x m over = ap (λ es. record (made_after h m) { events = es }) (sym (inserted-more h.below h.rest x m.events (one-more h.below x m.events over)))

start-after : (h : Hole) (m : Stacks) → h.below < length m.events → length m.events + length h.rest < 2 ^ 32 - 1 → start_of (made_after h m) ≡ later_than h.below (length h.rest) (start_of m)
start-after h m over few =
    let far : length m.events + length h.rest ≤ 2 ^ 32 - 1 = omega (arith, few) in
    let near : length m.events ≤ 2 ^ 32 - 1 = omega (arith, few) in
    ap saturated_of (length-inserted h.below h.rest m.events) ∙ min-low _ _ far
    ∙ sym (ap (later_than h.below (length h.rest)) (min-low _ _ near) ∙ later-above h.below (length h.rest) (length m.events) over)

earlier-after : (x : Bool) (e n from m : ℕ) → (if x then later_than e n from else min (later_than e n from) (later_than e n m)) ≡ later_than e n (if x then from else min from m)
earlier-after true e n from m = refl
earlier-after false e n from m = later-min e n from m

longer-after : (ks : List SyntaxKind) (e n : ℕ) (o : Option ℕ) (x : Event) → longer_of ks (option_map (later_than e n) o) (event_later e n x) ≡ event_later e n (longer_of ks o x)
longer-after ks e n None x = refl
longer-after ks e n (Some m) (event.Node k from) = ap (λ i. event.Node k i) (earlier-after (is_among ks k) e n from m)
longer-after ks e n (Some m) (event.Token k signs) = refl
longer-after ks e n (Some m) (event.Piece p last) = refl
longer-after ks e n (Some m) (event.Error i) = refl

extended-after : (ks : List SyntaxKind) (e : ℕ) (rest : List Event) (o : Option ℕ) (es : List Event) → e < length es
    → extended_on ks (option_map (later_than e (length rest)) o) (inserted e rest es) ≡ inserted e rest (extended_on ks o es)
extended-after ks e rest o [] h = absurd (omega (arith, h))
extended-after ks e rest o (x ∷ xs) h =
    ap (extended_on ks (option_map (later_than e (length rest)) o)) (inserted-more e rest x xs h)
    ∙ ap (λ y. y ∷ inserted e rest xs) (longer-after ks e (length rest) o x)
    ∙ sym (inserted-more e rest (longer_of ks o x) xs h)

-- ---- marks that are not hidden

shown-after : (floor : ℕ) (h : Hole) (ms : List ℕ) → nat_lt floor (length (map (later_than h.below (length h.rest)) ms)) ≡ nat_lt floor (length ms)
shown-after floor h ms = ap (nat_lt floor) (length-map ms (later_than h.below (length h.rest)))

mark-by : (x : Bool) (f : ℕ → ℕ) (ms : List ℕ) → (if x then first_of (map f ms) else None) ≡ option_map f (if x then first_of ms else None)
mark-by false f ms = refl
mark-by true f [] = refl
mark-by true f (m ∷ ms) = refl

mark-after : (h : Hole) (m : Stacks) → mark_of (made_after h m) ≡ option_map (later_than h.below (length h.rest)) (mark_of m)
mark-after h m =
    ap (λ x. if x then first_of (map (later_than h.below (length h.rest)) m.marks) else None) (shown-after m.floor h m.marks)
    ∙ mark-by (nat_lt m.floor (length m.marks)) (later_than h.below (length h.rest)) m.marks

rest-by : (x : Bool) (h : Hole) (m : Stacks) (ms : List ℕ)
    → (if x then record (made_after h m) { marks = rest_of (map (later_than h.below (length h.rest)) ms) } else record (made_after h m) { marks = map (later_than h.below (length h.rest)) ms })
    ≡ made_after h (if x then record m { marks = rest_of ms } else record m { marks = ms })
rest-by false h m ms = refl
rest-by true h m [] = refl
rest-by true h m (x ∷ ms) = refl

forget-after : (h : Hole) (m : Stacks) → forget_of (made_after h m) ≡ made_after h (forget_of m)
forget-after h m =
    ap (λ x. if x then record (made_after h m) { marks = rest_of (made_after h m).marks } else made_after h m) (shown-after m.floor h m.marks)
    ∙ rest-by (nat_lt m.floor (length m.marks)) h m m.marks

extend-after : (ks : List SyntaxKind) (h : Hole) (m : Stacks) → h.below < length m.events → extend_of ks (made_after h m) ≡ made_after h (extend_of ks m)
extend-after ks h m over =
    ap (λ o. record (made_after h m) { events = extended_on ks o (made_after h m).events }) (mark-after h m)
    ∙ ap (λ es. record (made_after h m) { events = es }) (extended-after ks h.below h.rest (mark_of m) m.events over)

node-on : (h : Hole) (k : SyntaxKind) (o : Option ℕ) (m : Stacks) → h.below < length m.events → node_of k (option_map (later_than h.below (length h.rest)) o) (made_after h m) ≡ made_after h (node_of k o m)
node-on h k None m over = refl
node-on h k (Some i) m over = make-after h (event.Node k i) m over

node-after : (h : Hole) (k : SyntaxKind) (a m : Stacks) → h.below < length m.events → node_of k (mark_of (made_after h a)) (made_after h m) ≡ made_after h (node_of k (mark_of a) m)
node-after h k a m over = ap (λ o. node_of k o (made_after h m)) (mark-after h a) ∙ node-on h k (mark_of a) m over

forgotten : (e : ℕ) (m : Stacks) → e < length m.events → e < length (forget_of m).events
forgotten e m over = by_test (nat_lt m.floor (length m.marks))
  where
    by_test : (x : Bool) → e < length (if x then record m { marks = rest_of m.marks } else m).events
    by_test true = over
    by_test false = over

close-after : (h : Hole) (k : SyntaxKind) (m : Stacks) → h.below < length m.events → close_of k (made_after h m) ≡ made_after h (close_of k m)
close-after h k m over = ap (λ x. node_of k (mark_of (made_after h m)) x) (forget-after h m) ∙ node-after h k m (forget_of m) (forgotten h.below m over)

-- ---- the place

goto-if-after : (h : Hole) (x : Bool) (target : ℕ) (s : State) → with_place (goto_if_of x target) (filled h s) ≡ filled h (with_place (goto_if_of x target) s)
goto-if-after h true target s = refl
goto-if-after h false target s = refl

goes-after : (h : Hole) (x y : Bool) (target : ℕ) (s : State) → x ≡ y → with_place (goto_if_of x target) (filled h s) ≡ filled h (with_place (goto_if_of y target) s)
goes-after h x y target s e = ap (λ b. with_place (goto_if_of b target) (filled h s)) e ∙ goto-if-after h y target s

take-on-after : (h : Hole) (g : Tables) (v : View) (o : Option Sight) (s : State) → h.below < length s.made.events → (s.place.at + 3) + h.taken < 2 ^ 64 → take_on g v o (filled h s) ≡ filled h (take_on g v o s)
take-on-after h g v None s over short = refl
take-on-after h g v (Some t) s over short =
    ap₂ (λ n (m : Stacks). record { place = record (pass_of (signs_taken_of v t) s.place) { at = n }; made = m })
    (further-in s.place.at h.taken (signs_taken_of v t) (few-taken v t) short)
    (make-after h (event.Token (kind_of g (seen_as_of v t)) (signs_taken_of v t)) s.made over)

piece-on-after : (h : Hole) (part : Part) (last : Bool) (o : Option Sight) (s : State) → h.below < length s.made.events → (s.place.at + 3) + h.taken < 2 ^ 64 → piece_on part last o (filled h s) ≡ filled h (piece_on part last o s)
piece-on-after h part last None s over short = refl
piece-on-after h part last (Some t) s over short = by_test (nat_eq t.word 0)
  where
    by_last : (y : Bool) → part_of part y (filled h s) ≡ filled h (part_of part y s)
    by_last false = ap (λ (m : Stacks). record (filled h s) { made = m }) (make-after h (event.Piece part false) s.made over)
    by_last true =
        ap₂ (λ n (m : Stacks). record { place = record (pass_of 1 s.place) { at = n }; made = m })
        (further-in s.place.at h.taken 1 (omega arith) short) (make-after h (event.Piece part true) s.made over)

    by_test : (x : Bool) → (if x then filled h s else part_of part last (filled h s)) ≡ filled h (if x then s else part_of part last s)
    by_test true = refl
    by_test false = by_last last

error-after : (h : Hole) (n : ℕ) (s : State) → h.below < length s.made.events → with_made (make_of (event.Error n)) (filled h s) ≡ filled h (with_made (make_of (event.Error n)) s)
error-after h n s over = ap (λ (m : Stacks). record (filled h s) { made = m }) (make-after h (event.Error n) s.made over)

expect-after : (h : Hole) (g : Tables) (x : Bool) (o : Option Sight) (n : ℕ) (s : State) → h.below < length s.made.events → (s.place.at + 3) + h.taken < 2 ^ 64 →
    (if x then take_on g One o (filled h s) else with_made (make_of (event.Error n)) (filled h s)) ≡ filled h (if x then take_on g One o s else with_made (make_of (event.Error n)) s)
expect-after h g true o n s over short = take-on-after h g One o s over short
expect-after h g false o n s over short = error-after h n s over

taken-more : (e : ℕ) (g : Tables) (v : View) (o : Option Sight) (s : State) → e < length s.made.events → e < length (take_on g v o s).made.events
taken-more e g v None s over = over
taken-more e g v (Some t) s over = omega (arith, over)

leaf-after : (h : Hole) (g : Tables) (k : SyntaxKind) (o : Option Sight) (s : State) → h.below < length s.made.events → length s.made.events + length h.rest < 2 ^ 32 - 1 → (s.place.at + 3) + h.taken < 2 ^ 64 →
    with_made (make_of (event.Node k (start_of (made_after h s.made)))) (take_on g One o (filled h s)) ≡ filled h (with_made (make_of (event.Node k (start_of s.made))) (take_on g One o s))
leaf-after h g k o s over few short =
    ap₂ (λ n (t : State). with_made (make_of (event.Node k n)) t) (start-after h s.made over few) (take-on-after h g One o s over short)
    ∙ ap (λ (m : Stacks). record (filled h (take_on g One o s)) { made = m }) (make-after h (event.Node k (start_of s.made)) (take_on g One o s).made (taken-more h.below g One o s over))

seal-after : (h : Hole) (f : Frame) (k : SyntaxKind) (credit : ℕ) (m : Stacks) → h.below < length m.events → length m.events + length h.rest < 2 ^ 32 - 1 → seal_of f k credit (made_after h m) ≡ made_after h (seal_of f k credit m)
seal-after h f k credit m over few =
    ap₂ (λ n i. record (made_after h (seal_of f k credit m)) { seals = record { kind = k; from = n; floor = m.floor; credit = credit } ∷ (made_after h m).seals; floor = i })
    (start-after h m over few) (length-map m.marks (later_than h.below (length h.rest)))

sealed-on-after : (h : Hole) (g : Tables) (target : ℕ) (k : SyntaxKind) (o : Option Sight) (s : State) → h.below < length s.made.events → length s.made.events + length h.rest < 2 ^ 32 - 1 → (s.place.at + 3) + h.taken < 2 ^ 64
    → sealed_on g target k o (filled h s) ≡ filled h (sealed_on g target k o s)
sealed-on-after h g target k None s over few short = refl
sealed-on-after h g target k (Some t) s over few short =
    ap₂ (λ i (m : Stacks). record { place = fresh_of target (record s.place { at = i }); made = make_of (event.Token (kind_of g t.one) 1) m })
    (further-in s.place.at h.taken 1 (omega arith) short) (seal-after h (frame_of true s.place) k s.place.credit s.made over few)
    ∙ ap (λ (m : Stacks). record { place = fresh_of target (record s.place { at = further_of s.place.at 1 + h.taken }); made = m })
    (make-after h (event.Token (kind_of g t.one) 1) (seal_of (frame_of true s.place) k s.place.credit s.made) over)

hidden-after : (h : Hole) (m : Stacks) → hidden_of (made_after h m) ≡ map (later_than h.below (length h.rest)) (hidden_of m)
hidden-after h m =
    ap (λ n. drop (n - m.floor) (map (later_than h.below (length h.rest)) m.marks)) (length-map m.marks (later_than h.below (length h.rest)))
    ∙ drop-map (later_than h.below (length h.rest)) (length m.marks - m.floor) m.marks

unseal-after : (h : Hole) (x : Seal) (m : Stacks) → h.below < length m.events → unseal_of (seal_later h.below (length h.rest) x) (made_after h m) ≡ made_after h (unseal_of x m)
unseal-after h x m over =
    ap (λ ms. make_of (event.Node x.kind (later_than h.below (length h.rest) x.from)) (record (made_after h m) { marks = ms; floor = x.floor })) (hidden-after h m)
    ∙ make-after h (event.Node x.kind x.from) (record m { marks = hidden_of m; floor = x.floor }) over

-- by the calls and by what the sealed ones keep
abbrev with : List Frame → List Seal → Place → Stacks → State
with fs xs p m = record { place = p; made = record m { frames = fs; seals = xs } }

back-after : (x : Bool) (h : Hole) (f : Frame) (fs : List Frame) (xs : List Seal) (p : Place) (m : Stacks) → h.below < length m.events
    → (if x then left_of (with_place (resume_of f) (filled h (with fs xs p m))) else with_place (resume_of f) (filled h (with fs xs p m)))
    ≡ filled h (if x then left_of (with_place (resume_of f) (with fs xs p m)) else with_place (resume_of f) (with fs xs p m))
back-after true h f fs [] p m over = refl
back-after true h f fs (x ∷ xs) p m over = ap (λ (t : Stacks). record { place = place_after h (leave_of x (resume_of f p)); made = t }) (unseal-after h x (record m { frames = fs; seals = xs }) over)
back-after false h f fs xs p m over = refl

return-with : (h : Hole) (fs : List Frame) (xs : List Seal) (p : Place) (m : Stacks) → h.below < length m.events → return_of (filled h (with fs xs p m)) ≡ filled h (return_of (with fs xs p m))
return-with h [] xs p m over = refl
return-with h (f ∷ fs) xs p m over = back-after f.sealed h f fs xs p m over

return-after : (h : Hole) (s : State) → h.below < length s.made.events → return_of (filled h s) ≡ filled h (return_of s)
return-after h s over = return-with h s.made.frames s.made.seals s.place s.made over

level-after : (h : Hole) (l : Level) (p : Place) → level_for_of l (place_after h p) ≡ level_for_of l p
level-after h (Own l) p = refl
level-after h Same p = refl
level-after h Operand p = refl

enter-after : (h : Hole) (target : ℕ) (l : Level) (keep add : ℕ) (p : Place) → enter_of target l keep add (place_after h p) ≡ place_after h (enter_of target l keep add p)
enter-after h target l keep add p = ap (λ n. record (place_after h (enter_of target l keep add p)) { level = n }) (level-after h l p)

call-after : (h : Hole) (target : ℕ) (l : Level) (keep add : ℕ) (s : State) → call_with target l keep add (filled h s) ≡ filled h (call_with target l keep add s)
call-after h target l keep add s = ap (λ (p : Place). record { place = p; made = made_after h (call_of (frame_of false s.place) s.made) }) (enter-after h target l keep add s.place)

open-after : (h : Hole) (s : State) → h.below < length s.made.events → length s.made.events + length h.rest < 2 ^ 32 - 1 → with_made open_of (filled h s) ≡ filled h (with_made open_of s)
open-after h s over few = ap (λ n. record (filled h s) { made = record (made_after h s.made) { marks = n ∷ (made_after h s.made).marks } }) (start-after h s.made over few)

bind-on : (h : Hole) (x : Bool) (right target : ℕ) (s : State) →
    with_place (λ p. if x then goto_of target p else record p { operand = right }) (filled h s) ≡ filled h (with_place (λ p. if x then goto_of target p else record p { operand = right }) s)
bind-on h true right target s = refl
bind-on h false right target s = refl

bind-after : (h : Hole) (w : Option Power) (target : ℕ) (s : State) → with_place (bind_of w target) (filled h s) ≡ filled h (with_place (bind_of w target) s)
bind-after h None target s = refl
bind-after h (Some w) target s = bind-on h (nat_eq w.level 0 || nat_lt w.level s.place.level) w.right target s

-- ---- an operation

pub obey-after : (b : ℕ) (h : Hole) (g : Tables) (ts us : List Sight) (o : Op) (s : State) → GoesBelow b h ts us → b + h.taken + 3 < 2 ^ 64 → Behind b h o s → obey_of g us o (filled h s) ≡ filled h (obey_of g ts o s)
unfolding view_by around
obey-after b h g ts us (op.IfKind k target) s on short w = goes-after h _ _ target s (ap (λ x. nat_eq (seen_of One x) k) (here-in b s.place.at (around h) ts us on w.near))
obey-after b h g ts us (op.UnlessKind k target) s on short w = goes-after h _ _ target s (ap (λ x. not (nat_eq (seen_of One x) k)) (here-in b s.place.at (around h) ts us on w.near))
obey-after b h g ts us (op.IfIn set target) s on short w = goes-after h _ _ target s (ap (λ x. has_of g set (seen_of One x)) (here-in b s.place.at (around h) ts us on w.near))
obey-after b h g ts us (op.UnlessIn set target) s on short w = goes-after h _ _ target s (ap (λ x. not (has_of g set (seen_of One x))) (here-in b s.place.at (around h) ts us on w.near))
obey-after b h g ts us (op.If t target) s on short w = goes-after h _ _ target s (holds-in b (around h) g ts us t s.place on (omega (arith, short)) (w.near, w.back))
obey-after b h g ts us (op.Unless t target) s on short w = goes-after h _ _ target s (ap not (holds-in b (around h) g ts us t s.place on (omega (arith, short)) (w.near, w.back)))
obey-after b h g ts us (op.Switch row) s on short w = ap (λ x. with_place (goto_of (target_of g row (seen_of One x))) (filled h s)) (here-in b s.place.at (around h) ts us on w.near)
obey-after b h g ts us (op.Jump target) s on short w = refl
obey-after b h g ts us op.Take s on short w = ap (λ x. take_on g One x (filled h s)) (here-in b s.place.at (around h) ts us on w.near) ∙ take-on-after h g One (slice_get ts s.place.at) s w.over (roomy b s.place.at h.taken (omega (arith, w.near)) short)
obey-after b h g ts us (op.TakeAs v) s on short w = ap (λ x. take_on g v x (filled h s)) (here-in b s.place.at (around h) ts us on w.near) ∙ take-on-after h g v (slice_get ts s.place.at) s w.over (roomy b s.place.at h.taken (omega (arith, w.near)) short)
obey-after b h g ts us op.TakeOperator s on short w =
    ap (λ x. take_on g (view_by g x) x (filled h s)) (here-in b s.place.at (around h) ts us on w.near) ∙ take-on-after h g (view_by g (slice_get ts s.place.at)) (slice_get ts s.place.at) s w.over (roomy b s.place.at h.taken (omega (arith, w.near)) short)
obey-after b h g ts us (op.Expect k n) s on short w =
    ap (λ x. if nat_eq (seen_of One x) k then take_on g One x (filled h s) else with_made (make_of (event.Error n)) (filled h s)) (here-in b s.place.at (around h) ts us on w.near)
    ∙ expect-after h g (nat_eq (seen_of One (slice_get ts s.place.at)) k) (slice_get ts s.place.at) n s w.over (roomy b s.place.at h.taken (omega (arith, w.near)) short)
obey-after b h g ts us (op.Piece part last) s on short w =
    ap (λ x. piece_on part last x (filled h s)) (here-in b s.place.at (around h) ts us on w.near) ∙ piece-on-after h part last (slice_get ts s.place.at) s w.over (roomy b s.place.at h.taken (omega (arith, w.near)) short)
obey-after b h g ts us op.Open s on short w = open-after h s w.over w.few
obey-after b h g ts us op.Drop s on short w = ap (λ (m : Stacks). record (filled h s) { made = m }) (forget-after h s.made)
obey-after b h g ts us (op.Wrap k) s on short w = ap (λ (m : Stacks). record (filled h s) { made = m }) (node-after h k s.made s.made w.over)
obey-after b h g ts us (op.Close k) s on short w = ap (λ (m : Stacks). record (filled h s) { made = m }) (close-after h k s.made w.over)
obey-after b h g ts us (op.Leaf k) s on short w =
    ap (λ x. with_made (make_of (event.Node k (start_of (made_after h s.made)))) (take_on g One x (filled h s))) (here-in b s.place.at (around h) ts us on w.near)
    ∙ leaf-after h g k (slice_get ts s.place.at) s w.over w.few (roomy b s.place.at h.taken (omega (arith, w.near)) short)
obey-after b h g ts us op.Extend s on short w = ap (λ (m : Stacks). record (filled h s) { made = m }) (extend-after g.sealed h s.made w.over)
obey-after b h g ts us (op.Error n) s on short w = error-after h n s w.over
obey-after b h g ts us (op.Call target) s on short w = refl
obey-after b h g ts us (op.Enter target) s on short w = open-after h (call_with target (Own 0) 0 0 s) w.over w.few
obey-after b h g ts us (op.CallWith target l keep add) s on short w = call-after h target l keep add s
obey-after b h g ts us (op.Sealed target k) s on short w =
    ap (λ x. sealed_on g target k x (filled h s)) (here-in b s.place.at (around h) ts us on w.near)
    ∙ sealed-on-after h g target k (slice_get ts s.place.at) s w.over w.few (roomy b s.place.at h.taken (omega (arith, w.near)) short)
obey-after b h g ts us (op.Become target l keep add) s on short w = ap (λ (p : Place). record (filled h s) { place = p }) (enter-after h target l keep add s.place)
obey-after b h g ts us op.Return s on short w = return-after h s w.over
obey-after b h g ts us op.Leave s on short w = ap (λ (m : Stacks). return_of (record (filled h s) { made = m })) (forget-after h s.made) ∙ return-after h (with_made forget_of s) (forgotten h.below s.made w.over)
obey-after b h g ts us (op.Reply a) s on short w = return-after h (with_place (answer_of a) s) w.over
obey-after b h g ts us (op.Answer a) s on short w = refl
obey-after b h g ts us (op.Flags keep add) s on short w = refl
obey-after b h g ts us (op.Operator target) s on short w =
    ap (λ x. with_place (bind_of (power_of g (seen_of (view_by g x) x)) target) (filled h s)) (here-in b s.place.at (around h) ts us on w.near)
    ∙ bind-after h (power_of g (seen_of (view_by g (slice_get ts s.place.at)) (slice_get ts s.place.at))) target s

moved_on : (b : ℕ) (h : Hole) (o : Op) (s : State) → Behind b h o s → Behind b h o (with_place past_of s)
moved_on b h o s w = record { near = w.near; back = w.back; over = w.over; few = w.few }

spent-after : (h : Hole) (x : Bool) (t : State) (s u : State) → u ≡ filled h t → (if x then u else filled h s) ≡ filled h (if x then t else s)
spent-after h true t s u e = e
spent-after h false t s u e = refl

step-on-after : (b : ℕ) (h : Hole) (g : Tables) (ts us : List Sight) (o : Option Op) (s : State) → GoesBelow b h ts us → b + h.taken + 3 < 2 ^ 64 → slice_get g.ops s.place.next ≡ o → NextBehind b h g s → step_on g us o (filled h s) ≡ filled h (step_on g ts o s)
step-on-after b h g ts us None s on short e w = refl
step-on-after b h g ts us (Some o) s on short e w =
    spent-after h (nat_lt 0 s.place.credit) (obey_of g ts o (with_place past_of s)) s (obey_of g us o (with_place past_of (filled h s))) (obey-after b h g ts us o (with_place past_of s) on short (moved_on b h o s (w o e)))

pub step-after : (b : ℕ) (h : Hole) (g : Tables) (ts us : List Sight) (s : State) → GoesBelow b h ts us → b + h.taken + 3 < 2 ^ 64 → NextBehind b h g s → step_of g us (filled h s) ≡ filled h (step_of g ts s)
step-after b h g ts us s on short w =
    step-at g us (filled h s) (slice_get g.ops s.place.next) refl
    ∙ step-on-after b h g ts us (slice_get g.ops s.place.next) s on short refl w
    ∙ ap (filled h) (sym (step-at g ts s (slice_get g.ops s.place.next) refl))

-- it holds of each step of a run that ends before a number wraps around
ready : (n : ℕ) (h : Hole) (g : Tables) (ts : List Sight) (s x : State) (top : ℕ) → LooksAreShort g → length ts + 3 < 2 ^ 64 → 0 < s.place.at → h.below < length s.made.events
    → x ≡ filled h (runs n g ts s) → x.place.at ≤ top → length x.made.events < 2 ^ 32 - 1 → NextBehind (top + 2 ^ 8) h g (runs n g ts s)
ready n h g ts s x top looks short some over is below few o found =
    let grows = runs-grow n g ts s short in
    let at = grows.at in
    let events = grows.events in
    let reach = looks (runs n g ts s).place.next o found in
    let there : (runs n g ts s).place.at + h.taken ≤ top = subst (λ (t : State). t.place.at ≤ top) is below in
    let count : length (inserted h.below h.rest (runs n g ts s).made.events) < 2 ^ 32 - 1 = subst (λ (t : State). length t.made.events < 2 ^ 32 - 1) is few in
    let sum = length-inserted h.below h.rest (runs n g ts s).made.events in
    record {
      near = omega (arith, there, reach);
      back = λ e. omega (arith, at, some);
      over = omega (arith, events, over);
      few = omega (arith, count, sum);
    }

-- what a run makes behind a piece does not depend on what the piece is made of
pub runs-after : RunsGoOn
runs-after zero h g ts us s on looks short far some over fits = runs-none g us (filled h s) ∙ ap (filled h) (sym (runs-none g ts s))
runs-after (suc n) h g ts us s on looks short far some over fits =
    let grows : Grows (runs n g us (filled h s)) (runs (suc n) g us (filled h s)) = subst (λ (t : State). Grows (runs n g us (filled h s)) t) (sym (runs-suc n g us (filled h s))) (step-grows g us (runs n g us (filled h s)) far) in
    let begun = (runs-grow n g us (filled h s) far).at in
    let at = grows.at in
    let events = grows.events in
    let last = fits.at in
    let most = fits.events in
    let top = (runs (suc n) g us (filled h s)).place.at in
    let earlier = runs-after n h g ts us s on looks short far some over (record { at = omega (arith, at, last); events = omega (arith, events, most) }) in
    runs-suc n g us (filled h s) ∙ ap (step_of g us) earlier
    ∙ step-after (top + 2 ^ 8) h g ts us (runs n g ts s) (λ i below. on i) (omega (arith, begun, at, last))
    (ready n h g ts s (runs n g us (filled h s)) top looks short some over earlier at (omega (arith, events, most)))
    ∙ ap (filled h) (sym (runs-suc n g ts s))
