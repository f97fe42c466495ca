-- The events of a run in which a piece is filled are, in order, those of a text with a piece in it.
use Rattle.std.proofs.Common.{◌≡◌, ℕ, ◌≤◌, ◌<◌, List, [], ◌∷◌, ◌++◌, length, map, ap, ap₂, sym, ◌∙◌, refl, arith, Bool, true, false, if◌then◌else◌, append_assoc, append-nil}
use Rattle.std.specs.Prelude.{nat_le, reverse}
use Rattle.std.proofs.lemmas.Bool.Decides.{nat_tests}
use Rattle.std.proofs.lemmas.List.{length-map, length-reverse, map-append, reverse-append, reverse-reverse}
use Rattle.grammar_machine.specs.declared.event.Event.{Event}
use Rattle.grammar_machine.specs.declared.event.Event.TheVariants.{Node}
use Rattle.grammar_machine.specs.Framing.{moved_event, moved_events}
use Rattle.grammar_machine.specs.Filling.{event_later, inserted}
use Rattle.event_layout.specs.Filled.{FilledEventsAreSetIn}
use Rattle.event_layout.proofs.Turning.{later_low}

in_or_over : (e : ℕ) (rest : List Event) (x : Event) (xs : List Event) (b : Bool) → List Event
in_or_over e rest x xs b = if b then rest ++ (x ∷ xs) else event_later e (length rest) x ∷ inserted e rest xs

inserted_is : (e : ℕ) (rest : List Event) (x : Event) (xs : List Event) → inserted e rest (x ∷ xs) ≡ in_or_over e rest x xs (nat_le (length (x ∷ xs)) e)
unfolding inserted in_or_over
inserted_is e rest x xs = refl

inserted_none : (e : ℕ) (rest : List Event) → inserted e rest [] ≡ rest
unfolding inserted
inserted_none e rest = refl

in_is : (e : ℕ) (rest : List Event) (x : Event) (xs : List Event) → in_or_over e rest x xs true ≡ rest ++ (x ∷ xs)
unfolding in_or_over
in_is e rest x xs = refl

over_is : (e : ℕ) (rest : List Event) (x : Event) (xs : List Event) → in_or_over e rest x xs false ≡ event_later e (length rest) x ∷ inserted e rest xs
unfolding in_or_over
over_is e rest x xs = refl

is_in : (m e : ℕ) → m ≤ e → nat_le m e ≡ true
is_in m e h = grind (arith, nat_tests, h)

is_over : (m e : ℕ) → e < m → nat_le m e ≡ false
is_over m e h = by_test (nat_le m e) refl
  where
    by_test : (b : Bool) → nat_le m e ≡ b → b ≡ false
    by_test false q = refl
    by_test true q = let low : m ≤ e = grind (arith, nat_tests, q) in absurd (omega (arith, low, h))

under : (e : ℕ) (rest xs : List Event) → length xs ≤ e → inserted e rest xs ≡ rest ++ xs
under e rest [] h = inserted_none e rest ∙ sym (append-nil rest)
under e rest (x ∷ xs) h = inserted_is e rest x xs ∙ ap (in_or_over e rest x xs) (is_in (length (x ∷ xs)) e h) ∙ in_is e rest x xs

above : (e : ℕ) (rest later : List Event) (y : Event) (xs : List Event) → length xs ≡ e
    → inserted e rest (later ++ y ∷ xs) ≡ map (event_later e (length rest)) later ++ (event_later e (length rest) y ∷ (rest ++ xs))
above e rest [] y xs h =
    inserted_is e rest y xs ∙ ap (in_or_over e rest y xs) (is_over (length (y ∷ xs)) e (omega (arith, h))) ∙ over_is e rest y xs
    ∙ ap (λ zs. event_later e (length rest) y ∷ zs) (under e rest xs (omega (arith, h)))
above e rest (x ∷ later) y xs h =
    inserted_is e rest x (later ++ y ∷ xs)
    ∙ ap (in_or_over e rest x (later ++ y ∷ xs)) (is_over (length (x ∷ (later ++ y ∷ xs))) e (omega (arith, h, long later)))
    ∙ over_is e rest x (later ++ y ∷ xs)
    ∙ ap (λ zs. event_later e (length rest) x ∷ zs) (above e rest later y xs h)
  where
    long : (ls : List Event) → length xs < length (ls ++ y ∷ xs)
    long [] = omega arith
    long (l ∷ ls) = omega (arith, long ls)

pub reverse_map : (f : Event → Event) (xs : List Event) → reverse (map f xs) ≡ map f (reverse xs)
reverse_map f [] = refl
reverse_map f (x ∷ xs) =
    reverse-append (f x ∷ []) (map f xs) ∙ ap (λ ys. ys ++ f x ∷ []) (reverse_map f xs)
    ∙ sym (ap (map f) (reverse-append (x ∷ []) xs) ∙ map-append f (reverse xs) (x ∷ []))

turned : (f : Event → Event) (xs : List Event) → reverse (map f (reverse xs)) ≡ map f xs
turned f xs = reverse_map f (reverse xs) ∙ ap (map f) (reverse-reverse xs)

pub events_set_in : FilledEventsAreSetIn
events_set_in s es =
    let a = s.before.events in
    let c = s.behind.events in
    let e = length a in
    let n = length es in
    let d = Node s.kind e in
    let rest = reverse (moved_events e es) in
    let long : length rest ≡ n = length-reverse (moved_events e es) ∙ length-map es (moved_event e) in
    let own : event_later e n d ≡ d = ap (Node s.kind) (later_low e n e (omega arith)) in
    ap reverse (above e rest (reverse c) d (reverse a) (length-reverse a)
    ∙ ap (λ m. map (event_later e m) (reverse c) ++ (event_later e m d ∷ (rest ++ reverse a))) long
    ∙ ap (λ y. map (event_later e n) (reverse c) ++ (y ∷ (rest ++ reverse a))) own)
    ∙ reverse-append (map (event_later e n) (reverse c)) (d ∷ (rest ++ reverse a))
    ∙ ap₂ (λ xs ys. xs ++ ys)
    (reverse-append (d ∷ []) (rest ++ reverse a)
    ∙ ap (λ xs. xs ++ d ∷ []) (reverse-append rest (reverse a) ∙ ap₂ (λ xs ys. xs ++ ys) (reverse-reverse a) (reverse-reverse (moved_events e es))))
    (turned (event_later e n) c)
    ∙ append_assoc (a ++ moved_events e es) (d ∷ []) (map (event_later e n) c)
    ∙ append_assoc a (moved_events e es) (d ∷ map (event_later e n) c)
