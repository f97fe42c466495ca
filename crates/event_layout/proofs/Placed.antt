-- The events of a run take the tokens whose sights it took.
use Rattle.std.proofs.Common.{◌≡◌, ℕ, zero, suc, ◌+◌, ◌-◌, ◌<◌, ◌≤◌, Bool, true, false, List, [], ◌∷◌, ◌++◌, length, drop, take, ap, sym, subst, ◌∙◌, refl, arith, Some, None, if◌then◌else◌, nat_le, nat_lt, append_assoc}
use Rattle.std.specs.Prelude.{reverse, slice_get, option_map, option_and_then, Option}
use Rattle.std.proofs.lemmas.Bool.Decides.{nat_tests}
use Rattle.std.proofs.lemmas.List.{length-append, reverse-append, reverse-reverse, take-append-drop}
use Rattle.syntax_kind.specs.declared.syntax_kind.SyntaxKind.{SyntaxKind}
use Rattle.syntax_kind.specs.Kinds.{is_trivia}
use Rattle.token_layout.specs.declared.span.Token.{Token as RawToken}
use Rattle.grammar_machine.specs.declared.event.Event.{Event}
use Rattle.grammar_machine.specs.declared.event.Event.TheVariants.{Token, Piece, Node, Error}
use Rattle.grammar_machine.specs.declared.grammar.Sight.{Sight}
use Rattle.grammar_machine.specs.Running.{Tables, State, step_of, runs, begin_of}
use Rattle.grammar_machine.specs.Counting.{taken_by}
use Rattle.grammar_machine.specs.Seen.{EventIsSeen, AllSeen, IsSeen, HasParts}
use Rattle.grammar_machine.specs.Sealing.{SealedCall, inside, returned}
use Rattle.grammar_machine.specs.Reading.{ReadsPiece}
use Rattle.grammar_machine.proofs.Running.{runs-none, runs-suc, runs-add}
use Rattle.grammar_machine.proofs.Counted.{runs-counted}
use Rattle.grammar_machine.proofs.Seen.{runs-seen}
use Rattle.grammar_machine.proofs.Read.{pieces-sealed}
use Rattle.event_layout.specs.Trivia.{lead}
use Rattle.event_layout.specs.Filled.{past_lead, taken, left_by, left_after}
use Rattle.event_layout.specs.Taking.{AllFind, LeavesSeen}
use Rattle.event_layout.specs.Placed.{NextIsPlain, EndsSeen, RunsTakeTheirTokens, PiecesTakeTheirTokens}
use Rattle.event_layout.proofs.Taking.{events_leave, past_on, past_stops}
use Rattle.event_layout.proofs.Finding.{events_find, taken_turned}

-- ---- what is seen in the first part of the tokens

within : (xs ys : List Sight) (i : ℕ) → i < length xs → slice_get (xs ++ ys) i ≡ slice_get xs i
within [] ys i h = absurd (omega (arith, h))
within (x ∷ xs) ys zero h = refl
within (x ∷ xs) ys (suc i) h = within xs ys i (omega (arith, h))

at_seam : (xs ys : List Sight) (i : ℕ) → i ≡ length xs → slice_get (xs ++ ys) i ≡ slice_get ys 0
at_seam [] ys i h = ap (slice_get ys) h
at_seam (x ∷ xs) ys zero h = absurd (omega (arith, h))
at_seam (x ∷ xs) ys (suc i) h = at_seam xs ys i (omega (arith, h))

token_first : (before behind : List Sight) (at signs : ℕ) → at < length before → IsSeen (before ++ behind) at signs → IsSeen before at signs
token_first before behind at signs h s = record { sight = s.sight; there = sym (within before behind at h) ∙ s.there; some = s.some; few = s.few; two = s.two; three = s.three }

parts_first : (before behind : List Sight) (at : ℕ) → NextIsPlain behind → at ≤ length before → HasParts (before ++ behind) at → HasParts before at
parts_first before behind at plain h s = by_test (nat_lt at (length before)) refl
  where
    by_test : (x : Bool) → nat_lt at (length before) ≡ x → HasParts before at
    by_test true e = let here : at < length before = grind (arith, nat_tests, e) in record { sight = s.sight; there = sym (within before behind at here) ∙ s.there; finer = s.finer }
    by_test false e =
        let here : at ≡ length before = grind (arith, nat_tests, e, h) in
        let none = plain s.sight (sym (at_seam before behind at here) ∙ s.there) in
        let finer = s.finer in
        absurd (omega (arith, none, finer))

first_seen_event : (before behind : List Sight) (es : List Event) (e : Event) → NextIsPlain behind → taken_by (e ∷ es) ≤ length before → EventIsSeen (before ++ behind) (taken_by es) e → EventIsSeen before (taken_by es) e
first_seen_event before behind es (Token k signs) plain h s = let some = s.some in token_first before behind (taken_by es) signs (omega (arith, h, some)) s
first_seen_event before behind es (Piece p last) plain h s = parts_first before behind (taken_by es) plain (omega (arith, h)) s
first_seen_event before behind es (Node k from) plain h s = tt
first_seen_event before behind es (Error m) plain h s = tt

first_seen_all : (before behind : List Sight) (es : List Event) → NextIsPlain behind → taken_by es ≤ length before → AllSeen (before ++ behind) es → AllSeen before es
first_seen_all before behind [] plain h s = tt
first_seen_all before behind (e ∷ es) plain h s = (first_seen_event before behind es e plain h s.0, first_seen_all before behind es plain (omega (arith, h)) s.1)

pub runs_take : RunsTakeTheirTokens
runs_take n g rule before behind ts short sights plain at =
    let es = (runs n g (before ++ behind) (begin_of rule)).made.events in
    let counted : taken_by es ≡ length before = runs-counted n g (before ++ behind) rule short ∙ at in
    let seen : AllSeen before es = first_seen_all before behind es plain (omega (arith, counted)) (runs-seen n g (before ++ behind) rule short) in
    let l : LeavesSeen (reverse es) ts = events_leave (reverse es) ts (events_find before ts es sights seen) in
    l.all (taken_turned es ∙ counted ∙ sights.count)

-- ---- what is left is the end of the tokens

record IsEnd (ts us : List RawToken) : Type 0 where
  front : List RawToken
  is : ts ≡ front ++ us

whole_end : (ts us : List RawToken) → Some ts ≡ Some us → IsEnd ts us
whole_end ts us e = record { front = []; is = cc }

drop_end : (n : ℕ) (ts us : List RawToken) → Some (drop n ts) ≡ Some us → IsEnd ts us
drop_end n ts us e = record { front = take n ts; is = sym (take-append-drop n ts) ∙ ap (λ xs. take n ts ++ xs) (some_is (drop n ts) us e) }
  where
    some_is : (xs ys : List RawToken) → Some xs ≡ Some ys → xs ≡ ys
    some_is xs ys e = cc

end_twice : (ts us vs : List RawToken) → IsEnd ts us → IsEnd us vs → IsEnd ts vs
end_twice ts us vs a b = record { front = a.front ++ b.front; is = a.is ∙ ap (λ xs. a.front ++ xs) b.is ∙ sym (append_assoc a.front b.front vs) }

taken_end : (n : ℕ) (ts us : List RawToken) → taken n ts ≡ Some us → IsEnd ts us
taken_end n ts us e = by_test (nat_le n (length ts)) e
  where
    by_test : (x : Bool) → (if x then Some (drop n ts) else None) ≡ Some us → IsEnd ts us
    by_test true f = drop_end n ts us f
    by_test false f = (let bad : None ≡ Some us = f in cc)

past_end : (ts : List RawToken) → IsEnd ts (past_lead ts)
past_end ts = record { front = take (lead ts) ts; is = sym (take-append-drop (lead ts) ts) }

seen_end : (ts us : List RawToken) (o : Option (List RawToken)) → option_map (λ (vs : List RawToken). ts) o ≡ Some us → IsEnd ts us
seen_end ts us (Some vs) e = whole_end ts us e
seen_end ts us None e = (let bad : None ≡ Some us = e in cc)

by_end : (e : Event) (ts us : List RawToken) → left_by e ts ≡ Some us → IsEnd ts us
by_end (Token k signs) ts us h = end_twice ts (past_lead ts) us (past_end ts) (taken_end (signs - 1 + 1) (past_lead ts) us h)
by_end (Piece p true) ts us h = end_twice ts (past_lead ts) us (past_end ts) (taken_end 1 (past_lead ts) us h)
by_end (Piece p false) ts us h = seen_end ts us (taken 1 (past_lead ts)) h
by_end (Node k from) ts us h = whole_end ts us h
by_end (Error m) ts us h = whole_end ts us h

after_on : (e : Event) (es : List Event) (ts us : List RawToken) → ((vs : List RawToken) → left_after es vs ≡ Some us → IsEnd vs us) → (o : Option (List RawToken)) → left_by e ts ≡ o
    → option_and_then (left_after es) o ≡ Some us → IsEnd ts us
after_on e es ts us more (Some vs) f m = end_twice ts vs us (by_end e ts vs f) (more vs m)
after_on e es ts us more None f m = (let bad : None ≡ Some us = m in cc)

after_end : (es : List Event) (ts us : List RawToken) → left_after es ts ≡ Some us → IsEnd ts us
after_end [] ts us h = whole_end ts us h
after_end (e ∷ es) ts us h = after_on e es ts us (λ vs. after_end es vs us) (left_by e ts) refl h

-- ---- an end of nothing but white space and comments is empty, where the last token is seen

passed_on : (u t : RawToken) (us : List RawToken) (x : Bool) → is_trivia u.kind ≡ x → (past_lead (us ++ t ∷ []) ≡ [] → ⊥) → past_lead (u ∷ (us ++ t ∷ [])) ≡ [] → ⊥
passed_on u t us true f more e = more (sym (past_on u (us ++ t ∷ []) f) ∙ e)
passed_on u t us false f more e = absurd (omega (arith, ap length (sym (past_stops u (us ++ t ∷ []) f) ∙ e)))

passed_last : (front : List RawToken) (t : RawToken) → is_trivia t.kind ≡ false → past_lead (front ++ t ∷ []) ≡ [] → ⊥
passed_last [] t seen e = absurd (omega (arith, ap length (sym (past_stops t [] seen) ∙ e)))
passed_last (u ∷ us) t seen e = passed_on u t us (is_trivia u.kind) refl (passed_last us t seen) e

-- the last of an end is the last
same_last : (xs ys : List RawToken) (x y : RawToken) → xs ++ x ∷ [] ≡ ys ++ y ∷ [] → x ≡ y
same_last xs ys x y e =
    let turned : x ∷ reverse xs ≡ y ∷ reverse ys = sym (reverse-append xs (x ∷ [])) ∙ ap reverse e ∙ reverse-append ys (y ∷ []) in
    cc

none_left : (ts left : List RawToken) → EndsSeen ts → IsEnd ts left → past_lead left ≡ [] → left ≡ []
none_left ts left ends end passed = by_turned (reverse left) refl
  where
    by_turned : (rs : List RawToken) → reverse left ≡ rs → left ≡ []
    by_turned [] e = sym (reverse-reverse left) ∙ ap reverse e
    by_turned (r ∷ rs) e =
        let is : left ≡ reverse rs ++ r ∷ [] = sym (reverse-reverse left) ∙ ap reverse e ∙ reverse-append (r ∷ []) rs in
        let whole : ends.front ++ ends.last ∷ [] ≡ (end.front ++ reverse rs) ++ r ∷ [] = sym ends.is ∙ end.is ∙ ap (λ xs. end.front ++ xs) is ∙ sym (append_assoc end.front (reverse rs) (r ∷ [])) in
        let same : ends.last ≡ r = same_last ends.front (end.front ++ reverse rs) ends.last r whole in
        let seen : is_trivia r.kind ≡ false = ap (λ (t : RawToken). is_trivia t.kind) (sym same) ∙ ends.seen in
        absurd (passed_last (reverse rs) r seen (ap past_lead (sym is) ∙ passed))

-- ---- pieces

-- a call that starts a run returns to a state of the run
returned_is : (g : Tables) (part : ℕ) (k : SyntaxKind) (piece : List Sight) (c : SealedCall g piece k (begin_of part)) → returned c ≡ runs (suc (c.steps + 1)) g piece (begin_of part)
returned_is g part k piece c =
    let start = begin_of part in
    let one : step_of g piece start ≡ runs 1 g piece start = ap (step_of g piece) (sym (runs-none g piece start)) ∙ sym (runs-suc 0 g piece start) in
    let two : inside c.steps g piece start ≡ runs (c.steps + 1) g piece start = ap (runs c.steps g piece) one ∙ sym (runs-add c.steps 1 g piece start) in
    ap (step_of g piece) two ∙ sym (runs-suc (c.steps + 1) g piece start)

passed_is : (us : List RawToken) → option_map past_lead (Some us) ≡ Some [] → past_lead us ≡ []
passed_is us e = cc

pub pieces_take : PiecesTakeTheirTokens
pieces_take g part target k piece es ts rule alone short few sights ends =
    let count : length (es ++ Node k 0 ∷ []) ≡ length es + 1 = length-append es (Node k 0 ∷ []) in
    let r : ReadsPiece g part k piece (es ++ Node k 0 ∷ []) = pieces-sealed g part target k piece (es ++ Node k 0 ∷ []) rule alone short (omega (arith, few, count)) in
    let m = suc (r.call.steps + 1) in
    let is = returned_is g part k piece r.call in
    let made : (runs m g piece (begin_of part)).made.events ≡ Node k 0 ∷ reverse es =
    sym (ap (λ (t : State). t.made.events) is) ∙ sym (reverse-reverse (returned r.call).made.events) ∙ sym (ap reverse r.events) ∙ reverse-append es (Node k 0 ∷ []) in
    let seen : AllSeen piece (Node k 0 ∷ reverse es) = subst (AllSeen piece) made (runs-seen m g piece part short) in
    let taken_all : taken_by (reverse es) ≡ length piece = (let e : taken_by (reverse es) ≡ taken_by (Node k 0 ∷ reverse es) = omega arith in e) ∙ ap taken_by (sym made) ∙ runs-counted m g piece part short ∙ sym (ap (λ (t : State). t.place.at) is) ∙ r.at in
    let find = subst (λ xs. AllFind xs ts) (reverse-reverse es) (events_find piece ts (reverse es) sights seen.1) in
    let l : LeavesSeen es ts = events_leave es ts find in
    let passed : past_lead l.left ≡ [] = passed_is l.left (sym (ap (option_map past_lead) l.is) ∙ l.all (sym (taken_turned es) ∙ taken_all ∙ sights.count)) in
    l.is ∙ ap Some (none_left ts l.left ends (after_end es ts l.left l.is) passed)
