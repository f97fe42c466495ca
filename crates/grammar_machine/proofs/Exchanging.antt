-- Two pieces that are read alone make an exchange wherever a sealed call of their rule stands.
use Rattle.std.proofs.Common.{◌≡◌, ℕ, zero, suc, ◌<◌, ◌+◌, ◌-◌, ◌^◌, List, [], ◌∷◌, ◌++◌, drop, length, ap, ap₂, ◌∙◌, sym, subst, refl, arith}
use Rattle.std.specs.Prelude.{Option, Some, None, reverse, slice_get}
use Rattle.std.proofs.lemmas.List.{append-nil, length-append, length-reverse, reverse-append, reverse-reverse}
use Rattle.std.proofs.lemmas.Option.{slice_get_within}
use Rattle.std.proofs.Math.Seq.{drop-append-add}
use Rattle.syntax_kind.specs.declared.syntax_kind.SyntaxKind.{SyntaxKind}
use Rattle.grammar_machine.specs.declared.event.Event.{Event}
use Rattle.grammar_machine.specs.declared.event.Event.TheVariants as event
use Rattle.grammar_machine.specs.declared.grammar.Sight.{Sight}
use Rattle.grammar_machine.specs.declared.grammar.View.TheVariants.{One}
use Rattle.grammar_machine.specs.declared.grammar.Op.TheVariants as op
use Rattle.grammar_machine.specs.Running.{Tables, State, seen_of, is_brace_of, saturated_of, runs, begin_of}
use Rattle.grammar_machine.specs.Framing.{moved_event, moved_events}
use Rattle.grammar_machine.specs.Locality.{Agree, IsBraceAt}
use Rattle.grammar_machine.specs.Sealing.{SealedCall, returned, behind_call}
use Rattle.grammar_machine.specs.Standing.{StandsAt, CallsAlike}
use Rattle.grammar_machine.specs.Reading.{IsSealedRule, ReadsPiece}
use Rattle.grammar_machine.specs.Exchanging.{Makes, ReadsAlone, ExchangedAt, PiecesAreExchanged}
use Rattle.grammar_machine.proofs.Framed.{min-low}
use Rattle.grammar_machine.proofs.Sealed.{from-place, slice_get_some}
use Rattle.grammar_machine.proofs.Local.{runs-same}
use Rattle.grammar_machine.proofs.Moved.{sealed-moved}
use Rattle.grammar_machine.proofs.Read.{pieces-sealed}

-- ---- tokens in their place

within : {A : Type 0} → (xs ys : List A) (i : ℕ) → i < length xs → slice_get (xs ++ ys) i ≡ slice_get xs i
within [] ys i h = absurd (omega (arith, h))
within (x ∷ xs) ys zero h = refl
within (x ∷ xs) ys (suc i) h = within xs ys i (omega (arith, h))

behind : {A : Type 0} → (xs ys : List A) (i : ℕ) → slice_get (xs ++ ys) (i + length xs) ≡ slice_get ys i
behind xs ys i = from-place (length xs) i (xs ++ ys) ∙ ap (λ zs. slice_get zs i) (let e : length xs + 0 ≡ length xs = omega arith in ap (λ n. drop n (xs ++ ys)) (sym e) ∙ drop-append-add xs ys 0)

stands : (before piece rest : List Sight) (at : ℕ) → at ≡ length before → StandsAt at piece (before ++ (piece ++ rest))
stands before piece rest at e i h =
    ap (λ n. slice_get (before ++ (piece ++ rest)) (i + n)) e ∙ behind before (piece ++ rest) i ∙ within piece rest i h

-- the last token and what is behind it
last_on : {A : Type 0} → (xs ys : List A) (x : A) → slice_get xs (length xs - 1) ≡ Some x → drop (length xs - 1) (xs ++ ys) ≡ x ∷ ys
last_on [] ys x h = (let bad : None ≡ Some x = h in cc)
last_on (y ∷ []) ys x h = (let e : Some y ≡ Some x = h in let f : y ≡ x = cc in ap (λ z. z ∷ ys) f)
last_on (y ∷ z ∷ xs) ys x h =
    let n : length (y ∷ z ∷ xs) - 1 ≡ suc (length (z ∷ xs) - 1) = omega arith in
    ap (λ m. drop m (y ∷ z ∷ (xs ++ ys))) n ∙ last_on (z ∷ xs) ys x (sym (ap (slice_get (y ∷ z ∷ xs)) n) ∙ h)

rest_from : (before piece rest : List Sight) (x : Sight) (at : ℕ) → at ≡ length piece + length before → slice_get piece (length piece - 1) ≡ Some x → drop (at - 1) (before ++ (piece ++ rest)) ≡ x ∷ rest
rest_from before piece rest x at e h =
    let here = slice_get_within piece (length piece - 1) x h in
    let n : at - 1 ≡ length before + (length piece - 1) = omega (arith, e, here) in
    ap (λ m. drop m (before ++ (piece ++ rest))) n ∙ drop-append-add before (piece ++ rest) (length piece - 1) ∙ last_on piece rest x h

-- ---- what a piece makes alone

zero_event : (e : Event) → moved_event 0 e ≡ e
zero_event (event.Node k from) = ap (event.Node k) (let e : from + 0 ≡ from = omega arith in e)
zero_event (event.Token k n) = refl
zero_event (event.Piece p last) = refl
zero_event (event.Error n) = refl

zero_moved : (es : List Event) → moved_events 0 es ≡ es
zero_moved [] = refl
zero_moved (e ∷ es) = ap₂ (λ x xs. x ∷ xs) (zero_event e) (zero_moved es)

-- the events of a call that starts a run
own_is : (g : Tables) (part : ℕ) (k : SyntaxKind) (piece : List Sight) (es own : List Event) (at : ℕ) (c : SealedCall g piece k (begin_of part))
    → es ++ event.Node k 0 ∷ [] ≡ reverse (returned c).made.events → returned c ≡ behind_call k (begin_of part) at (moved_events 0 own) → own ≡ reverse es
own_is g part k piece es own at c e f =
    let turned : reverse (es ++ event.Node k 0 ∷ []) ≡ event.Node k 0 ∷ reverse es = reverse-append es (event.Node k 0 ∷ []) in
    let made : (returned c).made.events ≡ event.Node k 0 ∷ reverse es = sym (reverse-reverse (returned c).made.events) ∙ sym (ap reverse e) ∙ turned in
    let same : event.Node k 0 ∷ reverse es ≡ event.Node k 0 ∷ (moved_events 0 own ++ []) = sym made ∙ ap (λ (t : State). t.made.events) f in
    sym (ap (λ xs. drop 1 xs) same ∙ append-nil (moved_events 0 own) ∙ zero_moved own)

-- a call in the place
record CallThere (g : Tables) (target : ℕ) (k : SyntaxKind) (whole : List Sight) (s : State) (n : ℕ) (es : List Event) : Type 0 where
  call : SealedCall g whole k s
  at : (returned call).place.at ≡ n + s.place.at
  makes : Makes call es

some_op : (target other : ℕ) (k : SyntaxKind) → Some (op.Sealed target k) ≡ Some (op.Sealed other k) → target ≡ other
some_op target other k e = cc

there : (g : Tables) (part target : ℕ) (k : SyntaxKind) (piece whole : List Sight) (s : State) (es : List Event) → IsSealedRule g part target k → ReadsAlone g part k piece es
    → slice_get g.ops s.place.next ≡ Some (op.Sealed target k) → 0 < s.place.credit → StandsAt s.place.at piece whole → length piece + s.place.at + 3 < 2 ^ 64
    → (length es + 1) + length s.made.events < 2 ^ 32 - 1 → CallThere g target k whole s (length piece) es
there g part target k piece whole s es rule alone found left on short few =
    let count : length (es ++ event.Node k 0 ∷ []) ≡ length es + 1 = length-append es (event.Node k 0 ∷ []) in
    let r : ReadsPiece g part k piece (es ++ event.Node k 0 ∷ []) = pieces-sealed g part target k piece (es ++ event.Node k 0 ∷ []) rule alone (omega (arith, short)) (omega (arith, few, count)) in
    let small = rule.short in
    let first : saturated_of part ≡ part = min-low part (2 ^ 32 - 1) (omega (arith, small)) in
    let same : target ≡ r.call.target = some_op target r.call.target k (sym rule.call ∙ sym (ap (slice_get g.ops) first) ∙ r.call.found) in
    let made : length (returned r.call).made.events ≡ length es + 1 = sym (length-reverse (returned r.call).made.events) ∙ sym (ap length r.events) ∙ count in
    let m : CallsAlike g piece whole k (begin_of part) s r.call =
    sealed-moved g piece whole k (begin_of part) s r.call r.looks refl refl (found ∙ ap (λ n. Some (op.Sealed n k)) same) left on short (omega (arith, few, made)) in
    let taken : m.taken + 0 ≡ length piece = sym (ap (λ (t : State). t.place.at) m.was) ∙ r.at in
    let own : m.events ≡ reverse es = own_is g part k piece es m.events (m.taken + 0) r.call r.events m.was in
    let at : (returned m.call).place.at ≡ m.taken + s.place.at = ap (λ (t : State). t.place.at) m.is in
    record {
      call = m.call;
      at = omega (arith, at, taken);
      makes = m.is ∙ ap₂ (λ n xs. behind_call k s n (moved_events (length s.made.events) xs)) (sym at) own;
    }

-- ---- the exchange

agree : (before old new rest : List Sight) → slice_get old 0 ≡ slice_get new 0 → 0 < length old → 0 < length new → Agree (length before + 1) (before ++ (old ++ rest)) (before ++ (new ++ rest))
agree [] old new rest e some also zero h = within old rest 0 some ∙ e ∙ sym (within new rest 0 also)
agree [] old new rest e some also (suc i) h = absurd (omega (arith, h))
agree (b ∷ bs) old new rest e some also zero h = refl
agree (b ∷ bs) old new rest e some also (suc i) h = agree bs old new rest e some also i (omega (arith, h))

first_some : (ts : List Sight) (x : Sight) → slice_get ts (length ts - 1) ≡ Some x → 0 < length ts
first_some ts x e = let here = slice_get_within ts (length ts - 1) x e in omega (arith, here)

pub exchanged : PiecesAreExchanged
exchanged g rule part target k before old new rest made es fs sealed place alike reads_old reads_new short far few also = by_last (slice_get old (length old - 1)) refl
  where
    by_last : (o : Option Sight) → slice_get old (length old - 1) ≡ o → ExchangedAt g (before ++ (old ++ rest)) (before ++ (new ++ rest)) rule k (length before) made es fs
    by_last (Some x) e =
        let whole = before ++ (old ++ rest) in
        let other = before ++ (new ++ rest) in
        let s = runs place.steps g whole (begin_of rule) in
        let some : 0 < length old = first_some old x e in
        let last : slice_get new (length new - 1) ≡ Some x = sym alike.last ∙ e in
        let more : 0 < length new = first_some new x last in
        let long : length whole ≡ length before + (length old + length rest) = length-append before (old ++ rest) ∙ ap (λ n. length before + n) (length-append old rest) in
        let wide : length other ≡ length before + (length new + length rest) = length-append before (new ++ rest) ∙ ap (λ n. length before + n) (length-append new rest) in
        let taken = place.taken in
        let events = place.made_is in
        let brace : IsBraceAt g whole s.place.at = ap (λ n. is_brace_of g (seen_of One (slice_get whole n))) (let z : s.place.at ≡ 0 + s.place.at = omega arith in z) ∙ ap (λ o. is_brace_of g (seen_of One o)) (stands before old rest s.place.at taken 0 some) ∙ alike.brace in
        let both : Agree (s.place.at + 1) whole other = subst (λ n. Agree (n + 1) whole other) (sym taken) (agree before old new rest alike.first some more) in
        let same : s ≡ runs place.steps g other (begin_of rule) = runs-same place.steps s.place.at g whole other (begin_of rule) both brace (omega (arith, short, long, taken)) short (omega arith) in
        let was : CallThere g target k whole s (length old) es =
        there g part target k old whole s es sealed reads_old place.call place.left (stands before old rest s.place.at taken) (omega (arith, short, long, taken)) (omega (arith, few, events)) in
        let here : CallThere g target k other s (length new) fs =
        there g part target k new other s fs sealed reads_new place.call place.left (stands before new rest s.place.at taken) (omega (arith, far, wide, taken)) (omega (arith, also, events)) in
        let now : CallThere g target k other (runs place.steps g other (begin_of rule)) (length new) fs = subst (λ (t : State). CallThere g target k other t (length new) fs) same here in
        let old_at = was.at in
        let new_at = now.at in
        let place_same : s.place.at ≡ (runs place.steps g other (begin_of rule)).place.at = ap (λ (t : State). t.place.at) same in
        record {
          exchange = record {
            steps = place.steps;
            was = was.call;
            now = now.call;
            brace = brace;
            before = both;
            behind = rest_from before old rest x (returned was.call).place.at (omega (arith, old_at, taken)) e
                ∙ sym (rest_from before new rest x (returned now.call).place.at (omega (arith, new_at, place_same, taken)) last);
          };
          taken = taken;
          made_is = events;
          was_makes = was.makes;
          now_makes = now.makes;
        }
    by_last None e = let some = alike.some in absurd (slice_get_some old (length old - 1) (omega (arith, some)) e)
