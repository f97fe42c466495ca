-- Moves behind the last event.
use Rattle.std.proofs.Common.{◌≡◌, ℕ, zero, suc, ◌+◌, ◌-◌, ◌≤◌, List, [], ◌∷◌, length, ap, sym, ◌∙◌, refl, arith, subst, Some, None, Bool, true, false, if◌then◌else◌, nat_lt, slice_get}
use Rattle.token_layout.specs.declared.span.Token.{Token}
use Rattle.ras_front_end.specs.Reading.{ends}
use Rattle.grammar_machine.specs.declared.event.Event.{Event}
use Rattle.event_layout.specs.Starts.{number_at}
use Rattle.event_layout.specs.Layout.{Given, Laying, IsOver, anywhere, added, pass_on, pass_of, pass_all_of, exit_of, exit_all_of, closed_of, finish_of, plus_of, advance_of, entering_of, going_of, obey_at_of, moves}
use Rattle.event_layout.proofs.Moves.{moves_none, moves_more}
use Rattle.event_layout.proofs.Chains.{past_last}

-- the state with another next event
abbrev pub at_event : ℕ → ℕ → Laying → Laying
at_event next entering s = record s { next = next; entering = entering }

pass_on_at : (a b : ℕ) (ts : List Token) (s : Laying) → pass_on ts (at_event a b s) ≡ at_event a b (pass_on ts s)
pass_on_at a b [] s = refl
pass_on_at a b (t ∷ ts) s = refl

pass_all_at : (a b n : ℕ) (s : Laying) → pass_all_of n (at_event a b s) ≡ at_event a b (pass_all_of n s)
unfolding pass_all_of
pass_all_at a b zero s = refl
pass_all_at a b (suc n) s = ap pass_of (pass_all_at a b n s) ∙ pass_on_at a b (pass_all_of n s).rest (pass_all_of n s)

exit_if_at : (c : Bool) (a b : ℕ) (s : Laying) → nat_lt 0 s.depth ≡ c → exit_of (at_event a b s) ≡ at_event a b (exit_of s)
exit_if_at true a b s e = cc
exit_if_at false a b s e = cc

exit_all_at : (a b n : ℕ) (s : Laying) → exit_all_of n (at_event a b s) ≡ at_event a b (exit_all_of n s)
unfolding exit_all_of
exit_all_at a b zero s = refl
exit_all_at a b (suc n) s = ap exit_of (exit_all_at a b n s) ∙ exit_if_at (nat_lt 0 (exit_all_of n s).depth) a b (exit_all_of n s) refl

-- what is left at the end does not depend on the next event
pub finish_at : (a b : ℕ) (s : Laying) → finish_of (at_event a b s) ≡ at_event a b (finish_of s)
finish_at a b s =
    ap (λ u. added ends (closed_of u)) (pass_all_at a b (length s.rest) s)
    ∙ ap (added ends) (exit_all_at a b (pass_all_of (length s.rest) s).depth (pass_all_of (length s.rest) s))

pub finish_anywhere : (s t : Laying) → anywhere s ≡ anywhere t → anywhere (finish_of s) ≡ anywhere (finish_of t)
finish_anywhere s t e = sym (finish_at 0 0 s) ∙ ap finish_of e ∙ finish_at 0 0 t

none_behind : (es : List Event) (i : ℕ) → length es ≤ i → slice_get es i ≡ None
none_behind [] i h = refl
none_behind (e ∷ es) zero h = absurd (omega (arith, h))
none_behind (e ∷ es) (suc i) h = none_behind es i (omega (arith, h))

-- no event has a number from the end on
pub none_left : (es : List Event) (i : ℕ) → slice_get es i ≡ None → length es ≤ i
none_left [] i h = omega arith
none_left (e ∷ es) zero h = (let bad : Some e ≡ None = h in cc)
none_left (e ∷ es) (suc i) h = omega (arith, none_left es i h)

idle_move : (g : Given) (s : Laying) → IsOver g s → advance_of g s ≡ at_event (plus_of s.next) (number_at g.links.last (plus_of s.next)) s
unfolding advance_of
idle_move g s h =
    ap (λ n. if nat_lt 0 n then entering_of g (s.entering - 1) s else going_of g s.next s) h.no_node
    ∙ ap (λ e. obey_at_of g e s.next (at_event (plus_of s.next) (number_at g.links.last (plus_of s.next)) s)) (none_behind g.events s.next h.no_event)

over_more : (g : Given) (s : Laying) → IsOver g s → IsOver g (advance_of g s)
over_more g s h =
    subst (IsOver g) (sym (idle_move g s h)) (record {
      no_node = past_last g.links.last (plus_of s.next) (omega (arith, h.no_start, h.fits));
      no_event = omega (arith, h.no_event, h.fits);
      no_start = omega (arith, h.no_start, h.fits);
      fits = omega arith;
    })

over_stays : (k : ℕ) (g : Given) (s : Laying) → IsOver g s → IsOver g (moves k g s) × (anywhere (moves k g s) ≡ anywhere s)
unfolding moves
over_stays zero g s h = (h, refl)
over_stays (suc k) g s h =
    let rest = over_stays k g s h in
    (over_more g (moves k g s) rest.0, ap anywhere (idle_move g (moves k g s) rest.0) ∙ rest.1)

moves_on : (k m : ℕ) (g : Given) (s : Laying) → moves (k + m) g s ≡ moves k g (moves m g s)
moves_on zero m g s = ap (λ n. moves n g s) (omega arith) ∙ sym (moves_none g (moves m g s))
moves_on (suc k) m g s =
    ap (λ n. moves n g s) (let e : suc k + m ≡ (k + m) + 1 = omega arith in e)
    ∙ moves_more (k + m) g s
    ∙ ap (advance_of g) (moves_on k m g s)
    ∙ sym (moves_more k g (moves m g s))
    ∙ ap (λ n. moves n g (moves m g s)) (let e : k + 1 ≡ suc k = omega arith in e)

-- nothing is left to do after m of n moves
pub over_early : (n m : ℕ) (g : Given) (s u : Laying) → m ≤ n → u ≡ moves m g s → IsOver g u → anywhere u ≡ anywhere (moves n g s)
over_early n m g s u le is h =
    ap anywhere is
    ∙ sym (over_stays (n - m) g (moves m g s) (subst (IsOver g) is h)).1
    ∙ ap anywhere (sym (moves_on (n - m) m g s))
    ∙ ap (λ k. anywhere (moves k g s)) (let e : (n - m) + m ≡ n = omega (arith, le) in e)
