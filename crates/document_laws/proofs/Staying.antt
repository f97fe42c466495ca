-- A token that was made stays, and all that was made before it.
use Rattle.std.proofs.Common.{◌≡◌, ℕ, zero, suc, Bool, true, false, nat_eq, nat_lt, if◌then◌else◌, List, [], ◌∷◌, ◌++◌, ap, ◌∙◌, refl, subst, sym}
use Rattle.std.specs.Prelude.{Option, Some, None, slice_get}
use Rattle.syntax_kind.specs.declared.syntax_kind.SyntaxKind.{SyntaxKind}
use Rattle.grammar_machine.specs.declared.event.Event.{Event}
use Rattle.grammar_machine.specs.declared.event.Event.TheVariants as event
use Rattle.grammar_machine.specs.declared.grammar.Sight.{Sight}
use Rattle.grammar_machine.specs.declared.grammar.View.TheVariants.{One}
use Rattle.grammar_machine.specs.declared.grammar.Op.{Op}
use Rattle.grammar_machine.specs.declared.grammar.Op.TheVariants as op
use Rattle.grammar_machine.specs.Running.{Tables, Stacks, State, operator_view_of, here_of, mark_of, longer_of, make_of, start_of, open_of, forget_of, extended_on, with_place, with_made, resume_of, left_of, return_of, answer_of, take_on, past_of, obey_of, step_on, runs}
use Rattle.grammar_machine.specs.Lasting.{IsOver}
use Rattle.grammar_machine.proofs.Running.{step-at, runs-none, runs-suc}
use Rattle.grammar_machine.proofs.Lasting.{makes, still, forgets, nodes, takes, pieces, seals}
use Rattle.document_laws.proofs.Calling.{Place, Frame, Seal}

-- a token is not extended
kept : (ks : List SyntaxKind) (o : Option ℕ) (k : SyntaxKind) (from : ℕ) → longer_of ks o (event.Token k from) ≡ event.Token k from
kept ks None k from = refl
kept ks (Some mark) k from = refl

extends : (ks : List SyntaxKind) (o : Option ℕ) (k : SyntaxKind) (from : ℕ) (es : List Event) (m : Stacks) → IsOver (event.Token k from ∷ es) m
    → IsOver (event.Token k from ∷ es) (record m { events = extended_on ks o m.events })
extends ks o k from es m h = by h.later h.is
  where
    by : (later : List Event) → m.events ≡ later ++ (event.Token k from ∷ es) → IsOver (event.Token k from ∷ es) (record m { events = extended_on ks o m.events })
    by [] e = record { later = []; is = ap (extended_on ks o) e ∙ ap (λ x. x ∷ es) (kept ks o k from) }
    by (x ∷ xs) e = record { later = longer_of ks o x ∷ xs; is = ap (extended_on ks o) e }

expects : (b : List Event) (g : Tables) (x : Bool) (o : Option Sight) (n : ℕ) (s : State) → IsOver b s.made → IsOver b (if x then take_on g One o s else with_made (make_of (event.Error n)) s).made
expects b g true o n s h = takes b g One o s h
expects b g false o n s h = makes b (event.Error n) s.made h

abbrev with : List Frame → List Seal → Place → Stacks → State
with fs xs p m = record { place = p; made = record m { frames = fs; seals = xs } }

back : (b : List Event) (x : Bool) (f : Frame) (fs : List Frame) (xs : List Seal) (p : Place) (m : Stacks) → IsOver b m → IsOver b (if x then left_of (with_place (resume_of f) (with fs xs p m)) else with_place (resume_of f) (with fs xs p m)).made
back b true f fs [] p m h = record { later = h.later; is = h.is }
back b true f fs (x ∷ xs) p m h = record { later = event.Node x.kind x.from ∷ h.later; is = ap (λ es. event.Node x.kind x.from ∷ es) h.is }
back b false f fs xs p m h = record { later = h.later; is = h.is }

returns_with : (b : List Event) (fs : List Frame) (xs : List Seal) (p : Place) (m : Stacks) → IsOver b m → IsOver b (return_of (with fs xs p m)).made
returns_with b [] xs p m h = record { later = h.later; is = h.is }
returns_with b (f ∷ fs) xs p m h = back b f.sealed f fs xs p m h

returns : (b : List Event) (s : State) → IsOver b s.made → IsOver b (return_of s).made
returns b s h = returns_with b s.made.frames s.made.seals s.place s.made h

obey-stays : (k : SyntaxKind) (from : ℕ) (es : List Event) (g : Tables) (ts : List Sight) (o : Op) (s : State) → IsOver (event.Token k from ∷ es) s.made → IsOver (event.Token k from ∷ es) (obey_of g ts o s).made
obey-stays k from es g ts (op.IfKind i target) s h = h
obey-stays k from es g ts (op.UnlessKind i target) s h = h
obey-stays k from es g ts (op.IfIn set target) s h = h
obey-stays k from es g ts (op.UnlessIn set target) s h = h
obey-stays k from es g ts (op.If t target) s h = h
obey-stays k from es g ts (op.Unless t target) s h = h
obey-stays k from es g ts (op.Switch row) s h = h
obey-stays k from es g ts (op.Jump target) s h = h
obey-stays k from es g ts op.Take s h = takes (event.Token k from ∷ es) g One (slice_get ts s.place.at) s h
obey-stays k from es g ts (op.TakeAs v) s h = takes (event.Token k from ∷ es) g v (slice_get ts s.place.at) s h
obey-stays k from es g ts op.TakeOperator s h = takes (event.Token k from ∷ es) g (operator_view_of g ts s.place.at) (slice_get ts s.place.at) s h
obey-stays k from es g ts (op.Expect i n) s h = expects (event.Token k from ∷ es) g (nat_eq (here_of ts s.place) i) (slice_get ts s.place.at) n s h
obey-stays k from es g ts (op.Piece part last) s h = pieces (event.Token k from ∷ es) part last (slice_get ts s.place.at) s h
obey-stays k from es g ts op.Open s h = still (event.Token k from ∷ es) s.made (open_of s.made) refl h
obey-stays k from es g ts op.Drop s h = forgets (event.Token k from ∷ es) s.made h
obey-stays k from es g ts (op.Wrap l) s h = nodes (event.Token k from ∷ es) l (mark_of s.made) s.made h
obey-stays k from es g ts (op.Close l) s h = nodes (event.Token k from ∷ es) l (mark_of s.made) (forget_of s.made) (forgets (event.Token k from ∷ es) s.made h)
obey-stays k from es g ts (op.Leaf l) s h = makes (event.Token k from ∷ es) (event.Node l (start_of s.made)) (take_on g One (slice_get ts s.place.at) s).made (takes (event.Token k from ∷ es) g One (slice_get ts s.place.at) s h)
obey-stays k from es g ts op.Extend s h = extends g.sealed (mark_of s.made) k from es s.made h
obey-stays k from es g ts (op.Error n) s h = makes (event.Token k from ∷ es) (event.Error n) s.made h
obey-stays k from es g ts (op.Call target) s h = still (event.Token k from ∷ es) s.made (obey_of g ts (op.Call target) s).made refl h
obey-stays k from es g ts (op.Enter target) s h = still (event.Token k from ∷ es) s.made (obey_of g ts (op.Enter target) s).made refl h
obey-stays k from es g ts (op.CallWith target l keep add) s h = still (event.Token k from ∷ es) s.made (obey_of g ts (op.CallWith target l keep add) s).made refl h
obey-stays k from es g ts (op.Sealed target l) s h = seals (event.Token k from ∷ es) g target l (slice_get ts s.place.at) s h
obey-stays k from es g ts (op.Become target l keep add) s h = h
obey-stays k from es g ts op.Return s h = returns (event.Token k from ∷ es) s h
obey-stays k from es g ts op.Leave s h = returns (event.Token k from ∷ es) (with_made forget_of s) (forgets (event.Token k from ∷ es) s.made h)
obey-stays k from es g ts (op.Reply a) s h = returns (event.Token k from ∷ es) (with_place (answer_of a) s) h
obey-stays k from es g ts (op.Answer a) s h = h
obey-stays k from es g ts (op.Flags keep add) s h = h
obey-stays k from es g ts (op.Operator target) s h = h

step-on-stays : (k : SyntaxKind) (from : ℕ) (es : List Event) (g : Tables) (ts : List Sight) (o : Option Op) (s : State) → IsOver (event.Token k from ∷ es) s.made → IsOver (event.Token k from ∷ es) (step_on g ts o s).made
step-on-stays k from es g ts None s h = h
step-on-stays k from es g ts (Some o) s h = by_test (nat_lt 0 s.place.credit)
  where
    by_test : (x : Bool) → IsOver (event.Token k from ∷ es) (if x then obey_of g ts o (with_place past_of s) else s).made
    by_test true = obey-stays k from es g ts o (with_place past_of s) h
    by_test false = h

pub runs-stay : (n : ℕ) (k : SyntaxKind) (from : ℕ) (es : List Event) (g : Tables) (ts : List Sight) (s : State) → IsOver (event.Token k from ∷ es) s.made → IsOver (event.Token k from ∷ es) (runs n g ts s).made
runs-stay zero k from es g ts s h = subst (λ (t : State). IsOver (event.Token k from ∷ es) t.made) (sym (runs-none g ts s)) h
runs-stay (suc n) k from es g ts s h =
    subst (λ (t : State). IsOver (event.Token k from ∷ es) t.made) (sym (runs-suc n g ts s))
    (subst (λ (t : State). IsOver (event.Token k from ∷ es) t.made) (sym (step-at g ts (runs n g ts s) (slice_get g.ops (runs n g ts s).place.next) refl))
    (step-on-stays k from es g ts (slice_get g.ops (runs n g ts s).place.next) (runs n g ts s) (runs-stay n k from es g ts s h)))
