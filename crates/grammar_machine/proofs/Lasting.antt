-- A node of a sealed call stays, and all that was made before it.
use Rattle.std.proofs.Common.{◌≡◌, ℕ, zero, suc, min, Bool, true, false, nat_eq, nat_lt, if◌then◌else◌, List, [], ◌∷◌, ◌++◌, length, ap, ◌∙◌, refl, subst, sym}
use Rattle.std.specs.Prelude.{Option, Some, None, slice_get}
use Rattle.syntax_kind.specs.declared.syntax_kind.SyntaxKind.{SyntaxKind}
use Rattle.grammar_machine.specs.declared.event.Part.{Part}
use Rattle.grammar_machine.specs.declared.event.Event.{Event}
use Rattle.grammar_machine.specs.declared.event.Event.TheVariants as event
use Rattle.grammar_machine.specs.declared.grammar.Sight.{Sight}
use Rattle.grammar_machine.specs.declared.grammar.View.{View}
use Rattle.grammar_machine.specs.declared.grammar.View.TheVariants.{One}
use Rattle.grammar_machine.specs.declared.grammar.Op.{Op}
use Rattle.grammar_machine.specs.declared.grammar.Op.TheVariants as op
use Rattle.grammar_machine.specs.declared.machine.Place.{Place}
use Rattle.grammar_machine.specs.declared.made.Frame.{Frame}
use Rattle.grammar_machine.specs.declared.made.Seal.{Seal}
use Rattle.grammar_machine.specs.Running.{Tables, Stacks, State, kind_of, seen_as_of, signs_taken_of, operator_view_of, here_of, mark_of, rest_of, node_of, is_among, longer_of, make_of, start_of, open_of, forget_of, extended_on, with_place, with_made, resume_of, left_of, return_of, answer_of, take_on, part_of, piece_on, sealed_on, past_of, obey_of, step_on, runs}
use Rattle.grammar_machine.specs.Lasting.{IsOver, SealedNodesStay}
use Rattle.grammar_machine.proofs.Running.{step-at, runs-none, runs-suc}

pub makes : (b : List Event) (e : Event) (m : Stacks) → IsOver b m → IsOver b (make_of e m)
makes b e m h = record { later = e ∷ h.later; is = ap (λ es. e ∷ es) h.is }

-- the same events
pub still : (b : List Event) (m n : Stacks) → n.events ≡ m.events → IsOver b m → IsOver b n
still b m n e h = record { later = h.later; is = e ∙ h.is }

pub forgets : (b : List Event) (m : Stacks) → IsOver b m → IsOver b (forget_of m)
forgets b m h = by_test (nat_lt m.floor (length m.marks))
  where
    by_test : (x : Bool) → IsOver b (if x then record m { marks = rest_of m.marks } else m)
    by_test true = record { later = h.later; is = h.is }
    by_test false = h

pub nodes : (b : List Event) (k : SyntaxKind) (o : Option ℕ) (m : Stacks) → IsOver b m → IsOver b (node_of k o m)
nodes b k None m h = h
nodes b k (Some from) m h = makes b (event.Node k from) m h

pub takes : (b : List Event) (g : Tables) (v : View) (o : Option Sight) (s : State) → IsOver b s.made → IsOver b (take_on g v o s).made
takes b g v None s h = h
takes b g v (Some t) s h = makes b (event.Token (kind_of g (seen_as_of v t)) (signs_taken_of v t)) s.made h

pub pieces : (b : List Event) (part : Part) (last : Bool) (o : Option Sight) (s : State) → IsOver b s.made → IsOver b (piece_on part last o s).made
pieces b part last None s h = h
pieces b part last (Some t) s h = by_test (nat_eq t.word 0)
  where
    by_test : (x : Bool) → IsOver b (if x then s else part_of part last s).made
    by_test true = h
    by_test false = makes b (event.Piece part last) s.made h

pub seals : (b : List Event) (g : Tables) (target : ℕ) (k : SyntaxKind) (o : Option Sight) (s : State) → IsOver b s.made → IsOver b (sealed_on g target k o s).made
seals b g target k None s h = h
seals b g target k (Some t) s h = record { later = event.Token (kind_of g t.one) 1 ∷ h.later; is = ap (λ es. event.Token (kind_of g t.one) 1 ∷ es) h.is }

-- a node of a kind of the list is not made longer
kept : (ks : List SyntaxKind) (o : Option ℕ) (k : SyntaxKind) (from : ℕ) → is_among ks k ≡ true → longer_of ks o (event.Node k from) ≡ event.Node k from
kept ks None k from e = refl
kept ks (Some mark) k from e = ap (λ x. event.Node k (if x then from else min from mark)) e

extends : (ks : List SyntaxKind) (o : Option ℕ) (k : SyntaxKind) (from : ℕ) (es : List Event) (m : Stacks) → is_among ks k ≡ true → IsOver (event.Node k from ∷ es) m
    → IsOver (event.Node k from ∷ es) (record m { events = extended_on ks o m.events })
extends ks o k from es m sealed h = by h.later h.is
  where
    by : (later : List Event) → m.events ≡ later ++ (event.Node k from ∷ es) → IsOver (event.Node k from ∷ es) (record m { events = extended_on ks o m.events })
    by [] e = record { later = []; is = ap (extended_on ks o) e ∙ ap (λ x. x ∷ es) (kept ks o k from sealed) }
    by (x ∷ xs) e = record { later = longer_of ks o x ∷ xs; is = ap (extended_on ks o) e }

expects : (b : List Event) (g : Tables) (x : Bool) (o : Option Sight) (n : ℕ) (s : State) → IsOver b s.made → IsOver b (if x then take_on g One o s else with_made (make_of (event.Error n)) s).made
expects b g true o n s h = takes b g One o s h
expects b g false o n s h = makes b (event.Error n) s.made h

abbrev with : List Frame → List Seal → Place → Stacks → State
with fs xs p m = record { place = p; made = record m { frames = fs; seals = xs } }

back : (b : List Event) (x : Bool) (f : Frame) (fs : List Frame) (xs : List Seal) (p : Place) (m : Stacks) → IsOver b m → IsOver b (if x then left_of (with_place (resume_of f) (with fs xs p m)) else with_place (resume_of f) (with fs xs p m)).made
back b true f fs [] p m h = record { later = h.later; is = h.is }
back b true f fs (x ∷ xs) p m h = record { later = event.Node x.kind x.from ∷ h.later; is = ap (λ es. event.Node x.kind x.from ∷ es) h.is }
back b false f fs xs p m h = record { later = h.later; is = h.is }

returns_with : (b : List Event) (fs : List Frame) (xs : List Seal) (p : Place) (m : Stacks) → IsOver b m → IsOver b (return_of (with fs xs p m)).made
returns_with b [] xs p m h = record { later = h.later; is = h.is }
returns_with b (f ∷ fs) xs p m h = back b f.sealed f fs xs p m h

returns : (b : List Event) (s : State) → IsOver b s.made → IsOver b (return_of s).made
returns b s h = returns_with b s.made.frames s.made.seals s.place s.made h

obey-stays : (k : SyntaxKind) (from : ℕ) (es : List Event) (g : Tables) (ts : List Sight) (o : Op) (s : State) → is_among g.sealed k ≡ true → IsOver (event.Node k from ∷ es) s.made → IsOver (event.Node k from ∷ es) (obey_of g ts o s).made
obey-stays k from es g ts (op.IfKind i target) s sealed h = h
obey-stays k from es g ts (op.UnlessKind i target) s sealed h = h
obey-stays k from es g ts (op.IfIn set target) s sealed h = h
obey-stays k from es g ts (op.UnlessIn set target) s sealed h = h
obey-stays k from es g ts (op.If t target) s sealed h = h
obey-stays k from es g ts (op.Unless t target) s sealed h = h
obey-stays k from es g ts (op.Switch row) s sealed h = h
obey-stays k from es g ts (op.Jump target) s sealed h = h
obey-stays k from es g ts op.Take s sealed h = takes (event.Node k from ∷ es) g One (slice_get ts s.place.at) s h
obey-stays k from es g ts (op.TakeAs v) s sealed h = takes (event.Node k from ∷ es) g v (slice_get ts s.place.at) s h
obey-stays k from es g ts op.TakeOperator s sealed h = takes (event.Node k from ∷ es) g (operator_view_of g ts s.place.at) (slice_get ts s.place.at) s h
obey-stays k from es g ts (op.Expect i n) s sealed h = expects (event.Node k from ∷ es) g (nat_eq (here_of ts s.place) i) (slice_get ts s.place.at) n s h
obey-stays k from es g ts (op.Piece part last) s sealed h = pieces (event.Node k from ∷ es) part last (slice_get ts s.place.at) s h
obey-stays k from es g ts op.Open s sealed h = still (event.Node k from ∷ es) s.made (open_of s.made) refl h
obey-stays k from es g ts op.Drop s sealed h = forgets (event.Node k from ∷ es) s.made h
obey-stays k from es g ts (op.Wrap l) s sealed h = nodes (event.Node k from ∷ es) l (mark_of s.made) s.made h
obey-stays k from es g ts (op.Close l) s sealed h = nodes (event.Node k from ∷ es) l (mark_of s.made) (forget_of s.made) (forgets (event.Node k from ∷ es) s.made h)
obey-stays k from es g ts (op.Leaf l) s sealed h = makes (event.Node k from ∷ es) (event.Node l (start_of s.made)) (take_on g One (slice_get ts s.place.at) s).made (takes (event.Node k from ∷ es) g One (slice_get ts s.place.at) s h)
obey-stays k from es g ts op.Extend s sealed h = extends g.sealed (mark_of s.made) k from es s.made sealed h
obey-stays k from es g ts (op.Error n) s sealed h = makes (event.Node k from ∷ es) (event.Error n) s.made h
obey-stays k from es g ts (op.Call target) s sealed h = still (event.Node k from ∷ es) s.made (obey_of g ts (op.Call target) s).made refl h
obey-stays k from es g ts (op.Enter target) s sealed h = still (event.Node k from ∷ es) s.made (obey_of g ts (op.Enter target) s).made refl h
obey-stays k from es g ts (op.CallWith target l keep add) s sealed h = still (event.Node k from ∷ es) s.made (obey_of g ts (op.CallWith target l keep add) s).made refl h
obey-stays k from es g ts (op.Sealed target l) s sealed h = seals (event.Node k from ∷ es) g target l (slice_get ts s.place.at) s h
obey-stays k from es g ts (op.Become target l keep add) s sealed h = h
obey-stays k from es g ts op.Return s sealed h = returns (event.Node k from ∷ es) s h
obey-stays k from es g ts op.Leave s sealed h = returns (event.Node k from ∷ es) (with_made forget_of s) (forgets (event.Node k from ∷ es) s.made h)
obey-stays k from es g ts (op.Reply a) s sealed h = returns (event.Node k from ∷ es) (with_place (answer_of a) s) h
obey-stays k from es g ts (op.Answer a) s sealed h = h
obey-stays k from es g ts (op.Flags keep add) s sealed h = h
obey-stays k from es g ts (op.Operator target) s sealed h = h

step-on-stays : (k : SyntaxKind) (from : ℕ) (es : List Event) (g : Tables) (ts : List Sight) (o : Option Op) (s : State) → is_among g.sealed k ≡ true → IsOver (event.Node k from ∷ es) s.made → IsOver (event.Node k from ∷ es) (step_on g ts o s).made
step-on-stays k from es g ts None s sealed h = h
step-on-stays k from es g ts (Some o) s sealed h = by_test (nat_lt 0 s.place.credit)
  where
    by_test : (x : Bool) → IsOver (event.Node k from ∷ es) (if x then obey_of g ts o (with_place past_of s) else s).made
    by_test true = obey-stays k from es g ts o (with_place past_of s) sealed h
    by_test false = h

runs-stay : (n : ℕ) (k : SyntaxKind) (from : ℕ) (es : List Event) (g : Tables) (ts : List Sight) (s : State) → is_among g.sealed k ≡ true → IsOver (event.Node k from ∷ es) s.made → IsOver (event.Node k from ∷ es) (runs n g ts s).made
runs-stay zero k from es g ts s sealed h = subst (λ (t : State). IsOver (event.Node k from ∷ es) t.made) (sym (runs-none g ts s)) h
runs-stay (suc n) k from es g ts s sealed h =
    subst (λ (t : State). IsOver (event.Node k from ∷ es) t.made) (sym (runs-suc n g ts s))
    (subst (λ (t : State). IsOver (event.Node k from ∷ es) t.made) (sym (step-at g ts (runs n g ts s) (slice_get g.ops (runs n g ts s).place.next) refl))
    (step-on-stays k from es g ts (slice_get g.ops (runs n g ts s).place.next) (runs n g ts s) sealed (runs-stay n k from es g ts s sealed h)))

pub sealed-stay : SealedNodesStay
sealed-stay n g ts s k from es e sealed = runs-stay n k from es g ts s sealed (record { later = []; is = e })
