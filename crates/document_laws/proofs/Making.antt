-- A run makes no node that one test of kinds finds, and no token that another finds, where no
-- operation makes such a node and the tables have no such token.
use Rattle.std.proofs.Common.{◌≡◌, ℕ, zero, suc, Bool, true, false, nat_eq, nat_lt, if◌then◌else◌, List, [], ◌∷◌, ◌++◌, length, ◌∙◌, refl, subst, sym}
use Rattle.std.specs.Prelude.{Option, Some, None, slice_get, reverse}
use Rattle.std.proofs.lemmas.List.{reverse-append}
use Rattle.syntax_kind.specs.declared.syntax_kind.SyntaxKind.{SyntaxKind}
use Rattle.grammar_machine.specs.declared.event.Part.{Part}
use Rattle.grammar_machine.specs.declared.event.Event.{Event}
use Rattle.grammar_machine.specs.declared.event.Event.TheVariants as event
use Rattle.grammar_machine.specs.declared.grammar.Sight.{Sight}
use Rattle.grammar_machine.specs.declared.grammar.View.{View}
use Rattle.grammar_machine.specs.declared.grammar.View.TheVariants.{One}
use Rattle.grammar_machine.specs.declared.grammar.Op.{Op}
use Rattle.grammar_machine.specs.declared.grammar.Op.TheVariants as op
use Rattle.grammar_machine.specs.Running.{Tables, Stacks, State, kind_of, seen_as_of, operator_view_of, here_of, mark_of, rest_of, node_of, longer_of, make_of, forget_of, extended_on, with_place, with_made, resume_of, left_of, return_of, answer_of, take_on, part_of, piece_on, sealed_on, past_of, obey_of, step_on, runs, run_of, fuel_of, begin_of, events_of}
use Rattle.grammar_machine.proofs.Running.{runs-none, runs-suc, step-at}
use Rattle.document_laws.specs.FileKinds.{makes_kind}
use Rattle.document_laws.proofs.Calling.{Place, Frame, Seal}

module _ (node token : SyntaxKind → Bool) (g : Tables) (kinds : (n : ℕ) → token (kind_of g n) ≡ false) where
  abbrev pub IsOther : Event → Type 0
  IsOther (event.Token k signs) = token k ≡ false
  IsOther (event.Piece p last) = Unit {0}
  IsOther (event.Node k from) = node k ≡ false
  IsOther (event.Error m) = Unit {0}

  abbrev AllOther : List Event → Type 0
  AllOther [] = Unit {0}
  AllOther (e ∷ es) = IsOther e × AllOther es

  abbrev SealsOther : List Seal → Type 0
  SealsOther [] = Unit {0}
  SealsOther (x ∷ xs) = (node x.kind ≡ false) × SealsOther xs

  abbrev Good : Stacks → Type 0
  Good m = SealsOther m.seals × AllOther m.events

  -- ---- what operations make

  forgets : (m : Stacks) → Good m → Good (forget_of m)
  forgets m h = by_test (nat_lt m.floor (length m.marks))
    where
      by_test : (x : Bool) → Good (if x then record m { marks = rest_of m.marks } else m)
      by_test true = h
      by_test false = h

  nodes : (k : SyntaxKind) (o : Option ℕ) (m : Stacks) → node k ≡ false → Good m → Good (node_of k o m)
  nodes k None m p h = h
  nodes k (Some from) m p h = (h.0, (p, h.1))

  takes : (v : View) (o : Option Sight) (s : State) → Good s.made → Good (take_on g v o s).made
  takes v None s h = h
  takes v (Some t) s h = (h.0, (kinds (seen_as_of v t), h.1))

  pieces : (part : Part) (last : Bool) (o : Option Sight) (s : State) → Good s.made → Good (piece_on part last o s).made
  pieces part last None s h = h
  pieces part last (Some t) s h = by_test (nat_eq t.word 0)
    where
      by_test : (x : Bool) → Good (if x then s else part_of part last s).made
      by_test true = h
      by_test false = (h.0, (tt, h.1))

  expects : (x : Bool) (o : Option Sight) (n : ℕ) (s : State) → Good s.made → Good (if x then take_on g One o s else with_made (make_of (event.Error n)) s).made
  expects true o n s h = takes One o s h
  expects false o n s h = (h.0, (tt, h.1))

  seals : (target : ℕ) (k : SyntaxKind) (o : Option Sight) (s : State) → node k ≡ false → Good s.made → Good (sealed_on g target k o s).made
  seals target k None s p h = h
  seals target k (Some t) s p h = ((p, h.0), (kinds t.one, h.1))

  longer : (ks : List SyntaxKind) (o : Option ℕ) (e : Event) → IsOther e → IsOther (longer_of ks o e)
  longer ks None e h = h
  longer ks (Some mark) (event.Node k from) h = h
  longer ks (Some mark) (event.Token k n) h = h
  longer ks (Some mark) (event.Piece p last) h = tt
  longer ks (Some mark) (event.Error n) h = tt

  extends : (ks : List SyntaxKind) (o : Option ℕ) (es : List Event) → AllOther es → AllOther (extended_on ks o es)
  extends ks o [] h = tt
  extends ks o (e ∷ es) h = (longer ks o e h.0, h.1)

  abbrev with : List Frame → List Seal → Place → Stacks → State
  with fs xs p m = record { place = p; made = record m { frames = fs; seals = xs } }

  back : (x : Bool) (f : Frame) (fs : List Frame) (xs : List Seal) (p : Place) (m : Stacks) → SealsOther xs → AllOther m.events
      → Good (if x then left_of (with_place (resume_of f) (with fs xs p m)) else with_place (resume_of f) (with fs xs p m)).made
  back true f fs [] p m k h = (k, h)
  back true f fs (x ∷ xs) p m k h = (k.1, (k.0, h))
  back false f fs xs p m k h = (k, h)

  returns_with : (fs : List Frame) (xs : List Seal) (p : Place) (m : Stacks) → SealsOther xs → AllOther m.events → Good (return_of (with fs xs p m)).made
  returns_with [] xs p m k h = (k, h)
  returns_with (f ∷ fs) xs p m k h = back f.sealed f fs xs p m k h

  returns : (s : State) → Good s.made → Good (return_of s).made
  returns s h = returns_with s.made.frames s.made.seals s.place s.made h.0 h.1

  obeyed : (ts : List Sight) (o : Op) (s : State) → makes_kind node o ≡ false → Good s.made → Good (obey_of g ts o s).made
  obeyed ts (op.IfKind i target) s p h = h
  obeyed ts (op.UnlessKind i target) s p h = h
  obeyed ts (op.IfIn set target) s p h = h
  obeyed ts (op.UnlessIn set target) s p h = h
  obeyed ts (op.If t target) s p h = h
  obeyed ts (op.Unless t target) s p h = h
  obeyed ts (op.Switch row) s p h = h
  obeyed ts (op.Jump target) s p h = h
  obeyed ts op.Take s p h = takes One (slice_get ts s.place.at) s h
  obeyed ts (op.TakeAs v) s p h = takes v (slice_get ts s.place.at) s h
  obeyed ts op.TakeOperator s p h = takes (operator_view_of g ts s.place.at) (slice_get ts s.place.at) s h
  obeyed ts (op.Expect i n) s p h = expects (nat_eq (here_of ts s.place) i) (slice_get ts s.place.at) n s h
  obeyed ts (op.Piece part last) s p h = pieces part last (slice_get ts s.place.at) s h
  obeyed ts op.Open s p h = h
  obeyed ts op.Drop s p h = forgets s.made h
  obeyed ts (op.Wrap l) s p h = nodes l (mark_of s.made) s.made p h
  obeyed ts (op.Close l) s p h = nodes l (mark_of s.made) (forget_of s.made) p (forgets s.made h)
  obeyed ts (op.Leaf l) s p h = let w = takes One (slice_get ts s.place.at) s h in (w.0, (p, w.1))
  obeyed ts op.Extend s p h = (h.0, extends g.sealed (mark_of s.made) s.made.events h.1)
  obeyed ts (op.Error n) s p h = (h.0, (tt, h.1))
  obeyed ts (op.Call target) s p h = h
  obeyed ts (op.Enter target) s p h = h
  obeyed ts (op.CallWith target l keep add) s p h = h
  obeyed ts (op.Sealed target l) s p h = seals target l (slice_get ts s.place.at) s p h
  obeyed ts (op.Become target l keep add) s p h = h
  obeyed ts op.Return s p h = returns s h
  obeyed ts op.Leave s p h = returns (with_made forget_of s) (forgets s.made h)
  obeyed ts (op.Reply a) s p h = returns (with_place (answer_of a) s) h
  obeyed ts (op.Answer a) s p h = h
  obeyed ts (op.Flags keep add) s p h = h
  obeyed ts (op.Operator target) s p h = h

  stepped : (ts : List Sight) (o : Option Op) (s : State) → ((x : Op) → o ≡ Some x → makes_kind node x ≡ false) → Good s.made → Good (step_on g ts o s).made
  stepped ts None s p h = h
  stepped ts (Some o) s p h = by_test (nat_lt 0 s.place.credit)
    where
      by_test : (x : Bool) → Good (if x then obey_of g ts o (with_place past_of s) else s).made
      by_test true = obeyed ts o (with_place past_of s) (p o refl) h
      by_test false = h

  abbrev MakesNone : Type 0
  MakesNone = (i : ℕ) (o : Op) → slice_get g.ops i ≡ Some o → makes_kind node o ≡ false

  run_other : (n : ℕ) (ts : List Sight) (rule : ℕ) → MakesNone → Good (runs n g ts (begin_of rule)).made
  run_other zero ts rule p = subst (λ (s : State). Good s.made) (sym (runs-none g ts (begin_of rule))) (tt, tt)
  run_other (suc n) ts rule p =
      let s : State = runs n g ts (begin_of rule) in
      subst (λ (t : State). Good t.made) (sym (runs-suc n g ts (begin_of rule) ∙ step-at g ts s (slice_get g.ops s.place.next) refl))
      (stepped ts (slice_get g.ops s.place.next) s (p s.place.next) (run_other n ts rule p))

  -- ---- in order

  other_both : (xs ys : List Event) → AllOther xs → AllOther ys → AllOther (xs ++ ys)
  other_both [] ys h k = k
  other_both (x ∷ xs) ys h k = (h.0, other_both xs ys h.1 k)

  other_turned : (es : List Event) → AllOther es → AllOther (reverse es)
  other_turned [] h = tt
  other_turned (e ∷ es) h = subst AllOther (sym (reverse-append (e ∷ []) es)) (other_both (reverse es) (e ∷ []) (other_turned es h.1) (h.0, tt))

  some_same : (a b : Event) → Some a ≡ Some b → a ≡ b
  some_same a b e = cc

  event_other : (es : List Event) → AllOther es → (i : ℕ) (e : Event) → slice_get es i ≡ Some e → IsOther e
  event_other [] h i e is = absurd (let bad : None ≡ Some e = is in cc)
  event_other (x ∷ es) h zero e is = subst IsOther (some_same x e is) h.0
  event_other (x ∷ es) h (suc i) e is = event_other es h.1 i e is

  -- each event of a run
  pub made_other : (rule : ℕ) (ts : List Sight) → MakesNone → (i : ℕ) (e : Event) → slice_get (events_of g rule ts) i ≡ Some e → IsOther e
  made_other rule ts p =
      event_other (events_of g rule ts) (other_turned (run_of g rule ts).made.events (run_other (fuel_of (length ts)) ts rule p).1)
