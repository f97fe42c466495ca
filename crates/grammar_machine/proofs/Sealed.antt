-- What a sealed call leaves behind.
use Rattle.std.proofs.Common.{◌≡◌, ℕ, zero, suc, ◌<◌, ◌≤◌, ◌+◌, ◌-◌, ◌^◌, List, [], ◌∷◌, ◌++◌, drop, length, ap, ap₂, ◌∙◌, sym, subst, refl, arith, Bool, true, false, nat_lt, if◌then◌else◌, mod-eq_of_lt}
use Rattle.std.specs.Prelude.{Option, Some, None, reverse, slice_get}
use Rattle.std.proofs.lemmas.List.{length-map, length-append, drop_at, reverse-reverse}
use Rattle.std.proofs.lemmas.Option.{slice_get_past}
use Rattle.syntax_kind.specs.declared.syntax_kind.SyntaxKind.{SyntaxKind}
use Rattle.grammar_machine.specs.declared.event.Event.{Event}
use Rattle.grammar_machine.specs.declared.event.Event.TheVariants as event
use Rattle.grammar_machine.specs.declared.grammar.Sight.{Sight}
use Rattle.grammar_machine.specs.declared.grammar.Op.{Op}
use Rattle.grammar_machine.specs.declared.grammar.Op.TheVariants as op
use Rattle.grammar_machine.specs.declared.machine.Place.{Place}
use Rattle.grammar_machine.specs.Running.{Tables, Stacks, State, kind_of, start_of, frame_of, sealed_on, with_place, with_made, rest_of, answer_of, past_of, return_of, obey_of, step_of, runs}
use Rattle.grammar_machine.specs.Framing.{Around, sealed_count, IsNested, ground_of, moved_event, moved_events, moved_marks, in_place, made_in, NextStays, returns_of}
use Rattle.grammar_machine.specs.Filling.{LooksAreShort}
use Rattle.grammar_machine.specs.Exchanging.{MakesItsOwn, CallsMakeTheirOwn}
use Rattle.grammar_machine.specs.Sealing.{inside, SealedCall, returned, behind_call, LeavesNothing, SealedCallsLeaveNothing}
use Rattle.grammar_machine.proofs.Running.{step-obeys, runs-none, runs-suc, runs-add}
use Rattle.grammar_machine.proofs.Growing.{Grows, runs-grow, step-grows}
use Rattle.grammar_machine.proofs.Framed.{step-in, forget-in}

-- the tokens from a place on
pub from-place : {A : Type 0} → (n i : ℕ) (xs : List A) → slice_get xs (i + n) ≡ slice_get (drop n xs) i
from-place zero i xs = ap (slice_get xs) (let e : i + 0 ≡ i = omega arith in e)
from-place (suc n) i [] = slice_get_past [] (i + suc n) (omega arith) ∙ sym (slice_get_past [] i (omega arith))
from-place (suc n) i (x ∷ xs) = ap (slice_get (x ∷ xs)) (let e : i + suc n ≡ suc (i + n) = omega arith in e) ∙ from-place n i xs

pub length-from : {A : Type 0} → (n : ℕ) (xs : List A) → length (drop n xs) ≤ length xs
length-from zero xs = omega arith
length-from (suc n) [] = omega arith
length-from (suc n) (x ∷ xs) = let less = length-from n xs in omega (arith, less)

pub slice_get_some : {A : Type 0} → (xs : List A) (i : ℕ) → i < length xs → slice_get xs i ≡ None → ⊥
slice_get_some [] i h e = absurd (omega (arith, h))
slice_get_some (x ∷ xs) zero h e = (let bad : Some x ≡ None = e in cc)
slice_get_some (x ∷ xs) (suc i) h e = slice_get_some xs i (omega (arith, h)) e

-- ---- what lies around a sealed call, and how it begins

abbrev pub around : SyntaxKind → State → Around
around k s = record {
  taken = s.place.at;
  frames = frame_of true (past_of s.place) ∷ s.made.frames;
  seals = record { kind = k; from = start_of s.made; floor = s.made.floor; credit = s.place.credit - 1 } ∷ s.made.seals;
  marks = s.made.marks;
  events = s.made.events;
}

abbrev pub first : Tables → ℕ → Sight → State
first g target t = record {
  place = record { next = target; at = 1; credit = 1200; level = 0; flags = 0; operand = 0; answer = 0 };
  made = record { frames = []; seals = []; marks = []; floor = 0; events = event.Token (kind_of g t.one) 1 ∷ [] };
}

pub begins : (g : Tables) (ts : List Sight) (k : SyntaxKind) (target : ℕ) (s : State) (t : Sight) → slice_get g.ops s.place.next ≡ Some (op.Sealed target k) → 0 < s.place.credit → slice_get ts s.place.at ≡ Some t
    → s.place.at + 1 < 2 ^ 64 → step_of g ts s ≡ in_place (around k s) (first g target t)
begins g ts k target s t found left token short =
    step-obeys g ts s (op.Sealed target k) found left
    ∙ ap (λ o. sealed_on g target k o (with_place past_of s)) token
    ∙ ap₂ (λ i n. record {
      place = record { next = target; at = i; credit = 1200; level = 0; flags = 0; operand = 0; answer = 0 };
      made = record {
        frames = frame_of true (past_of s.place) ∷ s.made.frames;
        seals = record { kind = k; from = start_of s.made; floor = s.made.floor; credit = s.place.credit - 1 } ∷ s.made.seals;
        marks = s.made.marks;
        floor = n;
        events = event.Token (kind_of g t.one) 1 ∷ s.made.events;
      };
    })
    (mod-eq_of_lt short ∙ (let e : s.place.at + 1 ≡ 1 + s.place.at = omega arith in e))
    (let e : length s.made.marks ≡ 0 + length s.made.marks = omega arith in e)

-- ---- how it goes on

pub frames-in : (c : Around) (m : Stacks) → length (made_in c m).frames ≡ length m.frames + length c.frames
frames-in c m = length-append m.frames c.frames

pub events-in : (c : Around) (m : Stacks) → length (made_in c m).events ≡ length m.events + length c.events
events-in c m = length-append (moved_events (length c.events) m.events) c.events ∙ ap (λ n. n + length c.events) (length-map m.events (moved_event (length c.events)))

-- what is known of a state of the call
stays : (b n : ℕ) (g : Tables) (us : List Sight) (c : Around) (top : ℕ) (s x : State) → length us + 3 < 2 ^ 64 → LooksAreShort g
    → IsNested s.made → 0 < s.place.at → 0 < length s.made.events
    → x ≡ in_place c (runs n g us s) → x.place.at ≤ top → top + 2 ^ 8 ≤ b → length x.made.events < 2 ^ 32 - 1
    → ((o : Op) → slice_get g.ops x.place.next ≡ Some o → returns_of o ≡ true → length c.frames < length x.made.frames)
    → NextStays b c g (runs n g us s)
stays b n g us c top s x short looks nested some made is below room few returns o found =
    let t = runs n g us s in
    let grows = runs-grow n g us s short in
    let there : t.place.at + c.taken ≤ top = subst (λ (y : State). y.place.at ≤ top) is below in
    let reach = looks t.place.next o found in
    let at = grows.at in
    let events = grows.events in
    let count = subst (λ (y : State). length y.made.events < 2 ^ 32 - 1) is few in
    let sum = events-in c t.made in
    record {
      near = omega (arith, there, reach, room);
      back = λ h. omega (arith, at, some);
      frame = λ h.
          let more : length c.frames < length (made_in c t.made).frames = subst (λ (y : State). length c.frames < length y.made.frames) is (returns o (ap (λ (y : State). slice_get g.ops y.place.next) is ∙ found) h) in
          let frames = frames-in c t.made in
          omega (arith, more, frames);
      nested = grows.nested nested;
      event = omega (arith, events, made);
      few = omega (arith, count, sum);
    }

-- from one state of a run to a later one
pub later : (m n : ℕ) (g : Tables) (ts : List Sight) (y : State) → n ≤ m → length ts + 3 < 2 ^ 64 → Grows (runs n g ts y) (runs m g ts y)
later m n g ts y h short =
    let is : runs m g ts y ≡ runs (m - n) g ts (runs n g ts y) = ap (λ i. runs i g ts y) (let e : m ≡ (m - n) + n = omega (arith, h) in e) ∙ runs-add (m - n) n g ts y in
    subst (λ (t : State). Grows (runs n g ts y) t) (sym is) (runs-grow (m - n) g ts (runs n g ts y) short)

inside-in : (n : ℕ) (g : Tables) (ts : List Sight) (k : SyntaxKind) (s : State) (c : SealedCall g ts k s) (t : Sight) → LooksAreShort g → length ts + 3 < 2 ^ 64
    → (returned c).place.at < 2 ^ 62 → length (returned c).made.events < 2 ^ 32 - 1 → slice_get ts s.place.at ≡ Some t → n ≤ c.steps
    → inside n g ts s ≡ in_place (around k s) (runs n g (drop s.place.at ts) (first g c.target t))
inside-in zero g ts k s c t looks short top few token h =
    let within = c.token in
    runs-none g ts (step_of g ts s) ∙ begins g ts k c.target s t c.found c.left token (omega (arith, within, short)) ∙ ap (in_place (around k s)) (sym (runs-none g (drop s.place.at ts) (first g c.target t)))
inside-in (suc n) g ts k s c t looks short top few token h =
    let us = drop s.place.at ts in
    let a = around k s in
    let before : n ≤ c.steps = omega (arith, h) in
    let earlier = inside-in n g ts k s c t looks short top few token before in
    let begun = (step-grows g ts s short).at in
    let gone = (runs-grow n g ts (step_of g ts s) short).at in
    let on = later c.steps n g ts (step_of g ts s) before short in
    let end = step-grows g ts (inside c.steps g ts s) short in
    let place = on.at in
    let last = end.at in
    let made = on.events in
    let made_last = end.events in
    let fewer = length-from s.place.at ts in
    runs-suc n g ts (step_of g ts s) ∙ ap (step_of g ts) earlier
    ∙ step-in ((returned c).place.at + 2 ^ 8) a g us ts (runs n g us (first g c.target t)) (λ i below. from-place s.place.at i ts) (omega (arith, top, begun, gone, place, last))
    (stays ((returned c).place.at + 2 ^ 8) n g us a ((returned c).place.at) (first g c.target t) (inside n g ts s) (omega (arith, short, fewer)) looks refl (omega arith) (omega arith)
    earlier (omega (arith, place, last)) (omega arith) (omega (arith, few, made, made_last))
    (λ o found ret. let more = c.within n (omega (arith, h)) o found ret in omega (arith, more)))
    ∙ ap (in_place a) (sym (runs-suc n g us (first g c.target t)))

-- ---- how it returns

empty : {A : Type 0} → (xs : List A) → length xs ≡ 0 → xs ≡ []
empty [] h = refl
empty (x ∷ xs) h = absurd (omega (arith, h))

abbrev pub plain : Place → List ℕ → List Event → State
plain p ms es = record { place = p; made = record { frames = []; seals = []; marks = ms; floor = 0; events = es } }

-- the marks from before the call
shown : (by : ℕ) (ms cs : List ℕ) → drop (length (moved_marks by ms ++ cs) - (0 + length cs)) (moved_marks by ms ++ cs) ≡ cs
shown by ms cs =
    let both : length (moved_marks by ms ++ cs) ≡ length (moved_marks by ms) + length cs = length-append (moved_marks by ms) cs in
    drop_at (moved_marks by ms) cs (length (moved_marks by ms ++ cs) - (0 + length cs)) (omega (arith, both))

returns : (kind : SyntaxKind) (s : State) (p : Place) (ms : List ℕ) (es : List Event) → return_of (in_place (around kind s) (plain p ms es)) ≡ behind_call kind s (p.at + s.place.at) (moved_events (length s.made.events) es)
returns kind s p ms es =
    ap (λ xs. record (behind_call kind s (p.at + s.place.at) (moved_events (length s.made.events) es)) { made = record s.made { marks = xs; events = event.Node kind (start_of s.made) ∷ (moved_events (length s.made.events) es ++ s.made.events) } })
    (shown (length s.made.events) ms s.made.marks)

forgets : (ms : List ℕ) (kind : SyntaxKind) (s : State) (p : Place) (es : List Event) (x : Bool)
    → return_of (in_place (around kind s) (with_made (λ m. if x then record m { marks = rest_of ms } else m) (plain p ms es))) ≡ behind_call kind s (p.at + s.place.at) (moved_events (length s.made.events) es)
forgets ms kind s p es true = returns kind s p (rest_of ms) es
forgets ms kind s p es false = returns kind s p ms es

leaves : (g : Tables) (ts : List Sight) (kind : SyntaxKind) (s : State) (p : Place) (ms : List ℕ) (es : List Event) (o : Op) → returns_of o ≡ true
    → obey_of g ts o (with_place past_of (in_place (around kind s) (plain p ms es))) ≡ behind_call kind s (p.at + s.place.at) (moved_events (length s.made.events) es)
leaves g ts kind s p ms es op.Return h = returns kind s (past_of p) ms es
leaves g ts kind s p ms es op.Leave h =
    ap (λ (m : Stacks). return_of (record (in_place (around kind s) (plain (past_of p) ms es)) { made = m })) (forget-in (around kind s) (plain (past_of p) ms es).made)
    ∙ forgets ms kind s (past_of p) es (nat_lt 0 (length ms))
leaves g ts kind s p ms es (op.Reply a) h = returns kind s (answer_of a (past_of p)) ms es
leaves g ts kind s p ms es (op.IfKind k target) h = (let bad : false ≡ true = h in cc)
leaves g ts kind s p ms es (op.UnlessKind k target) h = (let bad : false ≡ true = h in cc)
leaves g ts kind s p ms es (op.IfIn set target) h = (let bad : false ≡ true = h in cc)
leaves g ts kind s p ms es (op.UnlessIn set target) h = (let bad : false ≡ true = h in cc)
leaves g ts kind s p ms es (op.If t target) h = (let bad : false ≡ true = h in cc)
leaves g ts kind s p ms es (op.Unless t target) h = (let bad : false ≡ true = h in cc)
leaves g ts kind s p ms es (op.Switch row) h = (let bad : false ≡ true = h in cc)
leaves g ts kind s p ms es (op.Jump target) h = (let bad : false ≡ true = h in cc)
leaves g ts kind s p ms es op.Take h = (let bad : false ≡ true = h in cc)
leaves g ts kind s p ms es (op.TakeAs v) h = (let bad : false ≡ true = h in cc)
leaves g ts kind s p ms es op.TakeOperator h = (let bad : false ≡ true = h in cc)
leaves g ts kind s p ms es (op.Expect k n) h = (let bad : false ≡ true = h in cc)
leaves g ts kind s p ms es (op.Piece part last) h = (let bad : false ≡ true = h in cc)
leaves g ts kind s p ms es op.Open h = (let bad : false ≡ true = h in cc)
leaves g ts kind s p ms es op.Drop h = (let bad : false ≡ true = h in cc)
leaves g ts kind s p ms es (op.Wrap k) h = (let bad : false ≡ true = h in cc)
leaves g ts kind s p ms es (op.Close k) h = (let bad : false ≡ true = h in cc)
leaves g ts kind s p ms es (op.Leaf k) h = (let bad : false ≡ true = h in cc)
leaves g ts kind s p ms es op.Extend h = (let bad : false ≡ true = h in cc)
leaves g ts kind s p ms es (op.Error n) h = (let bad : false ≡ true = h in cc)
leaves g ts kind s p ms es (op.Call target) h = (let bad : false ≡ true = h in cc)
leaves g ts kind s p ms es (op.Enter target) h = (let bad : false ≡ true = h in cc)
leaves g ts kind s p ms es (op.CallWith target l keep add) h = (let bad : false ≡ true = h in cc)
leaves g ts kind s p ms es (op.Sealed target k) h = (let bad : false ≡ true = h in cc)
leaves g ts kind s p ms es (op.Become target l keep add) h = (let bad : false ≡ true = h in cc)
leaves g ts kind s p ms es (op.Answer a) h = (let bad : false ≡ true = h in cc)
leaves g ts kind s p ms es (op.Flags keep add) h = (let bad : false ≡ true = h in cc)
leaves g ts kind s p ms es (op.Operator target) h = (let bad : false ≡ true = h in cc)

-- a state with no call open
pub closed : (m : Stacks) → length m.frames ≡ 0 → IsNested m → ground_of m.floor m.seals ≡ 0 → m ≡ record { frames = []; seals = []; marks = m.marks; floor = 0; events = m.events }
closed m h nested ground =
    let fs : m.frames ≡ [] = empty m.frames h in
    let xs : m.seals ≡ [] = empty m.seals (sym nested ∙ ap sealed_count fs) in
    let low : m.floor ≡ 0 = sym (ap (ground_of m.floor) xs) ∙ ground in
    ap₂ (λ x y. record m { frames = x; seals = y }) fs xs ∙ ap (λ n. record { frames = []; seals = []; marks = m.marks; floor = n; events = m.events }) low

-- what a call returns to, by a run without what lies around it
pub ends-as : (g : Tables) (ts us : List Sight) (k : SyntaxKind) (s : State) (c : SealedCall g ts k s) (t : Sight) → length us + 3 < 2 ^ 64
    → inside c.steps g ts s ≡ in_place (around k s) (runs c.steps g us (first g c.target t))
    → returned c ≡ behind_call k s ((runs c.steps g us (first g c.target t)).place.at + s.place.at) (moved_events (length s.made.events) (runs c.steps g us (first g c.target t)).made.events)
ends-as g ts us k s c t short is =
    let a = around k s in
    let y = runs c.steps g us (first g c.target t) in
    let grows = runs-grow c.steps g us (first g c.target t) short in
    let frames = frames-in a y.made in
    let own : length (made_in a y.made).frames ≡ length s.made.frames + 1 = subst (λ (x : State). length x.made.frames ≡ length s.made.frames + 1) is c.own in
    let none : length y.made.frames ≡ 0 = omega (arith, frames, own) in
    let over : y ≡ plain y.place y.made.marks y.made.events = ap (λ (m : Stacks). record { place = y.place; made = m }) (closed y.made none (grows.nested refl) grows.ground) in
    step-obeys g ts (inside c.steps g ts s) c.last c.comes c.spends
    ∙ ap (λ (x : State). obey_of g ts c.last (with_place past_of x)) (is ∙ ap (in_place a) over)
    ∙ leaves g ts k s y.place y.made.marks y.made.events c.last c.is_return

leaves-nothing : (g : Tables) (ts : List Sight) (k : SyntaxKind) (s : State) (c : SealedCall g ts k s) (t : Sight) → LooksAreShort g → length ts + 3 < 2 ^ 64
    → (returned c).place.at < 2 ^ 62 → length (returned c).made.events < 2 ^ 32 - 1 → slice_get ts s.place.at ≡ Some t → LeavesNothing k s (returned c)
leaves-nothing g ts k s c t looks short top few token =
    let us = drop s.place.at ts in
    let y = runs c.steps g us (first g c.target t) in
    let is : inside c.steps g ts s ≡ in_place (around k s) y = inside-in c.steps g ts k s c t looks short top few token (omega arith) in
    let fewer = length-from s.place.at ts in
    let ends = ends-as g ts us k s c t (omega (arith, short, fewer)) is in
    record {
      events = moved_events (length s.made.events) y.made.events;
      is = ends ∙ ap (λ i. behind_call k s i (moved_events (length s.made.events) y.made.events)) (sym (ap (λ (x : State). x.place.at) ends));
    }

makes-own : (g : Tables) (ts : List Sight) (k : SyntaxKind) (s : State) (c : SealedCall g ts k s) (t : Sight) → LooksAreShort g → length ts + 3 < 2 ^ 64
    → (returned c).place.at < 2 ^ 62 → length (returned c).made.events < 2 ^ 32 - 1 → slice_get ts s.place.at ≡ Some t → MakesItsOwn c
makes-own g ts k s c t looks short top few token =
    let us = drop s.place.at ts in
    let y = runs c.steps g us (first g c.target t) in
    let is : inside c.steps g ts s ≡ in_place (around k s) y = inside-in c.steps g ts k s c t looks short top few token (omega arith) in
    let fewer = length-from s.place.at ts in
    let ends = ends-as g ts us k s c t (omega (arith, short, fewer)) is in
    record {
      own = reverse y.made.events;
      makes =
          ends ∙ ap₂ (λ i es. behind_call k s i (moved_events (length s.made.events) es)) (sym (ap (λ (x : State). x.place.at) ends))
          (sym (reverse-reverse y.made.events));
    }

pub calls-make : CallsMakeTheirOwn
calls-make g ts k s c looks short fits = by_token (slice_get ts s.place.at) refl
  where
    by_token : (o : Option Sight) → slice_get ts s.place.at ≡ o → MakesItsOwn c
    by_token (Some t) e = makes-own g ts k s c t looks short fits.at fits.events e
    by_token None e = absurd (slice_get_some ts s.place.at c.token e)

pub sealed-leave-nothing : SealedCallsLeaveNothing
sealed-leave-nothing g ts k s c looks short fits = by_token (slice_get ts s.place.at) refl
  where
    by_token : (o : Option Sight) → slice_get ts s.place.at ≡ o → LeavesNothing k s (returned c)
    by_token (Some t) e = leaves-nothing g ts k s c t looks short fits.at fits.events e
    by_token None e = absurd (slice_get_some ts s.place.at c.token e)

-- it returns behind its first token
pub returns-behind : (g : Tables) (ts : List Sight) (k : SyntaxKind) (s : State) (c : SealedCall g ts k s) → length ts + 3 < 2 ^ 64 → s.place.at + 1 ≤ (returned c).place.at
returns-behind g ts k s c short = by_token (slice_get ts s.place.at) refl
  where
    by_token : (o : Option Sight) → slice_get ts s.place.at ≡ o → s.place.at + 1 ≤ (returned c).place.at
    by_token (Some t) e =
        let within = c.token in
        let first_is = begins g ts k c.target s t c.found c.left e (omega (arith, within, short)) in
        let one : (step_of g ts s).place.at ≡ 1 + s.place.at = ap (λ (x : State). x.place.at) first_is in
        let inner = (runs-grow c.steps g ts (step_of g ts s) short).at in
        let last = (step-grows g ts (inside c.steps g ts s) short).at in
        omega (arith, one, inner, last)
    by_token None e = absurd (slice_get_some ts s.place.at c.token e)
