-- A sealed call over the tokens of a piece alone is one wherever the piece is in a text.
use Rattle.std.proofs.Common.{◌≡◌, ℕ, zero, suc, ◌<◌, ◌≤◌, ◌+◌, ◌-◌, ◌^◌, List, length, ap, ◌∙◌, sym, refl, arith}
use Rattle.std.specs.Prelude.{Option, Some, None, slice_get}
use Rattle.std.proofs.lemmas.Option.{slice_get_within}
use Rattle.syntax_kind.specs.declared.syntax_kind.SyntaxKind.{SyntaxKind}
use Rattle.grammar_machine.specs.declared.grammar.Sight.{Sight}
use Rattle.grammar_machine.specs.declared.grammar.Op.TheVariants as op
use Rattle.grammar_machine.specs.Running.{Tables, State, step_of, runs}
use Rattle.grammar_machine.specs.Framing.{Around, made_in, in_place, NextStays}
use Rattle.grammar_machine.specs.Sealing.{inside, SealedCall, returned}
use Rattle.grammar_machine.specs.Standing.{StandsAt, LooksInside, CallsAlike, SealedCallsAreMoved}
use Rattle.grammar_machine.proofs.Running.{runs-none, runs-suc}
use Rattle.grammar_machine.proofs.Growing.{runs-grow, step-grows}
use Rattle.grammar_machine.proofs.Framed.{step-in}
use Rattle.grammar_machine.proofs.Sealed.{around, first, begins, frames-in, events-in, slice_get_some, later, ends-as}

-- an operation of the call, with anything around it
alike : (n : ℕ) (g : Tables) (piece : List Sight) (k : SyntaxKind) (s : State) (c : SealedCall g piece k s) (t : Sight) (a : Around) → LooksInside c → s.place.at ≡ 0 → length piece + 3 < 2 ^ 64
    → length (returned c).made.events + length a.events < 2 ^ 32 - 1 → n < c.steps
    → inside n g piece s ≡ in_place (around k s) (runs n g piece (first g c.target t)) → NextStays (length piece) a g (runs n g piece (first g c.target t))
alike n g piece k s c t a looks here short few below is o found =
    let y = runs n g piece (first g c.target t) in
    let grows = runs-grow n g piece (first g c.target t) short in
    let at = grows.at in
    let events = grows.events in
    let there : slice_get g.ops (inside n g piece s).place.next ≡ Some o = ap (λ (x : State). slice_get g.ops x.place.next) is ∙ found in
    let near = looks n o (omega (arith, below)) there in
    let place : (inside n g piece s).place.at ≡ y.place.at + s.place.at = ap (λ (x : State). x.place.at) is in
    let sum = events-in (around k s) y.made in
    let count : length (inside n g piece s).made.events ≡ length (made_in (around k s) y.made).events = ap (λ (x : State). length x.made.events) is in
    let on = (later c.steps n g piece (step_of g piece s) (omega (arith, below)) short).events in
    let last = (step-grows g piece (inside c.steps g piece s) short).events in
    let frames = frames-in (around k s) y.made in
    let same : length (inside n g piece s).made.frames ≡ length (made_in (around k s) y.made).frames = ap (λ (x : State). length x.made.frames) is in
    record {
      near = omega (arith, near, place, here);
      back = λ e. omega (arith, at);
      frame = λ e. let more = c.within n below o there e in omega (arith, more, frames, same);
      nested = grows.nested refl;
      event = omega (arith, events);
      few = omega (arith, few, sum, count, on, last);
    }

-- the call in the piece's own text
here-in : (n : ℕ) (g : Tables) (piece : List Sight) (k : SyntaxKind) (s : State) (c : SealedCall g piece k s) (t : Sight) → LooksInside c → s.place.at ≡ 0 → length piece + 3 < 2 ^ 64
    → length (returned c).made.events + length s.made.events < 2 ^ 32 - 1 → slice_get piece s.place.at ≡ Some t → n ≤ c.steps
    → inside n g piece s ≡ in_place (around k s) (runs n g piece (first g c.target t))
here-in zero g piece k s c t looks here short few token h =
    runs-none g piece (step_of g piece s) ∙ begins g piece k c.target s t c.found c.left token (omega (arith, here)) ∙ ap (in_place (around k s)) (sym (runs-none g piece (first g c.target t)))
here-in (suc n) g piece k s c t looks here short few token h =
    let earlier = here-in n g piece k s c t looks here short few token (omega (arith, h)) in
    runs-suc n g piece (step_of g piece s) ∙ ap (step_of g piece) earlier
    ∙ step-in (length piece) (around k s) g piece piece (runs n g piece (first g c.target t)) (λ i below. ap (slice_get piece) (let e : i + s.place.at ≡ i = omega (arith, here) in e)) (omega (arith, here, short))
    (alike n g piece k s c t (around k s) looks here short few (omega (arith, h)) earlier)
    ∙ ap (in_place (around k s)) (sym (runs-suc n g piece (first g c.target t)))

-- and in another one
there-in : (n : ℕ) (g : Tables) (piece whole : List Sight) (k : SyntaxKind) (s u : State) (c : SealedCall g piece k s) (t : Sight) → LooksInside c → s.place.at ≡ 0
    → slice_get g.ops u.place.next ≡ Some (op.Sealed c.target k) → 0 < u.place.credit → StandsAt u.place.at piece whole → length piece + u.place.at + 3 < 2 ^ 64
    → length (returned c).made.events + length u.made.events < 2 ^ 32 - 1 → length (returned c).made.events + length s.made.events < 2 ^ 32 - 1 → slice_get piece s.place.at ≡ Some t → slice_get whole u.place.at ≡ Some t → n ≤ c.steps
    → inside n g whole u ≡ in_place (around k u) (runs n g piece (first g c.target t))
there-in zero g piece whole k s u c t looks here found left stands short few own token there h =
    runs-none g whole (step_of g whole u) ∙ begins g whole k c.target u t found left there (omega (arith, short)) ∙ ap (in_place (around k u)) (sym (runs-none g piece (first g c.target t)))
there-in (suc n) g piece whole k s u c t looks here found left stands short few own token there h =
    let earlier = there-in n g piece whole k s u c t looks here found left stands short few own token there (omega (arith, h)) in
    let is = here-in n g piece k s c t looks here (omega (arith, short)) own token (omega (arith, h)) in
    runs-suc n g whole (step_of g whole u) ∙ ap (step_of g whole) earlier
    ∙ step-in (length piece) (around k u) g piece whole (runs n g piece (first g c.target t)) stands short
    (alike n g piece k s c t (around k u) looks here (omega (arith, short)) few (omega (arith, h)) is)
    ∙ ap (in_place (around k u)) (sym (runs-suc n g piece (first g c.target t)))

-- ---- so it is a call there

-- the same operation comes next
next-same : (n : ℕ) (g : Tables) (piece whole : List Sight) (k : SyntaxKind) (s u y : State) → inside n g piece s ≡ in_place (around k s) y → inside n g whole u ≡ in_place (around k u) y
    → slice_get g.ops (inside n g piece s).place.next ≡ slice_get g.ops (inside n g whole u).place.next
next-same n g piece whole k s u y here there = ap (λ (x : State). slice_get g.ops x.place.next) here ∙ sym (ap (λ (x : State). slice_get g.ops x.place.next) there)

-- and as many more calls are open
frames-same : (n : ℕ) (g : Tables) (piece whole : List Sight) (k : SyntaxKind) (s u y : State) → inside n g piece s ≡ in_place (around k s) y → inside n g whole u ≡ in_place (around k u) y
    → length (inside n g piece s).made.frames + length u.made.frames ≡ length (inside n g whole u).made.frames + length s.made.frames
frames-same n g piece whole k s u y here there =
    let one : length (inside n g piece s).made.frames ≡ length (made_in (around k s) y.made).frames = ap (λ (x : State). length x.made.frames) here in
    let other : length (inside n g whole u).made.frames ≡ length (made_in (around k u) y.made).frames = ap (λ (x : State). length x.made.frames) there in
    let a = frames-in (around k s) y.made in
    let b = frames-in (around k u) y.made in
    omega (arith, one, other, a, b)

moved : (g : Tables) (piece whole : List Sight) (k : SyntaxKind) (s u : State) (c : SealedCall g piece k s) (t : Sight) → LooksInside c → s.place.at ≡ 0 → length s.made.events ≡ 0
    → slice_get g.ops u.place.next ≡ Some (op.Sealed c.target k) → 0 < u.place.credit → StandsAt u.place.at piece whole → length piece + u.place.at + 3 < 2 ^ 64
    → length (returned c).made.events + length u.made.events < 2 ^ 32 - 1 → slice_get piece s.place.at ≡ Some t → slice_get whole u.place.at ≡ Some t → CallsAlike g piece whole k s u c
moved g piece whole k s u c t looks here none found left stands short few token there =
    let own : length (returned c).made.events + length s.made.events < 2 ^ 32 - 1 = omega (arith, few, none) in
    let far : length piece + 3 < 2 ^ 64 = omega (arith, short) in
    let ours : (n : ℕ) → n ≤ c.steps → inside n g piece s ≡ in_place (around k s) (runs n g piece (first g c.target t)) = λ n h. here-in n g piece k s c t looks here far own token h in
    let theirs : (n : ℕ) → n ≤ c.steps → inside n g whole u ≡ in_place (around k u) (runs n g piece (first g c.target t)) = λ n h. there-in n g piece whole k s u c t looks here found left stands short few own token there h in
    let last : c.steps ≤ c.steps = omega arith in
    let y = runs c.steps g piece (first g c.target t) in
    let credit : (inside c.steps g whole u).place.credit ≡ (inside c.steps g piece s).place.credit = ap (λ (x : State). x.place.credit) (theirs c.steps last) ∙ sym (ap (λ (x : State). x.place.credit) (ours c.steps last)) in
    let spends = c.spends in
    let frames = frames-same c.steps g piece whole k s u y (ours c.steps last) (theirs c.steps last) in
    let open_ones = c.own in
    let call : SealedCall g whole k u = record {
      target = c.target;
      steps = c.steps;
      found = found;
      left = left;
      token = slice_get_within whole u.place.at t there;
      within = λ n below o next ret.
          let at : n ≤ c.steps = omega (arith, below) in
          let more = c.within n below o (next-same n g piece whole k s u (runs n g piece (first g c.target t)) (ours n at) (theirs n at) ∙ next) ret in
          let same = frames-same n g piece whole k s u (runs n g piece (first g c.target t)) (ours n at) (theirs n at) in
          omega (arith, more, same);
      last = c.last;
      comes = sym (next-same c.steps g piece whole k s u y (ours c.steps last) (theirs c.steps last)) ∙ c.comes;
      is_return = c.is_return;
      own = omega (arith, frames, open_ones);
      spends = omega (arith, credit, spends);
    } in
    record {
      call = call;
      taken = y.place.at;
      events = y.made.events;
      was = ends-as g piece piece k s c t far (ours c.steps last);
      is = ends-as g whole piece k u call t far (theirs c.steps last);
    }

pub sealed-moved : SealedCallsAreMoved
sealed-moved g piece whole k s u c looks here none found left stands short few = by_token (slice_get piece s.place.at) refl
  where
    by_token : (o : Option Sight) → slice_get piece s.place.at ≡ o → CallsAlike g piece whole k s u c
    by_token (Some t) e =
        let within = c.token in
        let there : slice_get whole u.place.at ≡ Some t = ap (slice_get whole) (let z : u.place.at ≡ 0 + u.place.at = omega arith in z) ∙ stands 0 (omega (arith, within)) ∙ ap (slice_get piece) (sym here) ∙ e in
        moved g piece whole k s u c t looks here none found left stands short few e there
    by_token None e = absurd (slice_get_some piece s.place.at c.token e)
