-- A piece that is read alone is one sealed call.
use Rattle.std.proofs.Common.{◌≡◌, ℕ, zero, suc, ◌<◌, ◌≤◌, ◌+◌, ◌*◌, ◌-◌, ◌%◌, ◌^◌, min, List, length, reverse, ap, ◌∙◌, sym, refl, arith, Bool, true, false, not, ◌&&◌, nat_lt, nat_le, nat_eq, if◌then◌else◌, mod-eq_of_lt}
use Rattle.std.specs.Prelude.{Option, Some, None, slice_get}
use Rattle.std.proofs.lemmas.Bool.{leb-false}
use Rattle.std.proofs.lemmas.Bool.Decides.{nat_tests}
use Rattle.std.proofs.lemmas.List.{length-reverse}
use Rattle.std.proofs.lemmas.Option.{slice_get_within}
use Rattle.syntax_kind.specs.declared.syntax_kind.SyntaxKind.{SyntaxKind}
use Rattle.grammar_machine.specs.declared.event.Event.{Event}
use Rattle.grammar_machine.specs.declared.grammar.Sight.{Sight}
use Rattle.grammar_machine.specs.declared.grammar.Op.{Op}
use Rattle.grammar_machine.specs.declared.grammar.Op.TheVariants as op
use Rattle.grammar_machine.specs.Running.{Tables, State, with_place, past_of, return_of, step_of, runs, run_of, begin_of, fuel_of}
use Rattle.grammar_machine.specs.Alone.{reach_of, looks_back_of, stays_of, stays_on, stays_at, stays_until, is_none_of, is_over_of, has_returned_of, is_alone_of}
use Rattle.grammar_machine.specs.Framing.{made_in, in_place, returns_of, moved_events}
use Rattle.grammar_machine.specs.Sealing.{inside, SealedCall, returned, behind_call}
use Rattle.grammar_machine.specs.Reading.{IsSealedRule, ReadsPiece, PiecesAreSealedCalls}
use Rattle.grammar_machine.proofs.Running.{runs-none, runs-suc, runs-add, runs-done, step-obeys, step-none, step-spent}
use Rattle.grammar_machine.proofs.StayingRuns.{stays-suc}
use Rattle.grammar_machine.proofs.Growing.{runs-grow}
use Rattle.grammar_machine.proofs.Framed.{step-in, min-low}
use Rattle.grammar_machine.proofs.Sealed.{around, first, begins, frames-in, events-in, slice_get_some, later, ends-as}

-- ---- tests

left-of : (a b : Bool) → (a && b) ≡ true → a ≡ true
left-of true b h = refl
left-of false b h = h

right-of : (a b : Bool) → (a && b) ≡ true → b ≡ true
right-of true b h = h
right-of false b h = (let bad : false ≡ true = h in cc)

not-both : (a b : Bool) → a ≡ true → (a && b) ≡ false → b ≡ false
not-both true b p h = h
not-both false b p h = (let bad : false ≡ true = p in cc)

first-false : (a b : Bool) → b ≡ true → (a && b) ≡ false → a ≡ false
first-false true b p h = (let bad : false ≡ true = sym h ∙ p in cc)
first-false false b p h = refl

wrong : (x : Bool) → x ≡ true → x ≡ false → ⊥
wrong true p q = (let bad : true ≡ false = q in cc)
wrong false p q = (let bad : false ≡ true = p in cc)

more-than-none : (a b : ℕ) → b ≡ a + 1 → (b ≡ 1 → ⊥) → 0 < a
more-than-none zero b e h = absurd (h (omega (arith, e)))
more-than-none (suc a) b e h = omega arith

two-at-least : (n : ℕ) → 0 < n → (n ≡ 1 → ⊥) → 0 + 1 < n
two-at-least zero h e = absurd (omega (arith, h))
two-at-least (suc zero) h e = absurd (e refl)
two-at-least (suc (suc n)) h e = omega arith

chosen : (x : Bool) (a b : List Event) → (if x then Some a else None) ≡ Some b → (x ≡ true) × (b ≡ a)
chosen true a b h = (refl, (let e : Some a ≡ Some b = h in cc))
chosen false a b h = (let bad : None ≡ Some b = h in cc)

-- ---- the first number that passes a test

search : {R : Type 0} → (own : ℕ → Bool) (n : ℕ) → ((m : ℕ) → m < n → own m ≡ true → ((i : ℕ) → i < m → own i ≡ false) → R) → (((i : ℕ) → i < n → own i ≡ false) → R) → R
search own zero some none = none (λ i h. absurd (omega (arith, h)))
search {R} own (suc n) some none = search own n (λ m h p q. some m (omega (arith, h)) p q) (λ all. by_test all (own n) refl)
  where
    by_last : ((i : ℕ) → i < n → own i ≡ false) → own n ≡ false → (i : ℕ) → i < suc n → (x : Bool) → nat_lt i n ≡ x → own i ≡ false
    by_last all p i h true q = all i (grind (arith, nat_tests, q))
    by_last all p i h false q = (let same : i ≡ n = (let least : n ≤ i = grind (arith, nat_tests, q) in omega (arith, h, least)) in ap own same ∙ p)

    by_test : ((i : ℕ) → i < n → own i ≡ false) → (x : Bool) → own n ≡ x → R
    by_test all true p = some n (omega arith) p all
    by_test all false p = none (λ i h. by_last all p i h (nat_lt i n) refl)

-- ---- the operation that returns from the call itself

abbrev returns_on : Option Op → Bool
returns_on None = false
returns_on (Some o) = returns_of o

abbrev is_own : Tables → State → Bool
is_own g x = returns_on (slice_get g.ops x.place.next) && (nat_eq (length x.made.frames) 1 && nat_lt 0 x.place.credit)

-- each operation looks at the piece alone
each : (n m : ℕ) (g : Tables) (ts : List Sight) (s : State) → stays_until n g ts s ≡ true → m < n → stays_at g ts (runs m g ts s) ≡ true
each zero m g ts s h below = absurd (omega (arith, below))
each (suc n) m g ts s h below =
    let both : (stays_until n g ts s && stays_at g ts (runs n g ts s)) ≡ true = sym (stays-suc n g ts s) ∙ h in
    by_test both (λ w. each n m g ts s (left-of (stays_until n g ts s) (stays_at g ts (runs n g ts s)) both) w) (nat_lt m n) refl
  where
    by_test : (stays_until n g ts s && stays_at g ts (runs n g ts s)) ≡ true → (m < n → stays_at g ts (runs m g ts s) ≡ true) → (x : Bool) → nat_lt m n ≡ x → stays_at g ts (runs m g ts s) ≡ true
    by_test both earlier true q = earlier (grind (arith, nat_tests, q))
    by_test both earlier false q =
        let least : n ≤ m = grind (arith, nat_tests, q) in
        let same : m ≡ n = omega (arith, below, least) in
        ap (λ i. stays_at g ts (runs i g ts s)) same ∙ right-of (stays_until n g ts s) (stays_at g ts (runs n g ts s)) both

-- what a test says of an operation
near : (o : Op) (at n : ℕ) → n + 3 < 2 ^ 64 → stays_of o at n ≡ true → at + reach_of o ≤ n
near o at n short h =
    let low : nat_le (min (at + reach_of o) (2 ^ 64 - 1)) n ≡ true = left-of (nat_le (min (at + reach_of o) (2 ^ 64 - 1)) n) (not (nat_eq at 0 && looks_back_of o)) h in
    let least : min (at + reach_of o) (2 ^ 64 - 1) ≤ n = grind (arith, nat_tests, low) in
    by_test (nat_le (at + reach_of o) (2 ^ 64 - 1)) refl least
  where
    by_test : (x : Bool) → nat_le (at + reach_of o) (2 ^ 64 - 1) ≡ x → min (at + reach_of o) (2 ^ 64 - 1) ≤ n → at + reach_of o ≤ n
    by_test true q least = (let fits : at + reach_of o ≤ 2 ^ 64 - 1 = grind (arith, nat_tests, q) in let is = min-low (at + reach_of o) (2 ^ 64 - 1) fits in omega (arith, is, least))
    by_test false q least = (let over : 2 ^ 64 - 1 < at + reach_of o = leb-false (at + reach_of o) (2 ^ 64 - 1) q in let is : min (at + reach_of o) (2 ^ 64 - 1) ≡ 2 ^ 64 - 1 = grind (arith, over) in absurd (omega (arith, is, least, short)))

-- ---- the call, as long as it has not returned

-- what is known of a run that was read alone
record Read (g : Tables) (rule target : ℕ) (k : SyntaxKind) (piece : List Sight) (t : Sight) (n : ℕ) : Type 0 where
  rule_is : IsSealedRule g rule target k
  token : slice_get piece 0 ≡ Some t
  short : length piece + 3 < 2 ^ 64
  quiet : stays_until (suc n) g piece (begin_of rule) ≡ true
  few : length (inside n g piece (begin_of rule)).made.events < 2 ^ 32 - 1

begins_at : (g : Tables) (rule target : ℕ) (k : SyntaxKind) → IsSealedRule g rule target k → slice_get g.ops (begin_of rule).place.next ≡ Some (op.Sealed target k)
begins_at g rule target k r = ap (slice_get g.ops) (let low = r.short in min-low rule (2 ^ 32 - 1) (omega (arith, low))) ∙ r.call

one-behind : (m : ℕ) (g : Tables) (ts : List Sight) (s : State) → runs (suc m) g ts s ≡ inside m g ts s
one-behind m g ts s =
    ap (λ i. runs i g ts s) (let e : suc m ≡ m + 1 = omega arith in e) ∙ runs-add m 1 g ts s
    ∙ ap (runs m g ts) (ap (λ i. runs i g ts s) (let e : 1 ≡ suc 0 = omega arith in e) ∙ runs-suc 0 g ts s ∙ ap (step_of g ts) (runs-none g ts s))

looks-at : (m n : ℕ) (g : Tables) (rule target : ℕ) (k : SyntaxKind) (piece : List Sight) (t : Sight) → Read g rule target k piece t n → m < n → (o : Op) → slice_get g.ops (inside m g piece (begin_of rule)).place.next ≡ Some o
    → (inside m g piece (begin_of rule)).place.at + reach_of o ≤ length piece
looks-at m n g rule target k piece t r below o found =
    let x = inside m g piece (begin_of rule) in
    let stays : stays_at g piece x ≡ true = ap (λ (y : State). stays_at g piece y) (sym (one-behind m g piece (begin_of rule))) ∙ each (suc n) (suc m) g piece (begin_of rule) r.quiet (omega (arith, below)) in
    near o x.place.at (length piece) r.short (ap (λ p. stays_on p x.place.at (length piece)) (sym found) ∙ stays)

some-calls : (g : Tables) (k : SyntaxKind) (s x y : State) → x ≡ in_place (around k s) y → 0 < length x.made.frames
some-calls g k s x y is =
    let count : length x.made.frames ≡ length (made_in (around k s) y.made).frames = ap (λ (z : State). length z.made.frames) is in
    let sum = frames-in (around k s) y.made in
    omega (arith, count, sum)

goes-on : (m n : ℕ) (g : Tables) (rule target : ℕ) (k : SyntaxKind) (piece : List Sight) (t : Sight) → Read g rule target k piece t n → m ≤ n → ((i : ℕ) → i < m → is_own g (inside i g piece (begin_of rule)) ≡ false)
    → inside m g piece (begin_of rule) ≡ in_place (around k (begin_of rule)) (runs m g piece (first g target t))
goes-on zero n g rule target k piece t r h none =
    runs-none g piece (step_of g piece (begin_of rule)) ∙ begins g piece k target (begin_of rule) t (begins_at g rule target k r.rule_is) (omega arith) r.token (omega arith)
    ∙ ap (in_place (around k (begin_of rule))) (sym (runs-none g piece (first g target t)))
goes-on (suc m) n g rule target k piece t r h none =
    let b = begin_of rule in
    let a = around k b in
    let y = runs m g piece (first g target t) in
    let x = inside m g piece b in
    let is : x ≡ in_place a y = goes-on m n g rule target k piece t r (omega (arith, h)) (λ i below. none i (omega (arith, below))) in
    runs-suc m g piece (step_of g piece b) ∙ ap (step_of g piece) is ∙ by_credit is (nat_lt 0 y.place.credit) refl ∙ ap (in_place a) (sym (runs-suc m g piece (first g target t)))
  where
    by_credit : inside m g piece (begin_of rule) ≡ in_place (around k (begin_of rule)) (runs m g piece (first g target t)) → (x : Bool) → nat_lt 0 (runs m g piece (first g target t)).place.credit ≡ x
        → step_of g piece (in_place (around k (begin_of rule)) (runs m g piece (first g target t))) ≡ in_place (around k (begin_of rule)) (step_of g piece (runs m g piece (first g target t)))
    by_credit is false q =
        let y = runs m g piece (first g target t) in
        let spent : y.place.credit ≡ 0 = grind (arith, nat_tests, q) in
        step-spent g piece (in_place (around k (begin_of rule)) y) spent ∙ ap (in_place (around k (begin_of rule))) (sym (step-spent g piece y spent))
    by_credit is true q =
        let b = begin_of rule in
        let a = around k b in
        let y = runs m g piece (first g target t) in
        let x = inside m g piece b in
        let fits = r.short in
        let few = r.few in
        let grows = runs-grow m g piece (first g target t) r.short in
        let at = grows.at in
        let events = grows.events in
        let place : x.place.at ≡ y.place.at + 0 = ap (λ (z : State). z.place.at) is in
        let count : length x.made.events ≡ length (made_in a y.made).events = ap (λ (z : State). length z.made.events) is in
        let sum = events-in a y.made in
        let frames : length x.made.frames ≡ length (made_in a y.made).frames = ap (λ (z : State). length z.made.frames) is in
        let total = frames-in a y.made in
        let on = (later n m g piece (step_of g piece b) (omega (arith, h)) r.short).events in
        let left : nat_lt 0 x.place.credit ≡ true = ap (λ (z : State). nat_lt 0 z.place.credit) is ∙ q in
        step-in (length piece) a g piece piece y (λ i below. ap (slice_get piece) (let e : i + 0 ≡ i = omega arith in e)) (omega (arith, fits))
        (λ o found.
        let there : slice_get g.ops x.place.next ≡ Some o = ap (λ (z : State). slice_get g.ops z.place.next) is ∙ found in
        let near = looks-at m n g rule target k piece t r (omega (arith, h)) o there in
        record {
          near = omega (arith, near, place);
          back = λ e. omega (arith, at);
          frame = λ e.
              let ret : returns_on (slice_get g.ops x.place.next) ≡ true = ap returns_on there ∙ e in
              let other : (nat_eq (length x.made.frames) 1 && nat_lt 0 x.place.credit) ≡ false = not-both (returns_on (slice_get g.ops x.place.next)) (nat_eq (length x.made.frames) 1 && nat_lt 0 x.place.credit) ret (none m (omega arith)) in
              let more : nat_eq (length x.made.frames) 1 ≡ false = first-false (nat_eq (length x.made.frames) 1) (nat_lt 0 x.place.credit) left other in
              let not_one : length x.made.frames ≡ 1 → ⊥ = λ e. wrong (nat_eq (length x.made.frames) 1) (grind (arith, nat_tests, e)) more in
              more-than-none (length y.made.frames) (length x.made.frames) (omega (arith, frames, total)) not_one;
          nested = grows.nested refl;
          event = omega (arith, events);
          few = omega (arith, few, count, sum, on);
        })

-- ---- it returns, and then the rule does

at-once : (i m : ℕ) (g : Tables) (piece : List Sight) (b : State) → i ≤ m → 0 < (inside m g piece b).place.credit → 0 < (inside i g piece b).place.credit
at-once i m g piece b h left = by_test (nat_lt 0 (inside i g piece b).place.credit) refl
  where
    by_test : (x : Bool) → nat_lt 0 (inside i g piece b).place.credit ≡ x → 0 < (inside i g piece b).place.credit
    by_test true q = grind (arith, nat_tests, q)
    by_test false q =
        let spent : (inside i g piece b).place.credit ≡ 0 = grind (arith, nat_tests, q) in
        let same : inside m g piece b ≡ inside i g piece b = runs-done m i g piece (step_of g piece b) h (step-spent g piece (inside i g piece b) spent) in
        let none : (inside m g piece b).place.credit ≡ 0 = ap (λ (x : State). x.place.credit) same ∙ spent in
        absurd (omega (arith, left, none))

over-not : (g : Tables) (x : State) (o : Op) → slice_get g.ops x.place.next ≡ Some o → is_over_of g x ≡ true → ⊥
over-not g x o found h = wrong (is_over_of g x) h (ap is_none_of found)

-- where the run ends
final : (m n : ℕ) (g : Tables) (rule target : ℕ) (k : SyntaxKind) (piece : List Sight) (t : Sight) → Read g rule target k piece t n → m < n → (c : SealedCall g piece k (begin_of rule)) → c.steps ≡ m
    → (at : ℕ) (es : List Event) → returned c ≡ behind_call k (begin_of rule) at es → is_over_of g (inside n g piece (begin_of rule)) ≡ true
    → (at ≡ (inside n g piece (begin_of rule)).place.at) × ((returned c).made.events ≡ (inside n g piece (begin_of rule)).made.events)
final m n g rule target k piece t r below c is at es e over =
    let b = begin_of rule in
    let low = r.rule_is.short in
    let one : returned c ≡ inside (suc m) g piece b = ap (λ i. step_of g piece (inside i g piece b)) is ∙ sym (runs-suc m g piece (step_of g piece b)) in
    let saturated : min rule (2 ^ 32 - 1) ≡ rule = min-low rule (2 ^ 32 - 1) (omega (arith, low)) in
    let next : (behind_call k b at es).place.next ≡ rule + 1 = ap (λ i. (i + 1) % 2 ^ 32) saturated ∙ mod-eq_of_lt (omega (arith, low)) in
    let found : slice_get g.ops (behind_call k b at es).place.next ≡ Some op.Return = ap (slice_get g.ops) next ∙ r.rule_is.back in
    let two : inside (suc (suc m)) g piece b ≡ return_of (with_place past_of (behind_call k b at es)) =
    runs-suc (suc m) g piece (step_of g piece b) ∙ ap (step_of g piece) (sym one ∙ e) ∙ step-obeys g piece (behind_call k b at es) op.Return found (omega arith) in
    by_place one found two (nat_le n (suc m)) refl
  where
    by_place : returned c ≡ inside (suc m) g piece (begin_of rule) → slice_get g.ops (behind_call k (begin_of rule) at es).place.next ≡ Some op.Return
        → inside (suc (suc m)) g piece (begin_of rule) ≡ return_of (with_place past_of (behind_call k (begin_of rule) at es)) → (x : Bool) → nat_le n (suc m) ≡ x
        → (at ≡ (inside n g piece (begin_of rule)).place.at) × ((returned c).made.events ≡ (inside n g piece (begin_of rule)).made.events)
    by_place one found two true q =
        let most : n ≤ suc m = grind (arith, nat_tests, q) in
        let same : n ≡ suc m = omega (arith, below, most) in
        let here : inside n g piece (begin_of rule) ≡ behind_call k (begin_of rule) at es = ap (λ i. inside i g piece (begin_of rule)) same ∙ sym one ∙ e in
        absurd (over-not g (inside n g piece (begin_of rule)) op.Return (ap (λ (x : State). slice_get g.ops x.place.next) here ∙ found) over)
    by_place one found two false q =
        let more : suc m < n = leb-false n (suc m) q in
        let still : step_of g piece (inside (suc (suc m)) g piece (begin_of rule)) ≡ inside (suc (suc m)) g piece (begin_of rule) =
        step-none g piece (inside (suc (suc m)) g piece (begin_of rule)) (ap (λ (x : State). slice_get g.ops x.place.next) two ∙ r.rule_is.ends) in
        let here : inside n g piece (begin_of rule) ≡ return_of (with_place past_of (behind_call k (begin_of rule) at es)) =
        runs-done n (suc (suc m)) g piece (step_of g piece (begin_of rule)) (omega (arith, more)) still ∙ two in (
          sym (ap (λ (x : State). x.place.at) here),
          ap (λ (x : State). x.made.events) e ∙ sym (ap (λ (x : State). x.made.events) here),
        )

-- the call
called : (m n : ℕ) (g : Tables) (rule target : ℕ) (k : SyntaxKind) (piece : List Sight) (t : Sight) (es : List Event) → Read g rule target k piece t n → m < n → (o : Op)
    → slice_get g.ops (inside m g piece (begin_of rule)).place.next ≡ Some o → returns_of o ≡ true → length (inside m g piece (begin_of rule)).made.frames ≡ 1 → 0 < (inside m g piece (begin_of rule)).place.credit
    → ((i : ℕ) → i < m → is_own g (inside i g piece (begin_of rule)) ≡ false)
    → is_over_of g (inside n g piece (begin_of rule)) ≡ true → (inside n g piece (begin_of rule)).place.at ≡ length piece → es ≡ reverse (inside n g piece (begin_of rule)).made.events → ReadsPiece g rule k piece es
called m n g rule target k piece t es r below o found ret frames left none over at events =
    let b = begin_of rule in
    let call : SealedCall g piece k b = record {
      target = target;
      steps = m;
      found = begins_at g rule target k r.rule_is;
      left = omega arith;
      token = slice_get_within piece 0 t r.token;
      within = λ i under p next back.
          let x = inside i g piece b in
          let credit : nat_lt 0 x.place.credit ≡ true = (let some = at-once i m g piece b (omega (arith, under)) left in grind (arith, nat_tests, some)) in
          let on : returns_on (slice_get g.ops x.place.next) ≡ true = ap returns_on next ∙ back in
          let other = not-both (returns_on (slice_get g.ops x.place.next)) (nat_eq (length x.made.frames) 1 && nat_lt 0 x.place.credit) on (none i under) in
          let more : nat_eq (length x.made.frames) 1 ≡ false = first-false (nat_eq (length x.made.frames) 1) (nat_lt 0 x.place.credit) credit other in
          let least = some-calls g k b x (runs i g piece (first g target t)) (goes-on i n g rule target k piece t r (omega (arith, under, below)) (λ j h. none j (omega (arith, h, under)))) in
          let not_one : length x.made.frames ≡ 1 → ⊥ = λ e. wrong (nat_eq (length x.made.frames) 1) (grind (arith, nat_tests, e)) more in
          two-at-least (length x.made.frames) least not_one;
      last = o;
      comes = found;
      is_return = ret;
      own = frames;
      spends = left;
    } in
    let is = goes-on m n g rule target k piece t r (omega (arith, below)) none in
    let ends = ends-as g piece piece k b call t r.short is in
    let last = final m n g rule target k piece t r below call refl ((runs m g piece (first g target t)).place.at + 0) (moved_events 0 (runs m g piece (first g target t)).made.events) ends over in
    record {
      call = call;
      looks = λ i p h next. looks-at i n g rule target k piece t r (omega (arith, h, below)) p next;
      at = ap (λ (x : State). x.place.at) ends ∙ last.0 ∙ at;
      events = events ∙ ap reverse (sym last.1);
    }

by-op : (m n : ℕ) (g : Tables) (rule target : ℕ) (k : SyntaxKind) (piece : List Sight) (t : Sight) (es : List Event) → Read g rule target k piece t n → m < n → (p : Option Op)
    → slice_get g.ops (inside m g piece (begin_of rule)).place.next ≡ p → returns_on p ≡ true → length (inside m g piece (begin_of rule)).made.frames ≡ 1 → 0 < (inside m g piece (begin_of rule)).place.credit
    → ((i : ℕ) → i < m → is_own g (inside i g piece (begin_of rule)) ≡ false)
    → is_over_of g (inside n g piece (begin_of rule)) ≡ true → (inside n g piece (begin_of rule)).place.at ≡ length piece → es ≡ reverse (inside n g piece (begin_of rule)).made.events → ReadsPiece g rule k piece es
by-op m n g rule target k piece t es r below None found ret frames left none over at events = (let bad : false ≡ true = ret in cc)
by-op m n g rule target k piece t es r below (Some o) found ret frames left none over at events = called m n g rule target k piece t es r below o found ret frames left none over at events

read-piece : (n : ℕ) (g : Tables) (rule target : ℕ) (k : SyntaxKind) (piece : List Sight) (t : Sight) (es : List Event) → Read g rule target k piece t n
    → is_over_of g (inside n g piece (begin_of rule)) ≡ true → (inside n g piece (begin_of rule)).place.at ≡ length piece → length (inside n g piece (begin_of rule)).made.frames ≡ 0
    → es ≡ reverse (inside n g piece (begin_of rule)).made.events → ReadsPiece g rule k piece es
read-piece n g rule target k piece t es r over at frames events =
    search (λ i. is_own g (inside i g piece (begin_of rule))) n
    (λ m below own none.
    let x = inside m g piece (begin_of rule) in
    let rest = right-of (returns_on (slice_get g.ops x.place.next)) (nat_eq (length x.made.frames) 1 && nat_lt 0 x.place.credit) own in
    let one : length x.made.frames ≡ 1 = (let q = left-of (nat_eq (length x.made.frames) 1) (nat_lt 0 x.place.credit) rest in grind (arith, nat_tests, q)) in
    let left : 0 < x.place.credit = (let q = right-of (nat_eq (length x.made.frames) 1) (nat_lt 0 x.place.credit) rest in grind (arith, nat_tests, q)) in
    by-op m n g rule target k piece t es r below (slice_get g.ops x.place.next) refl (left-of (returns_on (slice_get g.ops x.place.next)) (nat_eq (length x.made.frames) 1 && nat_lt 0 x.place.credit) own) one left none over at events)
    (λ all.
    let some = some-calls g k (begin_of rule) (inside n g piece (begin_of rule)) (runs n g piece (first g target t)) (goes-on n n g rule target k piece t r (omega arith) all) in
    absurd (omega (arith, some, frames)))

pub pieces-sealed : PiecesAreSealedCalls
pieces-sealed g rule target k piece es r alone short few =
    let n = 1199 + 2402 * length piece in
    let all : fuel_of (length piece) ≡ suc n = omega arith in
    let f = run_of g rule piece in
    let got = chosen (is_alone_of g rule piece) (reverse f.made.events) es alone in
    let quiet = left-of (stays_until (fuel_of (length piece)) g piece (begin_of rule)) (has_returned_of g piece f) got.0 in
    let ended = right-of (stays_until (fuel_of (length piece)) g piece (begin_of rule)) (has_returned_of g piece f) got.0 in
    let over = left-of (is_over_of g f) (nat_eq f.place.at (length piece) && nat_eq (length f.made.frames) 0) ended in
    let rest = right-of (is_over_of g f) (nat_eq f.place.at (length piece) && nat_eq (length f.made.frames) 0) ended in
    let at : f.place.at ≡ length piece = (let q = left-of (nat_eq f.place.at (length piece)) (nat_eq (length f.made.frames) 0) rest in grind (arith, nat_tests, q)) in
    let frames : length f.made.frames ≡ 0 = (let q = right-of (nat_eq f.place.at (length piece)) (nat_eq (length f.made.frames) 0) rest in grind (arith, nat_tests, q)) in
    let is : f ≡ inside n g piece (begin_of rule) = ap (λ i. runs i g piece (begin_of rule)) all ∙ one-behind n g piece (begin_of rule) in
    let quiet_too : stays_until (suc n) g piece (begin_of rule) ≡ true = ap (λ i. stays_until i g piece (begin_of rule)) (sym all) ∙ quiet in
    let count : length (inside n g piece (begin_of rule)).made.events ≡ length es = sym (ap (λ (x : State). length x.made.events) is) ∙ sym (length-reverse f.made.events) ∙ ap length (sym got.1) in
    let first_stays : stays_at g piece (begin_of rule) ≡ true = ap (λ (x : State). stays_at g piece x) (sym (runs-none g piece (begin_of rule))) ∙ each (suc n) 0 g piece (begin_of rule) quiet_too (omega arith) in
    let some : 0 + 1 ≤ length piece = near (op.Sealed target k) 0 (length piece) short (ap (λ p. stays_on p 0 (length piece)) (sym (begins_at g rule target k r)) ∙ first_stays) in
    by_token n is quiet_too (omega (arith, few, count)) some
    (ap (λ (x : State). is_over_of g x) (sym is) ∙ over) (ap (λ (x : State). x.place.at) (sym is) ∙ at) (ap (λ (x : State). length x.made.frames) (sym is) ∙ frames) (got.1 ∙ ap (λ (x : State). reverse x.made.events) is)
    (slice_get piece 0) refl
  where
    by_token : (n : ℕ) → run_of g rule piece ≡ inside n g piece (begin_of rule) → stays_until (suc n) g piece (begin_of rule) ≡ true → length (inside n g piece (begin_of rule)).made.events < 2 ^ 32 - 1 → 0 + 1 ≤ length piece
        → is_over_of g (inside n g piece (begin_of rule)) ≡ true → (inside n g piece (begin_of rule)).place.at ≡ length piece → length (inside n g piece (begin_of rule)).made.frames ≡ 0
        → es ≡ reverse (inside n g piece (begin_of rule)).made.events → (o : Option Sight) → slice_get piece 0 ≡ o → ReadsPiece g rule k piece es
    by_token n is quiet fewer some over at frames events None e = absurd (slice_get_some piece 0 (omega (arith, some)) e)
    by_token n is quiet fewer some over at frames events (Some t) e =
        read-piece n g rule target k piece t es (record { rule_is = r; token = e; short = short; quiet = quiet; few = fewer }) over at frames events
