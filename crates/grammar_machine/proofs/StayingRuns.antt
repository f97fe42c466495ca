-- Runs that look at the tokens alone, operation by operation.
use Rattle.std.proofs.Common.{◌≡◌, ℕ, zero, suc, ◌<◌, ◌≤◌, List, ap, ◌∙◌, sym, refl, add-one, ◌+◌, ◌^◌, Bool, true, false, nat_le, not, arith}
use Rattle.std.specs.Prelude.{Option, Some, None, slice_get, length, ◌&&◌, nat_eq, reverse, if◌then◌else◌}
use Rattle.std.proofs.lemmas.Bool.{leb-false}
use Rattle.std.proofs.lemmas.Bool.Decides.{nat_tests}
use Rattle.grammar_machine.specs.declared.event.Event.{Event}
use Rattle.grammar_machine.specs.declared.grammar.Sight.{Sight}
use Rattle.grammar_machine.specs.declared.grammar.Op.{Op}
use Rattle.grammar_machine.specs.Running.{Tables, State, with_place, past_of, obey_of, runs, begin_of, run_of, events_of, fuel_of}
use Rattle.grammar_machine.specs.Alone.{stays_on, stays_at, stays_until, is_none_of, is_over_of, has_returned_of, alone_of, run_as_of}
use Rattle.grammar_machine.proofs.Running.{runs-done, step-none, step-spent}
use Rattle.grammar_machine.proofs.Potential.{Comes, comes-first, comes-next, comes-last}

pub stays-none : (g : Tables) (ts : List Sight) (s : State) → stays_until 0 g ts s ≡ true
unfolding stays_until
stays-none g ts s = refl

pub stays-suc : (n : ℕ) (g : Tables) (ts : List Sight) (s : State) → stays_until (suc n) g ts s ≡ (stays_until n g ts s && stays_at g ts (runs n g ts s))
unfolding stays_until
stays-suc n g ts s = refl

both : (a b : Bool) → a ≡ true → b ≡ true → (a && b) ≡ true
both true b p q = q
both false b p q = p

second : (a b : Bool) → b ≡ false → (a && b) ≡ false
second true b q = q
second false b q = refl

first : (a b : Bool) → a ≡ false → (a && b) ≡ false
first true b p = (let bad : true ≡ false = p in cc)
first false b p = refl

pub stays-more : (n : ℕ) (g : Tables) (ts : List Sight) (s : State) → stays_until n g ts s ≡ true → stays_at g ts (runs n g ts s) ≡ true → stays_until (n + 1) g ts s ≡ true
stays-more n g ts s p q = rw add-one (stays-suc n g ts s ∙ both (stays_until n g ts s) (stays_at g ts (runs n g ts s)) p q)

at_most : (m n : ℕ) → nat_le n m ≡ true → n ≤ m
at_most m n q = grind (arith, nat_tests)

-- where there is no operation, nothing is looked at
pub stays-done : (m n : ℕ) (g : Tables) (ts : List Sight) (s : State) → n ≤ m → slice_get g.ops (runs n g ts s).place.next ≡ None → stays_until n g ts s ≡ true → stays_until m g ts s ≡ true
stays-done zero n g ts s h e p =
    let none : 0 ≡ n = omega (arith, h) in
    ap (λ k. stays_until k g ts s) none ∙ p
stays-done (suc m) n g ts s h e p = by_test (λ w. stays-done m n g ts s w e p) (nat_le n m) refl
  where
    last : nat_le n m ≡ false → suc m ≡ n
    last q = let above : m < n = leb-false n m q in omega (arith, h, above)

    quiet : n ≤ m → stays_at g ts (runs m g ts s) ≡ true
    quiet w = ap (λ (x : State). stays_at g ts x) (runs-done m n g ts s w (step-none g ts (runs n g ts s) e)) ∙ ap (λ o. stays_on o (runs n g ts s).place.at (length ts)) e

    by_test : (n ≤ m → stays_until m g ts s ≡ true) → (b : Bool) → nat_le n m ≡ b → stays_until (suc m) g ts s ≡ true
    by_test earlier true q = stays-suc m g ts s ∙ both (stays_until m g ts s) (stays_at g ts (runs m g ts s)) (earlier (at_most m n q)) (quiet (at_most m n q))
    by_test earlier false q = ap (λ k. stays_until k g ts s) (last q) ∙ p

-- where an operation looks at something else, all longer runs do
pub strays : (m n : ℕ) (g : Tables) (ts : List Sight) (s : State) → n < m → stays_at g ts (runs n g ts s) ≡ false → stays_until m g ts s ≡ false
strays zero n g ts s h e = absurd (omega (arith, h))
strays (suc m) n g ts s h e = by_test (λ w. strays m n g ts s w e) (nat_le m n) refl
  where
    below : nat_le m n ≡ false → n < m
    below q = leb-false m n q

    same : nat_le m n ≡ true → m ≡ n
    same q = let w = at_most n m q in omega (arith, h, w)

    by_test : (n < m → stays_until m g ts s ≡ false) → (b : Bool) → nat_le m n ≡ b → stays_until (suc m) g ts s ≡ false
    by_test earlier false q = stays-suc m g ts s ∙ first (stays_until m g ts s) (stays_at g ts (runs m g ts s)) (earlier (below q))
    by_test earlier true q = stays-suc m g ts s ∙ second (stays_until m g ts s) (stays_at g ts (runs m g ts s)) (ap (λ k. stays_at g ts (runs k g ts s)) (same q) ∙ e)

choose_both : (a b c : Bool) (x y : Option (List Event)) → a ≡ true → b ≡ true → x ≡ y → (if c then x else None) ≡ (if (a && (b && c)) then y else None)
choose_both true true c x y p q e = ap (λ z. if c then z else None) e
choose_both true false c x y p q e = (let bad : false ≡ true = q in cc)
choose_both false b c x y p q e = (let bad : false ≡ true = p in cc)

choose_first : (a b : Bool) (y : Option (List Event)) → a ≡ false → None ≡ (if (a && b) then y else None)
choose_first true b y p = (let bad : true ≡ false = p in cc)
choose_first false b y p = refl

choose_second : (a b c : Bool) (y : Option (List Event)) → b ≡ false → None ≡ (if (a && (b && c)) then y else None)
choose_second true true c y p = (let bad : true ≡ false = p in cc)
choose_second true false c y p = refl
choose_second false b c y p = refl

-- a state that a run comes to by operations that look at the tokens alone
pub record ComesAlone (g : Tables) (rule : ℕ) (ts : List Sight) (s : State) : Type 0 where
  pub comes : Comes g rule ts s
  pub quiet : stays_until comes.steps g ts (begin_of rule) ≡ true

pub alone-first : (g : Tables) (rule : ℕ) (ts : List Sight) (s : State) → s ≡ begin_of rule → ComesAlone g rule ts s
alone-first g rule ts s e = record { comes = comes-first g rule ts s e; quiet = stays-none g ts (begin_of rule) }

pub alone-next : (g : Tables) (rule : ℕ) (ts : List Sight) (s t : State) (o : Op) → length ts + 3 < 2 ^ 64 → slice_get g.ops s.place.next ≡ Some o → 0 < s.place.credit
    → t ≡ obey_of g ts o (with_place past_of s) → stays_at g ts s ≡ true → ComesAlone g rule ts s → ComesAlone g rule ts t
alone-next g rule ts s t o short found some e q c = record {
  comes = comes-next g rule ts s t o short found some e c.comes;
  quiet = stays-more c.comes.steps g ts (begin_of rule) c.quiet (ap (λ (x : State). stays_at g ts x) (sym c.comes.is) ∙ q);
}

-- where it is, and how many calls are open
abbrev ends : List Sight → State → Bool
ends ts s = nat_eq s.place.at (length ts) && nat_eq (length s.made.frames) 0

-- a run that stopped
pub alone-over : (g : Tables) (rule : ℕ) (ts : List Sight) (s : State) (items : List Event) → ComesAlone g rule ts s → slice_get g.ops s.place.next ≡ None
    → items ≡ reverse s.made.events → (if (nat_eq s.place.at (length ts) && nat_eq (length s.made.frames) 0) then Some items else None) ≡ alone_of g rule ts
alone-over g rule ts s items c e q =
    let k = c.comes.steps in
    let stopped : slice_get g.ops (runs k g ts (begin_of rule)).place.next ≡ None = ap (λ (x : State). slice_get g.ops x.place.next) (sym c.comes.is) ∙ e in
    let within = c.comes.within in
    let all : s ≡ run_of g rule ts = comes-last g rule ts s c.comes (step-none g ts s e) in
    let quiet : stays_until (fuel_of (length ts)) g ts (begin_of rule) ≡ true = stays-done (fuel_of (length ts)) k g ts (begin_of rule) (omega (arith, within)) stopped c.quiet in
    let over : is_over_of g (run_of g rule ts) ≡ true = ap (λ (x : State). is_over_of g x) (sym all) ∙ ap is_none_of e in
    ap (λ (x : State). if (nat_eq x.place.at (length ts) && nat_eq (length x.made.frames) 0) then Some items else None) all
    ∙ choose_both (stays_until (fuel_of (length ts)) g ts (begin_of rule)) (is_over_of g (run_of g rule ts)) (ends ts (run_of g rule ts)) (Some items) (Some (reverse (run_of g rule ts).made.events)) quiet over
    (ap Some (q ∙ ap (λ (x : State). reverse x.made.events) all))

-- one that looked at something else
pub alone-strays : (g : Tables) (rule : ℕ) (ts : List Sight) (s : State) → ComesAlone g rule ts s → 0 < s.place.credit → stays_at g ts s ≡ false → None ≡ alone_of g rule ts
alone-strays g rule ts s c some e =
    let within = c.comes.within in
    let below : c.comes.steps < fuel_of (length ts) = omega (arith, within, some) in
    choose_first (stays_until (fuel_of (length ts)) g ts (begin_of rule)) (has_returned_of g ts (run_of g rule ts)) (Some (reverse (run_of g rule ts).made.events))
    (strays (fuel_of (length ts)) c.comes.steps g ts (begin_of rule) below (ap (λ (x : State). stays_at g ts x) (sym c.comes.is) ∙ e))

-- one that was stopped
pub alone-spent : (g : Tables) (rule : ℕ) (ts : List Sight) (s : State) (o : Op) → ComesAlone g rule ts s → s.place.credit ≡ 0 → slice_get g.ops s.place.next ≡ Some o → None ≡ alone_of g rule ts
alone-spent g rule ts s o c spent e =
    let all : s ≡ run_of g rule ts = comes-last g rule ts s c.comes (step-spent g ts s spent) in
    choose_second (stays_until (fuel_of (length ts)) g ts (begin_of rule)) (is_over_of g (run_of g rule ts)) (ends ts (run_of g rule ts)) (Some (reverse (run_of g rule ts).made.events))
    (ap (λ (x : State). is_over_of g x) (sym all) ∙ ap is_none_of e)

-- ---- runs that are to be alone, and any others

pub record ComesAs (is_alone : Bool) (g : Tables) (rule : ℕ) (ts : List Sight) (s : State) : Type 0 where
  pub comes : Comes g rule ts s
  pub alone : is_alone ≡ true → ComesAlone g rule ts s

pub as-first : (b : Bool) (g : Tables) (rule : ℕ) (ts : List Sight) (s : State) → s ≡ begin_of rule → ComesAs b g rule ts s
as-first b g rule ts s e = record { comes = comes-first g rule ts s e; alone = λ h. alone-first g rule ts s e }

stayed : (b x : Bool) → (b && not x) ≡ false → b ≡ true → x ≡ true
stayed true true h e = refl
stayed true false h e = (let bad : true ≡ false = h in cc)
stayed false x h e = (let bad : false ≡ true = e in cc)

pub as-next : (b : Bool) (g : Tables) (rule : ℕ) (ts : List Sight) (s t : State) (o : Op) → length ts + 3 < 2 ^ 64 → slice_get g.ops s.place.next ≡ Some o → 0 < s.place.credit
    → t ≡ obey_of g ts o (with_place past_of s) → (b && not (stays_at g ts s)) ≡ false → ComesAs b g rule ts s → ComesAs b g rule ts t
as-next b g rule ts s t o short found some e q c = record {
  comes = comes-next g rule ts s t o short found some e c.comes;
  alone = λ h. alone-next g rule ts s t o short found some e (stayed b (stays_at g ts s) q h) (c.alone h);
}

all_events : (g : Tables) (rule : ℕ) (ts : List Sight) (s : State) (items : List Event) → s ≡ run_of g rule ts → items ≡ reverse s.made.events → Some items ≡ Some (events_of g rule ts)
all_events g rule ts s items e q = ap Some (q ∙ ap (λ (x : State). reverse x.made.events) e)

pub as-over : (b : Bool) (g : Tables) (rule : ℕ) (ts : List Sight) (s : State) (items : List Event) → ComesAs b g rule ts s → slice_get g.ops s.place.next ≡ None
    → items ≡ reverse s.made.events
    → (if b then (if (nat_eq s.place.at (length ts) && nat_eq (length s.made.frames) 0) then Some items else None) else Some items) ≡ run_as_of b g rule ts
as-over true g rule ts s items c e q = alone-over g rule ts s items (c.alone refl) e q
as-over false g rule ts s items c e q = all_events g rule ts s items (comes-last g rule ts s c.comes (step-none g ts s e)) q

pub as-strays : (b : Bool) (g : Tables) (rule : ℕ) (ts : List Sight) (s : State) → ComesAs b g rule ts s → 0 < s.place.credit → (b && not (stays_at g ts s)) ≡ true → None ≡ run_as_of b g rule ts
as-strays true g rule ts s c some e = alone-strays g rule ts s (c.alone refl) some (strayed (stays_at g ts s) e)
  where
    strayed : (x : Bool) → not x ≡ true → x ≡ false
    strayed false h = refl
    strayed true h = (let bad : false ≡ true = h in cc)
as-strays false g rule ts s c some e = (let bad : false ≡ true = e in cc)

pub as-spent : (b : Bool) (g : Tables) (rule : ℕ) (ts : List Sight) (s : State) (o : Op) → ComesAs b g rule ts s → s.place.credit ≡ 0 → slice_get g.ops s.place.next ≡ Some o → b ≡ true → None ≡ run_as_of b g rule ts
as-spent true g rule ts s o c spent e h = alone-spent g rule ts s o (c.alone refl) spent e
as-spent false g rule ts s o c spent e h = (let bad : false ≡ true = h in cc)

-- any other run is over where nothing is left of it
pub as-other : (b : Bool) (g : Tables) (rule : ℕ) (ts : List Sight) (s : State) (items : List Event) → ComesAs b g rule ts s → s.place.credit ≡ 0 → b ≡ false
    → items ≡ reverse s.made.events → Some items ≡ run_as_of b g rule ts
as-other true g rule ts s items c spent h q = (let bad : true ≡ false = h in cc)
as-other false g rule ts s items c spent h q = all_events g rule ts s items (comes-last g rule ts s c.comes (step-spent g ts s spent)) q
