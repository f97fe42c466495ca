-- The nodes in a piece that is read alone, of the piece's own kind, begin behind its first token.
use Rattle.std.proofs.Common.{◌≡◌, ℕ, zero, suc, ◌+◌, ◌*◌, ◌<◌, Bool, true, false, nat_lt, nat_eq, List, [], ◌∷◌, ◌++◌, length, take, refl, sym, ap, subst, ◌∙◌, arith, length-append}
use Rattle.std.specs.Prelude.{Some, slice_get, reverse}
use Rattle.std.proofs.lemmas.Bool.Decides.{nat_tests}
use Rattle.std.proofs.lemmas.List.{reverse-append, length-reverse, length-take-le}
use Rattle.std.proofs.lemmas.Option.{slice_get_within}
use Rattle.syntax_kind.specs.declared.syntax_kind.SyntaxKind.{SyntaxKind}
use Rattle.grammar_machine.specs.declared.event.Event.{Event}
use Rattle.grammar_machine.specs.declared.event.Event.TheVariants as event
use Rattle.grammar_machine.specs.declared.grammar.Op.TheVariants as op
use Rattle.grammar_machine.specs.declared.grammar.Sight.{Sight}
use Rattle.grammar_machine.specs.Lasting.{IsOver}
use Rattle.grammar_machine.specs.Reading.{ReadsPiece}
use Rattle.grammar_machine.specs.Running.{Tables, State, kind_of, start_of, with_place, past_of, sealed_on, step_of, runs, begin_of, is_among, fuel_of, run_of, events_of}
use Rattle.grammar_machine.specs.Sealing.{SealedCall, inside, returned}
use Rattle.grammar_machine.proofs.Running.{step-obeys, runs-none, runs-add, runs-suc}
use Rattle.event_layout.specs.Layout.{root_from, root_of}
use Rattle.event_layout.proofs.Turning.{root_behind}
use Rattle.document_laws.specs.Calls.{OnlyCallsSeal, IsOfCall}
use Rattle.document_laws.proofs.Piecing.{called_there}
use Rattle.document_laws.proofs.Staying.{runs-stay}

-- ---- a state comes to one sealed call

sooner : (g : Tables) (ts : List Sight) (k : SyntaxKind) (s : State) (c d : SealedCall g ts k s) → c.steps < d.steps → ⊥
sooner g ts k s c d h = absurd (omega (arith, d.within c.steps h c.last c.comes c.is_return, c.own))

same_steps : (g : Tables) (ts : List Sight) (k : SyntaxKind) (s : State) (c d : SealedCall g ts k s) → c.steps ≡ d.steps
same_steps g ts k s c d = by (nat_lt c.steps d.steps) (nat_lt d.steps c.steps) refl refl
  where
    by : (x y : Bool) → nat_lt c.steps d.steps ≡ x → nat_lt d.steps c.steps ≡ y → c.steps ≡ d.steps
    by true y e f = absurd (sooner g ts k s c d (grind (arith, nat_tests, e)))
    by false true e f = absurd (sooner g ts k s d c (grind (arith, nat_tests, f)))
    by false false e f = grind (arith, nat_tests, e, f)

same_return : (g : Tables) (ts : List Sight) (k : SyntaxKind) (s z : State) (d : SealedCall g ts k s) → s ≡ z → (c : SealedCall g ts k z) → returned c ≡ returned d
same_return g ts k s z d e =
    subst (λ (x : State). (c : SealedCall g ts k x) → returned c ≡ returned d) e
    (λ c. ap (λ (n : ℕ). step_of g ts (inside n g ts s)) (same_steps g ts k s c d))

-- ---- the first token

record IsSight (ts : List Sight) : Type 0 where
  sight : Sight
  is : slice_get ts 0 ≡ Some sight

first_sight : (ts : List Sight) → 0 < length ts → IsSight ts
first_sight [] h = absurd (omega (arith, h))
first_sight (t ∷ ts) h = record { sight = t; is = refl }

-- behind the first operation, the first event is a token
record BeginsAll (g : Tables) (ts : List Sight) (rule : ℕ) : Type 0 where
  kind : SyntaxKind
  over : (n : ℕ) → IsOver (event.Token kind 1 ∷ []) (runs (suc n) g ts (begin_of rule)).made

begins_all : (g : Tables) (ts : List Sight) (k : SyntaxKind) (rule : ℕ) → SealedCall g ts k (begin_of rule) → BeginsAll g ts rule
begins_all g ts k rule c =
    let t : IsSight ts = first_sight ts (omega (arith, c.token)) in
    let first : Event = event.Token (kind_of g t.sight.one) 1 in
    let one : step_of g ts (begin_of rule) ≡ sealed_on g c.target k (Some t.sight) (with_place past_of (begin_of rule)) =
    step-obeys g ts (begin_of rule) (op.Sealed c.target k) c.found c.left ∙ ap (λ o. sealed_on g c.target k o (with_place past_of (begin_of rule))) t.is in
    let over : IsOver (first ∷ []) (step_of g ts (begin_of rule)).made = record { later = []; is = ap (λ (z : State). z.made.events) one } in
    record {
      kind = kind_of g t.sight.one;
      over = λ n.
          let count : n + 1 ≡ suc n = omega arith in
          let there : runs n g ts (step_of g ts (begin_of rule)) ≡ runs (suc n) g ts (begin_of rule) =
          ap (runs n g ts) (sym (runs-suc 0 g ts (begin_of rule) ∙ ap (step_of g ts) (runs-none g ts (begin_of rule))))
          ∙ sym (runs-add n 1 g ts (begin_of rule)) ∙ ap (λ (m : ℕ). runs m g ts (begin_of rule)) count in
          subst (λ (z : State). IsOver (first ∷ []) z.made) there (runs-stay n (kind_of g t.sight.one) 1 [] g ts (step_of g ts (begin_of rule)) over);
    }

-- ---- the events

pub record BeginsWithToken (es : List Event) : Type 0 where
  pub kind : SyntaxKind
  pub rest : List Event
  pub is : es ≡ event.Token kind 1 ∷ rest

pub all_begin : (g : Tables) (ts : List Sight) (k : SyntaxKind) (rule : ℕ) → SealedCall g ts k (begin_of rule) → BeginsWithToken (events_of g rule ts)
all_begin g ts k rule c =
    let b : BeginsAll g ts rule = begins_all g ts k rule c in
    let n : ℕ = 1199 + 2402 * length ts in
    let count : fuel_of (length ts) ≡ suc n = omega arith in
    let o : IsOver (event.Token b.kind 1 ∷ []) (run_of g rule ts).made =
    subst (λ (m : ℕ). IsOver (event.Token b.kind 1 ∷ []) (runs m g ts (begin_of rule)).made) (sym count) (b.over n) in
    record { kind = b.kind; rest = reverse o.later; is = ap reverse o.is ∙ reverse-append o.later (event.Token b.kind 1 ∷ []) }

root_one : (k : SyntaxKind) → root_of (event.Node k 0 ∷ []) ≡ 0
unfolding root_from
root_one k = refl

root_is : (own : List Event) (k : SyntaxKind) → root_of (own ++ event.Node k 0 ∷ []) ≡ length own
root_is own k =
    let one : root_of (event.Node k 0 ∷ []) ≡ 0 = root_one k in
    root_behind own (event.Node k 0 ∷ []) (omega (arith, one)) ∙ omega (arith, one)

same_number : (a b : ℕ) → a ≡ b → nat_eq a b ≡ false → ⊥
same_number a b e h = absurd (let yes' : nat_eq a b ≡ true = grind (arith, nat_tests, e) in let bad : true ≡ false = sym yes' ∙ h in cc)

pub inner_late : (g : Tables) (ts : List Sight) (k : SyntaxKind) (rule : ℕ) (own : List Event) (n from : ℕ) → OnlyCallsSeal g → is_among g.sealed k ≡ true
    → ReadsPiece g rule k ts (own ++ event.Node k 0 ∷ []) → events_of g rule ts ≡ own ++ event.Node k 0 ∷ []
    → slice_get (own ++ event.Node k 0 ∷ []) n ≡ Some (event.Node k from) → nat_eq n (root_of (own ++ event.Node k 0 ∷ [])) ≡ false → 0 < from
inner_late g ts k rule own n from only listed reads all at inner =
    let o : IsOfCall g ts rule k from (reverse (take n (events_of g rule ts))) =
    called_there g ts rule k n from only listed (ap (λ (es : List Event). slice_get es n) all ∙ at) in
    by o o.before refl
  where
    by : (o : IsOfCall g ts rule k from (reverse (take n (events_of g rule ts)))) (m : ℕ) → o.before ≡ m → 0 < from
    by o zero e =
        let es : List Event = own ++ event.Node k 0 ∷ [] in
        let there : begin_of rule ≡ runs o.before g ts (begin_of rule) = sym (ap (λ (m : ℕ). runs m g ts (begin_of rule)) e ∙ runs-none g ts (begin_of rule)) in
        let same : returned o.call ≡ returned reads.call = same_return g ts k (begin_of rule) (runs o.before g ts (begin_of rule)) reads.call there o.call in
        let count : suc (length (reverse (take n (events_of g rule ts)))) ≡ length (returned reads.call).made.events =
        ap length (sym o.events) ∙ ap (λ (s : State). length s.made.events) same in
        let whole : length es ≡ length (returned reads.call).made.events = ap length reads.events ∙ length-reverse (returned reads.call).made.events in
        let short : length (reverse (take n (events_of g rule ts))) ≡ length (take n es) =
        length-reverse (take n (events_of g rule ts)) ∙ ap (λ (xs : List Event). length (take n xs)) all in
        let within : n < length es = slice_get_within es n (event.Node k from) at in
        let front : length (take n es) ≡ n = length-take-le n es (omega (arith, within)) in
        absurd (same_number n (root_of es) (omega (arith, count, whole, short, front, root_is own k, length-append own (event.Node k 0 ∷ []))) inner)
    by o (suc m) e =
        let b : BeginsAll g ts rule = begins_all g ts k rule reads.call in
        let v : IsOver (event.Token b.kind 1 ∷ []) (runs (suc m) g ts (begin_of rule)).made = b.over m in
        let long : length (runs (suc m) g ts (begin_of rule)).made.events ≡ length v.later + 1 = ap length v.is ∙ length-append v.later (event.Token b.kind 1 ∷ []) in
        let begins : from ≡ start_of (runs (suc m) g ts (begin_of rule)).made = o.begins ∙ ap (λ (i : ℕ). start_of (runs i g ts (begin_of rule)).made) e in
        omega (arith, begins, long)
