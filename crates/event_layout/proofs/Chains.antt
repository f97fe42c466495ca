-- The lists of `Starts`: from the last node that begins with an event back to the first.
use Rattle.std.proofs.Common.{◌≡◌, ℕ, zero, suc, ◌+◌, ◌-◌, ◌≤◌, ◌<◌, ◌^◌, ◌≢◌, min, List, [], ◌∷◌, ◌++◌, length, drop, get_or, set, replicate, fold, ap, sym, ◌∙◌, refl, arith, subst, Option, Some, None, Bool, true, false, if◌then◌else◌, nat_eq, add-one, slice_get}
use Rattle.std.proofs.lemmas.Bool.{eqb-true, eqb-false, lt-ltb}
use Rattle.std.proofs.lemmas.List.{length-append, length-set, length-replicate, get_or-replicate, get_or-set_same, get_or-set_other}
use Rattle.std.proofs.Math.ListN.{get_or-append}
use Rattle.std.proofs.Math.Seq.{get_or-append_seam}
use Rattle.grammar_machine.specs.declared.event.Event.{Event}
use Rattle.grammar_machine.specs.declared.event.Event.TheVariants.{Token, Piece, Node, Error}
use Rattle.event_layout.specs.Starts.{Links, number_at, number_of, passed_by, begun_at, linked, starts_of}
use Rattle.event_layout.specs.Made.{Span, node_of}

abbrev pub with_number : ℕ → ℕ → Option Span → List ℕ → List ℕ
with_number i n None ns = ns
with_number i n (Some s) ns = if nat_eq s.from i then n ∷ ns else ns

-- the numbers of the nodes that end with the first n events and whose first event is i, from the
-- last on
abbrev pub numbers_at : ℕ → List Event → ℕ → ℕ → List ℕ
numbers_at root es i zero = []
numbers_at root es i (suc n) = with_number i n (node_of root n (slice_get es n)) (numbers_at root es i n)

-- the list that begins with e has these numbers
abbrev pub Chain : List ℕ → ℕ → List ℕ → Type 0
Chain before e [] = e ≡ 0
Chain before e (n ∷ ns) = (e ≡ suc n) × (n < length before) × Chain before (number_at before n) ns

number_is : (ns : List ℕ) (i : ℕ) → number_at ns i ≡ get_or ns i 0
number_is [] i = refl
number_is (n ∷ ns) zero = refl
number_is (n ∷ ns) (suc i) = number_is ns i

grown : (before : List ℕ) (more : List ℕ) (e : ℕ) (ns : List ℕ) → Chain before e ns → Chain (before ++ more) e ns
grown before more e [] h = h
grown before more e (n ∷ ns) h =
    let same : number_at (before ++ more) n ≡ number_at before n = number_is (before ++ more) n ∙ get_or-append before more 0 n h.1 ∙ sym (number_is before n) in
    (h.0, omega (arith, h.1, length-append before more), subst (λ e. Chain (before ++ more) e ns) (sym same) (grown before more (number_at before n) ns h.2))

-- the lists over the nodes of the first m events
pub record Linked (root : ℕ) (es : List Event) (m : ℕ) (l : Links) : Type 0 where
  pub nodes : length l.before ≡ m
  pub slots : length l.last ≡ length es
  pub chains : (i : ℕ) → i < length es → Chain l.before (number_at l.last i) (numbers_at root es i m)

numbers_more : (root : ℕ) (es : List Event) (i m : ℕ) (o : Option Span) → node_of root m (slice_get es m) ≡ o → numbers_at root es i (suc m) ≡ with_number i m o (numbers_at root es i m)
numbers_more root es i m o e = ap (λ o. with_number i m o (numbers_at root es i m)) e

passed : (root : ℕ) (es : List Event) (m : ℕ) (l : Links) → node_of root m (slice_get es m) ≡ None → Linked root es m l → Linked root es (suc m) (passed_by l)
passed root es m l e h = record {
  nodes = omega (arith, length-append l.before (0 ∷ []), h.nodes);
  slots = h.slots;
  chains = λ i lt. subst (Chain (l.before ++ 0 ∷ []) (number_at l.last i)) (sym (numbers_more root es i m None e)) (grown l.before (0 ∷ []) (number_at l.last i) (numbers_at root es i m) (h.chains i lt));
}

module _ (last before : List ℕ) (m from : ℕ) (long : length before ≡ m) (small : m < 2 ^ 32 - 1) (within : from < length last) where
  appended : number_at (before ++ number_at last from ∷ []) m ≡ number_at last from
  appended = number_is (before ++ number_at last from ∷ []) m ∙ subst (λ n. get_or (before ++ number_at last from ∷ []) n 0 ≡ number_at last from) long (get_or-append_seam before (number_at last from) [] 0)

  written : number_at (set last from (number_of (length before))) from ≡ suc m
  written =
      let one : number_of m ≡ suc m = ap (λ b. if b then m + 1 else 0) (lt-ltb m (2 ^ 32 - 1) small) ∙ add-one m in
      number_is (set last from (number_of (length before))) from ∙ get_or-set_same last from (number_of (length before)) 0 within ∙ ap number_of long ∙ one

  unwritten : (i : ℕ) → i ≢ from → number_at (set last from (number_of (length before))) i ≡ number_at last i
  unwritten i ne = number_is (set last from (number_of (length before))) i ∙ get_or-set_other last from i (number_of (length before)) 0 ne ∙ sym (number_is last i)

  begun_chain : (i : ℕ) (ns : List ℕ) (b : Bool) → nat_eq from i ≡ b → Chain before (number_at last i) ns
      → Chain (before ++ number_at last from ∷ []) (number_at (set last from (number_of (length before))) i) (if b then m ∷ ns else ns)
  begun_chain i ns true e h =
      let same : from ≡ i = eqb-true from i e in
      let here : Chain (before ++ number_at last from ∷ []) (number_at last from) ns = subst (λ j. Chain (before ++ number_at last from ∷ []) (number_at last j) ns) (sym same) (grown before (number_at last from ∷ []) (number_at last i) ns h) in (
        subst (λ j. number_at (set last from (number_of (length before))) j ≡ suc m) same written,
        omega (arith, long, length-append before (number_at last from ∷ [])),
        subst (λ e. Chain (before ++ number_at last from ∷ []) e ns) (sym appended) here,
      )
  begun_chain i ns false e h =
      let apart : i ≢ from = λ same. eqb-false from i e (sym same) in
      subst (λ e. Chain (before ++ number_at last from ∷ []) e ns) (sym (unwritten i apart)) (grown before (number_at last from ∷ []) (number_at last i) ns h)

node_begun : (root : ℕ) (es : List Event) (m : ℕ) (l : Links) (s : Span) → node_of root m (slice_get es m) ≡ Some s → s.from < length es → m < 2 ^ 32 - 1 → Linked root es m l → Linked root es (suc m) (begun_at s.from l)
node_begun root es m l s e within small h = record {
  nodes = omega (arith, length-append l.before (number_at l.last s.from ∷ []), h.nodes);
  slots = length-set l.last s.from (number_of (length l.before)) ∙ h.slots;
  chains = λ i lt. subst (Chain (l.before ++ number_at l.last s.from ∷ []) (number_at (set l.last s.from (number_of (length l.before))) i)) (sym (numbers_more root es i m (Some s) e))
      (begun_chain l.last l.before m s.from h.nodes small (omega (arith, within, h.slots)) i (numbers_at root es i m) (nat_eq s.from i) refl (h.chains i lt));
}

node_linked : (root : ℕ) (es : List Event) (m : ℕ) (l : Links) (k : _) (from : ℕ) (b : Bool) → slice_get es m ≡ Some (Node k from) → nat_eq m root ≡ b → m < length es → m < 2 ^ 32 - 1 → Linked root es m l → Linked root es (suc m) (if b then passed_by l else begun_at (min from m) l)
node_linked root es m l k from true at e within small h = passed root es m l (ap (node_of root m) at ∙ ap (λ b. if b then None else Some (record { kind = k; from = min from m })) e) h
node_linked root es m l k from false at e within small h =
    let s : Span = record { kind = k; from = min from m } in
    node_begun root es m l s (ap (node_of root m) at ∙ ap (λ b. if b then None else Some s) e) (omega (arith, within)) small h

one_linked : (root : ℕ) (es : List Event) (m : ℕ) (l : Links) (e : Event) → slice_get es m ≡ Some e → m < length es → m < 2 ^ 32 - 1 → Linked root es m l → Linked root es (suc m) (linked root e l)
one_linked root es m l (Node k from) at within small h =
    subst (λ n. Linked root es (suc m) (if nat_eq n root then passed_by l else begun_at (min from n) l)) (sym h.nodes) (node_linked root es m l k from (nat_eq m root) at refl within small h)
one_linked root es m l (Token k signs) at within small h = passed root es m l (ap (node_of root m) at) h
one_linked root es m l (Piece p last) at within small h = passed root es m l (ap (node_of root m) at) h
one_linked root es m l (Error n) at within small h = passed root es m l (ap (node_of root m) at) h

-- event m is the first of those from m on
pub record First (es : List Event) (m : ℕ) (e : Event) (more : List Event) : Type 0 where
  pub within : m < length es
  pub here : slice_get es m ≡ Some e
  pub later : drop (suc m) es ≡ more

pub first_at : (es : List Event) (m : ℕ) (e : Event) (more : List Event) → drop m es ≡ e ∷ more → First es m e more
first_at [] zero e more h = (let bad : ◌≡◌ {A = List Event} [] (e ∷ more) = h in cc)
first_at [] (suc m) e more h = (let bad : ◌≡◌ {A = List Event} [] (e ∷ more) = h in cc)
first_at (x ∷ es) zero e more h = (let same : ◌≡◌ {A = List Event} (x ∷ es) (e ∷ more) = h in record { within = omega arith; here = cc; later = cc })
first_at (x ∷ es) (suc m) e more h = let f = first_at es m e more h in record { within = omega (arith, f.within); here = f.here; later = f.later }

pub nothing_at : (es : List Event) (m : ℕ) → drop m es ≡ [] → length es ≤ m
nothing_at [] m h = omega arith
nothing_at (x ∷ es) zero h = (let bad : ◌≡◌ {A = List Event} (x ∷ es) [] = h in cc)
nothing_at (x ∷ es) (suc m) h = omega (arith, nothing_at es m h)

all_linked : (root : ℕ) (es : List Event) (m : ℕ) (xs : List Event) (l : Links) → length es ≤ 2 ^ 32 - 1 → m ≤ length es → drop m es ≡ xs → Linked root es m l → Linked root es (length es) (fold (λ l e. linked root e l) l xs)
all_linked root es m [] l small le at h =
    let same : m ≡ length es = omega (arith, nothing_at es m at, le) in
    subst (λ n. Linked root es n l) same h
all_linked root es m (e ∷ xs) l small le at h =
    let f = first_at es m e xs at in
    all_linked root es (suc m) xs (linked root e l) small (omega (arith, f.within)) f.later (one_linked root es m l e f.here f.within (omega (arith, f.within, small)) h)

none_linked : (root : ℕ) (es : List Event) → Linked root es 0 (record { last = replicate (length es) 0; before = [] })
none_linked root es = record {
  nodes = refl;
  slots = length-replicate (length es) 0;
  chains = λ i lt. number_is (replicate (length es) 0) i ∙ get_or-replicate (length es) i 0 0 lt;
}

-- the list of each event has the nodes that begin with it
pub starts_linked : (root : ℕ) (es : List Event) → length es ≤ 2 ^ 32 - 1 → Linked root es (length es) (starts_of root es)
unfolding starts_of
starts_linked root es small = all_linked root es 0 es (record { last = replicate (length es) 0; before = [] }) small (omega arith) refl (none_linked root es)

-- no list is behind the last event
pub past_last : (l : List ℕ) (i : ℕ) → length l ≤ i → number_at l i ≡ 0
past_last [] i h = refl
past_last (n ∷ ns) zero h = absurd (omega (arith, h))
past_last (n ∷ ns) (suc i) h = past_last ns i (omega (arith, h))
