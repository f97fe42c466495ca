-- A node of a sealed kind is that of a sealed call.
use Rattle.std.proofs.Common.{◌≡◌, ◌⊎◌, inl, inr, ℕ, zero, suc, min, ◌+◌, ◌-◌, ◌<◌, ◌≤◌, Bool, true, false, nat_eq, nat_lt, if◌then◌else◌, List, [], ◌∷◌, ◌++◌, length, ap, ◌∙◌, refl, subst, sym, arith}
use Rattle.std.specs.Prelude.{Option, Some, None, slice_get}
use Rattle.std.proofs.lemmas.Bool.Decides.{nat_tests}
use Rattle.std.proofs.lemmas.Option.{slice_get_within}
use Rattle.syntax_kind.specs.declared.syntax_kind.SyntaxKind.{SyntaxKind}
use Rattle.grammar_machine.specs.declared.event.Part.{Part}
use Rattle.grammar_machine.specs.declared.event.Event.{Event}
use Rattle.grammar_machine.specs.declared.event.Event.TheVariants as event
use Rattle.grammar_machine.specs.declared.grammar.Sight.{Sight}
use Rattle.grammar_machine.specs.declared.grammar.View.{View}
use Rattle.grammar_machine.specs.declared.grammar.View.TheVariants.{One}
use Rattle.grammar_machine.specs.declared.grammar.Op.{Op}
use Rattle.grammar_machine.specs.declared.grammar.Op.TheVariants as op
use Rattle.grammar_machine.specs.Running.{Tables, Stacks, State, kind_of, seen_as_of, signs_taken_of, operator_view_of, here_of, mark_of, rest_of, node_of, is_among, longer_of, make_of, start_of, forget_of, extended_on, with_place, with_made, resume_of, left_of, return_of, answer_of, take_on, part_of, piece_on, sealed_on, past_of, obey_of, step_of, runs, nothing_of, begin_of}
use Rattle.grammar_machine.specs.Framing.{returns_of}
use Rattle.grammar_machine.specs.Sealing.{inside, ReturnsInside}
use Rattle.grammar_machine.proofs.Running.{runs-none, runs-suc, runs-add, step-obeys, step-none, step-spent}
use Rattle.document_laws.specs.Calls.{makes_one_of, OnlyCallsSeal, IsOfCall, SealedNodesAreCalls}

-- the types of what the machine holds, which its crate does not export
abbrev TypeOf : {A : Type 0} → A → Type 0
TypeOf {A} x = A

abbrev ItemOf : {A : Type 0} → List A → Type 0
ItemOf {A} xs = A

abbrev pub Place : Type 0
Place = TypeOf (begin_of 0).place

abbrev pub Frame : Type 0
Frame = ItemOf nothing_of.frames

abbrev pub Seal : Type 0
Seal = ItemOf nothing_of.seals

-- the machine after n operations
abbrev at : Tables → List Sight → ℕ → ℕ → State
at g ts rule n = runs n g ts (begin_of rule)

-- ---- the calls that are open

-- after n operations a sealed call is open, over the frames fs, which keeps x
record Called (g : Tables) (ts : List Sight) (rule n : ℕ) (fs : List Frame) (x : Seal) : Type 0 where
  m : ℕ
  target : ℕ
  later : m < n
  found : slice_get g.ops (at g ts rule m).place.next ≡ Some (op.Sealed target x.kind)
  left : 0 < (at g ts rule m).place.credit
  token : (at g ts rule m).place.at < length ts
  frames : length (at g ts rule m).made.frames ≡ length fs
  begins : x.from ≡ start_of (at g ts rule m).made
  within : (j : ℕ) → m < j → j < n → ReturnsInside g (at g ts rule m) (at g ts rule j)

abbrev OpenOn : Tables → List Sight → ℕ → ℕ → Bool → List Frame → List Seal → (List Seal → Type 0) → Type 0
OpenOn g ts rule n false fs xs below = below xs
OpenOn g ts rule n true fs [] below = ⊥
OpenOn g ts rule n true fs (x ∷ xs) below = Called g ts rule n fs x × below xs

-- so are all sealed ones of the frames
abbrev AllOpen : Tables → List Sight → ℕ → ℕ → List Frame → List Seal → Type 0
AllOpen g ts rule n [] xs = Unit {0}
AllOpen g ts rule n (f ∷ fs) xs = OpenOn g ts rule n f.sealed fs xs (λ ys. AllOpen g ts rule n fs ys)

-- ---- the nodes that were made

abbrev MadeBy : Tables → List Sight → ℕ → Event → List Event → Type 0
MadeBy g ts rule (event.Node k from) es = is_among g.sealed k ≡ true → IsOfCall g ts rule k from es
MadeBy g ts rule (event.Token k n) es = Unit {0}
MadeBy g ts rule (event.Piece p last) es = Unit {0}
MadeBy g ts rule (event.Error n) es = Unit {0}

abbrev AllMade : Tables → List Sight → ℕ → List Event → Type 0
AllMade g ts rule [] = Unit {0}
AllMade g ts rule (e ∷ es) = MadeBy g ts rule e es × AllMade g ts rule es

abbrev Good : Tables → List Sight → ℕ → ℕ → Stacks → Type 0
Good g ts rule n m = AllOpen g ts rule n m.frames m.seals × AllMade g ts rule m.events

-- ---- one operation more

-- if the next operation returns, more than b frames are open
abbrev Passes : Tables → List Sight → ℕ → ℕ → ℕ → Type 0
Passes g ts rule n b = (o : Op) → slice_get g.ops (at g ts rule n).place.next ≡ Some o → returns_of o ≡ true → b < length (at g ts rule n).made.frames

before_or_at : (j n : ℕ) → j < suc n → (P : ℕ → Type 0) → (j < n → P j) → P n → P j
before_or_at j n h P f p = by_test (nat_lt j n) refl
  where
    by_test : (b : Bool) → nat_lt j n ≡ b → P j
    by_test true e = f (grind (arith, nat_tests, e))
    by_test false e = (let same : n ≡ j = (let least : n ≤ j = grind (arith, nat_tests, e) in omega (arith, h, least)) in subst P same p)

called_on : (g : Tables) (ts : List Sight) (rule n : ℕ) (fs : List Frame) (x : Seal) → Passes g ts rule n (suc (length fs)) → Called g ts rule n fs x → Called g ts rule (suc n) fs x
called_on g ts rule n fs x p c = record {
  m = c.m;
  target = c.target;
  later = omega (arith, c.later);
  found = c.found;
  left = c.left;
  token = c.token;
  frames = c.frames;
  begins = c.begins;
  within = λ j h k. before_or_at j n k (λ i. ReturnsInside g (at g ts rule c.m) (at g ts rule i)) (c.within j h) (λ o e r. omega (arith, p o e r, c.frames));
}

fewer : (g : Tables) (ts : List Sight) (rule n b c : ℕ) → c ≤ b → Passes g ts rule n b → Passes g ts rule n c
fewer g ts rule n b c h p o e r = omega (arith, h, p o e r)

advance : (g : Tables) (ts : List Sight) (rule n : ℕ) (fs : List Frame) (xs : List Seal) → Passes g ts rule n (length fs) → AllOpen g ts rule n fs xs → AllOpen g ts rule (suc n) fs xs
advance g ts rule n [] xs p h = tt
advance g ts rule n (f ∷ fs) xs p h =
    by f.sealed xs h (λ ys k. advance g ts rule n fs ys (fewer g ts rule n (suc (length fs)) (length fs) (omega arith) p) k)
  where
    by : (b : Bool) (ys : List Seal) → OpenOn g ts rule n b fs ys (λ zs. AllOpen g ts rule n fs zs) → ((zs : List Seal) → AllOpen g ts rule n fs zs → AllOpen g ts rule (suc n) fs zs)
        → OpenOn g ts rule (suc n) b fs ys (λ zs. AllOpen g ts rule (suc n) fs zs)
    by false ys k below = below ys k
    by true [] k below = absurd k
    by true (x ∷ ys) k below = (called_on g ts rule n fs x p k.0, below ys k.1)

some_same : (a b : Op) → Some a ≡ Some b → a ≡ b
some_same a b e = cc

never : (b : Bool) → b ≡ true → b ≡ false → ⊥
never true h k = (let bad : true ≡ false = k in cc)
never false h k = (let bad : false ≡ true = h in cc)

-- the next operation does not return
goes_on : (g : Tables) (ts : List Sight) (rule n b : ℕ) (o : Op) → slice_get g.ops (at g ts rule n).place.next ≡ Some o → returns_of o ≡ false → Passes g ts rule n b
goes_on g ts rule n b o e f p d r = absurd (never (returns_of o) (ap returns_of (some_same o p (sym e ∙ d)) ∙ r) f)

-- ---- what operations leave

makes : (g : Tables) (ts : List Sight) (rule n : ℕ) (e : Event) (m : Stacks) → MadeBy g ts rule e m.events → Good g ts rule n m → Good g ts rule n (make_of e m)
makes g ts rule n e m d h = (h.0, (d, h.1))

forgets : (g : Tables) (ts : List Sight) (rule n : ℕ) (m : Stacks) → Good g ts rule n m → Good g ts rule n (forget_of m)
forgets g ts rule n m h = by_test (nat_lt m.floor (length m.marks))
  where
    by_test : (x : Bool) → Good g ts rule n (if x then record m { marks = rest_of m.marks } else m)
    by_test true = h
    by_test false = h

nodes : (g : Tables) (ts : List Sight) (rule n : ℕ) (k : SyntaxKind) (o : Option ℕ) (m : Stacks) → is_among g.sealed k ≡ false → Good g ts rule n m → Good g ts rule n (node_of k o m)
nodes g ts rule n k None m f h = h
nodes g ts rule n k (Some from) m f h = makes g ts rule n (event.Node k from) m (λ s. absurd (never (is_among g.sealed k) s f)) h

takes : (g : Tables) (ts : List Sight) (rule n : ℕ) (v : View) (o : Option Sight) (s : State) → Good g ts rule n s.made → Good g ts rule n (take_on g v o s).made
takes g ts rule n v None s h = h
takes g ts rule n v (Some t) s h = makes g ts rule n (event.Token (kind_of g (seen_as_of v t)) (signs_taken_of v t)) s.made tt h

pieces : (g : Tables) (ts : List Sight) (rule n : ℕ) (part : Part) (last : Bool) (o : Option Sight) (s : State) → Good g ts rule n s.made → Good g ts rule n (piece_on part last o s).made
pieces g ts rule n part last None s h = h
pieces g ts rule n part last (Some t) s h = by_test (nat_eq t.word 0)
  where
    by_test : (x : Bool) → Good g ts rule n (if x then s else part_of part last s).made
    by_test true = h
    by_test false = makes g ts rule n (event.Piece part last) s.made tt h

expects : (g : Tables) (ts : List Sight) (rule n : ℕ) (x : Bool) (o : Option Sight) (i : ℕ) (s : State) → Good g ts rule n s.made → Good g ts rule n (if x then take_on g One o s else with_made (make_of (event.Error i)) s).made
expects g ts rule n true o i s h = takes g ts rule n One o s h
expects g ts rule n false o i s h = makes g ts rule n (event.Error i) s.made tt h

longer : (g : Tables) (ts : List Sight) (rule : ℕ) (o : Option ℕ) (e : Event) (es : List Event) → MadeBy g ts rule e es → MadeBy g ts rule (longer_of g.sealed o e) es
longer g ts rule None e es d = d
longer g ts rule (Some mark) (event.Node k from) es d = λ s. subst (λ (b : Bool). IsOfCall g ts rule k (if b then from else min from mark) es) (sym s) (d s)
longer g ts rule (Some mark) (event.Token k n) es d = tt
longer g ts rule (Some mark) (event.Piece p last) es d = tt
longer g ts rule (Some mark) (event.Error n) es d = tt

extended : (g : Tables) (ts : List Sight) (rule : ℕ) (o : Option ℕ) (es : List Event) → AllMade g ts rule es → AllMade g ts rule (extended_on g.sealed o es)
extended g ts rule o [] h = tt
extended g ts rule o (e ∷ es) h = (longer g ts rule o e es h.0, h.1)

-- a sealed call begins
begun : (g : Tables) (ts : List Sight) (rule n target : ℕ) (k : SyntaxKind) (o : Option Sight) (s : State) → slice_get ts (at g ts rule n).place.at ≡ o
    → slice_get g.ops (at g ts rule n).place.next ≡ Some (op.Sealed target k) → 0 < (at g ts rule n).place.credit → length (at g ts rule n).made.frames ≡ length s.made.frames → start_of s.made ≡ start_of (at g ts rule n).made
    → Good g ts rule (suc n) s.made → Good g ts rule (suc n) (sealed_on g target k o s).made
begun g ts rule n target k None s e found some same starts h = h
begun g ts rule n target k (Some t) s e found some same starts h =
    let x : Seal = record { kind = k; from = start_of s.made; floor = s.made.floor; credit = s.place.credit } in
    let c : Called g ts rule (suc n) s.made.frames x = record {
      m = n;
      target = target;
      later = omega arith;
      found = found;
      left = some;
      token = slice_get_within ts (at g ts rule n).place.at t e;
      frames = same;
      begins = starts;
      within = λ j a b. absurd (omega (arith, a, b));
    } in
    ((c, h.0), (tt, h.1))

-- ---- a return

pub inside_at : (g : Tables) (ts : List Sight) (rule j m : ℕ) → inside j g ts (at g ts rule m) ≡ at g ts rule (j + suc m)
inside_at g ts rule j m = ap (runs j g ts) (sym (runs-suc m g ts (begin_of rule))) ∙ sym (runs-add j (suc m) g ts (begin_of rule))

-- a call that is open returns
returns_to : (g : Tables) (ts : List Sight) (rule n : ℕ) (fs : List Frame) (x : Seal) (o : Op) (es : List Event) → Called g ts rule n fs x
    → slice_get g.ops (at g ts rule n).place.next ≡ Some o → returns_of o ≡ true → 0 < (at g ts rule n).place.credit
    → length (at g ts rule n).made.frames ≡ length fs + 1 → (at g ts rule (suc n)).made.events ≡ event.Node x.kind x.from ∷ es
    → IsOfCall g ts rule x.kind x.from es
returns_to g ts rule n fs x o es c found ret some own is =
    let steps : ℕ = n - suc c.m in
    let count : steps + suc c.m ≡ n = omega (arith, c.later) in
    let last : inside steps g ts (at g ts rule c.m) ≡ at g ts rule n = inside_at g ts rule steps c.m ∙ ap (at g ts rule) count in
    record {
      before = c.m;
      call = record {
        target = c.target;
        steps = steps;
        found = c.found;
        left = c.left;
        token = c.token;
        within = λ j h. subst (ReturnsInside g (at g ts rule c.m)) (sym (inside_at g ts rule j c.m)) (c.within (j + suc c.m) (omega arith) (omega (arith, h, c.later)));
        last = o;
        comes = ap (λ (t : State). slice_get g.ops t.place.next) last ∙ found;
        is_return = ret;
        own = ap (λ (t : State). length t.made.frames) last ∙ own ∙ ap (λ (i : ℕ). i + 1) (sym c.frames);
        spends = subst (λ (t : State). 0 < t.place.credit) (sym last) some;
      };
      events = ap (λ (t : State). (step_of g ts t).made.events) last ∙ ap (λ (t : State). t.made.events) (sym (runs-suc n g ts (begin_of rule))) ∙ is;
      begins = c.begins;
    }

-- frames and seals, and all else
abbrev with : List Frame → List Seal → Place → Stacks → State
with fs xs p m = record { place = p; made = record m { frames = fs; seals = xs } }

back : (g : Tables) (ts : List Sight) (rule n : ℕ) (o : Op) (b : Bool) (f : Frame) (fs : List Frame) (xs : List Seal) (p : Place) (m : Stacks)
    → slice_get g.ops (at g ts rule n).place.next ≡ Some o → returns_of o ≡ true → 0 < (at g ts rule n).place.credit → length (at g ts rule n).made.frames ≡ length fs + 1
    → (at g ts rule (suc n)).made.events ≡ (if b then left_of (with_place (resume_of f) (with fs xs p m)) else with_place (resume_of f) (with fs xs p m)).made.events
    → OpenOn g ts rule n b fs xs (λ ys. AllOpen g ts rule n fs ys) → AllMade g ts rule m.events
    → Good g ts rule (suc n) (if b then left_of (with_place (resume_of f) (with fs xs p m)) else with_place (resume_of f) (with fs xs p m)).made
back g ts rule n o false f fs xs p m found ret some own is c d = (advance g ts rule n fs xs (λ q e r. omega (arith, own)) c, d)
back g ts rule n o true f fs [] p m found ret some own is c d = absurd c
back g ts rule n o true f fs (x ∷ xs) p m found ret some own is c d =
    (advance g ts rule n fs xs (λ q e r. omega (arith, own)) c.1, ((λ s. returns_to g ts rule n fs x o m.events c.0 found ret some own is), d))

returns_with : (g : Tables) (ts : List Sight) (rule n : ℕ) (o : Op) (fs : List Frame) (xs : List Seal) (p : Place) (m : Stacks)
    → slice_get g.ops (at g ts rule n).place.next ≡ Some o → returns_of o ≡ true → 0 < (at g ts rule n).place.credit → length (at g ts rule n).made.frames ≡ length fs
    → (at g ts rule (suc n)).made.events ≡ (return_of (with fs xs p m)).made.events
    → AllOpen g ts rule n fs xs → AllMade g ts rule m.events → Good g ts rule (suc n) (return_of (with fs xs p m)).made
returns_with g ts rule n o [] xs p m found ret some own is c d = (tt, d)
returns_with g ts rule n o (f ∷ fs) xs p m found ret some own is c d = back g ts rule n o f.sealed f fs xs p m found ret some (omega (arith, own)) is c d

returns : (g : Tables) (ts : List Sight) (rule n : ℕ) (o : Op) (s : State)
    → slice_get g.ops (at g ts rule n).place.next ≡ Some o → returns_of o ≡ true → 0 < (at g ts rule n).place.credit → length (at g ts rule n).made.frames ≡ length s.made.frames
    → (at g ts rule (suc n)).made.events ≡ (return_of s).made.events → Good g ts rule n s.made → Good g ts rule (suc n) (return_of s).made
returns g ts rule n o s found ret some own is h = returns_with g ts rule n o s.made.frames s.made.seals s.place s.made found ret some own is h.0 h.1

-- what the forgotten mark leaves
forgot_frames : (m : Stacks) → length m.frames ≡ length (forget_of m).frames
forgot_frames m = by_test (nat_lt m.floor (length m.marks))
  where
    by_test : (x : Bool) → length m.frames ≡ length (if x then record m { marks = rest_of m.marks } else m).frames
    by_test true = refl
    by_test false = refl

-- ---- all operations

obeyed : (g : Tables) (ts : List Sight) (rule n : ℕ) (o : Op) → slice_get g.ops (at g ts rule n).place.next ≡ Some o → 0 < (at g ts rule n).place.credit
    → makes_one_of g.sealed o ≡ false → at g ts rule (suc n) ≡ obey_of g ts o (with_place past_of (at g ts rule n))
    → Good g ts rule n (at g ts rule n).made → Good g ts rule (suc n) (obey_of g ts o (with_place past_of (at g ts rule n))).made
obeyed g ts rule n o found some only is h = by_op o found only is
  where
    s : State
    s = with_place past_of (at g ts rule n)

    -- as before, if the operation does not return
    same : (p : Op) → slice_get g.ops (at g ts rule n).place.next ≡ Some p → returns_of p ≡ false → Good g ts rule (suc n) s.made
    same p e f = (advance g ts rule n s.made.frames s.made.seals (goes_on g ts rule n (length s.made.frames) p e f) h.0, h.1)

    by_op : (p : Op) → slice_get g.ops (at g ts rule n).place.next ≡ Some p → makes_one_of g.sealed p ≡ false → at g ts rule (suc n) ≡ obey_of g ts p s → Good g ts rule (suc n) (obey_of g ts p s).made
    by_op (op.IfKind i target) e f is = same (op.IfKind i target) e refl
    by_op (op.UnlessKind i target) e f is = same (op.UnlessKind i target) e refl
    by_op (op.IfIn set target) e f is = same (op.IfIn set target) e refl
    by_op (op.UnlessIn set target) e f is = same (op.UnlessIn set target) e refl
    by_op (op.If t target) e f is = same (op.If t target) e refl
    by_op (op.Unless t target) e f is = same (op.Unless t target) e refl
    by_op (op.Switch row) e f is = same (op.Switch row) e refl
    by_op (op.Jump target) e f is = same (op.Jump target) e refl
    by_op op.Take e f is = takes g ts rule (suc n) One (slice_get ts s.place.at) s (same op.Take e refl)
    by_op (op.TakeAs v) e f is = takes g ts rule (suc n) v (slice_get ts s.place.at) s (same (op.TakeAs v) e refl)
    by_op op.TakeOperator e f is = takes g ts rule (suc n) (operator_view_of g ts s.place.at) (slice_get ts s.place.at) s (same op.TakeOperator e refl)
    by_op (op.Expect i m) e f is = expects g ts rule (suc n) (nat_eq (here_of ts s.place) i) (slice_get ts s.place.at) m s (same (op.Expect i m) e refl)
    by_op (op.Piece part last) e f is = pieces g ts rule (suc n) part last (slice_get ts s.place.at) s (same (op.Piece part last) e refl)
    by_op op.Open e f is = same op.Open e refl
    by_op op.Drop e f is = forgets g ts rule (suc n) s.made (same op.Drop e refl)
    by_op (op.Wrap l) e f is = nodes g ts rule (suc n) l (mark_of s.made) s.made f (same (op.Wrap l) e refl)
    by_op (op.Close l) e f is = nodes g ts rule (suc n) l (mark_of s.made) (forget_of s.made) f (forgets g ts rule (suc n) s.made (same (op.Close l) e refl))
    by_op (op.Leaf l) e f is =
        makes g ts rule (suc n) (event.Node l (start_of s.made)) (take_on g One (slice_get ts s.place.at) s).made (λ k. absurd (never (is_among g.sealed l) k f))
        (takes g ts rule (suc n) One (slice_get ts s.place.at) s (same (op.Leaf l) e refl))
    by_op op.Extend e f is = let k = same op.Extend e refl in (k.0, extended g ts rule (mark_of s.made) s.made.events k.1)
    by_op (op.Error m) e f is = makes g ts rule (suc n) (event.Error m) s.made tt (same (op.Error m) e refl)
    by_op (op.Call target) e f is = same (op.Call target) e refl
    by_op (op.Enter target) e f is = same (op.Enter target) e refl
    by_op (op.CallWith target l keep add) e f is = same (op.CallWith target l keep add) e refl
    by_op (op.Sealed target l) e f is = begun g ts rule n target l (slice_get ts s.place.at) s refl e some refl refl (same (op.Sealed target l) e refl)
    by_op (op.Become target l keep add) e f is = same (op.Become target l keep add) e refl
    by_op op.Return e f is = returns g ts rule n op.Return s e refl some refl (ap (λ (t : State). t.made.events) is) h
    by_op op.Leave e f is = returns g ts rule n op.Leave (with_made forget_of s) e refl some (forgot_frames s.made) (ap (λ (t : State). t.made.events) is) (forgets g ts rule n s.made h)
    by_op (op.Reply a) e f is = returns g ts rule n (op.Reply a) (with_place (answer_of a) s) e refl some refl (ap (λ (t : State). t.made.events) is) h
    by_op (op.Answer a) e f is = same (op.Answer a) e refl
    by_op (op.Flags keep add) e f is = same (op.Flags keep add) e refl
    by_op (op.Operator target) e f is = same (op.Operator target) e refl

-- ---- a run

-- the run has come so far by some number of operations that it obeyed
record Reached (g : Tables) (ts : List Sight) (rule n : ℕ) : Type 0 where
  count : ℕ
  same : at g ts rule n ≡ at g ts rule count
  good : Good g ts rule count (at g ts rule count).made

zero_or_more : (n : ℕ) → (n ≡ 0) ⊎ (0 < n)
zero_or_more zero = inl refl
zero_or_more (suc n) = inr (omega arith)

next : (g : Tables) (ts : List Sight) (rule n : ℕ) (w : Reached g ts rule n) → at g ts rule (suc n) ≡ step_of g ts (at g ts rule w.count)
next g ts rule n w = runs-suc n g ts (begin_of rule) ∙ ap (step_of g ts) w.same

reached_on : (g : Tables) (ts : List Sight) (rule n : ℕ) → OnlyCallsSeal g → (w : Reached g ts rule n) → (o : Option Op) → slice_get g.ops (at g ts rule w.count).place.next ≡ o → Reached g ts rule (suc n)
reached_on g ts rule n only w None e = record { count = w.count; same = next g ts rule n w ∙ step-none g ts (at g ts rule w.count) e; good = w.good }
reached_on g ts rule n only w (Some o) e =
    elim (zero_or_more (at g ts rule w.count).place.credit) [
      | inl z ↦ record { count = w.count; same = next g ts rule n w ∙ step-spent g ts (at g ts rule w.count) z; good = w.good }
      | inr some ↦
          let step : at g ts rule (suc w.count) ≡ obey_of g ts o (with_place past_of (at g ts rule w.count)) =
          runs-suc w.count g ts (begin_of rule) ∙ step-obeys g ts (at g ts rule w.count) o e some in
          record {
            count = suc w.count;
            same = next g ts rule n w ∙ sym (runs-suc w.count g ts (begin_of rule));
            good =
                subst (λ (t : State). Good g ts rule (suc w.count) t.made) (sym step)
                (obeyed g ts rule w.count o e some (only (at g ts rule w.count).place.next o e) step w.good);
          }
    ]

reached : (n : ℕ) (g : Tables) (ts : List Sight) (rule : ℕ) → OnlyCallsSeal g → Reached g ts rule n
reached zero g ts rule only =
    record { count = 0; same = refl; good = subst (λ (t : State). Good g ts rule 0 t.made) (sym (runs-none g ts (begin_of rule))) (tt, tt) }
reached (suc n) g ts rule only =
    let w = reached n g ts rule only in reached_on g ts rule n only w (slice_get g.ops (at g ts rule w.count).place.next) refl

made_there : (g : Tables) (ts : List Sight) (rule : ℕ) (later : List Event) (k : SyntaxKind) (from : ℕ) (es : List Event) → AllMade g ts rule (later ++ event.Node k from ∷ es)
    → is_among g.sealed k ≡ true → IsOfCall g ts rule k from es
made_there g ts rule [] k from es h s = h.0 s
made_there g ts rule (e ∷ later) k from es h s = made_there g ts rule later k from es h.1 s

pub sealed_calls : SealedNodesAreCalls
sealed_calls n g ts rule later k from es only sealed is =
    let w = reached n g ts rule only in
    made_there g ts rule later k from es (subst (AllMade g ts rule) (ap (λ (t : State). t.made.events) (sym w.same) ∙ is) w.good.1) sealed
