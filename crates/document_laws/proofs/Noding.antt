-- The node at a place of a laid tree is that of an event.
use Rattle.std.proofs.Common.{◌≡◌, ◌⊎◌, inl, inr, ℕ, zero, suc, ◌+◌, ◌<◌, ◌^◌, min, Bool, true, false, not, nat_eq, if◌then◌else◌, List, [], ◌∷◌, ◌++◌, length, take, drop, refl, sym, ap, ap₂, subst, ◌∙◌, arith, append_assoc, append-nil}
use Rattle.std.specs.Prelude.{Option, Some, None, slice_get}
use Rattle.std.proofs.lemmas.Bool.{eqb-true}
use Rattle.std.proofs.lemmas.List.{length-take-le}
use Rattle.syntax_kind.specs.declared.syntax_kind.SyntaxKind.{SyntaxKind}
use Rattle.syntax_kind.specs.Kinds.{is_trivia}
use Rattle.tree_model.specs.Tree.{Tree, node, token, Forest, nil, cons, text, child_at, child_count, bytes_before, Place, IsPlace, subtree, start}
use Rattle.tree_model.specs.Edit.{Within}
use Rattle.tree_model.specs.Events.{Event as TreeEvent, enter, leaf, exit, events_of, text_len, BuildsNode}
use Rattle.tree_model.proofs.Balance.{events_of-builds}
use Rattle.tree_model.proofs.EventTexts.{texts-events_of, text_len-texts, forest_text-one}
use Rattle.tree_model.proofs.PlaceLemmas.{places_are_reached}
use Rattle.ras_front_end.specs.Reading.{FrontStep, begins, takes, ends, reports, events_from, Cuts}
use Rattle.token_layout.specs.declared.span.Token.{Token as RawToken}
use Rattle.token_layout.specs.Laid.{IsCut}
use Rattle.grammar_machine.specs.declared.event.Event.{Event}
use Rattle.grammar_machine.specs.declared.event.Event.TheVariants.{Token, Piece, Node, Error}
use Rattle.grammar_machine.specs.declared.event.Part.{Part}
use Rattle.event_layout.specs.Layout.{laid_of, root_of, kind_of_part}
use Rattle.event_layout.specs.Made.{without_trivia, only_tokens, Span, node_of, begin_at, begins_at, Left, trivia_of, past, joined_on, joined, parted_at, parted_on, parted, after, made_by, tokens_as_they_are, made_from, made_of}
use Rattle.event_layout.proofs.Laying.{laid}
use Rattle.event_layout.proofs.Making.{made}
use Rattle.event_layout.proofs.Seeing.{seen_more, told_more, told_begins, told_nothing, seen_begins, seen_end, seen_nothing}
use Rattle.document_laws.specs.Nodes.{seen_of, made_steps, IsOfEvent, NodesAreOfEvents}
use Rattle.event_layout.specs.Filled.{bytes_taken}

abbrev pub Steps : Type 0
Steps = List FrontStep

-- ---- the events of a place

abbrev pub one : Tree → List TreeEvent
one t = events_of (cons t nil)

events_cons : (t : Tree) (r : Forest) → events_of (cons t r) ≡ one t ++ events_of r
events_cons (token k s) r = refl
events_cons (node k c) r = ap (λ (es : List TreeEvent). enter k ∷ es) (sym (append_assoc (events_of c) (exit ∷ []) (events_of r)))

one_long : (t : Tree) → text_len (one t) ≡ length (text t)
one_long t = text_len-texts (one t) ∙ ap length (texts-events_of (cons t nil) ∙ forest_text-one t)

both_long : (es fs : List TreeEvent) → text_len (es ++ fs) ≡ text_len es + text_len fs
both_long [] fs = omega arith
both_long (enter k ∷ es) fs = both_long es fs
both_long (leaf k s ∷ es) fs = omega (arith, both_long es fs)
both_long (exit ∷ es) fs = both_long es fs

-- the events of a tree, which begins behind so many bytes, among others
pub record Among (es : List TreeEvent) (t : Tree) (b : ℕ) : Type 0 where
  pub before : List TreeEvent
  pub behind : List TreeEvent
  pub is : es ≡ before ++ (one t ++ behind)
  pub starts : text_len before ≡ b

mutual
  pub in_forest : (f : Forest) (i : ℕ) (p : Place) → i < child_count f → Within (child_at f i) p → Among (events_of f) (subtree (child_at f i) p) (bytes_before f i + start (child_at f i) p)
  in_forest nil i p h w = absurd (omega (arith, h))
  in_forest (cons t r) zero p h w =
      let a = in_tree t p w in
      record {
        before = a.before;
        behind = a.behind ++ events_of r;
        is =
            events_cons t r ∙ ap (λ (es : List TreeEvent). es ++ events_of r) a.is ∙ append_assoc a.before (one (subtree t p) ++ a.behind) (events_of r)
            ∙ ap (λ (es : List TreeEvent). a.before ++ es) (append_assoc (one (subtree t p)) a.behind (events_of r));
        starts = omega (arith, a.starts);
      }
  in_forest (cons t r) (suc i) p h w =
      let a = in_forest r i p (omega (arith, h)) w in
      record {
        before = one t ++ a.before;
        behind = a.behind;
        is =
            events_cons t r ∙ ap (λ (es : List TreeEvent). one t ++ es) a.is
            ∙ sym (append_assoc (one t) a.before (one (subtree (child_at r i) p) ++ a.behind));
        starts = omega (arith, both_long (one t) a.before, one_long t, a.starts);
      }

  pub in_tree : (t : Tree) (p : Place) → Within t p → Among (one t) (subtree t p) (start t p)
  in_tree t [] w = record { before = []; behind = []; is = sym (append-nil (one t)); starts = refl }
  in_tree (token k s) (i ∷ p) w = absurd (omega (arith, w.0))
  in_tree (node k c) (i ∷ p) w =
      let a = in_forest c i p w.0 w.1 in
      record {
        before = enter k ∷ a.before;
        behind = a.behind ++ exit ∷ [];
        is =
            ap (λ (es : List TreeEvent). enter k ∷ (es ++ exit ∷ [])) a.is
            ∙ ap (λ (es : List TreeEvent). enter k ∷ es) (append_assoc a.before (one (subtree (child_at c i) p) ++ a.behind) (exit ∷ []))
            ∙ ap (λ (es : List TreeEvent). enter k ∷ (a.before ++ es)) (append_assoc (one (subtree (child_at c i) p)) a.behind (exit ∷ []));
        starts = a.starts;
      }

-- a place beneath the root: the root is entered before
record Beneath (t : Tree) (p : Place) (k : SyntaxKind) (f : Forest) : Type 0 where
  root : SyntaxKind
  before : List TreeEvent
  behind : List TreeEvent
  is : one t ≡ enter root ∷ (before ++ enter k ∷ behind)
  starts : text_len before ≡ start t p
  more : List TreeEvent
  own : behind ≡ events_of f ++ more

beneath : (t : Tree) (i : ℕ) (p : Place) (k : SyntaxKind) (f : Forest) → Within t (i ∷ p) → subtree t (i ∷ p) ≡ node k f → Beneath t (i ∷ p) k f
beneath (token l s) i p k f w e = absurd (omega (arith, w.0))
beneath (node l c) i p k f w e =
    let a = in_forest c i p w.0 w.1 in
    let sub : one (subtree (child_at c i) p) ≡ enter k ∷ (events_of f ++ exit ∷ []) = ap one e in
    record {
      root = l;
      before = a.before;
      behind = (events_of f ++ exit ∷ []) ++ (a.behind ++ exit ∷ []);
      is =
          ap (λ (es : List TreeEvent). enter l ∷ (es ++ exit ∷ [])) (a.is ∙ ap (λ (es : List TreeEvent). a.before ++ (es ++ a.behind)) sub)
          ∙ ap (λ (es : List TreeEvent). enter l ∷ es) (append_assoc a.before (enter k ∷ ((events_of f ++ exit ∷ []) ++ a.behind)) (exit ∷ []))
          ∙ ap (λ (es : List TreeEvent). enter l ∷ (a.before ++ enter k ∷ es)) (append_assoc (events_of f ++ exit ∷ []) a.behind (exit ∷ []));
      starts = a.starts;
      more = exit ∷ (a.behind ++ exit ∷ []);
      own = append_assoc (events_of f) (exit ∷ []) (a.behind ++ exit ∷ []);
    }

-- ---- the steps of a place

pub first_same : (a b : TreeEvent) (es fs : List TreeEvent) → a ∷ es ≡ b ∷ fs → a ≡ b
first_same a b es fs h = cc

rest_same : (a b : TreeEvent) (es fs : List TreeEvent) → a ∷ es ≡ b ∷ fs → es ≡ fs
rest_same a b es fs h = cc

kind_same : (k l : SyntaxKind) → enter k ≡ enter l → k ≡ l
kind_same k l h = cc

record SplitAt (steps : Steps) (s : List ℕ) (before : List TreeEvent) (k : SyntaxKind) (behind : List TreeEvent) : Type 0 where
  front : Steps
  back : Steps
  is : steps ≡ front ++ begins k ∷ back
  events : events_from front s ≡ before
  taken : bytes_taken front ≡ text_len before
  left : List ℕ
  later : events_from back left ≡ behind
  cuts : Cuts back left

split_at : (steps : Steps) (s : List ℕ) (before : List TreeEvent) (k : SyntaxKind) (behind : List TreeEvent) → Cuts steps s → events_from steps s ≡ before ++ enter k ∷ behind → SplitAt steps s before k behind
split_at [] s [] k behind c h = (let bad : [] ≡ enter k ∷ behind = h in absurd (cc))
split_at [] s (b ∷ before) k behind c h = (let bad : [] ≡ b ∷ (before ++ enter k ∷ behind) = h in absurd (cc))
split_at (begins j ∷ steps) s [] k behind c h = record {
  front = [];
  back = steps;
  is = ap (λ (i : SyntaxKind). begins i ∷ steps) (kind_same j k (first_same (enter j) (enter k) (events_from steps s) behind h));
  events = refl;
  taken = refl;
  left = s;
  later = rest_same (enter j) (enter k) (events_from steps s) behind h;
  cuts = c;
}
split_at (begins j ∷ steps) s (b ∷ before) k behind c h =
    let w = split_at steps s before k behind c (rest_same (enter j) b (events_from steps s) (before ++ enter k ∷ behind) h) in
    let first : enter j ≡ b = first_same (enter j) b (events_from steps s) (before ++ enter k ∷ behind) h in
    record {
      front = begins j ∷ w.front;
      back = w.back;
      is = ap (λ (xs : Steps). begins j ∷ xs) w.is;
      events = ap₂ (λ (x : TreeEvent) (xs : List TreeEvent). x ∷ xs) first w.events;
      taken = w.taken ∙ ap (λ (x : TreeEvent). text_len (x ∷ before)) first;
      left = w.left;
      later = w.later;
      cuts = w.cuts;
    }
split_at (takes j n ∷ steps) s [] k behind c h = (let bad : leaf j (take n s) ≡ enter k = first_same (leaf j (take n s)) (enter k) (events_from steps (drop n s)) behind h in absurd (cc))
split_at (takes j n ∷ steps) s (b ∷ before) k behind c h =
    let w = split_at steps (drop n s) before k behind c.2 (rest_same (leaf j (take n s)) b (events_from steps (drop n s)) (before ++ enter k ∷ behind) h) in
    let first : leaf j (take n s) ≡ b = first_same (leaf j (take n s)) b (events_from steps (drop n s)) (before ++ enter k ∷ behind) h in
    record {
      front = takes j n ∷ w.front;
      back = w.back;
      is = ap (λ (xs : Steps). takes j n ∷ xs) w.is;
      events = ap₂ (λ (x : TreeEvent) (xs : List TreeEvent). x ∷ xs) first w.events;
      taken =
          (let long : length (take n s) ≡ n = length-take-le n s c.0 in
          let sum : n + bytes_taken w.front ≡ length (take n s) + text_len before = omega (arith, long, w.taken) in sum)
          ∙ ap (λ (x : TreeEvent). text_len (x ∷ before)) first;
      left = w.left;
      later = w.later;
      cuts = w.cuts;
    }
split_at (ends ∷ steps) s [] k behind c h = (let bad : exit ≡ enter k = first_same exit (enter k) (events_from steps s) behind h in absurd (cc))
split_at (ends ∷ steps) s (b ∷ before) k behind c h =
    let w = split_at steps s before k behind c (rest_same exit b (events_from steps s) (before ++ enter k ∷ behind) h) in
    let first : exit ≡ b = first_same exit b (events_from steps s) (before ++ enter k ∷ behind) h in
    record {
      front = ends ∷ w.front;
      back = w.back;
      is = ap (λ (xs : Steps). ends ∷ xs) w.is;
      events = ap₂ (λ (x : TreeEvent) (xs : List TreeEvent). x ∷ xs) first w.events;
      taken = w.taken ∙ ap (λ (x : TreeEvent). text_len (x ∷ before)) first;
      left = w.left;
      later = w.later;
      cuts = w.cuts;
    }
split_at (reports m q ∷ steps) s before k behind c h =
    let w = split_at steps s before k behind c h in
    record { front = reports m q ∷ w.front; back = w.back; is = ap (λ (xs : Steps). reports m q ∷ xs) w.is; events = w.events; taken = w.taken; left = w.left; later = w.later; cuts = w.cuts }

-- ---- lists of steps

-- only nodes begin
abbrev pub OnlyBegins : Steps → Type 0
OnlyBegins [] = Unit {0}
OnlyBegins (begins k ∷ xs) = OnlyBegins xs
OnlyBegins (takes k n ∷ xs) = ⊥
OnlyBegins (ends ∷ xs) = ⊥
OnlyBegins (reports m p ∷ xs) = ⊥

-- no node begins
abbrev NoBegins : Steps → Type 0
NoBegins [] = Unit {0}
NoBegins (begins k ∷ xs) = ⊥
NoBegins (takes k n ∷ xs) = NoBegins xs
NoBegins (ends ∷ xs) = NoBegins xs
NoBegins (reports m p ∷ xs) = NoBegins xs

-- a node of the kind begins
abbrev HasBegin : SyntaxKind → Steps → Type 0
HasBegin k [] = ⊥
HasBegin k (begins j ∷ xs) = (j ≡ k) ⊎ HasBegin k xs
HasBegin k (takes j n ∷ xs) = HasBegin k xs
HasBegin k (ends ∷ xs) = HasBegin k xs
HasBegin k (reports m p ∷ xs) = HasBegin k xs

pub seen_cons : (x : FrontStep) (xs : Steps) → without_trivia (x ∷ xs) ≡ without_trivia (x ∷ []) ++ without_trivia xs
seen_cons x xs = seen_more (x ∷ []) xs

pub told_cons : (x : FrontStep) (xs : Steps) → only_tokens (x ∷ xs) ≡ only_tokens (x ∷ []) ++ only_tokens xs
told_cons x xs = told_more (x ∷ []) xs

begins_seen : (xs : Steps) → OnlyBegins xs → without_trivia xs ≡ xs
begins_seen [] h = seen_nothing
begins_seen (begins k ∷ xs) h = seen_cons (begins k) xs ∙ ap₂ (λ (ys zs : Steps). ys ++ zs) (seen_begins k) (begins_seen xs h)
begins_seen (takes k n ∷ xs) h = absurd h
begins_seen (ends ∷ xs) h = absurd h
begins_seen (reports m p ∷ xs) h = absurd h

pub begins_told : (xs : Steps) → OnlyBegins xs → only_tokens xs ≡ []
begins_told [] h = told_nothing
begins_told (begins k ∷ xs) h = told_cons (begins k) xs ∙ ap₂ (λ (ys zs : Steps). ys ++ zs) (told_begins k) (begins_told xs h)
begins_told (takes k n ∷ xs) h = absurd h
begins_told (ends ∷ xs) h = absurd h
begins_told (reports m p ∷ xs) h = absurd h

only_both : (xs ys : Steps) → OnlyBegins xs → OnlyBegins ys → OnlyBegins (xs ++ ys)
only_both [] ys h k = k
only_both (begins j ∷ xs) ys h k = only_both xs ys h k
only_both (takes j n ∷ xs) ys h k = absurd h
only_both (ends ∷ xs) ys h k = absurd h
only_both (reports m p ∷ xs) ys h k = absurd h

none_both : (xs ys : Steps) → NoBegins xs → NoBegins ys → NoBegins (xs ++ ys)
none_both [] ys h k = k
none_both (begins j ∷ xs) ys h k = absurd h
none_both (takes j n ∷ xs) ys h k = none_both xs ys h k
none_both (ends ∷ xs) ys h k = none_both xs ys h k
none_both (reports m p ∷ xs) ys h k = none_both xs ys h k

has_both : (k : SyntaxKind) (xs ys : Steps) → HasBegin k (xs ++ ys) → HasBegin k xs ⊎ HasBegin k ys
has_both k [] ys h = inr h
has_both k (begins j ∷ xs) ys (inl e) = inl (inl e)
has_both k (begins j ∷ xs) ys (inr h) = elim (has_both k xs ys h) [ inl w ↦ inl (inr w) | inr w ↦ inr w ]
has_both k (takes j n ∷ xs) ys h = has_both k xs ys h
has_both k (ends ∷ xs) ys h = has_both k xs ys h
has_both k (reports m p ∷ xs) ys h = has_both k xs ys h

takes_seen : (b : Bool) (k : SyntaxKind) (n : ℕ) → NoBegins (if b then takes k n ∷ [] else [])
takes_seen true k n = tt
takes_seen false k n = tt

pub seen_one : (k : SyntaxKind) (n : ℕ) → without_trivia (takes k n ∷ []) ≡ (if not (is_trivia k) then takes k n ∷ [] else [])
unfolding without_trivia
seen_one k n = refl

pub seen_report : (m : List ℕ) (p : ℕ) → without_trivia (reports m p ∷ []) ≡ reports m p ∷ []
unfolding without_trivia
seen_report m p = refl

none_seen : (xs : Steps) → NoBegins xs → NoBegins (without_trivia xs)
none_seen [] h = subst NoBegins (sym seen_nothing) tt
none_seen (begins k ∷ xs) h = absurd h
none_seen (takes k n ∷ xs) h =
    subst NoBegins (sym (seen_cons (takes k n) xs ∙ ap (λ (ys : Steps). ys ++ without_trivia xs) (seen_one k n)))
    (none_both (if not (is_trivia k) then takes k n ∷ [] else []) (without_trivia xs) (takes_seen (not (is_trivia k)) k n) (none_seen xs h))
none_seen (ends ∷ xs) h = subst NoBegins (sym (seen_cons ends xs ∙ ap (λ (ys : Steps). ys ++ without_trivia xs) seen_end)) (none_seen xs h)
none_seen (reports m p ∷ xs) h = subst NoBegins (sym (seen_cons (reports m p) xs ∙ ap (λ (ys : Steps). ys ++ without_trivia xs) (seen_report m p))) (none_seen xs h)

-- ---- splits

pub head_same : (x y : FrontStep) (xs ys : Steps) → x ∷ xs ≡ y ∷ ys → x ≡ y
head_same x y xs ys h = cc

pub tail_same : (x y : FrontStep) (xs ys : Steps) → x ∷ xs ≡ y ∷ ys → xs ≡ ys
tail_same x y xs ys h = cc

step_kind : (j k : SyntaxKind) → begins j ≡ begins k → j ≡ k
step_kind j k h = cc

-- a step behind the first ones
record Behind (xs zs us vs : Steps) (k : SyntaxKind) : Type 0 where
  more : Steps
  front : us ≡ xs ++ more
  rest : zs ≡ more ++ begins k ∷ vs

longer : (x y : FrontStep) (xs zs us vs : Steps) (k : SyntaxKind) → x ≡ y → Behind xs zs us vs k → Behind (x ∷ xs) zs (y ∷ us) vs k
longer x y xs zs us vs k e w = record { more = w.more; front = ap₂ (λ (z : FrontStep) (ys : Steps). z ∷ ys) (sym e) w.front; rest = w.rest }

past_none : (xs zs us vs : Steps) (k : SyntaxKind) → NoBegins xs → xs ++ zs ≡ us ++ begins k ∷ vs → Behind xs zs us vs k
past_none [] zs us vs k n h = record { more = us; front = refl; rest = h }
past_none (begins j ∷ xs) zs us vs k n h = absurd n
past_none (takes j i ∷ xs) zs [] vs k n h = (let bad : takes j i ≡ begins k = head_same (takes j i) (begins k) (xs ++ zs) vs h in absurd (cc))
past_none (ends ∷ xs) zs [] vs k n h = (let bad : ends ≡ begins k = head_same ends (begins k) (xs ++ zs) vs h in absurd (cc))
past_none (reports m p ∷ xs) zs [] vs k n h = (let bad : reports m p ≡ begins k = head_same (reports m p) (begins k) (xs ++ zs) vs h in absurd (cc))
past_none (takes j i ∷ xs) zs (u ∷ us) vs k n h =
    longer (takes j i) u xs zs us vs k (head_same (takes j i) u (xs ++ zs) (us ++ begins k ∷ vs) h) (past_none xs zs us vs k n (tail_same (takes j i) u (xs ++ zs) (us ++ begins k ∷ vs) h))
past_none (ends ∷ xs) zs (u ∷ us) vs k n h =
    longer ends u xs zs us vs k (head_same ends u (xs ++ zs) (us ++ begins k ∷ vs) h) (past_none xs zs us vs k n (tail_same ends u (xs ++ zs) (us ++ begins k ∷ vs) h))
past_none (reports m p ∷ xs) zs (u ∷ us) vs k n h =
    longer (reports m p) u xs zs us vs k (head_same (reports m p) u (xs ++ zs) (us ++ begins k ∷ vs) h) (past_none xs zs us vs k n (tail_same (reports m p) u (xs ++ zs) (us ++ begins k ∷ vs) h))

-- a step is among nodes that begin, or behind them
record AmongFirst (xs us : Steps) (k : SyntaxKind) : Type 0 where
  has : HasBegin k xs
  only : OnlyBegins us

past_begins : (xs zs us vs : Steps) (k : SyntaxKind) → OnlyBegins xs → xs ++ zs ≡ us ++ begins k ∷ vs → AmongFirst xs us k ⊎ Behind xs zs us vs k
past_begins [] zs us vs k n h = inr (record { more = us; front = refl; rest = h })
past_begins (begins j ∷ xs) zs [] vs k n h = inl (record { has = inl (step_kind j k (head_same (begins j) (begins k) (xs ++ zs) vs h)); only = tt })
past_begins (begins j ∷ xs) zs (u ∷ us) vs k n h =
    let first : begins j ≡ u = head_same (begins j) u (xs ++ zs) (us ++ begins k ∷ vs) h in
    elim (past_begins xs zs us vs k n (tail_same (begins j) u (xs ++ zs) (us ++ begins k ∷ vs) h)) [
      | inl w ↦ inl (record { has = inr w.has; only = subst (λ (x : FrontStep). OnlyBegins (x ∷ us)) first w.only })
      | inr w ↦ inr (longer (begins j) u xs zs us vs k first w)
    ]
past_begins (takes j i ∷ xs) zs us vs k n h = absurd n
past_begins (ends ∷ xs) zs us vs k n h = absurd n
past_begins (reports m p ∷ xs) zs us vs k n h = absurd n

-- ---- what events make

begin_only : (i : ℕ) (o : Option Span) → OnlyBegins (begin_at i o)
begin_only i None = tt
begin_only i (Some s) = by (nat_eq s.from i)
  where
    by : (b : Bool) → OnlyBegins (if b then begins s.kind ∷ [] else [])
    by true = tt
    by false = tt

begins_none : (root : ℕ) (es : List Event) (i : ℕ) → begins_at root es i 0 ≡ []
unfolding begins_at
begins_none root es i = refl

begins_more : (root : ℕ) (es : List Event) (i n : ℕ) → begins_at root es i (suc n) ≡ begin_at i (node_of root n (slice_get es n)) ++ begins_at root es i n
unfolding begins_at
begins_more root es i n = refl

pub begins_only : (root : ℕ) (es : List Event) (i n : ℕ) → OnlyBegins (begins_at root es i n)
begins_only root es i zero = subst OnlyBegins (sym (begins_none root es i)) tt
begins_only root es i (suc n) =
    subst OnlyBegins (sym (begins_more root es i n))
    (only_both (begin_at i (node_of root n (slice_get es n))) (begins_at root es i n) (begin_only i (node_of root n (slice_get es n))) (begins_only root es i n))

-- the event of a node that begins with event i
record EventOf (root : ℕ) (es : List Event) (i : ℕ) (k : SyntaxKind) : Type 0 where
  number : ℕ
  from : ℕ
  event : slice_get es number ≡ Some (Node k from)
  inner : nat_eq number root ≡ false
  first : min from number ≡ i

node_begins : (root : ℕ) (es : List Event) (i n : ℕ) (k l : SyntaxKind) (from : ℕ) (b c : Bool) → slice_get es n ≡ Some (Node l from) → nat_eq n root ≡ b → nat_eq (min from n) i ≡ c
    → HasBegin k (begin_at i (if b then None else Some (record { kind = l; from = min from n }))) → EventOf root es i k
node_begins root es i n k l from true c e f g h = absurd h
node_begins root es i n k l from false c e f g h = by c g (subst (λ (x : Bool). HasBegin k (if x then begins l ∷ [] else [])) g h)
  where
    by : (x : Bool) → nat_eq (min from n) i ≡ x → HasBegin k (if x then begins l ∷ [] else []) → EventOf root es i k
    by true q (inl same) =
        record { number = n; from = from; event = e ∙ ap (λ (j : SyntaxKind). Some (Node j from)) same; inner = f; first = eqb-true (min from n) i q }
    by true q (inr other) = absurd other
    by false q other = absurd other

event_begins : (root : ℕ) (es : List Event) (i n : ℕ) (k : SyntaxKind) (o : Option Event) → slice_get es n ≡ o → HasBegin k (begin_at i (node_of root n o)) → EventOf root es i k
event_begins root es i n k None e h = absurd h
event_begins root es i n k (Some (Node l from)) e h = node_begins root es i n k l from (nat_eq n root) (nat_eq (min from n) i) e refl refl h
event_begins root es i n k (Some (Token l signs)) e h = absurd h
event_begins root es i n k (Some (Piece p last)) e h = absurd h
event_begins root es i n k (Some (Error m)) e h = absurd h

begun_by : (root : ℕ) (es : List Event) (i n : ℕ) (k : SyntaxKind) → HasBegin k (begins_at root es i n) → EventOf root es i k
begun_by root es i zero k h = absurd (subst (HasBegin k) (begins_none root es i) h)
begun_by root es i (suc n) k h =
    elim (has_both k (begin_at i (node_of root n (slice_get es n))) (begins_at root es i n) (subst (HasBegin k) (begins_more root es i n) h)) [
      | inl w ↦ event_begins root es i n k (slice_get es n) refl w
      | inr w ↦ begun_by root es i n k w
    ]

trivia_none : (ts : List RawToken) → NoBegins (trivia_of ts)
trivia_none [] = tt
trivia_none (t ∷ ts) = by (is_trivia t.kind) (trivia_none ts)
  where
    by : (b : Bool) → NoBegins (trivia_of ts) → NoBegins (if b then takes t.kind t.len ∷ trivia_of ts else [])
    by true h = h
    by false h = tt

joined_none : (k : SyntaxKind) (more : ℕ) (l : Left) → NoBegins (joined k more l).steps
joined_none k more l = by l.tokens
  where
    by : (ts : List RawToken) → NoBegins (joined_on k more ts l.text).steps
    by [] = tt
    by (t ∷ ts) = tt

parted_none : (p : Part) (l : Left) → NoBegins (parted p l).steps
parted_none p l = by l.tokens
  where
    at_dot : (o : Option ℕ) (t : RawToken) (ts : List RawToken) → NoBegins (parted_at p o t ts l.text).steps
    at_dot None t ts = tt
    at_dot (Some dot) t ts = tt

    by : (ts : List RawToken) → NoBegins (parted_on p ts l.text).steps
    by [] = tt
    by (t ∷ ts) = at_dot _ t ts

made_none : (root n : ℕ) (e : Event) (l : Left) → NoBegins (made_by root n e l).steps
made_none root n (Token k signs) l = none_both (trivia_of l.tokens) _ (trivia_none l.tokens) (joined_none k _ (past l))
made_none root n (Piece p last) l = by last
  where
    by : (b : Bool) → NoBegins (after (trivia_of l.tokens) (if b then joined (kind_of_part p) 0 (past l) else parted p (past l))).steps
    by true = none_both (trivia_of l.tokens) _ (trivia_none l.tokens) (joined_none (kind_of_part p) 0 (past l))
    by false = none_both (trivia_of l.tokens) _ (trivia_none l.tokens) (parted_none p (past l))
made_none root n (Node k from) l = by (nat_eq n root)
  where
    by : (b : Bool) → NoBegins (if b then [] else ends ∷ [])
    by true = tt
    by false = tt
made_none root n (Error m) l = tt

rest_none : (ts : List RawToken) → NoBegins (tokens_as_they_are ts)
rest_none [] = tt
rest_none (t ∷ ts) = rest_none ts

pub made_nothing : (root : ℕ) (all : List Event) (n : ℕ) (l : Left) → made_from root all n [] l ≡ tokens_as_they_are l.tokens
unfolding made_from
made_nothing root all n l = refl

pub made_more : (root : ℕ) (all : List Event) (n : ℕ) (e : Event) (es : List Event) (l : Left)
    → made_from root all n (e ∷ es) l ≡ begins_at root all n (length all) ++ ((made_by root n e l).steps ++ made_from root all (n + 1) es (made_by root n e l).left)
unfolding made_from
made_more root all n e es l = refl

-- ---- the node's event

-- so many events are before a node, and make the tokens before it
record EventsBefore (root : ℕ) (all es : List Event) (n : ℕ) (l : Left) (us : Steps) (k : SyntaxKind) : Type 0 where
  count : ℕ
  has : HasBegin k (begins_at root all (n + count) (length all))
  told : only_tokens us ≡ only_tokens (without_trivia (made_steps root n (take count es) l))

events_before : (root : ℕ) (all es : List Event) (n : ℕ) (l : Left) (us vs : Steps) (k : SyntaxKind)
    → without_trivia (made_from root all n es l) ++ ends ∷ [] ≡ us ++ begins k ∷ vs → EventsBefore root all es n l us k
events_before root all [] n l us vs k h =
    let w = past_none (without_trivia (tokens_as_they_are l.tokens)) (ends ∷ []) us vs k (none_seen (tokens_as_they_are l.tokens) (rest_none l.tokens))
    (ap (λ (xs : Steps). without_trivia xs ++ ends ∷ []) (sym (made_nothing root all n l)) ∙ h) in
    absurd (no_end w.more w.rest)
  where
    no_end : (ms : Steps) → ends ∷ [] ≡ ms ++ begins k ∷ vs → ⊥
    no_end [] e = (let bad : ends ≡ begins k = head_same ends (begins k) [] vs e in absurd (cc))
    no_end (m ∷ []) e = (let bad : [] ≡ begins k ∷ vs = tail_same ends m [] (begins k ∷ vs) e in absurd (cc))
    no_end (m ∷ (o ∷ ms)) e = (let bad : [] ≡ o ∷ (ms ++ begins k ∷ vs) = tail_same ends m [] (o ∷ (ms ++ begins k ∷ vs)) e in absurd (cc))
events_before root all (e ∷ es) n l us vs k h =
    let b : Steps = begins_at root all n (length all) in
    let own : Steps = (made_by root n e l).steps in
    let left : Left = (made_by root n e l).left in
    let later : Steps = made_from root all (n + 1) es left in
    let only : OnlyBegins b = begins_only root all n (length all) in
    let parts : without_trivia (made_from root all n (e ∷ es) l) ++ ends ∷ [] ≡ b ++ (without_trivia own ++ (without_trivia later ++ ends ∷ [])) =
    ap (λ (xs : Steps). without_trivia xs ++ ends ∷ []) (made_more root all n e es l)
    ∙ ap (λ (xs : Steps). xs ++ ends ∷ []) (seen_more b (own ++ later) ∙ ap₂ (λ (xs ys : Steps). xs ++ ys) (begins_seen b only) (seen_more own later))
    ∙ append_assoc b (without_trivia own ++ without_trivia later) (ends ∷ [])
    ∙ ap (λ (xs : Steps). b ++ xs) (append_assoc (without_trivia own) (without_trivia later) (ends ∷ [])) in
    elim (past_begins b (without_trivia own ++ (without_trivia later ++ ends ∷ [])) us vs k only (sym parts ∙ h)) [
      | inl w ↦ (let zero_more : n ≡ n + 0 = omega arith in
          record {
            count = 0;
            has = subst (λ (i : ℕ). HasBegin k (begins_at root all i (length all))) zero_more w.has;
            told = begins_told us w.only ∙ sym (ap only_tokens seen_nothing ∙ told_nothing);
          })
      | inr w ↦ (
          let x = past_none (without_trivia own) (without_trivia later ++ ends ∷ []) w.more vs k (none_seen own (made_none root n e l)) w.rest in
          let r = events_before root all es (n + 1) left x.more vs k x.rest in
          let further : (n + 1) + r.count ≡ n + suc r.count = omega arith in
          record {
            count = suc r.count;
            has = subst (λ (i : ℕ). HasBegin k (begins_at root all i (length all))) further r.has;
            told =
                ap only_tokens (w.front ∙ ap (λ (xs : Steps). b ++ xs) x.front) ∙ told_more b (without_trivia own ++ x.more)
                ∙ ap₂ (λ (xs ys : Steps). xs ++ ys) (begins_told b only) (told_more (without_trivia own) x.more)
                ∙ ap (λ (xs : Steps). only_tokens (without_trivia own) ++ xs) r.told
                ∙ sym (ap only_tokens (seen_more own (made_steps root (n + 1) (take r.count es) left)) ∙ told_more (without_trivia own) (without_trivia (made_steps root (n + 1) (take r.count es) left)));
          })
    ]

-- ---- the root comes first

record Starts (xs : Steps) : Type 0 where
  first : FrontStep
  later : Steps
  is : without_trivia xs ≡ first ∷ later

starts_with : (xs : Steps) (s : List ℕ) (k : SyntaxKind) (es : List TreeEvent) → events_from xs s ≡ enter k ∷ es → Starts xs
starts_with [] s k es h = (let bad : [] ≡ enter k ∷ es = h in absurd (cc))
starts_with (begins j ∷ xs) s k es h = record { first = begins j; later = without_trivia xs; is = seen_cons (begins j) xs ∙ ap (λ (ys : Steps). ys ++ without_trivia xs) (seen_begins j) }
starts_with (takes j n ∷ xs) s k es h = (let bad : leaf j (take n s) ≡ enter k = first_same (leaf j (take n s)) (enter k) (events_from xs (drop n s)) es h in absurd (cc))
starts_with (ends ∷ xs) s k es h = (let bad : exit ≡ enter k = first_same exit (enter k) (events_from xs s) es h in absurd (cc))
starts_with (reports m p ∷ xs) s k es h =
    record { first = reports m p; later = without_trivia xs; is = seen_cons (reports m p) xs ∙ ap (λ (ys : Steps). ys ++ without_trivia xs) (seen_report m p) }

made_is : (root : SyntaxKind) (ts : List RawToken) (s : List ℕ) (es : List Event)
    → without_trivia (made_of root ts s es) ≡ begins root ∷ (without_trivia (made_from (root_of es) es 0 es (record { tokens = ts; text = s })) ++ ends ∷ [])
unfolding made_of
made_is root ts s es =
    let m : Steps = made_from (root_of es) es 0 es (record { tokens = ts; text = s }) in
    seen_cons (begins root) (m ++ ends ∷ []) ∙ ap₂ (λ (ys zs : Steps). ys ++ zs) (seen_begins root) (seen_more m (ends ∷ []) ∙ ap (λ (zs : Steps). without_trivia m ++ zs) seen_end)

-- the node's event, and what the steps behind its beginning build
pub record Placed (root : SyntaxKind) (attaching : List SyntaxKind) (s : List ℕ) (ts : List RawToken) (es : List Event) (t : Tree) (p : Place) (k : SyntaxKind) (f : Forest) : Type 0 where
  pub is_of : IsOfEvent root attaching s ts es t p k
  pub left : List ℕ
  pub more : List TreeEvent
  pub later : events_from is_of.behind left ≡ events_of f ++ more
  pub cuts : Cuts is_of.behind left

pub placed : (root : SyntaxKind) (attaching : List SyntaxKind) (s : List ℕ) (ts : List RawToken) (es : List Event) (t : Tree) (i : ℕ) (p : Place) (k : SyntaxKind) (f : Forest)
    → length s < 2 ^ 32 → IsCut ts s → length es < 2 ^ 32 → BuildsNode (events_from (laid_of root attaching s ts es).steps s) t
    → IsPlace t (i ∷ p) → subtree t (i ∷ p) ≡ node k f → Placed root attaching s ts es t (i ∷ p) k f
placed root attaching s ts es t i p k f small cut few built at sub =
    let steps : Steps = (laid_of root attaching s ts es).steps in
    let start_left : Left = record { tokens = ts; text = s } in
    let w : Beneath t (i ∷ p) k f = beneath t i p k f ((places_are_reached t (i ∷ p)).0 at) sub in
    let events : events_from steps s ≡ (enter w.root ∷ w.before) ++ enter k ∷ w.behind = sym (events_of-builds built.0) ∙ w.is in
    let x : SplitAt steps s (enter w.root ∷ w.before) k w.behind = split_at steps s (enter w.root ∷ w.before) k w.behind (laid root attaching s ts es small cut).cuts events in
    let y : Starts x.front = starts_with x.front s w.root w.before x.events in
    let seen : y.first ∷ (y.later ++ begins k ∷ without_trivia x.back) ≡ begins root ∷ (without_trivia (made_from (root_of es) es 0 es start_left) ++ ends ∷ []) =
    sym (ap (λ (xs : Steps). xs ++ begins k ∷ without_trivia x.back) y.is)
    ∙ ap (λ (xs : Steps). without_trivia x.front ++ xs) (sym (seen_cons (begins k) x.back ∙ ap (λ (xs : Steps). xs ++ without_trivia x.back) (seen_begins k)))
    ∙ sym (seen_more x.front (begins k ∷ x.back)) ∙ ap without_trivia (sym x.is) ∙ made root attaching s ts es small cut few ∙ made_is root ts s es in
    let first : y.first ≡ begins root = head_same y.first (begins root) _ _ seen in
    let rest : without_trivia (made_from (root_of es) es 0 es start_left) ++ ends ∷ [] ≡ y.later ++ begins k ∷ without_trivia x.back = sym (tail_same y.first (begins root) _ _ seen) in
    let b : EventsBefore (root_of es) es es 0 start_left y.later k = events_before (root_of es) es es 0 start_left y.later (without_trivia x.back) k rest in
    let e : EventOf (root_of es) es (0 + b.count) k = begun_by (root_of es) es (0 + b.count) (length es) k b.has in
    let count : b.count ≡ min e.from e.number = omega (arith, e.first) in
    let is_of : IsOfEvent root attaching s ts es t (i ∷ p) k = record {
      number = e.number;
      from = e.from;
      event = e.event;
      inner = e.inner;
      before = x.front;
      behind = x.back;
      steps = x.is;
      starts = sym (x.taken ∙ w.starts);
      seen =
          ap only_tokens y.is ∙ ap (λ (z : FrontStep). only_tokens (z ∷ y.later)) first ∙ told_cons (begins root) y.later
          ∙ ap (λ (xs : Steps). xs ++ only_tokens y.later) (told_begins root) ∙ b.told
          ∙ ap (λ (n : ℕ). seen_of (made_steps (root_of es) 0 (take n es) start_left)) count;
    } in
    record { is_of = is_of; left = x.left; more = w.more; later = x.later ∙ w.own; cuts = x.cuts }

pub nodes_of_events : NodesAreOfEvents
nodes_of_events root attaching s ts es t i p k f small cut few built at sub = (placed root attaching s ts es t i p k f small cut few built at sub).is_of
