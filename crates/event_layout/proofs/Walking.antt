-- The walk goes over every event once, and enters every node once.
use Rattle.std.proofs.Common.{◌≡◌, ℕ, zero, suc, ◌+◌, ◌-◌, ◌≤◌, ◌<◌, ◌^◌, min, List, [], ◌∷◌, ◌++◌, length, ap, sym, ◌∙◌, refl, arith, subst, Option, Some, None, Bool, true, false, if◌then◌else◌, nat_lt, nat_eq, add-one, slice_get}
use Rattle.std.proofs.Math.Nat.{min-eq_left}
use Rattle.std.proofs.lemmas.Bool.{eqb-true, eqb-false, ltb-true, ltb-false, lt-ltb, le-ltb}
use Rattle.std.proofs.lemmas.Option.{slice_get_past}
use Rattle.syntax_kind.specs.declared.syntax_kind.SyntaxKind.{SyntaxKind}
use Rattle.ras_front_end.specs.Reading.{begins, ends}
use Rattle.token_layout.specs.declared.span.Token.{Token as RawToken}
use Rattle.grammar_machine.specs.declared.event.Event.{Event}
use Rattle.grammar_machine.specs.declared.event.Event.TheVariants.{Token, Piece, Node, Error}
use Rattle.grammar_machine.specs.declared.event.Part.{Part}
use Rattle.event_layout.specs.Trivia.{lead, part_of, outside_of}
use Rattle.event_layout.specs.Starts.{number_at}
use Rattle.event_layout.specs.Layout.{Given, Laying, pass_on, pass_of, pass_all_of, pass_trivia_of, join_on, join_of, kind_of_part, cut_at, piece_on, piece_of, enter_of, exit_of, begin_of, begin_at_of, obey_of, obey_at_of, entering_of, going_of, advance_of, moves, moves_of, plus_of, dot_of}
use Rattle.event_layout.specs.Made.{Span, node_of}
use Rattle.event_layout.proofs.Chains.{numbers_at, with_number, Chain, Linked, past_last}

-- the next event, and the node that is entered before it, stay the same
pub record Same (s t : Laying) : Type 0 where
  pub next : t.next ≡ s.next
  pub entering : t.entering ≡ s.entering

same_refl : (s : Laying) → Same s s
same_refl s = record { next = refl; entering = refl }

same_trans : (s t u : Laying) → Same s t → Same t u → Same s u
same_trans s t u a b = record { next = b.next ∙ a.next; entering = b.entering ∙ a.entering }

pass_on_same : (ts : List RawToken) (s : Laying) → Same s (pass_on ts s)
pass_on_same [] s = same_refl s
pass_on_same (t ∷ ts) s = record { next = refl; entering = refl }

pass_all_same : (n : ℕ) (s : Laying) → Same s (pass_all_of n s)
unfolding pass_all_of
pass_all_same zero s = same_refl s
pass_all_same (suc n) s = same_trans s (pass_all_of n s) (pass_of (pass_all_of n s)) (pass_all_same n s) (pass_on_same (pass_all_of n s).rest (pass_all_of n s))

join_on_same : (k : SyntaxKind) (more : ℕ) (ts : List RawToken) (s : Laying) → Same s (join_on k more ts s)
join_on_same k more [] s = same_refl s
join_on_same k more (t ∷ ts) s = record { next = refl; entering = refl }

cut_same : (p : Part) (o : Option ℕ) (s : Laying) → Same s (cut_at p o s)
cut_same p None s = same_refl s
cut_same p (Some dot) s = record { next = refl; entering = refl }

piece_on_same : (bytes : List ℕ) (p : Part) (ts : List RawToken) (s : Laying) → Same s (piece_on bytes p ts s)
piece_on_same bytes p [] s = same_refl s
piece_on_same bytes p (t ∷ ts) s = cut_same p (dot_of t.kind (part_of bytes s.position (t.len - s.cut))) s

enter_on_same : (k : SyntaxKind) (b : Bool) (s : Laying) → Same s (if b then record s { depth = s.depth + 1; steps = s.steps ++ begins k ∷ [] } else s)
enter_on_same k true s = record { next = refl; entering = refl }
enter_on_same k false s = same_refl s

exit_on_same : (b : Bool) (s : Laying) → Same s (if b then record s { depth = s.depth - 1; steps = s.steps ++ ends ∷ [] } else s)
exit_on_same true s = record { next = refl; entering = refl }
exit_on_same false s = same_refl s

begin_same : (g : Given) (k : SyntaxKind) (s : Laying) → Same s (begin_of g k s)
begin_same g k s =
    let out = outside_of g.bytes g.attaching k s.position s.rest (lead s.rest) in
    let a = pass_all_of out s in
    let b = enter_of k a in
    same_trans s b (pass_all_of (lead s.rest - out) b) (same_trans s a b (pass_all_same out s) (enter_on_same k (nat_lt a.depth (2 ^ 64 - 1)) a)) (pass_all_same (lead s.rest - out) b)

begin_at_same : (g : Given) (o : Option Event) (s : Laying) → Same s (begin_at_of g o s)
begin_at_same g None s = same_refl s
begin_at_same g (Some (Node k from)) s = begin_same g k s
begin_at_same g (Some (Token k signs)) s = same_refl s
begin_at_same g (Some (Piece p last)) s = same_refl s
begin_at_same g (Some (Error m)) s = same_refl s

piece_event_same : (bytes : List ℕ) (p : Part) (last : Bool) (s : Laying) → Same s (if last then join_of (kind_of_part p) 0 s else piece_of bytes p s)
piece_event_same bytes p true s = join_on_same (kind_of_part p) 0 s.rest s
piece_event_same bytes p false s = piece_on_same bytes p s.rest s

node_event_same : (b : Bool) (s : Laying) → Same s (if b then s else exit_of s)
node_event_same true s = same_refl s
node_event_same false s = exit_on_same (nat_lt 0 s.depth) s

obey_same : (g : Given) (e : Event) (n : ℕ) (s : Laying) → Same s (obey_of g e n s)
obey_same g (Token k signs) n s = same_trans s (pass_trivia_of s) (join_of k (signs - 1) (pass_trivia_of s)) (pass_all_same (lead s.rest) s) (join_on_same k (signs - 1) (pass_trivia_of s).rest (pass_trivia_of s))
obey_same g (Piece p last) n s =
    same_trans s (pass_trivia_of s) (if last then join_of (kind_of_part p) 0 (pass_trivia_of s) else piece_of g.bytes p (pass_trivia_of s)) (pass_all_same (lead s.rest) s) (piece_event_same g.bytes p last (pass_trivia_of s))
obey_same g (Node k from) n s = node_event_same (nat_eq n g.root) s
obey_same g (Error m) n s = record { next = refl; entering = refl }

obey_at_same : (g : Given) (o : Option Event) (n : ℕ) (s : Laying) → Same s (obey_at_of g o n s)
obey_at_same g None n s = same_refl s
obey_at_same g (Some e) n s = obey_same g e n s

-- the nodes of these events are entered
abbrev pub enter_all : Given → List ℕ → Laying → Laying
enter_all g [] s = s
enter_all g (n ∷ ns) s = enter_all g ns (entering_of g n s)

abbrev pub advance_on : Given → Bool → Laying → Laying
advance_on g b s = if b then entering_of g (s.entering - 1) s else going_of g s.next s

pub advance_is : (g : Given) (s : Laying) → advance_of g s ≡ advance_on g (nat_lt 0 s.entering) s
unfolding advance_of
advance_is g s = refl

advance_enters : (g : Given) (s : Laying) (n : ℕ) → s.entering ≡ suc n → advance_of g s ≡ entering_of g n s
advance_enters g s n e =
    let more : nat_lt 0 s.entering ≡ true = lt-ltb 0 s.entering (omega (arith, e)) in
    let one : s.entering - 1 ≡ n = omega (arith, e) in
    advance_is g s ∙ ap (λ b. advance_on g b s) more ∙ ap (λ n. entering_of g n s) one

advance_goes : (g : Given) (s : Laying) (n : ℕ) → s.entering ≡ 0 → s.next ≡ n → advance_of g s ≡ going_of g n s
advance_goes g s n e at =
    let none : nat_lt 0 s.entering ≡ false = le-ltb 0 s.entering (omega (arith, e)) in
    advance_is g s ∙ ap (λ b. advance_on g b s) none ∙ ap (λ n. going_of g n s) at

moves_first : (n : ℕ) (g : Given) (s : Laying) → moves (suc n) g s ≡ moves n g (advance_of g s)
unfolding moves
moves_first zero g s = refl
moves_first (suc n) g s = ap (advance_of g) (moves_first n g s)

moves_last : (n : ℕ) (g : Given) (s : Laying) → moves (suc n) g s ≡ advance_of g (moves n g s)
unfolding moves
moves_last n g s = refl

moves_none : (g : Given) (s : Laying) → moves 0 g s ≡ s
unfolding moves
moves_none g s = refl

moves_both : (m n : ℕ) (g : Given) (s : Laying) → moves (m + n) g s ≡ moves m g (moves n g s)
moves_both zero n g s = let e : zero + n ≡ n = omega arith in ap (λ k. moves k g s) e ∙ sym (moves_none g (moves n g s))
moves_both (suc m) n g s =
    let e : suc m + n ≡ suc (m + n) = omega arith in
    ap (λ k. moves k g s) e ∙ moves_last (m + n) g s ∙ ap (advance_of g) (moves_both m n g s) ∙ sym (moves_last m g (moves n g s))

-- along a list of nodes
pub record Along (g : Given) (ns : List ℕ) (s : Laying) : Type 0 where
  pub moved : moves (length ns) g s ≡ enter_all g ns s
  pub next : (enter_all g ns s).next ≡ s.next
  pub entering : (enter_all g ns s).entering ≡ 0

along : (g : Given) (ns : List ℕ) (s : Laying) → Chain g.links.before s.entering ns → Along g ns s
along g [] s h = record { moved = moves_none g s; next = refl; entering = h }
along g (n ∷ ns) s h =
    let t = entering_of g n s in
    let same = begin_at_same g (slice_get g.events n) (record s { entering = number_at g.links.before n }) in
    let rest = along g ns t (subst (λ e. Chain g.links.before e ns) (sym same.entering) h.2) in
    record {
      moved = moves_first (length ns) g s ∙ ap (moves (length ns) g) (advance_enters g s n h.0) ∙ rest.moved;
      next = rest.next ∙ same.next;
      entering = rest.entering;
    }

-- the first k events, and before each one the nodes that begin with it
unfoldable pub upto : Given → ℕ → Laying → Laying
upto g zero s = s
upto g (suc k) s = going_of g k (enter_all g (numbers_at g.root g.events k (length g.events)) (upto g k s))

-- one for a node whose first event is before event k
abbrev pub one_before : ℕ → Option Span → ℕ
one_before k None = 0
one_before k (Some s) = if nat_lt s.from k then 1 else 0

abbrev pub one_node : Option Span → ℕ
one_node None = 0
one_node (Some s) = 1

-- how many nodes end with the first n events, and how many of them begin before event k
abbrev pub nodes_in : ℕ → List Event → ℕ → ℕ
nodes_in root es zero = 0
nodes_in root es (suc n) = nodes_in root es n + one_node (node_of root n (slice_get es n))

abbrev pub nodes_before : ℕ → List Event → ℕ → ℕ → ℕ
nodes_before root es k zero = 0
nodes_before root es k (suc n) = nodes_before root es k n + one_before k (node_of root n (slice_get es n))

one_more_on : (k from n : ℕ) (ns : List ℕ) (b c d : Bool) → nat_lt from (suc k) ≡ b → nat_lt from k ≡ c → nat_eq from k ≡ d
    → (if b then 1 else 0) + length ns ≡ (if c then 1 else 0) + length (if d then n ∷ ns else ns)
one_more_on k from n ns true true true e f g = absurd (omega (arith, ltb-true from k f, eqb-true from k g))
one_more_on k from n ns true true false e f g = refl
one_more_on k from n ns true false true e f g = omega arith
one_more_on k from n ns true false false e f g = absurd (eqb-false from k g (omega (arith, ltb-true from (suc k) e, ltb-false from k f)))
one_more_on k from n ns false true d e f g = absurd (omega (arith, ltb-false from (suc k) e, ltb-true from k f))
one_more_on k from n ns false false true e f g = absurd (omega (arith, ltb-false from (suc k) e, eqb-true from k g))
one_more_on k from n ns false false false e f g = refl

one_more : (k n : ℕ) (o : Option Span) (ns : List ℕ) → one_before (suc k) o + length ns ≡ one_before k o + length (with_number k n o ns)
one_more k n None ns = refl
one_more k n (Some s) ns = one_more_on k s.from n ns (nat_lt s.from (suc k)) (nat_lt s.from k) (nat_eq s.from k) refl refl refl

pub before_more : (root : ℕ) (es : List Event) (k n : ℕ) → nodes_before root es (suc k) n ≡ nodes_before root es k n + length (numbers_at root es k n)
before_more root es k zero = refl
before_more root es k (suc n) =
    let o = node_of root n (slice_get es n) in
    omega (arith, before_more root es k n, one_more k n o (numbers_at root es k n))

one_is : (k n : ℕ) (root : ℕ) (o : Option Event) → n < k → one_before k (node_of root n o) ≡ one_node (node_of root n o)
one_is k n root None h = refl
one_is k n root (Some (Node kind from)) h = node_one (nat_eq n root) where
  node_one : (b : Bool) → one_before k (if b then None else Some (record { kind = kind; from = min from n })) ≡ one_node (if b then None else Some (record { kind = kind; from = min from n }))
  node_one true = refl
  node_one false = ap (λ b. if b then 1 else 0) (lt-ltb (min from n) k (omega (arith, h)))
one_is k n root (Some (Token kind signs)) h = refl
one_is k n root (Some (Piece p last)) h = refl
one_is k n root (Some (Error m)) h = refl

-- the nodes that end with the first n events begin before event k, if it is not among these
pub before_all : (root : ℕ) (es : List Event) (k n : ℕ) → n ≤ k → nodes_before root es k n ≡ nodes_in root es n
before_all root es k zero h = refl
before_all root es k (suc n) h = omega (arith, before_all root es k n (omega (arith, h)), one_is k n root (slice_get es n) (omega (arith, h)))

before_on : (root : ℕ) (es : List Event) (k m n : ℕ) (b : Bool) → nat_lt m (suc n) ≡ b → m ≤ suc n → (m ≤ n → nodes_before root es k m ≤ nodes_before root es k n) → nodes_before root es k m ≤ nodes_before root es k (suc n)
before_on root es k m n true e h more = omega (arith, more (omega (arith, ltb-true m (suc n) e)))
before_on root es k m n false e h more =
    let same : m ≡ suc n = omega (arith, h, ltb-false m (suc n) e) in
    subst (λ m. nodes_before root es k m ≤ nodes_before root es k (suc n)) (sym same) (omega arith)

pub before_grows : (root : ℕ) (es : List Event) (k m n : ℕ) → m ≤ n → nodes_before root es k m ≤ nodes_before root es k n
before_grows root es k m zero h = let e : m ≡ 0 = omega (arith, h) in subst (λ m. nodes_before root es k m ≤ 0) (sym e) (omega arith)
before_grows root es k m (suc n) h = before_on root es k m n (nat_lt m (suc n)) refl h (before_grows root es k m n)

at_most_one : (k : ℕ) (o : Option Span) → one_before k o ≤ 1
at_most_one k None = omega arith
at_most_one k (Some s) = zero_or_one (nat_lt s.from k) where
  zero_or_one : (b : Bool) → (if b then 1 else 0) ≤ 1
  zero_or_one true = omega arith
  zero_or_one false = omega arith

pub before_few : (root : ℕ) (es : List Event) (k n : ℕ) → nodes_before root es k n ≤ n
before_few root es k zero = omega arith
before_few root es k (suc n) = omega (arith, before_few root es k n, at_most_one k (node_of root n (slice_get es n)))

pub none_before : (root : ℕ) (es : List Event) (n : ℕ) → nodes_before root es 0 n ≡ 0
none_before root es zero = refl
none_before root es (suc n) = omega (arith, none_before root es n, before_zero (node_of root n (slice_get es n))) where
  before_zero : (o : Option Span) → one_before 0 o ≡ 0
  before_zero None = refl
  before_zero (Some s) = ap (λ b. if b then 1 else 0) (le-ltb s.from 0 (omega arith))

-- the walk has gone over the first k events
pub record Reached (g : Given) (k : ℕ) (s : Laying) : Type 0 where
  pub moved : moves (nodes_before g.root g.events k (length g.events) + k) g s ≡ upto g k s
  pub next : (upto g k s).next ≡ k
  pub entering : (upto g k s).entering ≡ number_at g.links.last k

module _ (g : Given) (s : Laying) (start : s.next ≡ 0) (enters : s.entering ≡ number_at g.links.last 0) (small : length g.events ≤ 2 ^ 32 - 1) (links : Linked g.root g.events (length g.events) g.links) where
  along_at : (k : ℕ) → k < length g.events → (upto g k s).entering ≡ number_at g.links.last k → Along g (numbers_at g.root g.events k (length g.events)) (upto g k s)
  along_at k within e = along g (numbers_at g.root g.events k (length g.events)) (upto g k s) (subst (λ e. Chain g.links.before e (numbers_at g.root g.events k (length g.events))) (sym e) (links.chains k within))

  reached_more : (k : ℕ) → k < length g.events → Reached g k s → Reached g (suc k) s
  unfolding upto
  reached_more k within h =
      let ns = numbers_at g.root g.events k (length g.events) in
      let all = length g.events in
      let a = along_at k within h.entering in
      let u = enter_all g ns (upto g k s) in
      let count : nodes_before g.root g.events (suc k) all + suc k ≡ suc (length ns + (nodes_before g.root g.events k all + k)) = omega (arith, before_more g.root g.events k all) in
      let plus : plus_of k ≡ suc k = min-eq_left (omega (arith, within, small)) ∙ add-one k in
      let same = obey_at_same g (slice_get g.events k) k (record u { next = plus_of k; entering = number_at g.links.last (plus_of k) }) in
      record {
        moved = ap (λ n. moves n g s) count ∙ moves_last (length ns + (nodes_before g.root g.events k all + k)) g s
            ∙ ap (advance_of g) (moves_both (length ns) (nodes_before g.root g.events k all + k) g s ∙ ap (moves (length ns) g) h.moved ∙ a.moved)
            ∙ advance_goes g u k a.entering (a.next ∙ h.next);
        next = same.next ∙ plus;
        entering = same.entering ∙ ap (number_at g.links.last) plus;
      }

  pub reached : (k : ℕ) → k ≤ length g.events → Reached g k s
  unfolding upto
  reached zero h = record {
    moved = let none : nodes_before g.root g.events 0 (length g.events) + 0 ≡ 0 = omega (arith, none_before g.root g.events (length g.events)) in ap (λ n. moves n g s) none ∙ moves_none g s;
    next = start;
    entering = enters;
  }
  reached (suc k) h = reached_more k (omega (arith, h)) (reached k (omega (arith, h)))

-- behind the last event nothing more is laid
pub record Idle (g : Given) (s t : Laying) : Type 0 where
  pub next : length g.events ≤ t.next
  pub entering : t.entering ≡ 0
  pub rest : t.rest ≡ s.rest
  pub cut : t.cut ≡ s.cut
  pub position : t.position ≡ s.position
  pub depth : t.depth ≡ s.depth
  pub steps : t.steps ≡ s.steps
  pub faults : t.faults ≡ s.faults

idle_once : (g : Given) (s t : Laying) → length g.events ≤ 2 ^ 32 - 1 → length g.links.last ≡ length g.events → Idle g s t → Idle g s (advance_of g t)
idle_once g s t small slots h =
    let none : slice_get g.events t.next ≡ None = slice_get_past g.events t.next h.next in
    let u : Laying = record t { next = plus_of t.next; entering = number_at g.links.last (plus_of t.next) } in
    let on : length g.events ≤ plus_of t.next = omega (arith, h.next, small) in
    let is : advance_of g t ≡ u = advance_goes g t t.next h.entering refl ∙ ap (λ o. obey_at_of g o t.next u) none in
    let idle : Idle g s u = record { next = on; entering = past_last g.links.last (plus_of t.next) (omega (arith, on, slots)); rest = h.rest; cut = h.cut; position = h.position; depth = h.depth; steps = h.steps; faults = h.faults } in
    subst (Idle g s) (sym is) idle

pub idle : (n : ℕ) (g : Given) (s t : Laying) → length g.events ≤ 2 ^ 32 - 1 → length g.links.last ≡ length g.events → Idle g s t → Idle g s (moves n g t)
unfolding moves
idle zero g s t small slots h = h
idle (suc n) g s t small slots h = idle_once g s (moves n g t) small slots (idle n g s t small slots h)

-- all events are laid
pub all_moves : (g : Given) (s : Laying) → s.next ≡ 0 → s.entering ≡ number_at g.links.last 0 → length g.events ≤ 2 ^ 32 - 1 → Linked g.root g.events (length g.events) g.links
    → Idle g (upto g (length g.events) s) (moves (moves_of (length g.events)) g s)
all_moves g s start enters small links =
    let all = length g.events in
    let r = reached g s start enters small links all (omega arith) in
    let u = upto g all s in
    let count = nodes_before g.root g.events all all + all in
    let few : nodes_before g.root g.events all all ≤ all = before_few g.root g.events all all in
    let twice : moves_of all ≡ (all - nodes_before g.root g.events all all) + count = min-eq_left (omega (arith, small)) ∙ omega (arith, few) in
    let is : moves (moves_of all) g s ≡ moves (all - nodes_before g.root g.events all all) g u = ap (λ n. moves n g s) twice ∙ moves_both (all - nodes_before g.root g.events all all) count g s ∙ ap (moves (all - nodes_before g.root g.events all all) g) r.moved in
    let here : Idle g u u = record { next = omega (arith, r.next); entering = r.entering ∙ past_last g.links.last all (omega (arith, links.slots)); rest = refl; cut = refl; position = refl; depth = refl; steps = refl; faults = refl } in
    subst (Idle g u) (sym is) (idle (all - nodes_before g.root g.events all all) g u u small links.slots here)
