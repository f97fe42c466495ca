-- The steps are those that the events make.
use Rattle.std.proofs.Common.{◌≡◌, ℕ, zero, suc, ◌+◌, ◌-◌, ◌≤◌, ◌<◌, ◌^◌, min, List, [], ◌∷◌, ◌++◌, length, drop, ap, sym, ◌∙◌, refl, arith, subst, Option, Some, None, Bool, true, false, if◌then◌else◌, nat_eq, add-one, append_assoc, append-nil, slice_get}
use Rattle.std.proofs.lemmas.List.{drop_all}
use Rattle.syntax_kind.specs.declared.syntax_kind.SyntaxKind.{SyntaxKind}
use Rattle.syntax_kind.specs.Kinds.{is_trivia}
use Rattle.ras_front_end.specs.Reading.{FrontStep, begins, takes, ends}
use Rattle.token_layout.specs.declared.span.Token.{Token as RawToken}
use Rattle.token_layout.specs.Laid.{IsCut}
use Rattle.grammar_machine.specs.declared.event.Event.{Event}
use Rattle.grammar_machine.specs.declared.event.Event.TheVariants.{Token, Piece, Node, Error}
use Rattle.event_layout.specs.Starts.{number_at}
use Rattle.event_layout.specs.Layout.{Given, Laying, given, kind_of_part, root_of, pass_on, pass_of, pass_all_of, exit_all_of, begin_of, begin_at_of, obey_of, obey_at_of, entering_of, plus_of, moves, moves_of, start_of, finish_of, laid_with, laid_of}
use Rattle.event_layout.specs.Made.{without_trivia, only_tokens, Span, Made, trivia_of, after, joined, parted, node_of, begin_at, begins_at, Left, past_trivia, past, made_by, tokens_as_they_are, made_from, made_of}
use Rattle.event_layout.proofs.Moves.{exit_all_none}
use Rattle.event_layout.proofs.Keeping.{Kept, obey_at_kept}
use Rattle.event_layout.proofs.Laying.{started}
use Rattle.event_layout.proofs.Chains.{with_number, numbers_at, Linked, starts_linked, first_at, nothing_at}
use Rattle.event_layout.proofs.Walking.{enter_all, upto, one_node, nodes_in, nodes_before, before_more, before_all, before_grows, before_few, none_before, all_moves}
use Rattle.event_layout.proofs.Seeing.{left_on, left_of, all_left, seen_more, seen_begins, seen_trivia, seen_end, seen_nothing, told, told_more, told_begins, told_end, told_nothing, after_past, past_past, past_on, past_stops, begin_seen, Obeyed, obeyed}

record IsNode (o : Option Event) (s : Span) : Type 0 where
  from : ℕ
  is : o ≡ Some (Node s.kind from)

node_on : (k : SyntaxKind) (from start : ℕ) (s : Span) (b : Bool) → (if b then None else Some (record { kind = k; from = start })) ≡ Some s → IsNode (Some (Node k from)) s
node_on k from start s true h = (let bad : ◌≡◌ {A = Option Span} None (Some s) = h in absurd (cc))
node_on k from start s false h =
    let r : Span = record { kind = k; from = start } in
    let same : ◌≡◌ {A = Option Span} (Some r) (Some s) = h in
    let one : r ≡ s = cc in
    record { from = from; is = ap (λ (s : Span). Some (Node s.kind from)) one }

no_span : (s : Span) → ◌≡◌ {A = Option Span} None (Some s) → ⊥
no_span s h = cc

node_is : (root n : ℕ) (o : Option Event) (s : Span) → node_of root n o ≡ Some s → IsNode o s
node_is root n None s h = absurd (no_span s h)
node_is root n (Some (Node k from)) s h = node_on k from (min from n) s (nat_eq n root) h
node_is root n (Some (Token k signs)) s h = absurd (no_span s h)
node_is root n (Some (Piece p last)) s h = absurd (no_span s h)
node_is root n (Some (Error m)) s h = absurd (no_span s h)

record Entered (root : SyntaxKind) (text : List ℕ) (steps : List FrontStep) (count : ℕ) (s t : Laying) : Type 0 where
  seen : without_trivia t.steps ≡ without_trivia s.steps ++ without_trivia steps
  tokens : told text t ≡ told text s
  depth : t.depth ≡ s.depth + count
  left : past (left_of text t) ≡ past (left_of text s)
  kept : Kept root text t

module _ (root : SyntaxKind) (g : Given) (small : length g.bytes < 2 ^ 32) where
  -- the nodes of these events begin
  Enters : List FrontStep → List ℕ → Type 0
  Enters steps ns = (s : Laying) → s.depth + length ns < 2 ^ 64 → Kept root g.bytes s → Entered root g.bytes steps (length ns) s (enter_all g ns s)

  enters_none : Enters [] []
  unfolding Enters
  enters_none s deep h = record { seen = sym (ap (λ l. without_trivia s.steps ++ l) seen_nothing ∙ append-nil (without_trivia s.steps)); tokens = refl; depth = omega arith; left = refl; kept = h }

  enters_on : (b : Bool) (m : ℕ) (sp : Span) (steps : List FrontStep) (ns : List ℕ) → IsNode (slice_get g.events m) sp → Enters steps ns → Enters ((if b then begins sp.kind ∷ [] else []) ++ steps) (if b then m ∷ ns else ns)
  unfolding Enters
  enters_on false m sp steps ns node more s deep h = more s deep h
  enters_on true m sp steps ns node more s deep h =
      let u : Laying = record s { entering = number_at g.links.before m } in
      let v = begin_of g sp.kind u in
      let is : entering_of g m s ≡ v = ap (λ o. begin_at_of g o u) node.is in
      let x = begin_seen root g.bytes small g sp.kind u (omega (arith, deep)) h in
      let y = more v (omega (arith, deep, x.depth)) x.kept in
      let z : Entered root g.bytes (begins sp.kind ∷ steps) (suc (length ns)) s (enter_all g ns v) = record {
        seen = y.seen ∙ ap (λ l. l ++ without_trivia steps) x.seen ∙ append_assoc (without_trivia s.steps) (begins sp.kind ∷ []) (without_trivia steps) ∙ ap (λ l. without_trivia s.steps ++ l) (sym (seen_more (begins sp.kind ∷ []) steps ∙ ap (λ l. l ++ without_trivia steps) (seen_begins sp.kind)));
        tokens = y.tokens ∙ x.tokens;
        depth = omega (arith, y.depth, x.depth);
        left = y.left ∙ x.left;
        kept = y.kept;
      } in
      subst (λ v. Entered root g.bytes (begins sp.kind ∷ steps) (suc (length ns)) s (enter_all g ns v)) (sym is) z

  enters_one : (i m : ℕ) (o : Option Span) (steps : List FrontStep) (ns : List ℕ) → node_of g.root m (slice_get g.events m) ≡ o → Enters steps ns → Enters (begin_at i o ++ steps) (with_number i m o ns)
  enters_one i m None steps ns e more = more
  enters_one i m (Some sp) steps ns e more = enters_on (nat_eq sp.from i) m sp steps ns (node_is g.root m (slice_get g.events m) sp e) more

  enters : (i m : ℕ) → Enters (begins_at g.root g.events i m) (numbers_at g.root g.events i m)
  unfolding begins_at
  enters i zero = enters_none
  enters i (suc m) = enters_one i m (node_of g.root m (slice_get g.events m)) (begins_at g.root g.events i m) (numbers_at g.root g.events i m) refl (enters i m)

  entered : (i m : ℕ) (s : Laying) → s.depth + length (numbers_at g.root g.events i m) < 2 ^ 64 → Kept root g.bytes s
      → Entered root g.bytes (begins_at g.root g.events i m) (length (numbers_at g.root g.events i m)) s (enter_all g (numbers_at g.root g.events i m) s)
  unfolding Enters
  entered i m = enters i m

-- white space and comments come first among the tokens
rest_on : (t : RawToken) (ts : List RawToken) (text : List ℕ) (b : Bool) → is_trivia t.kind ≡ b → tokens_as_they_are ts ≡ trivia_of ts ++ tokens_as_they_are (past_trivia ts (drop t.len text)).tokens
    → takes t.kind t.len ∷ tokens_as_they_are ts ≡ (if b then takes t.kind t.len ∷ trivia_of ts else []) ++ tokens_as_they_are (past_trivia (t ∷ ts) text).tokens
rest_on t ts text true e h = ap (λ l. takes t.kind t.len ∷ l) (h ∙ ap (λ (l : Left). trivia_of ts ++ tokens_as_they_are l.tokens) (sym (past_on t ts text e)))
rest_on t ts text false e h = ap (λ (l : Left). tokens_as_they_are l.tokens) (sym (past_stops t ts text e))

rest_is : (ts : List RawToken) (text : List ℕ) → tokens_as_they_are ts ≡ trivia_of ts ++ tokens_as_they_are (past_trivia ts text).tokens
rest_is [] text = refl
rest_is (t ∷ ts) text = rest_on t ts text (is_trivia t.kind) refl (rest_is ts (drop t.len text))

-- the rest of the tokens
leaves_on : (t : RawToken) (ts : List RawToken) (text : List ℕ) (b : Bool) → is_trivia t.kind ≡ b → without_trivia (tokens_as_they_are (past_trivia ts (drop t.len text)).tokens) ≡ without_trivia (tokens_as_they_are ts)
    → without_trivia (tokens_as_they_are (past_trivia (t ∷ ts) text).tokens) ≡ without_trivia (takes t.kind t.len ∷ tokens_as_they_are ts)
leaves_on t ts text true e h =
    let here : Left = record { tokens = t ∷ ts; text = text } in
    ap (λ (b : Bool). without_trivia (tokens_as_they_are (if b then past_trivia ts (drop t.len text) else here).tokens)) e ∙ h
    ∙ sym (seen_more (takes t.kind t.len ∷ []) (tokens_as_they_are ts) ∙ ap (λ l. l ++ without_trivia (tokens_as_they_are ts)) (seen_trivia t.kind t.len e))
leaves_on t ts text false e h =
    let here : Left = record { tokens = t ∷ ts; text = text } in
    ap (λ (b : Bool). without_trivia (tokens_as_they_are (if b then past_trivia ts (drop t.len text) else here).tokens)) e

leaves : (ts : List RawToken) (text : List ℕ) → without_trivia (tokens_as_they_are (past_trivia ts text).tokens) ≡ without_trivia (tokens_as_they_are ts)
leaves [] text = refl
leaves (t ∷ ts) text = leaves_on t ts text (is_trivia t.kind) refl (leaves ts (drop t.len text))

same_leaves : (l m : Left) → past l ≡ past m → without_trivia (tokens_as_they_are l.tokens) ≡ without_trivia (tokens_as_they_are m.tokens)
same_leaves l m e = sym (leaves l.tokens l.text) ∙ ap (λ (l : Left). without_trivia (tokens_as_they_are l.tokens)) e ∙ leaves m.tokens m.text

pass_first : (n : ℕ) (s : Laying) → pass_all_of (suc n) s ≡ pass_all_of n (pass_of s)
unfolding pass_all_of
pass_first zero s = refl
pass_first (suc n) s = ap pass_of (pass_first n s)

passed_none : (s : Laying) → pass_all_of 0 s ≡ s
unfolding pass_all_of
passed_none s = refl

record All (ts : List RawToken) (s t : Laying) : Type 0 where
  steps : t.steps ≡ s.steps ++ tokens_as_they_are (left_on s.cut ts)
  depth : t.depth ≡ s.depth

all_passed : (ts : List RawToken) (s : Laying) → s.rest ≡ ts → All ts s (pass_all_of (length ts) s)
all_passed [] s e = record { steps = ap (λ (t : Laying). t.steps) (passed_none s) ∙ sym (append-nil s.steps); depth = ap (λ (t : Laying). t.depth) (passed_none s) }
all_passed (t ∷ ts) s e =
    let a = pass_on (t ∷ ts) s in
    let is : pass_all_of (suc (length ts)) s ≡ pass_all_of (length ts) a = pass_first (length ts) s ∙ ap (λ z. pass_all_of (length ts) (pass_on z s)) e in
    let x = all_passed ts a refl in
    let done : All (t ∷ ts) s (pass_all_of (length ts) a) = record {
      steps = x.steps ∙ append_assoc s.steps (takes t.kind (t.len - s.cut) ∷ []) (tokens_as_they_are (left_on 0 ts)) ∙ ap (λ z. s.steps ++ takes t.kind (t.len - s.cut) ∷ tokens_as_they_are z) (all_left ts);
      depth = x.depth;
    } in
    subst (All (t ∷ ts) s) (sym is) done

finished : (s : Laying) → s.depth ≡ 0 → (finish_of s).steps ≡ (s.steps ++ tokens_as_they_are (left_on s.cut s.rest)) ++ ends ∷ []
finished s none =
    let p = pass_all_of (length s.rest) s in
    let x = all_passed s.rest s refl in
    let closed : exit_all_of p.depth p ≡ p = ap (λ n. exit_all_of n p) (x.depth ∙ none) ∙ exit_all_none p in
    ap (λ (t : Laying). t.steps ++ ends ∷ []) closed ∙ ap (λ l. l ++ ends ∷ []) x.steps

module _ (root : SyntaxKind) (g : Given) (ts : List RawToken) where
  -- the first k events are laid
  record At (s : Laying) (k : ℕ) : Type 0 where
    left : Left
    same : past (left_of g.bytes s) ≡ past left
    whole : without_trivia s.steps ++ without_trivia (made_from g.root g.events k (drop k g.events) left) ≡ begins root ∷ without_trivia (made_from g.root g.events 0 g.events (record { tokens = ts; text = g.bytes }))
    tokens : told g.bytes s ++ only_tokens (made_from g.root g.events k (drop k g.events) (past left)) ≡ only_tokens (made_from g.root g.events 0 g.events (record { tokens = ts; text = g.bytes }))
    depth : s.depth + nodes_in g.root g.events k ≡ nodes_before g.root g.events k (length g.events)
    kept : Kept root g.bytes s

made_more : (root : ℕ) (all : List Event) (k : ℕ) (e : Event) (es : List Event) (l : Left)
    → without_trivia (made_from root all k (e ∷ es) l) ≡ without_trivia (begins_at root all k (length all)) ++ (without_trivia (made_by root k e l).steps ++ without_trivia (made_from root all (suc k) es (made_by root k e l).left))
unfolding made_from
made_more root all k e es l =
    let m = made_by root k e l in
    seen_more (begins_at root all k (length all)) (m.steps ++ made_from root all (k + 1) es m.left)
    ∙ ap (λ z. without_trivia (begins_at root all k (length all)) ++ z) (seen_more m.steps (made_from root all (k + 1) es m.left) ∙ ap (λ n. without_trivia m.steps ++ without_trivia (made_from root all n es m.left)) (add-one k))

made_none : (root : ℕ) (all : List Event) (k : ℕ) (l : Left) → made_from root all k [] l ≡ tokens_as_they_are l.tokens
unfolding made_from
made_none root all k l = refl

begin_untold_on : (k : SyntaxKind) (b : Bool) → only_tokens (if b then begins k ∷ [] else []) ≡ []
begin_untold_on k true = told_begins k
begin_untold_on k false = told_nothing

begin_untold : (i : ℕ) (o : Option Span) → only_tokens (begin_at i o) ≡ []
begin_untold i None = told_nothing
begin_untold i (Some s) = begin_untold_on s.kind (nat_eq s.from i)

begins_untold : (root : ℕ) (es : List Event) (i n : ℕ) → only_tokens (begins_at root es i n) ≡ []
unfolding begins_at
begins_untold root es i zero = told_nothing
begins_untold root es i (suc n) =
    let o = node_of root n (slice_get es n) in
    told_more (begin_at i o) (begins_at root es i n) ∙ ap (λ l. l ++ only_tokens (begins_at root es i n)) (begin_untold i o) ∙ begins_untold root es i n

made_told : (root : ℕ) (all : List Event) (k : ℕ) (e : Event) (es : List Event) (l : Left)
    → only_tokens (made_from root all k (e ∷ es) l) ≡ only_tokens (made_by root k e l).steps ++ only_tokens (made_from root all (suc k) es (made_by root k e l).left)
unfolding made_from
made_told root all k e es l =
    let m = made_by root k e l in
    let more = made_from root all (k + 1) es m.left in
    told_more (begins_at root all k (length all)) (m.steps ++ more)
    ∙ ap (λ z. z ++ only_tokens (m.steps ++ more)) (begins_untold root all k (length all))
    ∙ told_more m.steps more
    ∙ ap (λ n. only_tokens m.steps ++ only_tokens (made_from root all n es m.left)) (add-one k)

-- what is made, with white space and comments first
Splits : ℕ → List Event → ℕ → List Event → Type 0
Splits root all k es = (l : Left) → only_tokens (made_from root all k es l) ≡ only_tokens (trivia_of l.tokens) ++ only_tokens (made_from root all k es (past l))

token_splits : (root : ℕ) (all : List Event) (k : ℕ) (es : List Event) (l : Left) (m behind : Made) → behind ≡ m
    → only_tokens (trivia_of l.tokens ++ m.steps) ++ only_tokens (made_from root all k es m.left) ≡ only_tokens (trivia_of l.tokens) ++ (only_tokens behind.steps ++ only_tokens (made_from root all k es behind.left))
token_splits root all k es l m behind e =
    ap (λ z. z ++ only_tokens (made_from root all k es m.left)) (told_more (trivia_of l.tokens) m.steps)
    ∙ append_assoc (only_tokens (trivia_of l.tokens)) (only_tokens m.steps) (only_tokens (made_from root all k es m.left))
    ∙ ap (λ (m : Made). only_tokens (trivia_of l.tokens) ++ (only_tokens m.steps ++ only_tokens (made_from root all k es m.left))) (sym e)

piece_splits : (root : ℕ) (all : List Event) (k : ℕ) (es : List Event) (l : Left) (p : _) (last : Bool)
    → only_tokens (trivia_of l.tokens ++ (if last then joined (kind_of_part p) 0 (past l) else parted p (past l)).steps) ++ only_tokens (made_from root all k es (if last then joined (kind_of_part p) 0 (past l) else parted p (past l)).left)
    ≡ only_tokens (trivia_of l.tokens) ++ (only_tokens (after (trivia_of (past l).tokens) (if last then joined (kind_of_part p) 0 (past (past l)) else parted p (past (past l)))).steps ++ only_tokens (made_from root all k es (if last then joined (kind_of_part p) 0 (past (past l)) else parted p (past (past l))).left))
piece_splits root all k es l p true = token_splits root all k es l (joined (kind_of_part p) 0 (past l)) (after (trivia_of (past l).tokens) (joined (kind_of_part p) 0 (past (past l)))) (after_past (joined (kind_of_part p) 0) l)
piece_splits root all k es l p false = token_splits root all k es l (parted p (past l)) (after (trivia_of (past l).tokens) (parted p (past (past l)))) (after_past (parted p) l)

none_splits : (root : ℕ) (all : List Event) (k : ℕ) (es : List Event) (l : Left) (xs : List FrontStep) → only_tokens xs ≡ [] → Splits root all k es
    → only_tokens xs ++ only_tokens (made_from root all k es l) ≡ only_tokens (trivia_of l.tokens) ++ (only_tokens xs ++ only_tokens (made_from root all k es (past l)))
unfolding Splits
none_splits root all k es l xs e h =
    ap (λ z. z ++ only_tokens (made_from root all k es l)) e ∙ h l ∙ ap (λ z. only_tokens (trivia_of l.tokens) ++ (z ++ only_tokens (made_from root all k es (past l)))) (sym e)

ends_untold : (b : Bool) → only_tokens (if b then [] else ends ∷ []) ≡ []
ends_untold true = told_nothing
ends_untold false = told_end

event_splits : (root : ℕ) (all : List Event) (k : ℕ) (e : Event) (es : List Event) (l : Left) → Splits root all (suc k) es
    → only_tokens (made_by root k e l).steps ++ only_tokens (made_from root all (suc k) es (made_by root k e l).left)
    ≡ only_tokens (trivia_of l.tokens) ++ (only_tokens (made_by root k e (past l)).steps ++ only_tokens (made_from root all (suc k) es (made_by root k e (past l)).left))
event_splits root all k (Token kind signs) es l h = token_splits root all (suc k) es l (joined kind (signs - 1) (past l)) (after (trivia_of (past l).tokens) (joined kind (signs - 1) (past (past l)))) (after_past (joined kind (signs - 1)) l)
event_splits root all k (Piece p last) es l h = piece_splits root all (suc k) es l p last
event_splits root all k (Node kind from) es l h = none_splits root all (suc k) es l (if nat_eq k root then [] else ends ∷ []) (ends_untold (nat_eq k root)) h
event_splits root all k (Error m) es l h = none_splits root all (suc k) es l [] told_nothing h

splits : (root : ℕ) (all : List Event) (k : ℕ) (es : List Event) → Splits root all k es
unfolding Splits
splits root all k [] l =
    ap only_tokens (made_none root all k l ∙ rest_is l.tokens l.text) ∙ told_more (trivia_of l.tokens) (tokens_as_they_are (past l).tokens)
    ∙ ap (λ z. only_tokens (trivia_of l.tokens) ++ only_tokens z) (sym (made_none root all k (past l)))
splits root all k (e ∷ es) l =
    made_told root all k e es l ∙ event_splits root all k e es l (splits root all (suc k) es)
    ∙ ap (λ z. only_tokens (trivia_of l.tokens) ++ z) (sym (made_told root all k e es (past l)))

splits_at : (root : ℕ) (all : List Event) (k : ℕ) (es : List Event) (l : Left) → only_tokens (made_from root all k es l) ≡ only_tokens (trivia_of l.tokens) ++ only_tokens (made_from root all k es (past l))
unfolding Splits
splits_at root all k es l = splits root all k es l

past_left_if : (l : Left) (p : _) (last : Bool) → (if last then joined (kind_of_part p) 0 (past (past l)) else parted p (past (past l))).left ≡ (if last then joined (kind_of_part p) 0 (past l) else parted p (past l)).left
past_left_if l p true = ap (λ (m : Made). m.left) (after_past (joined (kind_of_part p) 0) l)
past_left_if l p false = ap (λ (m : Made). m.left) (after_past (parted p) l)

-- what is left does not depend on white space and comments
past_left : (root k : ℕ) (e : Event) (l : Left) → past (made_by root k e (past l)).left ≡ past (made_by root k e l).left
past_left root k (Token kind signs) l = ap (λ (m : Made). past m.left) (after_past (joined kind (signs - 1)) l)
past_left root k (Piece p last) l = ap past (past_left_if l p last)
past_left root k (Node kind from) l = past_past l.tokens l.text
past_left root k (Error m) l = past_past l.tokens l.text

told_on : (s w m t r x : List FrontStep) → s ++ (m ++ (w ++ r)) ≡ x → t ≡ s ++ (m ++ w) → t ++ r ≡ x
told_on s w m t r x h e = ap (λ t. t ++ r) e ∙ append_assoc s (m ++ w) r ∙ ap (λ z. s ++ z) (append_assoc m w r) ∙ h

four : (u b m r x : List FrontStep) → u ++ (b ++ (m ++ r)) ≡ x → ((u ++ b) ++ m) ++ r ≡ x
four u b m r x h = append_assoc (u ++ b) m r ∙ append_assoc u b (m ++ r) ∙ h

module _ (root : SyntaxKind) (g : Given) (ts : List RawToken) (small : length g.bytes < 2 ^ 32) (cut : IsCut ts g.bytes) (few : length g.events ≤ 2 ^ 32 - 1) where
  at_start : At root g ts (start_of root g ts) 0
  at_start = record {
    left = record { tokens = ts; text = g.bytes };
    same = ap (λ z. past_trivia z g.bytes) (all_left ts);
    whole = ap (λ l. l ++ without_trivia (made_from g.root g.events 0 g.events (record { tokens = ts; text = g.bytes }))) (seen_begins root);
    tokens = ap (λ l. l ++ only_tokens (trivia_of (left_on 0 ts)) ++ only_tokens (made_from g.root g.events 0 g.events (past (record { tokens = ts; text = g.bytes })))) (told_begins root)
        ∙ ap (λ z. only_tokens (trivia_of z) ++ only_tokens (made_from g.root g.events 0 g.events (past (record { tokens = ts; text = g.bytes })))) (all_left ts)
        ∙ sym (splits_at g.root g.events 0 g.events (record { tokens = ts; text = g.bytes }));
    depth = omega (arith, none_before g.root g.events (length g.events));
    kept = started root g ts small cut;
  }

  at_more : (s : Laying) (k : ℕ) (e : Event) (more : List Event) → drop k g.events ≡ e ∷ more → At root g ts s k
      → At root g ts (obey_at_of g (slice_get g.events k) k (record (enter_all g (numbers_at g.root g.events k (length g.events)) s) { next = plus_of k; entering = number_at g.links.last (plus_of k) })) (suc k)
  at_more s k e more is h =
      let all = length g.events in
      let f = first_at g.events k e more is in
      let ns = numbers_at g.root g.events k all in
      let v = enter_all g ns s in
      let w : Laying = record v { next = plus_of k; entering = number_at g.links.last (plus_of k) } in
      let count = before_more g.root g.events k all in
      let most = before_few g.root g.events (suc k) all in
      let x = entered root g small k all s (omega (arith, h.depth, count, most, few)) h.kept in
      let ended = one_node (node_of g.root k (Some e)) in
      let one : nodes_in g.root g.events (suc k) ≡ nodes_in g.root g.events k + ended = ap (λ o. nodes_in g.root g.events k + one_node (node_of g.root k o)) f.here in
      let up = before_all g.root g.events (suc k) (suc k) (omega arith) in
      let grows = before_grows g.root g.events (suc k) (suc k) all (omega (arith, f.within)) in
      let m = made_by g.root k e h.left in
      let mp = made_by g.root k e (past h.left) in
      let y : Obeyed g.bytes m mp ended w (obey_of g e k w) = obeyed root g small e k h.left w x.kept (omega (arith, one, up, grows, count, h.depth, x.depth)) (x.left ∙ h.same) in
      let z : Obeyed g.bytes m mp ended w (obey_at_of g (slice_get g.events k) k w) = subst (λ o. Obeyed g.bytes m mp ended w (obey_at_of g o k w)) (sym f.here) y in
      let t = obey_at_of g (slice_get g.events k) k w in
      let b = begins_at g.root g.events k all in
      let r = made_from g.root g.events (suc k) more m.left in
      let said : without_trivia s.steps ++ (without_trivia b ++ (without_trivia m.steps ++ without_trivia r)) ≡ begins root ∷ without_trivia (made_from g.root g.events 0 g.events (record { tokens = ts; text = g.bytes })) =
      ap (λ l. without_trivia s.steps ++ l) (sym (ap (λ es. without_trivia (made_from g.root g.events k es h.left)) is ∙ made_more g.root g.events k e more h.left)) ∙ h.whole in
      record {
        left = m.left;
        same = z.left;
        tokens = ap (λ es. told g.bytes t ++ only_tokens (made_from g.root g.events (suc k) es (past m.left))) f.later
            ∙ ap (λ (l : Left). told g.bytes t ++ only_tokens (made_from g.root g.events (suc k) more l)) (sym (past_left g.root k e h.left))
            ∙ told_on (told g.bytes s) (only_tokens (trivia_of mp.left.tokens)) (only_tokens mp.steps) (told g.bytes t) (only_tokens (made_from g.root g.events (suc k) more (past mp.left)))
            (only_tokens (made_from g.root g.events 0 g.events (record { tokens = ts; text = g.bytes })))
            (ap (λ l. told g.bytes s ++ (only_tokens mp.steps ++ l)) (sym (splits_at g.root g.events (suc k) more mp.left))
            ∙ ap (λ l. told g.bytes s ++ l) (sym (ap (λ es. only_tokens (made_from g.root g.events k es (past h.left))) is ∙ made_told g.root g.events k e more (past h.left)))
            ∙ h.tokens)
            (z.tokens ∙ ap (λ l. l ++ (only_tokens mp.steps ++ only_tokens (trivia_of mp.left.tokens))) x.tokens);
        whole = ap (λ es. without_trivia t.steps ++ without_trivia (made_from g.root g.events (suc k) es m.left)) f.later
            ∙ ap (λ l. l ++ without_trivia r) (z.seen ∙ ap (λ l. l ++ without_trivia m.steps) x.seen)
            ∙ four (without_trivia s.steps) (without_trivia b) (without_trivia m.steps) (without_trivia r) (begins root ∷ without_trivia (made_from g.root g.events 0 g.events (record { tokens = ts; text = g.bytes }))) said;
        depth = omega (arith, z.depth, x.depth, one, count, h.depth);
        kept = obey_at_kept root g (slice_get g.events k) k w small x.kept;
      }

  at_next : (s : Laying) (k : ℕ) (es : List Event) → drop k g.events ≡ es → k < length g.events → At root g ts s k
      → At root g ts (obey_at_of g (slice_get g.events k) k (record (enter_all g (numbers_at g.root g.events k (length g.events)) s) { next = plus_of k; entering = number_at g.links.last (plus_of k) })) (suc k)
  at_next s k [] is lt h = absurd (omega (arith, lt, nothing_at g.events k is))
  at_next s k (e ∷ more) is lt h = at_more s k e more is h

  at : (k : ℕ) → k ≤ length g.events → At root g ts (upto g k (start_of root g ts)) k
  unfolding upto
  at zero le = at_start
  at (suc k) le = at_next (upto g k (start_of root g ts)) k (drop k g.events) refl (omega (arith, le)) (at k (omega (arith, le)))

  -- what the walk ends with
  record Done (t : Laying) : Type 0 where
    seen : without_trivia t.steps ≡ begins root ∷ (without_trivia (made_from g.root g.events 0 g.events (record { tokens = ts; text = g.bytes })) ++ ends ∷ [])
    tokens : only_tokens t.steps ≡ only_tokens (made_from g.root g.events 0 g.events (record { tokens = ts; text = g.bytes }))

  laid_is : Linked g.root g.events (length g.events) g.links → Done (laid_with root g ts)
  laid_is links =
      let all = length g.events in
      let u = upto g all (start_of root g ts) in
      let t = moves (moves_of all) g (start_of root g ts) in
      let h = at all (omega arith) in
      let i = all_moves g (start_of root g ts) refl refl few links in
      let none : t.depth ≡ 0 = omega (arith, i.depth, h.depth, before_all g.root g.events all all (omega arith)) in
      let over : drop all g.events ≡ [] = drop_all all g.events (omega arith) in
      let left : tokens_as_they_are (left_on t.cut t.rest) ≡ tokens_as_they_are (left_of g.bytes u).tokens =
      ap (λ c. tokens_as_they_are (left_on c t.rest)) i.cut ∙ ap (λ z. tokens_as_they_are (left_on u.cut z)) i.rest in
      let is : (laid_with root g ts).steps ≡ (u.steps ++ tokens_as_they_are (left_of g.bytes u).tokens) ++ ends ∷ [] =
      finished t none ∙ ap (λ l. (l ++ tokens_as_they_are (left_on t.cut t.rest)) ++ ends ∷ []) i.steps ∙ ap (λ l. (u.steps ++ l) ++ ends ∷ []) left in
      let rest : without_trivia (tokens_as_they_are (left_of g.bytes u).tokens) ≡ without_trivia (made_from g.root g.events all (drop all g.events) h.left) =
      same_leaves (left_of g.bytes u) h.left h.same ∙ sym (ap (λ es. without_trivia (made_from g.root g.events all es h.left)) over ∙ ap without_trivia (made_none g.root g.events all h.left)) in
      let last : only_tokens (tokens_as_they_are (left_of g.bytes u).tokens) ≡ only_tokens (trivia_of (left_of g.bytes u).tokens) ++ only_tokens (made_from g.root g.events all (drop all g.events) (past h.left)) =
      ap only_tokens (rest_is (left_of g.bytes u).tokens (left_of g.bytes u).text) ∙ told_more (trivia_of (left_of g.bytes u).tokens) (tokens_as_they_are (past (left_of g.bytes u)).tokens)
      ∙ ap (λ (l : Left). only_tokens (trivia_of (left_of g.bytes u).tokens) ++ only_tokens (tokens_as_they_are l.tokens)) h.same
      ∙ ap (λ l. only_tokens (trivia_of (left_of g.bytes u).tokens) ++ l) (sym (ap (λ es. only_tokens (made_from g.root g.events all es (past h.left))) over ∙ ap only_tokens (made_none g.root g.events all (past h.left)))) in
      record {
        seen = ap without_trivia is
            ∙ seen_more (u.steps ++ tokens_as_they_are (left_of g.bytes u).tokens) (ends ∷ [])
            ∙ ap (λ l. l ++ without_trivia (ends ∷ [])) (seen_more u.steps (tokens_as_they_are (left_of g.bytes u).tokens) ∙ ap (λ l. without_trivia u.steps ++ l) rest ∙ h.whole)
            ∙ ap (λ l. (begins root ∷ without_trivia (made_from g.root g.events 0 g.events (record { tokens = ts; text = g.bytes }))) ++ l) seen_end;
        tokens = ap only_tokens is
            ∙ told_more (u.steps ++ tokens_as_they_are (left_of g.bytes u).tokens) (ends ∷ [])
            ∙ ap (λ l. only_tokens (u.steps ++ tokens_as_they_are (left_of g.bytes u).tokens) ++ l) told_end
            ∙ append-nil (only_tokens (u.steps ++ tokens_as_they_are (left_of g.bytes u).tokens))
            ∙ told_more u.steps (tokens_as_they_are (left_of g.bytes u).tokens)
            ∙ ap (λ l. only_tokens u.steps ++ l) last
            ∙ sym (append_assoc (only_tokens u.steps) (only_tokens (trivia_of (left_of g.bytes u).tokens)) (only_tokens (made_from g.root g.events all (drop all g.events) (past h.left))))
            ∙ h.tokens;
      }

made_is : (root : SyntaxKind) (ts : List RawToken) (text : List ℕ) (es : List Event)
    → without_trivia (made_of root ts text es) ≡ begins root ∷ (without_trivia (made_from (root_of es) es 0 es (record { tokens = ts; text = text })) ++ ends ∷ [])
unfolding made_of
made_is root ts text es =
    let m = made_from (root_of es) es 0 es (record { tokens = ts; text = text }) in
    seen_more (begins root ∷ []) (m ++ ends ∷ []) ∙ ap (λ l. l ++ without_trivia (m ++ ends ∷ [])) (seen_begins root) ∙ ap (λ l. begins root ∷ l) (seen_more m (ends ∷ []) ∙ ap (λ l. without_trivia m ++ l) seen_end)

made_tokens : (root : SyntaxKind) (ts : List RawToken) (text : List ℕ) (es : List Event)
    → only_tokens (made_of root ts text es) ≡ only_tokens (made_from (root_of es) es 0 es (record { tokens = ts; text = text }))
unfolding made_of
made_tokens root ts text es =
    let m = made_from (root_of es) es 0 es (record { tokens = ts; text = text }) in
    told_more (begins root ∷ []) (m ++ ends ∷ []) ∙ ap (λ l. l ++ only_tokens (m ++ ends ∷ [])) (told_begins root) ∙ told_more m (ends ∷ []) ∙ ap (λ l. only_tokens m ++ l) told_end ∙ append-nil (only_tokens m)

-- the steps are those that the events make
pub made : (root : SyntaxKind) (attaching : List SyntaxKind) (text : List ℕ) (ts : List RawToken) (es : List Event) → length text < 2 ^ 32 → IsCut ts text → length es < 2 ^ 32
    → without_trivia (laid_of root attaching text ts es).steps ≡ without_trivia (made_of root ts text es)
made root attaching text ts es small cut few =
    (laid_is root (given attaching text es) ts small cut (omega (arith, few)) (starts_linked (root_of es) es (omega (arith, few)))).seen ∙ sym (made_is root ts text es)

-- the tokens of the steps, white space and comments too, are those that the events make
pub tokens_made : (root : SyntaxKind) (attaching : List SyntaxKind) (text : List ℕ) (ts : List RawToken) (es : List Event) → length text < 2 ^ 32 → IsCut ts text → length es < 2 ^ 32
    → only_tokens (laid_of root attaching text ts es).steps ≡ only_tokens (made_of root ts text es)
tokens_made root attaching text ts es small cut few =
    (laid_is root (given attaching text es) ts small cut (omega (arith, few)) (starts_linked (root_of es) es (omega (arith, few)))).tokens ∙ sym (made_tokens root ts text es)
