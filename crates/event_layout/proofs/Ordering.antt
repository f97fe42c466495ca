-- The walk over the events does what they order.
use Rattle.std.proofs.Common.{◌≡◌, ℕ, zero, suc, ◌+◌, ◌-◌, ◌<◌, ◌^◌, min, List, [], ◌∷◌, ◌++◌, length, drop, map, ap, sym, ◌∙◌, refl, arith, Option, Some, None, Bool, true, false, if◌then◌else◌, nat_lt, nat_eq, append_assoc, append-nil, slice_get}
use Rattle.syntax_kind.specs.declared.syntax_kind.SyntaxKind.{SyntaxKind}
use Rattle.ras_front_end.specs.Reading.{begins, ends}
use Rattle.token_layout.specs.declared.span.Token.{Token as RawToken}
use Rattle.grammar_machine.specs.declared.event.Event.{Event}
use Rattle.grammar_machine.specs.declared.event.Event.TheVariants.{Token, Piece, Node, Error}
use Rattle.grammar_machine.specs.declared.event.Part.{Part}
use Rattle.event_layout.specs.Trivia.{lead, part_of, outside_of}
use Rattle.event_layout.specs.Starts.{number_at}
use Rattle.event_layout.specs.Layout.{Given, Laying, given, root_of, added, pass_on, pass_of, pass_all_of, pass_trivia_of, join_on, join_of, kind_of_part, cut_at, piece_on, piece_of, enter_of, exit_of, exit_all_of, begin_with, begin_at_of, obey_of, obey_at_of, entering_of, plus_of, moves, moves_of, start_of, finish_of, laid_of, dot_of}
use Rattle.event_layout.specs.Made.{Span, node_of}
use Rattle.event_layout.specs.Orders.{Order, begin_node, take_joined, take_part, end_node, say, nothing, ordered, walked, order_of, turns, kind_if, kinds_at, orders_from, orders_of, begun_at, ordered_of, LaidAlike}
use Rattle.event_layout.proofs.Chains.{with_number, numbers_at, starts_linked, first_at}
use Rattle.event_layout.proofs.Walking.{enter_all, upto, all_moves}

-- a state without the number of the next event and the node that is entered before it
abbrev pub bare : Laying → Laying
bare s = record s { next = 0; entering = 0 }

pass_on_bare : (ts : List RawToken) (s : Laying) → bare (pass_on ts s) ≡ pass_on ts (bare s)
pass_on_bare [] s = refl
pass_on_bare (t ∷ ts) s = refl

pub pass_all_bare : (n : ℕ) (s : Laying) → bare (pass_all_of n s) ≡ pass_all_of n (bare s)
unfolding pass_all_of
pass_all_bare zero s = refl
pass_all_bare (suc n) s = pass_on_bare (pass_all_of n s).rest (pass_all_of n s) ∙ ap pass_of (pass_all_bare n s)

join_on_bare : (k : SyntaxKind) (more : ℕ) (ts : List RawToken) (s : Laying) → bare (join_on k more ts s) ≡ join_on k more ts (bare s)
join_on_bare k more [] s = refl
join_on_bare k more (t ∷ ts) s = refl

cut_at_bare : (p : Part) (o : Option ℕ) (s : Laying) → bare (cut_at p o s) ≡ cut_at p o (bare s)
cut_at_bare p None s = refl
cut_at_bare p (Some dot) s = refl

piece_on_bare : (text : List ℕ) (p : Part) (ts : List RawToken) (s : Laying) → bare (piece_on text p ts s) ≡ piece_on text p ts (bare s)
piece_on_bare text p [] s = refl
piece_on_bare text p (t ∷ ts) s = cut_at_bare p (dot_of t.kind (part_of text s.position (t.len - s.cut))) s

enter_on_bare : (k : SyntaxKind) (b : Bool) (s : Laying) → bare (if b then record s { depth = s.depth + 1; steps = s.steps ++ begins k ∷ [] } else s) ≡ (if b then bare (record s { depth = s.depth + 1; steps = s.steps ++ begins k ∷ [] }) else bare s)
enter_on_bare k true s = refl
enter_on_bare k false s = refl

exit_on_bare : (b : Bool) (s : Laying) → bare (if b then record s { depth = s.depth - 1; steps = s.steps ++ ends ∷ [] } else s) ≡ (if b then bare (record s { depth = s.depth - 1; steps = s.steps ++ ends ∷ [] }) else bare s)
exit_on_bare true s = refl
exit_on_bare false s = refl

exit_bare : (s : Laying) → bare (exit_of s) ≡ exit_of (bare s)
exit_bare s = exit_on_bare (nat_lt 0 s.depth) s

exit_all_bare : (n : ℕ) (s : Laying) → bare (exit_all_of n s) ≡ exit_all_of n (bare s)
unfolding exit_all_of
exit_all_bare zero s = refl
exit_all_bare (suc n) s = exit_bare (exit_all_of n s) ∙ ap exit_of (exit_all_bare n s)

trivia_bare : (s : Laying) → bare (pass_trivia_of s) ≡ pass_trivia_of (bare s)
trivia_bare s = pass_all_bare (lead s.rest) s

begin_bare : (k : SyntaxKind) (n out : ℕ) (s : Laying) → bare (begin_with k n out s) ≡ begin_with k n out (bare s)
begin_bare k n out s =
    let t = pass_all_of out s in
    pass_all_bare (n - out) (enter_of k t) ∙ ap (pass_all_of (n - out)) (enter_on_bare k (nat_lt t.depth (2 ^ 64 - 1)) t ∙ ap (enter_of k) (pass_all_bare out s))

join_bare : (k : SyntaxKind) (more : ℕ) (s : Laying) → bare (join_of k more (pass_trivia_of s)) ≡ join_of k more (pass_trivia_of (bare s))
join_bare k more s = let t = pass_trivia_of s in join_on_bare k more t.rest t ∙ ap (join_of k more) (trivia_bare s)

piece_bare : (text : List ℕ) (p : Part) (s : Laying) → bare (piece_of text p (pass_trivia_of s)) ≡ piece_of text p (pass_trivia_of (bare s))
piece_bare text p s = let t = pass_trivia_of s in piece_on_bare text p t.rest t ∙ ap (piece_of text p) (trivia_bare s)

finish_bare : (s : Laying) → bare (finish_of s) ≡ finish_of (bare s)
finish_bare s =
    let p = pass_all_of (length s.rest) s in
    ap (added ends) (exit_all_bare p.depth p ∙ ap (λ (t : Laying). exit_all_of t.depth t) (pass_all_bare (length s.rest) s))

pub walked_both : (text : List ℕ) (attaching : List SyntaxKind) (os more : List Order) (s : Laying) → walked text attaching (os ++ more) s ≡ walked text attaching more (walked text attaching os s)
walked_both text attaching [] more s = refl
walked_both text attaching (o ∷ os) more s = walked_both text attaching os more (ordered text attaching o s)

ordered_bare : (text : List ℕ) (attaching : List SyntaxKind) (o : Order) (s : Laying) → bare (ordered text attaching o s) ≡ ordered text attaching o (bare s)
ordered_bare text attaching (begin_node k) s = begin_bare k (lead s.rest) (outside_of text attaching k s.position s.rest (lead s.rest)) s
ordered_bare text attaching (take_joined k more) s = join_bare k more s
ordered_bare text attaching (take_part p) s = piece_bare text p s
ordered_bare text attaching end_node s = exit_bare s
ordered_bare text attaching (say m) s = refl
ordered_bare text attaching nothing s = refl

pub walked_bare : (text : List ℕ) (attaching : List SyntaxKind) (os : List Order) (s : Laying) → bare (walked text attaching os s) ≡ walked text attaching os (bare s)
walked_bare text attaching [] s = refl
walked_bare text attaching (o ∷ os) s = walked_bare text attaching os (ordered text attaching o s) ∙ ap (walked text attaching os) (ordered_bare text attaching o s)

-- the nodes that begin with event i, of those that the first n events end
abbrev kinds_upto : ℕ → List Event → ℕ → ℕ → List SyntaxKind
kinds_upto root es i zero = []
kinds_upto root es i (suc n) = kind_if i (node_of root n (slice_get es n)) ++ kinds_upto root es i n

kinds_on : (root : ℕ) (es xs : List Event) (i m : ℕ) → drop m es ≡ xs → kinds_upto root es i (m + length xs) ≡ kinds_at i (turns root m xs) ++ kinds_upto root es i m
kinds_on root es [] i m d = let e : m + 0 ≡ m = omega arith in ap (kinds_upto root es i) e
kinds_on root es (x ∷ xs) i m d =
    let f = first_at es m x xs d in
    let more : m + suc (length xs) ≡ suc m + length xs = omega arith in
    ap (kinds_upto root es i) more ∙ kinds_on root es xs i (suc m) f.later
    ∙ ap (λ o. kinds_at i (turns root (suc m) xs) ++ (kind_if i (node_of root m o) ++ kinds_upto root es i m)) f.here
    ∙ sym (append_assoc (kinds_at i (turns root (suc m) xs)) (kind_if i (node_of root m (Some x))) (kinds_upto root es i m))

pub kinds_are : (root : ℕ) (es : List Event) (i : ℕ) → kinds_upto root es i (length es) ≡ kinds_at i (turns root 0 es)
kinds_are root es i =
    let e : 0 + length es ≡ length es = omega arith in
    sym (ap (kinds_upto root es i) e) ∙ kinds_on root es es i 0 refl ∙ append-nil (kinds_at i (turns root 0 es))

module _ (g : Given) where
  -- the state after the nodes of these events have begun
  Enters : ℕ → Option Span → List ℕ → List SyntaxKind → ℕ → Type 0
  Enters i o ns ks n = (s : Laying) → bare (enter_all g (with_number i n o ns) s) ≡ walked g.bytes g.attaching (map begin_node (kind_if i o ++ ks)) (bare s)

  enter_one : (k : SyntaxKind) (from n : ℕ) (s : Laying) → slice_get g.events n ≡ Some (Node k from) → bare (entering_of g n s) ≡ ordered g.bytes g.attaching (begin_node k) (bare s)
  enter_one k from n s e =
      let t : Laying = record s { entering = number_at g.links.before n } in
      ap (λ o. bare (begin_at_of g o t)) e ∙ begin_bare k (lead t.rest) (outside_of g.bytes g.attaching k t.position t.rest (lead t.rest)) t

  enters_if : (k : SyntaxKind) (from n : ℕ) (ns : List ℕ) (ks : List SyntaxKind) (b : Bool) → slice_get g.events n ≡ Some (Node k from)
      → ((s : Laying) → bare (enter_all g ns s) ≡ walked g.bytes g.attaching (map begin_node ks) (bare s))
      → (s : Laying) → bare (enter_all g (if b then n ∷ ns else ns) s) ≡ walked g.bytes g.attaching (map begin_node ((if b then k ∷ [] else []) ++ ks)) (bare s)
  enters_if k from n ns ks true e more s = more (entering_of g n s) ∙ ap (walked g.bytes g.attaching (map begin_node ks)) (enter_one k from n s e)
  enters_if k from n ns ks false e more s = more s

  enters_node : (k : SyntaxKind) (from i n : ℕ) (ns : List ℕ) (ks : List SyntaxKind) (b : Bool) → slice_get g.events n ≡ Some (Node k from)
      → ((s : Laying) → bare (enter_all g ns s) ≡ walked g.bytes g.attaching (map begin_node ks) (bare s))
      → Enters i (if b then None else Some (record { kind = k; from = min from n })) ns ks n
  unfolding Enters
  enters_node k from i n ns ks true e more s = more s
  enters_node k from i n ns ks false e more s = enters_if k from n ns ks (nat_eq (min from n) i) e more s

  enters_on : (i n : ℕ) (o : Option Event) (ns : List ℕ) (ks : List SyntaxKind) → slice_get g.events n ≡ o
      → ((s : Laying) → bare (enter_all g ns s) ≡ walked g.bytes g.attaching (map begin_node ks) (bare s))
      → Enters i (node_of g.root n o) ns ks n
  unfolding Enters
  enters_on i n None ns ks e more s = more s
  enters_on i n (Some (Node k from)) ns ks e more s = here (nat_eq n g.root) s
    where
      here : (b : Bool) → Enters i (if b then None else Some (record { kind = k; from = min from n })) ns ks n
      here b = enters_node k from i n ns ks b e more
  enters_on i n (Some (Token k signs)) ns ks e more s = more s
  enters_on i n (Some (Piece p last)) ns ks e more s = more s
  enters_on i n (Some (Error m)) ns ks e more s = more s

  enters_upto : (i n : ℕ) (s : Laying) → bare (enter_all g (numbers_at g.root g.events i n) s) ≡ walked g.bytes g.attaching (map begin_node (kinds_upto g.root g.events i n)) (bare s)
  unfolding Enters
  enters_upto i zero s = refl
  enters_upto i (suc n) s = enters_on i n (slice_get g.events n) (numbers_at g.root g.events i n) (kinds_upto g.root g.events i n) refl (enters_upto i n) s

  pub enters : (i : ℕ) (s : Laying) → bare (enter_all g (numbers_at g.root g.events i (length g.events)) s) ≡ walked g.bytes g.attaching (map begin_node (kinds_at i (turns g.root 0 g.events))) (bare s)
  enters i s = enters_upto i (length g.events) s ∙ ap (λ ks. walked g.bytes g.attaching (map begin_node ks) (bare s)) (kinds_are g.root g.events i)

  obey_piece : (p : Part) (last : Bool) (s : Laying) → bare (if last then join_of (kind_of_part p) 0 (pass_trivia_of s) else piece_of g.bytes p (pass_trivia_of s)) ≡ ordered g.bytes g.attaching (if last then take_joined (kind_of_part p) 0 else take_part p) (bare s)
  obey_piece p true s = join_bare (kind_of_part p) 0 s
  obey_piece p false s = piece_bare g.bytes p s

  obey_node : (b : Bool) (s : Laying) → bare (if b then s else exit_of s) ≡ ordered g.bytes g.attaching (if b then nothing else end_node) (bare s)
  obey_node true s = refl
  obey_node false s = exit_bare s

  obey_bare : (e : Event) (n : ℕ) (s : Laying) → bare (obey_of g e n s) ≡ ordered g.bytes g.attaching (order_of g.root n e) (bare s)
  obey_bare (Token k signs) n s = join_bare k (signs - 1) s
  obey_bare (Piece p last) n s = obey_piece p last s
  obey_bare (Node k from) n s = obey_node (nat_eq n g.root) s
  obey_bare (Error m) n s = refl

  -- the events xs, from event m on, do what they order
  pub goes : (start : Laying) (xs ys : List Event) (m : ℕ) (u : Laying) → drop m g.events ≡ xs ++ ys → bare (upto g m start) ≡ u
      → bare (upto g (m + length xs) start) ≡ walked g.bytes g.attaching (orders_from (turns g.root 0 g.events) m (turns g.root m xs)) u
  unfolding upto
  goes start [] ys m u d h = let e : m + 0 ≡ m = omega arith in ap (λ n. bare (upto g n start)) e ∙ h
  goes start (x ∷ xs) ys m u d h =
      let f = first_at g.events m x (xs ++ ys) d in
      let more : m + suc (length xs) ≡ suc m + length xs = omega arith in
      let ks = map begin_node (kinds_at m (turns g.root 0 g.events)) in
      let v = enter_all g (numbers_at g.root g.events m (length g.events)) (upto g m start) in
      let w : Laying = record v { next = plus_of m; entering = number_at g.links.last (plus_of m) } in
      let begun : bare v ≡ walked g.bytes g.attaching ks u = enters m (upto g m start) ∙ ap (walked g.bytes g.attaching ks) h in
      let one : bare (upto g (suc m) start) ≡ ordered g.bytes g.attaching (order_of g.root m x) (walked g.bytes g.attaching ks u) =
      ap (λ o. bare (obey_at_of g o m w)) f.here ∙ obey_bare x m w ∙ ap (ordered g.bytes g.attaching (order_of g.root m x)) begun in
      ap (λ n. bare (upto g n start)) more
      ∙ goes start xs ys (suc m) (ordered g.bytes g.attaching (order_of g.root m x) (walked g.bytes g.attaching ks u)) f.later one
      ∙ sym (walked_both g.bytes g.attaching ks (order_of g.root m x ∷ orders_from (turns g.root 0 g.events) (suc m) (turns g.root (suc m) xs)) u)

same_bare : (s t : Laying) → t.rest ≡ s.rest → t.cut ≡ s.cut → t.position ≡ s.position → t.depth ≡ s.depth → t.steps ≡ s.steps → t.faults ≡ s.faults → bare t ≡ bare s
same_bare s t a b c d e f = cc

pub layouts_ordered : (root : SyntaxKind) (attaching : List SyntaxKind) (text : List ℕ) (ts : List RawToken) (es : List Event) → length es < 2 ^ 32
    → LaidAlike (laid_of root attaching text ts es) (ordered_of root attaching text ts (orders_of es))
unfolding upto
layouts_ordered root attaching text ts es few =
    let g = given attaching text es in
    let start = start_of root g ts in
    let m = moves (moves_of (length es)) g start in
    let i = all_moves g start refl refl (omega (arith, few)) (starts_linked (root_of es) es (omega (arith, few))) in
    let e : 0 + length es ≡ length es = omega arith in
    let went : bare (upto g (0 + length es) start) ≡ walked text attaching (orders_of es) (begun_at root ts) = goes g start es [] 0 (begun_at root ts) (sym (append-nil es)) refl in
    let is : bare m ≡ walked text attaching (orders_of es) (begun_at root ts) =
    same_bare (upto g (length es) start) m i.rest i.cut i.position i.depth i.steps i.faults ∙ sym (ap (λ n. bare (upto g n start)) e) ∙ went in
    let done : bare (finish_of m) ≡ ordered_of root attaching text ts (orders_of es) = finish_bare m ∙ ap finish_of is in
    record { steps = ap (λ (s : Laying). s.steps) done; faults = ap (λ (s : Laying). s.faults) done }
