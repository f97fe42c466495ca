-- A piece is laid in its place as it is laid by itself.
use Rattle.std.proofs.Common.{◌≡◌, inl, inr, ℕ, suc, ◌+◌, ◌-◌, ◌≤◌, ◌<◌, ◌^◌, List, [], ◌∷◌, ◌++◌, length, map, take, drop, ap, ap₂, sym, ◌∙◌, refl, arith, subst, Option, Some, None, Bool, true, false, if◌then◌else◌, nat_lt, append_assoc, append-nil}
use Rattle.std.specs.Prelude.{All, ◌&&◌, option_map, option_and_then}
use Rattle.std.proofs.lemmas.List.{length-append, length-drop, length-map, take_all}
use Rattle.std.proofs.lemmas.List.Elements.{All-head, All-tail}
use Rattle.std.proofs.Math.Seq.{take-append_seam, drop-append_seam}
use Rattle.syntax_kind.specs.declared.syntax_kind.SyntaxKind.{SyntaxKind}
use Rattle.ras_front_end.specs.Reading.{begins, ends}
use Rattle.token_layout.specs.declared.span.Token.{Token as RawToken}
use Rattle.token_layout.specs.Laid.{IsCut}
use Rattle.grammar_machine.specs.declared.event.Event.{Event}
use Rattle.grammar_machine.specs.declared.event.Event.TheVariants.{Token, Piece, Node, Error}
use Rattle.grammar_machine.specs.Framing.{moved_event, moved_events}
use Rattle.grammar_machine.specs.Filling.{event_later}
use Rattle.event_layout.specs.Trivia.{lead, attached, attaches_of, outside_of}
use Rattle.event_layout.specs.Layout.{Laying, added, pass_all_of, enter_of, exit_all_of, begin_with, finish_of, root_of}
use Rattle.event_layout.specs.Made.{node_of}
use Rattle.event_layout.specs.Orders.{Order, begin_node, end_node, nothing, ordered, walked, Turn, turn, turns, kinds_at, orders_of, begun_at, ordered_of}
use Rattle.event_layout.specs.Amid.{Around, faults_amid, amid, IsIn, sum_len, first_len, Fits}
use Rattle.event_layout.specs.Filled.{Stretch, Setting, events_in, set_in, alone, laid, past_lead, left_after, is_error_of, bytes_taken, IsSetting, IsPiece, IsShort, LaidAround}
use Rattle.event_layout.proofs.Moves.{pass_all_none, exit_all_none}
use Rattle.event_layout.proofs.Walking.{one_node}
use Rattle.event_layout.proofs.Ordering.{bare, walked_bare, pass_all_bare, walked_both, layouts_ordered}
use Rattle.event_layout.proofs.Bytes.{Took, pass_all_took, walked_took}
use Rattle.event_layout.proofs.Amid.{lead_none, lead_le, lead_both, passed_rest, passed_depth, pass_all_fits, walked_fits, pass_all_in, finish_amid, walked_amid}
use Rattle.event_layout.proofs.Said.{Said, said_twice, pass_all_said, walked_said, finish_said, said_before, said_behind}
use Rattle.event_layout.proofs.Turning.{NodeIn, Within, turns_both, turns_within, turns_length, none_at, turns_before, turns_inside, turns_behind, orders_before, orders_at, orders_inside, orders_behind, filled_orders, alone_orders}
use Rattle.event_layout.proofs.Staying.{begun, ended, begun_all, begun_both, begun_few, begun_zero, ended_both, kinds_few, Leaves, leaves_past, some_left, enter_is, exit_is, begins_rest, begins_le, orders_le, easy_stay, begins_stay, Ready, Stayed, stays, ready_easy}

-- ---- the piece's own events

within_both : (low high : ℕ) (xs ys : List Turn) → Within low high xs → Within low high ys → Within low high (xs ++ ys)
within_both low high [] ys h g = g
within_both low high (x ∷ xs) ys h g = (h.0, within_both low high xs ys h.1 g)

error_node : (r m high : ℕ) (e : Event) → is_error_of e ≡ true → NodeIn 0 high (node_of r m (Some e))
error_node r m high (Error n) h = tt
error_node r m high (Token k signs) h = tt
error_node r m high (Piece p last) h = tt
error_node r m high (Node k from) h = (let bad : false ≡ true = h in absurd (cc))

errors_within : (r m high : ℕ) (es : List Event) → All (λ e. is_error_of e ≡ true) es → Within 0 high (turns r m es)
errors_within r m high [] h = tt
errors_within r m high (e ∷ es) h =
    (error_node r m high e (All-head (λ e. is_error_of e ≡ true) e es h), errors_within r (suc m) high es (All-tail (λ e. is_error_of e ≡ true) e es h))

module _ (text : List ℕ) (attaching : List SyntaxKind) (a : Around) (body : List Event) (kind : SyntaxKind) (signs : ℕ) (errors : List Event) (only : All (λ e. is_error_of e ≡ true) errors)
    (es : List Event) (is : es ≡ body ++ Token kind signs ∷ errors) (room : length (turns_inside es) + a.open_nodes < 2 ^ 64 - 1) where
  nodes_in_body : Within 0 (length body) (turns_inside es)
  nodes_in_body =
      let r = length es in
      subst (Within 0 (length body)) (sym (ap (turns r 0) is ∙ turns_both r 0 body (Token kind signs ∷ errors)))
      (within_both 0 (length body) (turns r 0 body) (turns r (0 + length body) (Token kind signs ∷ errors))
      (turns_within r 0 (length body) body (omega arith))
      (tt, errors_within r (suc (0 + length body)) (length body) errors only))

  -- nodes that end have begun
  rises : (pre : List Event) (e : Event) (more : List Event) (m gone : ℕ) → es ≡ pre ++ e ∷ more → m ≡ length pre → gone ≡ ended (turns (length es) 0 pre)
      → gone + one_node (node_of (length es) m (Some e)) ≤ begun (suc m) (turns_inside es)
  rises pre e more m gone at count so_far =
      let r = length es in
      let p = turns r 0 pre in
      let q = turns r (suc m) more in
      let one : 0 + length pre ≡ m = omega (arith, count) in
      let split : turns_inside es ≡ p ++ turn r m e ∷ q = ap (turns r 0) at ∙ turns_both r 0 pre (e ∷ more) ∙ ap (λ n. p ++ turns r n (e ∷ more)) one in
      let front : begun (suc m) p ≡ ended p = begun_all (suc m) p (turns_within r 0 (suc m) pre (omega (arith, count))) in
      let here : begun (suc m) (turn r m e ∷ []) ≡ ended (turn r m e ∷ []) = begun_all (suc m) (turn r m e ∷ []) (turns_within r m (suc m) (e ∷ []) (omega arith)) in
      omega (arith, ap (begun (suc m)) split, begun_both (suc m) p (turn r m e ∷ q), front, here, so_far)

  more_gone : (pre : List Event) (e : Event) (m gone : ℕ) → m ≡ length pre → gone ≡ ended (turns (length es) 0 pre)
      → gone + one_node (node_of (length es) m (Some e)) ≡ ended (turns (length es) 0 (pre ++ e ∷ []))
  more_gone pre e m gone count so_far =
      let r = length es in
      let one : 0 + length pre ≡ m = omega (arith, count) in
      let both = ap ended (turns_both r 0 pre (e ∷ []) ∙ ap (λ n. turns r 0 pre ++ turns r n (e ∷ [])) one) ∙ ended_both (turns r 0 pre) (turn r m e ∷ []) in
      omega (arith, both, so_far)

  ready_tail : (pre more : List Event) (m gone : ℕ) (ts : List RawToken) → es ≡ pre ++ more → m ≡ length pre → gone ≡ ended (turns (length es) 0 pre) → length body ≤ m
      → Ready text attaching a (length es) (turns_inside es) room m gone more ts
  ready_tail pre [] m gone ts at count so_far behind = tt
  ready_tail pre (e ∷ more) m gone ts at count so_far behind = (
    λ some empty. absurd (omega (arith, some, ap length (none_at m 0 (length body) (turns_inside es) nodes_in_body (inr behind)))),
    λ some. rises pre e more m gone at count so_far,
    λ us left. ready_tail (pre ++ e ∷ []) more (suc m) (gone + one_node (node_of (length es) m (Some e))) us
        (at ∙ sym (append_assoc pre (e ∷ []) more)) (omega (arith, count, length-append pre (e ∷ []))) (more_gone pre e m gone count so_far) (omega (arith, behind)),
  )

  ready_body : (pre own : List Event) (m gone : ℕ) (ts us : List RawToken) → es ≡ pre ++ (own ++ Token kind signs ∷ errors) → m ≡ length pre → gone ≡ ended (turns (length es) 0 pre)
      → length body ≡ length pre + length own → left_after (own ++ Token kind signs ∷ errors) ts ≡ Some us
      → Ready text attaching a (length es) (turns_inside es) room m gone (own ++ Token kind signs ∷ errors) ts
  ready_body pre [] m gone ts us at count so_far long left =
      let e = Token kind signs in (
        λ some empty. absurd (omega (arith, empty, some_left [] kind signs errors ts us left)),
        λ some. rises pre e errors m gone at count so_far,
        λ vs by. ready_tail (pre ++ e ∷ []) errors (suc m) (gone + one_node (node_of (length es) m (Some e))) vs
            (at ∙ sym (append_assoc pre (e ∷ []) errors)) (omega (arith, count, length-append pre (e ∷ []))) (more_gone pre e m gone count so_far) (omega (arith, count, long)),
      )
  ready_body pre (e ∷ own) m gone ts us at count so_far long left =
      let more = own ++ Token kind signs ∷ errors in (
        λ some empty. absurd (omega (arith, empty, some_left (e ∷ own) kind signs errors ts us left)),
        λ some. rises pre e more m gone at count so_far,
        λ vs by. ready_body (pre ++ e ∷ []) own (suc m) (gone + one_node (node_of (length es) m (Some e))) vs us
            (at ∙ sym (append_assoc pre (e ∷ []) more)) (omega (arith, count, length-append pre (e ∷ []))) (more_gone pre e m gone count so_far)
            (omega (arith, long, length-append pre (e ∷ []))) (sym (ap (option_and_then (left_after more)) by) ∙ left),
      )

  pub ready_piece : (ts us : List RawToken) → left_after es ts ≡ Some us → Ready text attaching a (length es) (turns_inside es) room 0 0 es ts
  ready_piece ts us left =
      subst (λ xs. Ready text attaching a (length es) (turns_inside es) room 0 0 xs ts) (sym is)
      (ready_body [] body 0 0 ts us is refl refl (omega arith) (sym (ap (λ xs. left_after xs ts) is) ∙ left))

-- ---- beginnings

pub cut_sum : (ts : List RawToken) (s : List ℕ) → IsCut ts s → sum_len ts ≡ length s
cut_sum [] s h = sym (ap length h)
cut_sum (t ∷ ts) s h = omega (arith, cut_sum ts (drop t.len s) h.2, length-drop t.len s, h.0)

pub start_fits : (text : List ℕ) (ts : List RawToken) (s : Laying) → IsCut ts text → s.rest ≡ ts → s.cut ≡ 0 → s.position ≡ 0 → Fits text s
start_fits text ts s c r z p =
    let sum : sum_len s.rest ≡ length text = ap sum_len r ∙ cut_sum ts text c in
    record { sum = omega (arith, sum, z, p); cut = omega (arith, z); whole = λ more. z; short = omega (arith, sum) }

no_tokens : (ts : List RawToken) → length ts ≡ 0 → ts ≡ []
no_tokens [] h = refl
no_tokens (t ∷ ts) h = absurd (omega (arith, h))

-- where no tokens are left, all bytes are laid
record Over (text : List ℕ) (s : Laying) : Type 0 where
  cut : s.cut ≡ 0
  position : s.position ≡ length text

over : (text : List ℕ) (s : Laying) → Fits text s → s.rest ≡ [] → Over text s
over text s h e =
    let none : sum_len s.rest ≡ 0 = ap sum_len e in
    let cut : s.cut ≡ 0 = omega (arith, h.cut, ap first_len e) in
    record { cut = cut; position = omega (arith, h.sum, none, cut) }

pub laying_is : (s t : Laying) → s.next ≡ t.next → s.entering ≡ t.entering → s.rest ≡ t.rest → s.cut ≡ t.cut → s.position ≡ t.position → s.depth ≡ t.depth → s.steps ≡ t.steps → s.faults ≡ t.faults → s ≡ t
laying_is s t a b c d e f g h =
    let same : ◌≡◌ {A = Laying} (record { next = s.next; entering = s.entering; rest = s.rest; cut = s.cut; position = s.position; depth = s.depth; steps = s.steps; faults = s.faults }) (record { next = t.next; entering = t.entering; rest = t.rest; cut = t.cut; position = t.position; depth = t.depth; steps = t.steps; faults = t.faults }) = cc in
    same

and_not : (b c : Bool) → c ≡ false → (b && c) ≡ false
and_not true c h = h
and_not false c h = refl

is_in_front : (x y : List ℕ) → IsIn x 0 (x ++ y)
is_in_front x y = take-append_seam x y

is_in_mid : (x y z : List ℕ) → IsIn y (length x) (x ++ (y ++ z))
is_in_mid x y z = ap (take (length y)) (drop-append_seam x (y ++ z)) ∙ take-append_seam y z

pub is_in_back : (x y z : List ℕ) → IsIn z (length (x ++ y)) (x ++ (y ++ z))
is_in_back x y z =
    ap (λ w. take (length z) (drop (length (x ++ y)) w)) (sym (append_assoc x y z)) ∙ ap (take (length z)) (drop-append_seam (x ++ y) z) ∙ take_all (length z) z (omega arith)

-- the piece by itself
record Alone (k : SyntaxKind) (attaching : List SyntaxKind) (p : Stretch) (u : Laying) : Type 0 where
  steps : (laid k attaching (alone k p)).steps ≡ u.steps ++ ends ∷ []
  faults : (laid k attaching (alone k p)).faults ≡ u.faults

laid_alone : (k : SyntaxKind) (attaching : List SyntaxKind) (p : Stretch) → length (p.events ++ Node k 0 ∷ []) < 2 ^ 32
    → (u : Laying) → walked p.text attaching (orders_inside p.events) (begun_at k p.tokens) ≡ u → u.rest ≡ [] → u.depth ≡ 0 → Alone k attaching p u
laid_alone k attaching p few u is none flat =
    let l = layouts_ordered k attaching p.text p.tokens (p.events ++ Node k 0 ∷ []) few in
    let done : walked p.text attaching (orders_of (p.events ++ Node k 0 ∷ [])) (begun_at k p.tokens) ≡ u =
    ap (λ os. walked p.text attaching os (begun_at k p.tokens)) (alone_orders k p.events)
    ∙ walked_both p.text attaching (orders_inside p.events) (nothing ∷ []) (begun_at k p.tokens) ∙ is in
    let passed : pass_all_of (length u.rest) u ≡ u = ap (λ n. pass_all_of n u) (ap length none) ∙ pass_all_none u in
    let closed : finish_of u ≡ added ends u =
    ap (λ (t : Laying). added ends (exit_all_of t.depth t)) passed ∙ ap (λ n. added ends (exit_all_of n u)) flat ∙ ap (added ends) (exit_all_none u) in
    let all : ordered_of k attaching p.text p.tokens (orders_of (p.events ++ Node k 0 ∷ [])) ≡ added ends u = ap finish_of done ∙ closed in
    record { steps = l.steps ∙ ap (λ (t : Laying). t.steps) all; faults = l.faults ∙ ap (λ (t : Laying). t.faults) all }

module _ (root : SyntaxKind) (attaching : List SyntaxKind) (s : Setting) (h : IsSetting attaching s) where
  -- what is laid before the piece, and the white space and comments before it
  abbrev first_state : Laying
  first_state = walked s.before.text attaching (orders_before s.before.events s.behind.events) (begun_at root s.before.tokens)

  abbrev at_state : Laying
  at_state = walked s.before.text attaching (orders_at s.before.events s.behind.events) first_state

  abbrev before_state : Laying
  before_state = pass_all_of (lead at_state.rest) at_state

  abbrev behind_start : Laying
  behind_start = record { next = 0; entering = 0; rest = s.behind.tokens; cut = 0; position = 0; depth = before_state.depth; steps = []; faults = [] }

  abbrev behind_state : Laying
  behind_state = walked s.behind.text attaching (orders_behind s.before.events s.behind.events) behind_start

  abbrev last_state : Laying
  last_state = finish_of behind_state

  before_plain : bare before_state ≡ before_state
  before_plain =
      pass_all_bare (lead at_state.rest) at_state
      ∙ ap (pass_all_of (lead at_state.rest)) (walked_bare s.before.text attaching (orders_at s.before.events s.behind.events) first_state
      ∙ ap (walked s.before.text attaching (orders_at s.before.events s.behind.events)) (walked_bare s.before.text attaching (orders_before s.before.events s.behind.events) (begun_at root s.before.tokens)))

  all_before : length (turns_before s.before.events ++ turns_behind (length s.before.events) s.behind.events) ≡ length s.before.events + length s.behind.events
  all_before =
      let e = length s.before.events in
      length-append (turns_before s.before.events) (turns_behind e s.behind.events)
      ∙ ap₂ (λ m n. m + n) (turns_length e 0 s.before.events) (turns_length (suc e + root_of s.behind.events) (suc e) s.behind.events)

  -- few nodes are open
  before_low : before_state.depth ≤ length s.before.events + length s.behind.events + length s.behind.events
  before_low =
      let e = length s.before.events in
      let all = turns_before s.before.events ++ turns_behind e s.behind.events in
      omega (
        arith,
        passed_depth (lead at_state.rest) at_state,
        begins_le s.before.text attaching (kinds_at e (turns_behind e s.behind.events)) first_state,
        kinds_few e (turns_behind e s.behind.events),
        turns_length (suc e + root_of s.behind.events) (suc e) s.behind.events,
        orders_le s.before.text attaching e all s.before.events 0 (begun_at root s.before.tokens),
        begun_few (0 + e) all,
        all_before,
      )

  module _ (p : Stretch) (hp : IsPiece p) (short : IsShort (set_in s p)) where
    abbrev whole_text : List ℕ
    whole_text = s.before.text ++ (p.text ++ s.behind.text)

    abbrev around_before : Around
    around_before = record { bytes = 0; behind = p.tokens ++ s.behind.tokens; open_nodes = 0; steps = []; faults = [] }

    abbrev around_piece : Around
    around_piece = record {
      bytes = length s.before.text;
      behind = s.behind.tokens;
      open_nodes = before_state.depth + 1;
      steps = before_state.steps;
      faults = faults_amid 0 (length (p.tokens ++ s.behind.tokens)) before_state.faults;
    }

    abbrev piece_state : Laying
    piece_state = walked p.text attaching (orders_inside p.events) (begun_at s.kind p.tokens)

    abbrev around_behind : Around
    around_behind = record {
      bytes = length (s.before.text ++ p.text);
      behind = [];
      open_nodes = 0;
      steps = before_state.steps ++ (piece_state.steps ++ ends ∷ []);
      faults = around_piece.faults ++ faults_amid (length s.before.text) (length s.behind.tokens) piece_state.faults;
    }

    -- sizes
    text_sum : length s.before.text + length p.text + length s.behind.text < 2 ^ 32
    text_sum = omega (arith, short.text, length-append s.before.text (p.text ++ s.behind.text), length-append p.text s.behind.text)

    event_sum : length s.before.events + length p.events + 1 + length s.behind.events < 2 ^ 32
    event_sum =
        let m = moved_events (length s.before.events) p.events in
        let l = map (event_later (length s.before.events) (length p.events)) s.behind.events in
        omega (
          arith,
          short.events,
          length-append s.before.events (m ++ Node s.kind (length s.before.events) ∷ l),
          length-append m (Node s.kind (length s.before.events) ∷ l),
          length-map p.events (moved_event (length s.before.events)),
          length-map s.behind.events (event_later (length s.before.events) (length p.events)),
        )

    none_top : 0 < 0 → ⊥
    none_top some = omega (arith, some)

    clear : lead (p.tokens ++ s.behind.tokens) ≡ 0
    clear = lead_both p.tokens s.behind.tokens (λ all. absurd (omega (arith, all, hp.first, hp.some))) ∙ hp.first

    -- ---- before the piece

    record AllTaken : Type 0 where
      rest : List RawToken
      left : left_after s.before.events s.before.tokens ≡ Some rest
      none : past_lead rest ≡ []

    all_taken : (o : Option (List RawToken)) → left_after s.before.events s.before.tokens ≡ o → option_map past_lead o ≡ Some [] → AllTaken
    all_taken None e g = (let bad : ◌≡◌ {A = Option (List RawToken)} None (Some []) = g in absurd (cc))
    all_taken (Some us) e g = (let same : ◌≡◌ {A = Option (List RawToken)} (Some (past_lead us)) (Some []) = g in record { rest = us; left = e; none = cc })

    taken_before : AllTaken
    taken_before = all_taken (left_after s.before.events s.before.tokens) refl h.taken

    first_fits : Fits s.before.text (begun_at root s.before.tokens)
    first_fits = start_fits s.before.text s.before.tokens (begun_at root s.before.tokens) h.cut_before refl refl refl

    small_before : length s.before.text < 2 ^ 32
    small_before = omega (arith, text_sum)

    room_before : length (turns_before s.before.events ++ turns_behind (length s.before.events) s.behind.events) + 0 < 2 ^ 64 - 1
    room_before = omega (arith, all_before, event_sum)

    stayed_before : Stayed s.before.text attaching around_before (length s.before.events) (turns_before s.before.events ++ turns_behind (length s.before.events) s.behind.events) room_before
        0 0 s.before.events (begun_at root s.before.tokens) taken_before.rest
    stayed_before =
        let all = turns_before s.before.events ++ turns_behind (length s.before.events) s.behind.events in
        stays s.before.text attaching around_before (length s.before.events) all room_before s.before.events 0 0 (begun_at root s.before.tokens) s.before.tokens taken_before.rest
        (ready_easy s.before.text attaching around_before (length s.before.events) all room_before clear none_top s.before.events 0 0 s.before.tokens)
        (inl refl) taken_before.left (λ some. absurd (none_top some))

    first_laid : walked whole_text attaching (orders_before s.before.events s.behind.events) (begun_at root (s.before.tokens ++ (p.tokens ++ s.behind.tokens))) ≡ amid around_before first_state
    first_laid = walked_amid s.before.text whole_text attaching around_before (is_in_front s.before.text (p.text ++ s.behind.text)) (omega (arith, text_sum))
        (orders_before s.before.events s.behind.events) (begun_at root s.before.tokens) first_fits stayed_before.stay

    second_fits : Fits s.before.text first_state
    second_fits = walked_fits s.before.text small_before attaching (orders_before s.before.events s.behind.events) (begun_at root s.before.tokens) first_fits

    at_laid : walked whole_text attaching (orders_at s.before.events s.behind.events) (amid around_before first_state) ≡ amid around_before at_state
    at_laid = walked_amid s.before.text whole_text attaching around_before (is_in_front s.before.text (p.text ++ s.behind.text)) (omega (arith, text_sum))
        (orders_at s.before.events s.behind.events) first_state second_fits
        (begins_stay s.before.text attaching around_before (kinds_at (length s.before.events) (turns_behind (length s.before.events) s.behind.events)) first_state (λ some none. clear) (λ some. absurd (none_top some)))

    at_fits : Fits s.before.text at_state
    at_fits = walked_fits s.before.text small_before attaching (orders_at s.before.events s.behind.events) first_state second_fits

    before_rest : before_state.rest ≡ []
    before_rest =
        passed_rest (lead at_state.rest) at_state
        ∙ leaves_past at_state.rest taken_before.rest (begins_rest s.before.text attaching (kinds_at (length s.before.events) (turns_behind (length s.before.events) s.behind.events)) first_state taken_before.rest stayed_before.rest)
        ∙ taken_before.none

    before_over : Over s.before.text before_state
    before_over = over s.before.text before_state (pass_all_fits s.before.text small_before (lead at_state.rest) at_state at_fits) before_rest

    -- ---- the piece

    begin_laid : ordered whole_text attaching (begin_node s.kind) (amid around_before at_state) ≡ amid around_piece (begun_at s.kind p.tokens)
    begin_laid =
        let n = lead at_state.rest in
        let t = amid around_before at_state in
        let b = amid around_before before_state in
        let all = p.tokens ++ s.behind.tokens in
        let same : lead (at_state.rest ++ all) ≡ n = lead_both at_state.rest all (λ e. clear) in
        let out : ℕ → ℕ = λ m. outside_of whole_text attaching s.kind (at_state.position + 0) (at_state.rest ++ all) m in
        let outside : out n ≡ n =
        ap (λ c. if c then n - attached_n n else n) (and_not (nat_lt 0 n) (attaches_of attaching s.kind) h.apart) in
        let zero_more : n - n ≡ 0 = omega arith in
        let low : b.depth < 2 ^ 64 - 1 = omega (arith, before_low, event_sum) in
        ap (λ m. begin_with s.kind m (out m) t) same
        ∙ ap (λ m. begin_with s.kind n m t) outside
        ∙ ap (λ m. pass_all_of m (enter_of s.kind (pass_all_of n t))) zero_more
        ∙ pass_all_none (enter_of s.kind (pass_all_of n t))
        ∙ ap (enter_of s.kind) (pass_all_in s.before.text whole_text attaching around_before (is_in_front s.before.text (p.text ++ s.behind.text)) (omega (arith, text_sum)) n at_state (lead_le at_state.rest) at_fits)
        ∙ enter_is s.kind b low
        ∙ laying_is (record b { depth = b.depth + 1; steps = b.steps ++ begins s.kind ∷ [] }) (amid around_piece (begun_at s.kind p.tokens))
        (sym (ap (λ (v : Laying). v.next) before_plain)) (sym (ap (λ (v : Laying). v.entering) before_plain))
        (ap (λ ts. ts ++ all) before_rest) before_over.cut (omega (arith, before_over.position)) (omega arith) refl
        (sym (append-nil (faults_amid 0 (length all) before_state.faults)))
      where
        attached_n : ℕ → ℕ
        attached_n n = attached whole_text (at_state.position + 0) (take n (at_state.rest ++ (p.tokens ++ s.behind.tokens)))

    piece_fits : Fits p.text (begun_at s.kind p.tokens)
    piece_fits = start_fits p.text p.tokens (begun_at s.kind p.tokens) hp.cut refl refl refl

    room_piece : length (turns_inside p.events) + (before_state.depth + 1) < 2 ^ 64 - 1
    room_piece = omega (arith, turns_length (length p.events) 0 p.events, before_low, event_sum)

    stayed_piece : Stayed p.text attaching around_piece (length p.events) (turns_inside p.events) room_piece 0 0 p.events (begun_at s.kind p.tokens) []
    stayed_piece =
        stays p.text attaching around_piece (length p.events) (turns_inside p.events) room_piece p.events 0 0 (begun_at s.kind p.tokens) p.tokens []
        (ready_piece p.text attaching around_piece hp.body hp.kind hp.signs hp.errors hp.last p.events hp.events room_piece p.tokens [] hp.taken)
        (inl refl) hp.taken (λ some. omega (arith, begun_zero (turns_inside p.events)))

    piece_laid : walked whole_text attaching (orders_inside p.events) (amid around_piece (begun_at s.kind p.tokens)) ≡ amid around_piece piece_state
    piece_laid = walked_amid p.text whole_text attaching around_piece (is_in_mid s.before.text p.text s.behind.text) (omega (arith, text_sum))
        (orders_inside p.events) (begun_at s.kind p.tokens) piece_fits stayed_piece.stay

    piece_rest : piece_state.rest ≡ []
    piece_rest = none_left stayed_piece.rest
      where
        none_left : Leaves piece_state.rest [] → piece_state.rest ≡ []
        none_left (inl e) = e
        none_left (inr e) = e ∙ ap (λ n. drop n []) lead_none

    piece_depth : piece_state.depth ≡ 0
    piece_depth =
        let r = length p.events in
        let one : 0 + r ≡ r = omega arith in
        omega (arith, stayed_piece.depth (omega arith), ap (λ n. begun n (turns_inside p.events)) one, begun_all r (turns_inside p.events) (turns_within r 0 r p.events (omega arith)))

    piece_over : Over p.text piece_state
    piece_over = over p.text piece_state (walked_fits p.text (omega (arith, text_sum)) attaching (orders_inside p.events) (begun_at s.kind p.tokens) piece_fits) piece_rest

    piece_plain : bare piece_state ≡ piece_state
    piece_plain = walked_bare p.text attaching (orders_inside p.events) (begun_at s.kind p.tokens)

    -- ---- behind the piece

    end_laid : ordered whole_text attaching end_node (amid around_piece piece_state) ≡ amid around_behind behind_start
    end_laid =
        let t = amid around_piece piece_state in
        let f = around_behind.faults in
        exit_is t (omega arith)
        ∙ laying_is (record t { depth = t.depth - 1; steps = t.steps ++ ends ∷ [] }) (amid around_behind behind_start)
        (sym (ap (λ (v : Laying). v.next) piece_plain)) (sym (ap (λ (v : Laying). v.entering) piece_plain))
        (ap (λ ts. ts ++ s.behind.tokens) piece_rest ∙ sym (append-nil s.behind.tokens)) piece_over.cut
        (omega (arith, piece_over.position, length-append s.before.text p.text)) (omega (arith, piece_depth))
        (append_assoc before_state.steps piece_state.steps (ends ∷ []) ∙ sym (append-nil (before_state.steps ++ (piece_state.steps ++ ends ∷ []))))
        (sym (append-nil f))

    behind_fits : Fits s.behind.text behind_start
    behind_fits = start_fits s.behind.text s.behind.tokens behind_start h.cut_behind refl refl refl

    behind_room : length s.behind.text + length (s.before.text ++ p.text) < 2 ^ 32
    behind_room = omega (arith, text_sum, length-append s.before.text p.text)

    behind_laid : walked whole_text attaching (orders_behind s.before.events s.behind.events) (amid around_behind behind_start) ≡ amid around_behind behind_state
    behind_laid = walked_amid s.behind.text whole_text attaching around_behind (is_in_back s.before.text p.text s.behind.text) behind_room
        (orders_behind s.before.events s.behind.events) behind_start behind_fits (easy_stay s.behind.text attaching around_behind refl none_top (orders_behind s.before.events s.behind.events) behind_start)

    last_laid : finish_of (amid around_behind behind_state) ≡ amid around_behind last_state
    last_laid = finish_amid s.behind.text whole_text attaching around_behind (is_in_back s.before.text p.text s.behind.text) behind_room behind_state refl none_top
        (walked_fits s.behind.text (omega (arith, text_sum)) attaching (orders_behind s.before.events s.behind.events) behind_start behind_fits)

    -- ---- all together

    orders_are : (es : List Event) (x : Event) (xs : List Event) → es ≡ x ∷ xs
        → orders_of (events_in s es) ≡ orders_before s.before.events s.behind.events ++ ((orders_at s.before.events s.behind.events ++ begin_node s.kind ∷ orders_inside es) ++ end_node ∷ orders_behind s.before.events s.behind.events)
    orders_are es x xs e =
        subst (λ es. orders_of (events_in s es) ≡ orders_before s.before.events s.behind.events ++ ((orders_at s.before.events s.behind.events ++ begin_node s.kind ∷ orders_inside es) ++ end_node ∷ orders_behind s.before.events s.behind.events))
        (sym e) (filled_orders s.before.events x xs s.behind.events s.kind h.around)

    orders_by : (body : List Event) → p.events ≡ body ++ Token hp.kind hp.signs ∷ hp.errors
        → orders_of (events_in s p.events) ≡ orders_before s.before.events s.behind.events ++ ((orders_at s.before.events s.behind.events ++ begin_node s.kind ∷ orders_inside p.events) ++ end_node ∷ orders_behind s.before.events s.behind.events)
    orders_by [] e = orders_are p.events (Token hp.kind hp.signs) hp.errors e
    orders_by (x ∷ xs) e = orders_are p.events x (xs ++ Token hp.kind hp.signs ∷ hp.errors) e

    whole_laid : ordered_of root attaching whole_text (s.before.tokens ++ (p.tokens ++ s.behind.tokens)) (orders_of (events_in s p.events)) ≡ amid around_behind last_state
    whole_laid =
        let start = begun_at root (s.before.tokens ++ (p.tokens ++ s.behind.tokens)) in
        let ob = orders_before s.before.events s.behind.events in
        let oa = orders_at s.before.events s.behind.events in
        let oi = orders_inside p.events in
        let oe = orders_behind s.before.events s.behind.events in
        let go : List Order → Laying → Laying = λ os t. walked whole_text attaching os t in
        ap (λ os. finish_of (go os start)) (orders_by hp.body hp.events)
        ∙ ap finish_of (walked_both whole_text attaching ob ((oa ++ begin_node s.kind ∷ oi) ++ end_node ∷ oe) start
        ∙ ap (go ((oa ++ begin_node s.kind ∷ oi) ++ end_node ∷ oe)) first_laid
        ∙ walked_both whole_text attaching (oa ++ begin_node s.kind ∷ oi) (end_node ∷ oe) (amid around_before first_state)
        ∙ ap (go (end_node ∷ oe)) (walked_both whole_text attaching oa (begin_node s.kind ∷ oi) (amid around_before first_state)
        ∙ ap (go (begin_node s.kind ∷ oi)) at_laid ∙ ap (go oi) begin_laid ∙ piece_laid)
        ∙ ap (go oe) end_laid ∙ behind_laid)
        ∙ last_laid

    laid_by_itself : Alone s.kind attaching p piece_state
    laid_by_itself = laid_alone s.kind attaching p (omega (arith, length-append p.events (Node s.kind 0 ∷ []), event_sum)) piece_state refl piece_rest piece_depth

    pub steps_filled : (laid root attaching (set_in s p)).steps ≡ before_state.steps ++ ((laid s.kind attaching (alone s.kind p)).steps ++ last_state.steps)
    steps_filled =
        let l = layouts_ordered root attaching whole_text (s.before.tokens ++ (p.tokens ++ s.behind.tokens)) (events_in s p.events) short.events in
        l.steps ∙ ap (λ (t : Laying). t.steps) whole_laid
        ∙ append_assoc before_state.steps (piece_state.steps ++ ends ∷ []) last_state.steps
        ∙ ap (λ steps. before_state.steps ++ (steps ++ last_state.steps)) (sym laid_by_itself.steps)

    pub bytes_filled : length s.before.text < 2 ^ 32 - 1 → bytes_taken before_state.steps ≡ length s.before.text
    bytes_filled few =
        let took : Took before_state =
        pass_all_took (lead at_state.rest) at_state
        (walked_took s.before.text attaching (orders_at s.before.events s.behind.events) first_state
        (walked_took s.before.text attaching (orders_before s.before.events s.behind.events) (begun_at root s.before.tokens) (omega arith))) in
        omega (arith, took, before_over.position, few)

    pub faults_filled : (laid root attaching (set_in s p)).faults
        ≡ faults_amid 0 (length (p.tokens ++ s.behind.tokens)) before_state.faults
        ++ (faults_amid (length s.before.text) (length s.behind.tokens) (laid s.kind attaching (alone s.kind p)).faults
        ++ faults_amid (length (s.before.text ++ p.text)) 0 last_state.faults)
    faults_filled =
        let l = layouts_ordered root attaching whole_text (s.before.tokens ++ (p.tokens ++ s.behind.tokens)) (events_in s p.events) short.events in
        let x = faults_amid 0 (length (p.tokens ++ s.behind.tokens)) before_state.faults in
        let z = faults_amid (length (s.before.text ++ p.text)) 0 last_state.faults in
        l.faults ∙ ap (λ (t : Laying). t.faults) whole_laid
        ∙ append_assoc x (faults_amid (length s.before.text) (length s.behind.tokens) piece_state.faults) z
        ∙ ap (λ fs. x ++ (faults_amid (length s.before.text) (length s.behind.tokens) fs ++ z)) (sym laid_by_itself.faults)

    pub lie_before_filled : All (λ f. f.position ≤ length s.before.text) before_state.faults
    lie_before_filled =
        let start = begun_at root s.before.tokens in
        let one : Said start first_state =
        walked_said s.before.text small_before attaching (orders_before s.before.events s.behind.events) start first_fits in
        let two : Said first_state at_state =
        walked_said s.before.text small_before attaching (orders_at s.before.events s.behind.events) first_state second_fits in
        let three : Said at_state before_state = pass_all_said s.before.text small_before (lead at_state.rest) at_state at_fits in
        said_before start before_state (length s.before.text) refl
        (said_twice start at_state before_state (said_twice start first_state at_state one two) three) (omega (arith, before_over.position))

    pub lie_behind_filled : All (λ f. f.left ≤ length s.behind.tokens) last_state.faults
    lie_behind_filled =
        let small : length s.behind.text < 2 ^ 32 = omega (arith, text_sum) in
        let os = orders_behind s.before.events s.behind.events in
        let fits = walked_fits s.behind.text small attaching os behind_start behind_fits in
        said_behind behind_start last_state refl
        (said_twice behind_start behind_state last_state (walked_said s.behind.text small attaching os behind_start behind_fits)
        (finish_said s.behind.text small behind_state fits))

  pub pieces_laid : LaidAround root attaching s
  pieces_laid = record {
    before = before_state.steps;
    behind = last_state.steps;
    faults_before = before_state.faults;
    faults_behind = last_state.faults;
    bytes = bytes_filled;
    steps = steps_filled;
    faults = faults_filled;
    lie_before = lie_before_filled;
    lie_behind = lie_behind_filled;
  }
