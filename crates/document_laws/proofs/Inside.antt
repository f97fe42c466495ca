-- Where the errors of a piece are: behind its first byte and before its last one.
use Rattle.std.proofs.Common.{◌≡◌, inl, ℕ, zero, suc, ◌+◌, ◌-◌, ◌≤◌, ◌<◌, ◌^◌, Bool, true, false, nat_lt, nat_eq, if◌then◌else◌, Option, Some, None, List, [], ◌∷◌, ◌++◌, length, take, drop, map, ap, ◌∙◌, refl, subst, sym, arith, append_assoc}
use Rattle.std.specs.Prelude.{All, position, option_and_then, reverse}
use Rattle.std.proofs.Math.Seq.{drop-append_seam}
use Rattle.std.proofs.lemmas.List.{length-append, reverse-append, take-append-drop}
use Rattle.std.proofs.lemmas.List.Elements.{All-head, All-tail, All-nil}
use Rattle.syntax_kind.specs.declared.syntax_kind.SyntaxKind.{SyntaxKind}
use Rattle.ras_front_end.specs.Reading.{begins, ends}
use Rattle.token_layout.specs.declared.span.Token.{Token as RawToken}
use Rattle.token_layout.specs.Laid.{IsCut}
use Rattle.grammar_machine.specs.declared.event.Event.{Event}
use Rattle.grammar_machine.specs.declared.event.Event.TheVariants.{Token, Node}
use Rattle.grammar_machine.specs.declared.event.Part.{Part}
use Rattle.event_layout.specs.declared.layout.ParserError.{ParserError}
use Rattle.event_layout.specs.Amid.{Around, Fits, sum_len, first_len}
use Rattle.event_layout.specs.Filled.{past_lead, left_by, left_after}
use Rattle.event_layout.proofs.Cutting.{no_dot_in}
use Rattle.event_layout.specs.Layout.{Laying, pass_on, pass_all_of, pass_trivia_of, join_on, cut_at, piece_on, enter_of, exit_of, exit_all_of, finish_of, laid_of, dot_of}
use Rattle.event_layout.specs.Orders.{Order, begin_node, take_joined, take_part, end_node, say, nothing, ordered, walked, Turn, turns, kinds_at, orders_from, orders_of, begun_at}
use Rattle.event_layout.specs.Trivia.{lead, part_of, outside_of}
use Rattle.event_layout.proofs.Amid.{lead_none, pass_all_fits, ordered_fits, walked_fits}
use Rattle.event_layout.proofs.Filled.{cut_sum}
use Rattle.event_layout.proofs.Ordering.{walked_both, layouts_ordered}
use Rattle.event_layout.proofs.Said.{Between, Said, said_twice, walked_said, all_too}
use Rattle.event_layout.proofs.Staying.{Leaves, leaves_past, past_length, some_left, trivia_rest, begins_rest, Stayed, stays, ready_easy}
use Rattle.event_layout.proofs.Turning.{turns_both, turns_length, turns_inside, orders_inside, orders_both, alone_orders}
use Rattle.rust_lexer.specs.Laws.{HasBytes}
use Rattle.document_laws.specs.Inside.{IsInside}

-- ---- orders that say nothing

pass_on_quiet : (ts : List RawToken) (s : Laying) → (pass_on ts s).faults ≡ s.faults
pass_on_quiet [] s = refl
pass_on_quiet (t ∷ ts) s = refl

pass_all_quiet : (n : ℕ) (s : Laying) → (pass_all_of n s).faults ≡ s.faults
unfolding pass_all_of
pass_all_quiet zero s = refl
pass_all_quiet (suc n) s = pass_on_quiet (pass_all_of n s).rest (pass_all_of n s) ∙ pass_all_quiet n s

join_quiet : (k : SyntaxKind) (more : ℕ) (ts : List RawToken) (s : Laying) → (join_on k more ts s).faults ≡ s.faults
join_quiet k more [] s = refl
join_quiet k more (t ∷ ts) s = refl

enter_quiet : (k : SyntaxKind) (s : Laying) → (enter_of k s).faults ≡ s.faults
enter_quiet k s = by (nat_lt s.depth (2 ^ 64 - 1))
  where
    by : (b : Bool) → (if b then record s { depth = s.depth + 1; steps = s.steps ++ begins k ∷ [] } else s).faults ≡ s.faults
    by true = refl
    by false = refl

exit_quiet : (s : Laying) → (exit_of s).faults ≡ s.faults
exit_quiet s = by (nat_lt 0 s.depth)
  where
    by : (b : Bool) → (if b then record s { depth = s.depth - 1; steps = s.steps ++ ends ∷ [] } else s).faults ≡ s.faults
    by true = refl
    by false = refl

exit_all_quiet : (n : ℕ) (s : Laying) → (exit_all_of n s).faults ≡ s.faults
unfolding exit_all_of
exit_all_quiet zero s = refl
exit_all_quiet (suc n) s = exit_quiet (exit_all_of n s) ∙ exit_all_quiet n s

finish_quiet : (s : Laying) → (finish_of s).faults ≡ s.faults
finish_quiet s =
    let t = pass_all_of (length s.rest) s in
    exit_all_quiet t.depth t ∙ pass_all_quiet (length s.rest) s

begin_quiet : (text : List ℕ) (attaching : List SyntaxKind) (k : SyntaxKind) (s : Laying) → (ordered text attaching (begin_node k) s).faults ≡ s.faults
begin_quiet text attaching k s =
    let out = outside_of text attaching k s.position s.rest (lead s.rest) in
    pass_all_quiet (lead s.rest - out) (enter_of k (pass_all_of out s)) ∙ enter_quiet k (pass_all_of out s) ∙ pass_all_quiet out s

begins_quiet : (text : List ℕ) (attaching : List SyntaxKind) (ks : List SyntaxKind) (s : Laying) → (walked text attaching (map begin_node ks) s).faults ≡ s.faults
begins_quiet text attaching [] s = refl
begins_quiet text attaching (k ∷ ks) s = begins_quiet text attaching ks (ordered text attaching (begin_node k) s) ∙ begin_quiet text attaching k s

take_quiet : (text : List ℕ) (attaching : List SyntaxKind) (k : SyntaxKind) (more : ℕ) (s : Laying) → (ordered text attaching (take_joined k more) s).faults ≡ s.faults
take_quiet text attaching k more s =
    let t = pass_trivia_of s in
    join_quiet k more t.rest t ∙ pass_all_quiet (lead s.rest) s

-- ---- the last token is not cut

same_last : (xs ys : List RawToken) (x y : RawToken) → xs ++ x ∷ [] ≡ ys ++ y ∷ [] → x ≡ y
same_last xs ys x y e =
    let turned : x ∷ reverse xs ≡ y ∷ reverse ys = sym (reverse-append xs (x ∷ [])) ∙ ap reverse e ∙ reverse-append ys (y ∷ []) in
    cc

all_behind : (xs ys : List RawToken) → All HasBytes (xs ++ ys) → All HasBytes ys
all_behind [] ys h = h
all_behind (x ∷ xs) ys h = all_behind xs ys (All-tail HasBytes x (xs ++ ys) h)

-- the last of the tokens has one byte, which is no dot
pub record EndsClosed (text : List ℕ) (ts : List RawToken) : Type 0 where
  pub front : List RawToken
  pub close : RawToken
  pub closed : ts ≡ front ++ close ∷ []
  pub one : close.len ≡ 1
  pub before : List ℕ
  pub parts : text ≡ before ++ 125 ∷ []

module _ (text : List ℕ) (small : length text < 2 ^ 32) (ts : List RawToken) (z : EndsClosed text ts) where
  -- the tokens that are left are the last ones, and if that is one it is not cut
  record Near (s : Laying) : Type 0 where
    gone : List RawToken
    is : ts ≡ gone ++ s.rest
    whole : length s.rest ≤ 1 → s.cut ≡ 0

  pass_on_near : (xs : List RawToken) (s : Laying) → s.rest ≡ xs → Near s → Near (pass_on xs s)
  pass_on_near [] s e h = h
  pass_on_near (t ∷ xs) s e h = record {
    gone = h.gone ++ t ∷ [];
    is = h.is ∙ ap (λ (ys : List RawToken). h.gone ++ ys) e ∙ sym (append_assoc h.gone (t ∷ []) xs);
    whole = λ few. refl;
  }

  pass_all_near : (n : ℕ) (s : Laying) → Near s → Near (pass_all_of n s)
  unfolding pass_all_of
  pass_all_near zero s h = h
  pass_all_near (suc n) s h = pass_on_near (pass_all_of n s).rest (pass_all_of n s) refl (pass_all_near n s h)

  join_on_near : (k : SyntaxKind) (more : ℕ) (xs : List RawToken) (s : Laying) → s.rest ≡ xs → Near s → Near (join_on k more xs s)
  join_on_near k more [] s e h = h
  join_on_near k more (t ∷ xs) s e h = record {
    gone = h.gone ++ t ∷ take more xs;
    is =
        h.is ∙ ap (λ (ys : List RawToken). h.gone ++ ys) e ∙ ap (λ (ys : List RawToken). h.gone ++ t ∷ ys) (sym (take-append-drop more xs))
        ∙ sym (append_assoc h.gone (t ∷ take more xs) (drop more xs));
    whole = λ few. refl;
  }

  no_dot : (p : Part) (t : RawToken) (s : Laying) → s.rest ≡ t ∷ [] → Fits text s → Near s
      → dot_of t.kind (part_of text s.position (t.len - s.cut)) ≡ None
  no_dot p t s e f h =
      let cut : s.cut ≡ 0 = h.whole (omega (arith, ap length e)) in
      let same : t ≡ z.close = same_last h.gone z.front t z.close (sym (h.is ∙ ap (λ (ys : List RawToken). h.gone ++ ys) e) ∙ z.closed) in
      let len : t.len ≡ 1 = ap (λ (u : RawToken). u.len) same ∙ z.one in
      let sum = f.sum in
      let long : length text ≡ length z.before + 1 = ap length z.parts ∙ length-append z.before (125 ∷ []) in
      let at : s.position ≡ length z.before = omega (arith, sum, cut, len, long, ap sum_len e) in
      let n : t.len - s.cut ≡ 1 = omega (arith, len, cut) in
      let byte : part_of text s.position (t.len - s.cut) ≡ 125 ∷ [] =
      ap (λ (i : ℕ). part_of text i (t.len - s.cut)) at ∙ ap (part_of text (length z.before)) n
      ∙ ap (λ (w : List ℕ). take 1 (drop (length z.before) w)) z.parts ∙ ap (take 1) (drop-append_seam z.before (125 ∷ [])) in
      no_dot_in t.kind (part_of text s.position (t.len - s.cut)) (ap (position (λ b. nat_eq b 46)) byte)

  piece_on_near : (p : Part) (xs : List RawToken) (s : Laying) → s.rest ≡ xs → Fits text s → Near s → Near (piece_on text p xs s)
  piece_on_near p [] s e f h = h
  piece_on_near p (t ∷ []) s e f h = subst (λ (o : Option ℕ). Near (cut_at p o s)) (sym (no_dot p t s e f h)) h
  piece_on_near p (t ∷ u ∷ xs) s e f h = by (dot_of t.kind (part_of text s.position (t.len - s.cut)))
    where
      by : (o : Option ℕ) → Near (cut_at p o s)
      by None = h
      by (Some dot) = record { gone = h.gone; is = h.is; whole = λ few. absurd (omega (arith, few, ap length e)) }

  enter_near : (k : SyntaxKind) (s : Laying) → Near s → Near (enter_of k s)
  enter_near k s h = by (nat_lt s.depth (2 ^ 64 - 1))
    where
      by : (b : Bool) → Near (if b then record s { depth = s.depth + 1; steps = s.steps ++ begins k ∷ [] } else s)
      by true = record { gone = h.gone; is = h.is; whole = h.whole }
      by false = h

  exit_near : (s : Laying) → Near s → Near (exit_of s)
  exit_near s h = by (nat_lt 0 s.depth)
    where
      by : (b : Bool) → Near (if b then record s { depth = s.depth - 1; steps = s.steps ++ ends ∷ [] } else s)
      by true = record { gone = h.gone; is = h.is; whole = h.whole }
      by false = h

  ordered_near : (attaching : List SyntaxKind) (o : Order) (s : Laying) → Fits text s → Near s → Near (ordered text attaching o s)
  ordered_near attaching (begin_node k) s f h =
      let out = outside_of text attaching k s.position s.rest (lead s.rest) in
      pass_all_near (lead s.rest - out) (enter_of k (pass_all_of out s)) (enter_near k (pass_all_of out s) (pass_all_near out s h))
  ordered_near attaching (take_joined k more) s f h =
      let t = pass_trivia_of s in
      join_on_near k more t.rest t refl (pass_all_near (lead s.rest) s h)
  ordered_near attaching (take_part p) s f h =
      let t = pass_trivia_of s in
      piece_on_near p t.rest t refl (pass_all_fits text small (lead s.rest) s f) (pass_all_near (lead s.rest) s h)
  ordered_near attaching end_node s f h = exit_near s h
  ordered_near attaching (say m) s f h = record { gone = h.gone; is = h.is; whole = h.whole }
  ordered_near attaching nothing s f h = h

  walked_near : (attaching : List SyntaxKind) (os : List Order) (s : Laying) → Fits text s → Near s → Near (walked text attaching os s)
  walked_near attaching [] s f h = h
  walked_near attaching (o ∷ os) s f h =
      walked_near attaching os (ordered text attaching o s) (ordered_fits text small attaching o s f) (ordered_near attaching o s f h)

  -- where tokens are left, bytes are
  bytes_left : (s : Laying) → All HasBytes ts → Fits text s → Near s → 0 < length s.rest → s.position < length text
  bytes_left s bytes f h some = by s.rest refl
    where
      by : (xs : List RawToken) → s.rest ≡ xs → s.position < length text
      by [] e = absurd (omega (arith, some, ap length e))
      by (t ∷ []) e =
          let all : All HasBytes (t ∷ []) = all_behind h.gone (t ∷ []) (subst (All HasBytes) (h.is ∙ ap (λ (ys : List RawToken). h.gone ++ ys) e) bytes) in
          let one : 0 < t.len = All-head HasBytes t [] all in
          let cut : s.cut ≡ 0 = h.whole (omega (arith, ap length e)) in
          let sum = f.sum in
          omega (arith, sum, one, cut, ap sum_len e)
      by (t ∷ u ∷ xs) e =
          let all : All HasBytes (t ∷ u ∷ xs) = all_behind h.gone (t ∷ u ∷ xs) (subst (All HasBytes) (h.is ∙ ap (λ (ys : List RawToken). h.gone ++ ys) e) bytes) in
          let two : 0 < u.len = All-head HasBytes u xs (All-tail HasBytes t (u ∷ xs) all) in
          let cut = f.cut in
          let sum = f.sum in
          omega (arith, sum, two, cut, ap sum_len e, ap first_len e)

-- ---- tokens of the first events

record Halves (body more : List Event) (ts us : List RawToken) : Type 0 where
  left : List RawToken
  first : left_after body ts ≡ Some left
  second : left_after more left ≡ Some us

halves_on : (e : Event) (body more : List Event) (ts us : List RawToken) (o : Option (List RawToken)) → left_by e ts ≡ o
    → option_and_then (left_after (body ++ more)) o ≡ Some us → ((vs : List RawToken) → left_after (body ++ more) vs ≡ Some us → Halves body more vs us)
    → Halves (e ∷ body) more ts us
halves_on e body more ts us None is h rest = absurd (let bad : ◌≡◌ {A = Option (List RawToken)} None (Some us) = h in cc)
halves_on e body more ts us (Some vs) is h rest =
    let w : Halves body more vs us = rest vs h in
    record { left = w.left; first = ap (option_and_then (left_after body)) is ∙ w.first; second = w.second }

halves : (body more : List Event) (ts us : List RawToken) → left_after (body ++ more) ts ≡ Some us → Halves body more ts us
halves [] more ts us h = record { left = ts; first = refl; second = h }
halves (e ∷ body) more ts us h = halves_on e body more ts us (left_by e ts) refl h (λ vs. halves body more vs us)

-- ---- the errors of a piece

record FirstTaken (k : SyntaxKind) (t : Laying) (ys xs : List RawToken) : Type 0 where
  rest : (join_on k 0 ys t).rest ≡ xs
  cut : (join_on k 0 ys t).cut ≡ 0

first_taken : (k : SyntaxKind) (t : Laying) (ys xs : List RawToken) (x : RawToken) → ys ≡ x ∷ xs → FirstTaken k t ys xs
first_taken k t ys xs x e = subst (λ (ys : List RawToken). FirstTaken k t ys xs) (sym e) (record { rest = refl; cut = refl })

first_event : (x y : Event) (xs ys : List Event) → x ∷ xs ≡ y ∷ ys → x ≡ y
first_event x y xs ys e = cc

module _ (k : SyntaxKind) (attaching : List SyntaxKind) (text : List ℕ) (ts : List RawToken) (es : List Event)
    (small : length text < 2 ^ 32) (few : length es + 1 < 2 ^ 32 - 1) (cut : IsCut ts text) (clear : lead ts ≡ 0) (bytes : All HasBytes ts)
    (z : EndsClosed text ts) (taken : left_after es ts ≡ Some []) where
  abbrev all : List Turn
  all = turns_inside es

  abbrev start : Laying
  start = begun_at k ts

  none_top : 0 < 0 → ⊥
  none_top some = omega (arith, some)

  start_fits : Fits text start
  start_fits =
      let sum : sum_len ts ≡ length text = cut_sum ts text cut in
      record { sum = omega (arith, sum); cut = omega arith; whole = λ more. refl; short = omega (arith, sum) }

  start_near : Near text small ts z start
  start_near = record { gone = []; is = refl; whole = λ few. refl }

  laid_faults : (laid_of k attaching text ts (es ++ Node k 0 ∷ [])).faults ≡ (walked text attaching (orders_inside es) start).faults
  laid_faults =
      let l = layouts_ordered k attaching text ts (es ++ Node k 0 ∷ []) (omega (arith, few, length-append es (Node k 0 ∷ []))) in
      l.faults ∙ finish_quiet (walked text attaching (orders_of (es ++ Node k 0 ∷ [])) start)
      ∙ ap (λ (os : List Order). (walked text attaching os start).faults) (alone_orders k es)
      ∙ ap (λ (s : Laying). s.faults) (walked_both text attaching (orders_inside es) (nothing ∷ []) start)

  abbrev around : Around
  around = record { bytes = 0; behind = []; open_nodes = 0; steps = []; faults = [] }

  module _ (body : List Event) (kind : SyntaxKind) (signs : ℕ) (is : es ≡ body ++ Token kind signs ∷ []) where
    abbrev last_kinds : List SyntaxKind
    last_kinds = kinds_at (0 + length (turns (length es) 0 body)) all

    -- before the last token, and before the nodes that begin with it
    abbrev mid_state : Laying
    mid_state = walked text attaching (orders_from all 0 (turns (length es) 0 body)) start

    abbrev last_state : Laying
    last_state = walked text attaching (map begin_node last_kinds) mid_state

    orders_are : orders_inside es ≡ orders_from all 0 (turns (length es) 0 body) ++ (map begin_node last_kinds ++ take_joined kind (signs - 1) ∷ [])
    orders_are =
        let r = length es in
        ap (orders_from all 0) (ap (turns r 0) is ∙ turns_both r 0 body (Token kind signs ∷ []))
        ∙ orders_both all 0 (turns r 0 body) (turns r (0 + length body) (Token kind signs ∷ []))

    walked_faults : (walked text attaching (orders_inside es) start).faults ≡ last_state.faults
    walked_faults =
        let a = orders_from all 0 (turns (length es) 0 body) in
        let b = map begin_node last_kinds in
        let l = take_joined kind (signs - 1) ∷ [] in
        ap (λ (os : List Order). (walked text attaching os start).faults) orders_are
        ∙ ap (λ (s : Laying). s.faults) (walked_both text attaching a (b ++ l) start ∙ walked_both text attaching b l mid_state)
        ∙ take_quiet text attaching kind (signs - 1) last_state

    h : Halves body (Token kind signs ∷ []) ts []
    h = halves body (Token kind signs ∷ []) ts [] (sym (ap (λ (xs : List Event). left_after xs ts) is) ∙ taken)

    room : length all + 0 < 2 ^ 64 - 1
    room = omega (arith, turns_length (length es) 0 es, few)

    stayed : Stayed text attaching around (length es) all room 0 0 body start h.left
    stayed =
        stays text attaching around (length es) all room body 0 0 start ts h.left
        (ready_easy text attaching around (length es) all room lead_none none_top body 0 0 ts)
        (inl refl) h.first (λ some. absurd (none_top some))

    some_rest : 0 < length last_state.rest
    some_rest =
        let l : Leaves last_state.rest h.left = begins_rest text attaching last_kinds mid_state h.left stayed.rest in
        let some : 0 < length (past_lead h.left) = some_left [] kind signs [] h.left [] h.second in
        omega (arith, some, past_length last_state.rest, ap length (leaves_past last_state.rest h.left l))

    mid_fits : Fits text mid_state
    mid_fits = walked_fits text small attaching (orders_from all 0 (turns (length es) 0 body)) start start_fits

    last_fits : Fits text last_state
    last_fits = walked_fits text small attaching (map begin_node last_kinds) mid_state mid_fits

    last_near : Near text small ts z last_state
    last_near =
        walked_near text small ts z attaching (map begin_node last_kinds) mid_state mid_fits
        (walked_near text small ts z attaching (orders_from all 0 (turns (length es) 0 body)) start start_fits start_near)

    last_low : last_state.position < length text
    last_low = bytes_left text small ts z last_state bytes last_fits last_near some_rest

  first_more : (j : SyntaxKind) (own : List Event) (kind : SyntaxKind) (signs : ℕ) → es ≡ (Token j 1 ∷ own) ++ Token kind signs ∷ []
      → (x : RawToken) (xs : List RawToken) → ts ≡ x ∷ xs → All (IsInside (length text) (length ts)) (laid_of k attaching text ts (es ++ Node k 0 ∷ [])).faults
  first_more j own kind signs is x xs e =
      let r = length es in
      let body = Token j 1 ∷ own in
      let begun = walked text attaching (map begin_node (kinds_at 0 all)) start in
      let first = ordered text attaching (take_joined j 0) begun in
      let later = orders_from all 1 (turns r 1 own) in
      let mid = mid_state body kind signs is in
      let last = last_state body kind signs is in
      let ks = last_kinds body kind signs is in
      let both : mid ≡ walked text attaching later first =
      walked_both text attaching (map begin_node (kinds_at 0 all)) (take_joined j 0 ∷ later) start in
      let begun_fits : Fits text begun = walked_fits text small attaching (map begin_node (kinds_at 0 all)) start start_fits in
      let fits : Fits text first = ordered_fits text small attaching (take_joined j 0) begun begun_fits in
      let leaves : Leaves begun.rest ts = begins_rest text attaching (kinds_at 0 all) start ts (inl refl) in
      let there : (pass_trivia_of begun).rest ≡ x ∷ xs =
      trivia_rest begun ∙ leaves_past begun.rest ts leaves ∙ ap (λ (n : ℕ). drop n ts) clear ∙ e in
      let f : FirstTaken j (pass_trivia_of begun) (pass_trivia_of begun).rest xs = first_taken j (pass_trivia_of begun) (pass_trivia_of begun).rest xs x there in
      let none : first.faults ≡ [] = take_quiet text attaching j 0 begun ∙ begins_quiet text attaching (kinds_at 0 all) start in
      let one : 0 < x.len = All-head HasBytes x xs (subst (All HasBytes) e bytes) in
      let sum = fits.sum in
      let at : 0 < first.position =
      omega (arith, sum, ap sum_len f.rest, f.cut, ap sum_len e, cut_sum ts text cut, one) in
      let said : Said first last =
      said_twice first mid last (subst (λ (s : Laying). Said first s) (sym both) (walked_said text small attaching later first fits))
      (walked_said text small attaching (map begin_node ks) mid (mid_fits body kind signs is)) in
      let low : last.position < length text = last_low body kind signs is in
      let some : 0 < length last.rest = some_rest body kind signs is in
      let count : length first.rest ≤ length ts = omega (arith, ap length f.rest, ap length e) in
      let inside : All (IsInside (length text) (length ts)) said.added =
      all_too (Between first.position last.position (length last.rest) (length first.rest)) (IsInside (length text) (length ts))
      (λ g b. let p = b.low in let q = b.high in let m = b.few in let n = b.many in
      record { low = omega (arith, p, at); high = omega (arith, q, low); few = omega (arith, m, some); many = omega (arith, n, count) })
      said.added said.between in
      subst (All (IsInside (length text) (length ts)))
      (sym (laid_faults ∙ walked_faults body kind signs is ∙ said.faults ∙ ap (λ (fs : List ParserError). fs ++ said.added) none)) inside

  only_last : (kind : SyntaxKind) (signs : ℕ) → es ≡ Token kind signs ∷ [] → All (IsInside (length text) (length ts)) (laid_of k attaching text ts (es ++ Node k 0 ∷ [])).faults
  only_last kind signs is =
      subst (All (IsInside (length text) (length ts)))
      (sym (laid_faults ∙ walked_faults [] kind signs is ∙ begins_quiet text attaching (last_kinds [] kind signs is) start))
      (All-nil (IsInside (length text) (length ts)))

  pub errors_inside : (j : SyntaxKind) (later body : List Event) (kind : SyntaxKind) (signs : ℕ) → es ≡ Token j 1 ∷ later → es ≡ body ++ Token kind signs ∷ []
      → All (IsInside (length text) (length ts)) (laid_of k attaching text ts (es ++ Node k 0 ∷ [])).faults
  errors_inside j later [] kind signs first is = only_last kind signs is
  errors_inside j later (x ∷ own) kind signs first is = by ts refl
    where
      by : (us : List RawToken) → ts ≡ us → All (IsInside (length text) (length ts)) (laid_of k attaching text ts (es ++ Node k 0 ∷ [])).faults
      by [] e = absurd (omega (arith, ap length (sym e ∙ z.closed), length-append z.front (z.close ∷ [])))
      by (t ∷ us) e =
          let same : x ≡ Token j 1 = first_event x (Token j 1) (own ++ Token kind signs ∷ []) later (sym is ∙ first) in
          first_more j own kind signs (is ∙ ap (λ (y : Event). y ∷ (own ++ Token kind signs ∷ [])) same) t us e
