-- The orders of events that take the tokens of a part stay in it.
use Rattle.std.proofs.Common.{◌≡◌, ◌⊎◌, inl, inr, ℕ, suc, ◌+◌, ◌-◌, ◌≤◌, ◌<◌, ◌^◌, min, List, [], ◌∷◌, ◌++◌, length, map, drop, ap, ap₂, sym, ◌∙◌, refl, arith, subst, Option, Some, None, Bool, true, false, if◌then◌else◌, nat_lt, nat_eq, add-one}
use Rattle.std.specs.Prelude.{nat_le, option_map, option_and_then}
use Rattle.std.proofs.lemmas.Bool.{lt-ltb, le-ltb}
use Rattle.std.proofs.lemmas.Bool.Decides.{nat_tests}
use Rattle.std.proofs.lemmas.List.{drop-drop, length-append, length-drop}
use Rattle.syntax_kind.specs.declared.syntax_kind.SyntaxKind.{SyntaxKind}
use Rattle.ras_front_end.specs.Reading.{begins, ends}
use Rattle.token_layout.specs.declared.span.Token.{Token as RawToken}
use Rattle.grammar_machine.specs.declared.event.Event.{Event}
use Rattle.grammar_machine.specs.declared.event.Event.TheVariants.{Token, Piece, Node, Error}
use Rattle.grammar_machine.specs.declared.event.Part.{Part}
use Rattle.event_layout.specs.Trivia.{lead, part_of, outside_of}
use Rattle.event_layout.specs.Layout.{Laying, pass_all_of, pass_trivia_of, join_on, join_of, kind_of_part, cut_at, piece_on, piece_of, enter_of, exit_of, dot_of}
use Rattle.event_layout.specs.Made.{Span, node_of}
use Rattle.event_layout.specs.Orders.{Order, begin_node, take_joined, take_part, end_node, say, nothing, ordered, walked, Turn, order_of, turns, kind_if, kinds_at, orders_from}
use Rattle.event_layout.specs.Amid.{Around, HasLeft, Stays, AllStay}
use Rattle.event_layout.specs.Filled.{past_lead, taken, left_by, left_after}
use Rattle.event_layout.proofs.Walking.{one_before, one_node}
use Rattle.event_layout.proofs.Amid.{lead_le, lead_none, lead_past, passed_rest, passed_depth, entered_rest, outside_le}
use Rattle.event_layout.proofs.Ordering.{walked_both}
use Rattle.event_layout.proofs.Turning.{NodeIn, Within}

-- ---- how many nodes begin and end

-- those that begin before event m
abbrev pub begun : ℕ → List Turn → ℕ
begun m [] = 0
begun m (t ∷ ts) = one_before m t.node + begun m ts

abbrev pub ended : List Turn → ℕ
ended [] = 0
ended (t ∷ ts) = one_node t.node + ended ts

one_more : (m : ℕ) (o : Option Span) → one_before (suc m) o ≡ one_before m o + length (kind_if m o)
one_more m None = omega arith
one_more m (Some s) = by_tests (nat_lt s.from (suc m)) (nat_lt s.from m) (nat_eq s.from m) refl refl refl
  where
    by_tests : (b c d : Bool) → nat_lt s.from (suc m) ≡ b → nat_lt s.from m ≡ c → nat_eq s.from m ≡ d
        → (if b then 1 else 0) ≡ (if c then 1 else 0) + length (if d then s.kind ∷ [] else [])
    by_tests true true true e f g = absurd (grind (arith, nat_tests, f, g))
    by_tests true true false e f g = omega arith
    by_tests true false true e f g = omega arith
    by_tests true false false e f g = absurd (grind (arith, nat_tests, e, f, g))
    by_tests false true d e f g = absurd (grind (arith, nat_tests, e, f))
    by_tests false false true e f g = absurd (grind (arith, nat_tests, e, g))
    by_tests false false false e f g = omega arith

pub begun_more : (m : ℕ) (ts : List Turn) → begun (suc m) ts ≡ begun m ts + length (kinds_at m ts)
begun_more m [] = omega arith
begun_more m (t ∷ ts) = omega (arith, one_more m t.node, begun_more m ts, length-append (kinds_at m ts) (kind_if m t.node))

one_all : (m : ℕ) (o : Option Span) → NodeIn 0 m o → one_before m o ≡ one_node o
one_all m None h = refl
one_all m (Some s) h = ap (λ b. if b then 1 else 0) (lt-ltb s.from m h.1)

pub begun_all : (m : ℕ) (ts : List Turn) → Within 0 m ts → begun m ts ≡ ended ts
begun_all m [] h = refl
begun_all m (t ∷ ts) h = ap₂ (λ a b. a + b) (one_all m t.node h.0) (begun_all m ts h.1)

one_few : (b : Bool) → (if b then 1 else 0) ≤ 1
one_few true = omega arith
one_few false = omega arith

one_low : (m : ℕ) (o : Option Span) → one_before m o ≤ 1
one_low m None = omega arith
one_low m (Some s) = one_few (nat_lt s.from m)

pub begun_few : (m : ℕ) (ts : List Turn) → begun m ts ≤ length ts
begun_few m [] = omega arith
begun_few m (t ∷ ts) = omega (arith, begun_few m ts, one_low m t.node)

pub begun_both : (m : ℕ) (xs ys : List Turn) → begun m (xs ++ ys) ≡ begun m xs + begun m ys
begun_both m [] ys = omega arith
begun_both m (x ∷ xs) ys = omega (arith, begun_both m xs ys)

pub ended_both : (xs ys : List Turn) → ended (xs ++ ys) ≡ ended xs + ended ys
ended_both [] ys = omega arith
ended_both (x ∷ xs) ys = omega (arith, ended_both xs ys)

one_zero : (o : Option Span) → one_before 0 o ≡ 0
one_zero None = refl
one_zero (Some s) = ap (λ b. if b then 1 else 0) (le-ltb s.from 0 (omega arith))

pub begun_zero : (ts : List Turn) → begun 0 ts ≡ 0
begun_zero [] = refl
begun_zero (t ∷ ts) = omega (arith, one_zero t.node, begun_zero ts)

kind_few : (m : ℕ) (o : Option Span) → length (kind_if m o) ≤ 1
kind_few m None = omega arith
kind_few m (Some s) = by_test (nat_eq s.from m)
  where
    by_test : (b : Bool) → length (if b then s.kind ∷ [] else []) ≤ 1
    by_test true = omega arith
    by_test false = omega arith

pub kinds_few : (m : ℕ) (ts : List Turn) → length (kinds_at m ts) ≤ length ts
kinds_few m [] = omega arith
kinds_few m (t ∷ ts) = omega (arith, kinds_few m ts, kind_few m t.node, length-append (kinds_at m ts) (kind_if m t.node))

-- ---- the tokens that are left

pub past_past : (ts : List RawToken) → past_lead (past_lead ts) ≡ past_lead ts
past_past ts = ap (λ n. drop n (past_lead ts)) (lead_past ts)

pub past_length : (ts : List RawToken) → length (past_lead ts) ≡ length ts - lead ts
past_length ts = length-drop (lead ts) ts

-- all, or all but the white space and comments that come first
abbrev pub Leaves : List RawToken → List RawToken → Type 0
Leaves rest ts = (rest ≡ ts) ⊎ (rest ≡ past_lead ts)

pub leaves_past : (rest ts : List RawToken) → Leaves rest ts → past_lead rest ≡ past_lead ts
leaves_past rest ts (inl e) = ap past_lead e
leaves_past rest ts (inr e) = ap past_lead e ∙ past_past ts

record Taken (n : ℕ) (ts us : List RawToken) : Type 0 where
  enough : n ≤ length ts
  is : us ≡ drop n ts

taken_some : (n : ℕ) (ts us : List RawToken) → taken n ts ≡ Some us → Taken n ts us
taken_some n ts us h = by_test (nat_le n (length ts)) refl h
  where
    by_test : (b : Bool) → nat_le n (length ts) ≡ b → (if b then Some (drop n ts) else None) ≡ Some us → Taken n ts us
    by_test true e g = (let same : ◌≡◌ {A = Option (List RawToken)} (Some (drop n ts)) (Some us) = g in record { enough = grind (arith, nat_tests, e); is = cc })
    by_test false e g = (let bad : ◌≡◌ {A = Option (List RawToken)} None (Some us) = g in absurd (cc))

part_some : (ts us vs : List RawToken) → option_map (λ (ws : List RawToken). ts) (taken 1 (past_lead ts)) ≡ Some us → Taken 0 ts us × (1 ≤ length (past_lead ts))
part_some ts us vs h = by_test (nat_le 1 (length (past_lead ts))) refl h
  where
    by_test : (b : Bool) → nat_le 1 (length (past_lead ts)) ≡ b → option_map (λ (ws : List RawToken). ts) (if b then Some (drop 1 (past_lead ts)) else None) ≡ Some us → Taken 0 ts us × (1 ≤ length (past_lead ts))
    by_test true e g = (let same : ◌≡◌ {A = Option (List RawToken)} (Some ts) (Some us) = g in (record { enough = omega arith; is = cc }, grind (arith, nat_tests, e)))
    by_test false e g = (let bad : ◌≡◌ {A = Option (List RawToken)} None (Some us) = g in absurd (cc))

none_some : (us : List RawToken) → ◌≡◌ {A = Option (List RawToken)} None (Some us) → ⊥
none_some us h = cc

some_is : (ts us : List RawToken) → ◌≡◌ {A = Option (List RawToken)} (Some ts) (Some us) → ts ≡ us
some_is ts us h = cc

-- what a token event takes is there
pub some_left : (body : List Event) (k : SyntaxKind) (signs : ℕ) (more : List Event) (ts us : List RawToken)
    → left_after (body ++ Token k signs ∷ more) ts ≡ Some us → 0 < length (past_lead ts)
some_left [] k signs more ts us h = by_result (taken (signs - 1 + 1) (past_lead ts)) refl h
  where
    by_result : (o : Option (List RawToken)) → taken (signs - 1 + 1) (past_lead ts) ≡ o → option_and_then (left_after more) o ≡ Some us → 0 < length (past_lead ts)
    by_result None e g = absurd (none_some us g)
    by_result (Some vs) e g = omega (arith, (taken_some (signs - 1 + 1) (past_lead ts) vs e).enough)
some_left (Node j from ∷ body) k signs more ts us h = some_left body k signs more ts us h
some_left (Error m ∷ body) k signs more ts us h = some_left body k signs more ts us h
some_left (Token j n ∷ body) k signs more ts us h = by_result (taken (n - 1 + 1) (past_lead ts)) refl h
  where
    by_result : (o : Option (List RawToken)) → taken (n - 1 + 1) (past_lead ts) ≡ o → option_and_then (left_after (body ++ Token k signs ∷ more)) o ≡ Some us → 0 < length (past_lead ts)
    by_result None e g = absurd (none_some us g)
    by_result (Some vs) e g = omega (arith, (taken_some (n - 1 + 1) (past_lead ts) vs e).enough)
some_left (Piece p true ∷ body) k signs more ts us h = by_result (taken 1 (past_lead ts)) refl h
  where
    by_result : (o : Option (List RawToken)) → taken 1 (past_lead ts) ≡ o → option_and_then (left_after (body ++ Token k signs ∷ more)) o ≡ Some us → 0 < length (past_lead ts)
    by_result None e g = absurd (none_some us g)
    by_result (Some vs) e g = omega (arith, (taken_some 1 (past_lead ts) vs e).enough)
some_left (Piece p false ∷ body) k signs more ts us h = by_result (taken 1 (past_lead ts)) refl h
  where
    by_result : (o : Option (List RawToken)) → taken 1 (past_lead ts) ≡ o → option_and_then (left_after (body ++ Token k signs ∷ more)) (option_map (λ (ws : List RawToken). ts) o) ≡ Some us → 0 < length (past_lead ts)
    by_result None e g = absurd (none_some us g)
    by_result (Some vs) e g = omega (arith, (taken_some 1 (past_lead ts) vs e).enough)

-- ---- what an order leaves

join_on_rest : (k : SyntaxKind) (more : ℕ) (ts : List RawToken) (s : Laying) → s.rest ≡ ts → (join_on k more ts s).rest ≡ drop (more + 1) ts
join_on_rest k more [] s e = e ∙ sym (ap (λ n. drop n []) (add-one more))
join_on_rest k more (t ∷ ts) s e = sym (ap (λ n. drop n (t ∷ ts)) (add-one more))

join_on_depth : (k : SyntaxKind) (more : ℕ) (ts : List RawToken) (s : Laying) → (join_on k more ts s).depth ≡ s.depth
join_on_depth k more [] s = refl
join_on_depth k more (t ∷ ts) s = refl

cut_at_rest : (p : Part) (o : Option ℕ) (s : Laying) → ((cut_at p o s).rest ≡ s.rest) × ((cut_at p o s).depth ≡ s.depth)
cut_at_rest p None s = (refl, refl)
cut_at_rest p (Some dot) s = (refl, refl)

piece_on_rest : (text : List ℕ) (p : Part) (ts : List RawToken) (s : Laying) → ((piece_on text p ts s).rest ≡ s.rest) × ((piece_on text p ts s).depth ≡ s.depth)
piece_on_rest text p [] s = (refl, refl)
piece_on_rest text p (t ∷ ts) s = cut_at_rest p (dot_of t.kind (part_of text s.position (t.len - s.cut))) s

pub trivia_rest : (s : Laying) → (pass_trivia_of s).rest ≡ past_lead s.rest
trivia_rest s = passed_rest (lead s.rest) s

abbrev deeper : SyntaxKind → Laying → Laying
deeper k s = record s { depth = s.depth + 1; steps = s.steps ++ begins k ∷ [] }

pub enter_is : (k : SyntaxKind) (s : Laying) → s.depth < 2 ^ 64 - 1 → enter_of k s ≡ record s { depth = s.depth + 1; steps = s.steps ++ begins k ∷ [] }
enter_is k s h = ap (λ b. if b then deeper k s else s) (lt-ltb s.depth (2 ^ 64 - 1) h)

pub exit_is : (s : Laying) → 0 < s.depth → exit_of s ≡ record s { depth = s.depth - 1; steps = s.steps ++ ends ∷ [] }
exit_is s h =
    let t : Laying = record s { depth = s.depth - 1; steps = s.steps ++ ends ∷ [] } in
    ap (λ b. if b then t else s) (lt-ltb 0 s.depth h)

enter_le : (k : SyntaxKind) (b : Bool) (s : Laying) → (if b then deeper k s else s).depth ≤ s.depth + 1
enter_le k true s = omega arith
enter_le k false s = omega arith

exit_le : (b : Bool) (s : Laying) → (if b then record s { depth = s.depth - 1; steps = s.steps ++ ends ∷ [] } else s).depth ≤ s.depth
exit_le true s = omega arith
exit_le false s = omega arith

exit_rest : (b : Bool) (s : Laying) → (if b then record s { depth = s.depth - 1; steps = s.steps ++ ends ∷ [] } else s).rest ≡ s.rest
exit_rest true s = refl
exit_rest false s = refl

module _ (text : List ℕ) (attaching : List SyntaxKind) where
  pub begin_rest : (k : SyntaxKind) (s : Laying) → (ordered text attaching (begin_node k) s).rest ≡ past_lead s.rest
  begin_rest k s =
      let n = lead s.rest in
      let out = outside_of text attaching k s.position s.rest n in
      let t = pass_all_of out s in
      let sum : out + (n - out) ≡ n = omega (arith, outside_le text attaching k s.position s.rest n) in
      passed_rest (n - out) (enter_of k t) ∙ ap (drop (n - out)) (entered_rest k t ∙ passed_rest out s) ∙ drop-drop (n - out) out s.rest ∙ ap (λ m. drop m s.rest) sum

  begin_depth : (k : SyntaxKind) (s : Laying) → s.depth < 2 ^ 64 - 1 → (ordered text attaching (begin_node k) s).depth ≡ s.depth + 1
  begin_depth k s h =
      let n = lead s.rest in
      let out = outside_of text attaching k s.position s.rest n in
      let t = pass_all_of out s in
      let same = passed_depth out s in
      passed_depth (n - out) (enter_of k t) ∙ ap (λ (u : Laying). u.depth) (enter_is k t (omega (arith, same, h))) ∙ ap (λ d. d + 1) same

  begin_le : (k : SyntaxKind) (s : Laying) → (ordered text attaching (begin_node k) s).depth ≤ s.depth + 1
  begin_le k s =
      let n = lead s.rest in
      let out = outside_of text attaching k s.position s.rest n in
      let t = pass_all_of out s in
      omega (arith, passed_depth (n - out) (enter_of k t), enter_le k (nat_lt t.depth (2 ^ 64 - 1)) t, passed_depth out s)

  pub begins_rest : (ks : List SyntaxKind) (s : Laying) (ts : List RawToken) → Leaves s.rest ts → Leaves (walked text attaching (map begin_node ks) s).rest ts
  begins_rest [] s ts h = h
  begins_rest (k ∷ ks) s ts h = begins_rest ks (ordered text attaching (begin_node k) s) ts (inr (begin_rest k s ∙ leaves_past s.rest ts h))

  begins_depth : (ks : List SyntaxKind) (s : Laying) → s.depth + length ks < 2 ^ 64 - 1 → (walked text attaching (map begin_node ks) s).depth ≡ s.depth + length ks
  begins_depth [] s h = omega arith
  begins_depth (k ∷ ks) s h =
      let one = begin_depth k s (omega (arith, h)) in
      begins_depth ks (ordered text attaching (begin_node k) s) (omega (arith, h, one)) ∙ omega (arith, one)

  pub begins_le : (ks : List SyntaxKind) (s : Laying) → (walked text attaching (map begin_node ks) s).depth ≤ s.depth + length ks
  begins_le [] s = omega arith
  begins_le (k ∷ ks) s = omega (arith, begins_le ks (ordered text attaching (begin_node k) s), begin_le k s)

  join_rest : (k : SyntaxKind) (more : ℕ) (s : Laying) (ts : List RawToken) → Leaves s.rest ts → (join_of k more (pass_trivia_of s)).rest ≡ drop (more + 1) (past_lead ts)
  join_rest k more s ts h = let t = pass_trivia_of s in join_on_rest k more t.rest t refl ∙ ap (drop (more + 1)) (trivia_rest s ∙ leaves_past s.rest ts h)

  join_depth : (k : SyntaxKind) (more : ℕ) (s : Laying) → (join_of k more (pass_trivia_of s)).depth ≡ s.depth
  join_depth k more s = let t = pass_trivia_of s in join_on_depth k more t.rest t ∙ passed_depth (lead s.rest) s

  piece_rest : (p : Part) (s : Laying) (ts : List RawToken) → Leaves s.rest ts → (piece_of text p (pass_trivia_of s)).rest ≡ past_lead ts
  piece_rest p s ts h = let t = pass_trivia_of s in (piece_on_rest text p t.rest t).0 ∙ trivia_rest s ∙ leaves_past s.rest ts h

  piece_depth : (p : Part) (s : Laying) → (piece_of text p (pass_trivia_of s)).depth ≡ s.depth
  piece_depth p s = let t = pass_trivia_of s in (piece_on_rest text p t.rest t).1 ∙ passed_depth (lead s.rest) s

  order_rest : (r m : ℕ) (e : Event) (s : Laying) (ts us : List RawToken) → Leaves s.rest ts → left_by e ts ≡ Some us → Leaves (ordered text attaching (order_of r m e) s).rest us
  order_rest r m (Token k signs) s ts us h left = inl (join_rest k (signs - 1) s ts h ∙ sym (taken_some (signs - 1 + 1) (past_lead ts) us left).is)
  order_rest r m (Piece p true) s ts us h left = inl (join_rest (kind_of_part p) 0 s ts h ∙ sym (taken_some 1 (past_lead ts) us left).is)
  order_rest r m (Piece p false) s ts us h left = inr (piece_rest p s ts h ∙ ap past_lead (sym (part_some ts us us left).0.is))
  order_rest r m (Error n) s ts us h left = subst (Leaves s.rest) (some_is ts us left) h
  order_rest r m (Node k from) s ts us h left = by_test (nat_eq m r)
    where
      by_test : (b : Bool) → Leaves (ordered text attaching (if b then nothing else end_node) s).rest us
      by_test true = subst (Leaves s.rest) (some_is ts us left) h
      by_test false = subst (λ rest. Leaves rest us) (sym (exit_rest (nat_lt 0 s.depth) s)) (subst (Leaves s.rest) (some_is ts us left) h)

  order_depth : (r m : ℕ) (e : Event) (s : Laying) → (0 < one_node (node_of r m (Some e)) → 0 < s.depth)
      → (ordered text attaching (order_of r m e) s).depth + one_node (node_of r m (Some e)) ≡ s.depth
  order_depth r m (Token k signs) s h = omega (arith, join_depth k (signs - 1) s)
  order_depth r m (Piece p true) s h = omega (arith, join_depth (kind_of_part p) 0 s)
  order_depth r m (Piece p false) s h = omega (arith, piece_depth p s)
  order_depth r m (Error n) s h = omega arith
  order_depth r m (Node k from) s h = by_test (nat_eq m r) h
    where
      by_test : (b : Bool) → (0 < one_node (if b then None else Some (record { kind = k; from = min from m })) → 0 < s.depth)
          → (ordered text attaching (if b then nothing else end_node) s).depth + one_node (if b then None else Some (record { kind = k; from = min from m })) ≡ s.depth
      by_test true g = omega arith
      by_test false g = let some : 0 < s.depth = g (omega arith) in omega (arith, some, ap (λ (t : Laying). t.depth) (exit_is s some))

  order_le : (r m : ℕ) (e : Event) (s : Laying) → (ordered text attaching (order_of r m e) s).depth ≤ s.depth
  order_le r m (Token k signs) s = omega (arith, join_depth k (signs - 1) s)
  order_le r m (Piece p true) s = omega (arith, join_depth (kind_of_part p) 0 s)
  order_le r m (Piece p false) s = omega (arith, piece_depth p s)
  order_le r m (Error n) s = omega arith
  order_le r m (Node k from) s = by_test (nat_eq m r)
    where
      by_test : (b : Bool) → (ordered text attaching (if b then nothing else end_node) s).depth ≤ s.depth
      by_test true = omega arith
      by_test false = exit_le (nat_lt 0 s.depth) s

  -- ---- orders in the midst of others

  pub orders_le : (r : ℕ) (all : List Turn) (es : List Event) (m : ℕ) (s : Laying)
      → (walked text attaching (orders_from all m (turns r m es)) s).depth + begun m all ≤ s.depth + begun (m + length es) all
  orders_le r all [] m s = let e : m + 0 ≡ m = omega arith in omega (arith, ap (λ n. begun n all) e)
  orders_le r all (e ∷ es) m s =
      let ks = kinds_at m all in
      let t = walked text attaching (map begin_node ks) s in
      let u = ordered text attaching (order_of r m e) t in
      let next : m + suc (length es) ≡ suc m + length es = omega arith in
      let is = ap (λ (v : Laying). v.depth) (walked_both text attaching (map begin_node ks) (order_of r m e ∷ orders_from all (suc m) (turns r (suc m) es)) s) in
      omega (arith, is, begins_le ks s, order_le r m e t, orders_le r all es (suc m) u, begun_more m all, ap (λ n. begun n all) next)

  module _ (a : Around) where
    pub stay_both : (os ps : List Order) (s : Laying) → AllStay text attaching a os s → AllStay text attaching a ps (walked text attaching os s) → AllStay text attaching a (os ++ ps) s
    stay_both [] ps s h g = g
    stay_both (o ∷ os) ps s h g = (h.0, stay_both os ps (ordered text attaching o s) h.1 g)

    -- nothing is around that could be met
    pub easy_stay : a.behind ≡ [] → (0 < a.open_nodes → ⊥) → (os : List Order) (s : Laying) → AllStay text attaching a os s
    easy_stay none top [] s = tt
    easy_stay none top (begin_node k ∷ os) s = ((λ e. ap lead none ∙ lead_none, λ some. absurd (top some)), easy_stay none top os (ordered text attaching (begin_node k) s))
    easy_stay none top (take_joined k more ∷ os) s = (λ less. none, easy_stay none top os (ordered text attaching (take_joined k more) s))
    easy_stay none top (take_part p ∷ os) s = (λ less. none, easy_stay none top os (ordered text attaching (take_part p) s))
    easy_stay none top (end_node ∷ os) s = (λ some. absurd (top some), easy_stay none top os (ordered text attaching end_node s))
    easy_stay none top (say m ∷ os) s = (tt, easy_stay none top os (ordered text attaching (say m) s))
    easy_stay none top (nothing ∷ os) s = (tt, easy_stay none top os s)

    pub begins_stay : (ks : List SyntaxKind) (s : Laying) → (0 < length ks → length (past_lead s.rest) ≡ 0 → lead a.behind ≡ 0)
        → (0 < a.open_nodes → s.depth + length ks + a.open_nodes < 2 ^ 64 - 1) → AllStay text attaching a (map begin_node ks) s
    begins_stay [] s clear low = tt
    begins_stay (k ∷ ks) s clear low =
        let t = ordered text attaching (begin_node k) s in
        let same : length (past_lead t.rest) ≡ length (past_lead s.rest) = ap (λ rest. length (past_lead rest)) (begin_rest k s) ∙ ap length (past_past s.rest) in (
          (λ e. clear (omega arith) (omega (arith, past_length s.rest, e)), λ some. omega (arith, low some)),
          begins_stay ks t (λ some none. clear (omega arith) (omega (arith, none, same))) (λ some. omega (arith, low some, begin_depth k s (omega (arith, low some)))),
        )

    enough_left : (n : ℕ) (s : Laying) (ts : List RawToken) → Leaves s.rest ts → n ≤ length (past_lead ts) → HasLeft n a s
    enough_left n s ts h some = λ less. absurd (omega (arith, less, some, past_length s.rest, ap length (leaves_past s.rest ts h), lead_le s.rest))

    order_stays : (r m : ℕ) (e : Event) (s : Laying) (ts us : List RawToken) → Leaves s.rest ts → left_by e ts ≡ Some us
        → (0 < a.open_nodes → 0 < one_node (node_of r m (Some e)) → 0 < s.depth) → Stays a (order_of r m e) s
    order_stays r m (Token k signs) s ts us h left deep = enough_left (signs - 1 + 1) s ts h (taken_some (signs - 1 + 1) (past_lead ts) us left).enough
    order_stays r m (Piece p true) s ts us h left deep = enough_left 1 s ts h (taken_some 1 (past_lead ts) us left).enough
    order_stays r m (Piece p false) s ts us h left deep = enough_left 1 s ts h (part_some ts us us left).1
    order_stays r m (Error n) s ts us h left deep = tt
    order_stays r m (Node k from) s ts us h left deep = by_test (nat_eq m r) deep
      where
        by_test : (b : Bool) → (0 < a.open_nodes → 0 < one_node (if b then None else Some (record { kind = k; from = min from m })) → 0 < s.depth) → Stays a (if b then nothing else end_node) s
        by_test true g = tt
        by_test false g = λ some. g some (omega arith)

    module _ (r : ℕ) (all : List Turn) (room : length all + a.open_nodes < 2 ^ 64 - 1) where
      -- where nodes begin, tokens are left; and nodes that end have begun
      abbrev pub Ready : ℕ → ℕ → List Event → List RawToken → Type 0
      Ready m gone [] ts = Unit
      Ready m gone (e ∷ es) ts =
          (0 < length (kinds_at m all) → length (past_lead ts) ≡ 0 → lead a.behind ≡ 0)
          × (0 < a.open_nodes → gone + one_node (node_of r m (Some e)) ≤ begun (suc m) all)
          × ((us : List RawToken) → left_by e ts ≡ Some us → Ready (suc m) (gone + one_node (node_of r m (Some e))) es us)

      pub record Stayed (m gone : ℕ) (es : List Event) (s : Laying) (us : List RawToken) : Type 0 where
        pub stay : AllStay text attaching a (orders_from all m (turns r m es)) s
        pub rest : Leaves (walked text attaching (orders_from all m (turns r m es)) s).rest us
        pub depth : 0 < a.open_nodes → (walked text attaching (orders_from all m (turns r m es)) s).depth + (gone + ended (turns r m es)) ≡ begun (m + length es) all

      stays_on : (e : Event) (es : List Event) (m gone : ℕ) (s : Laying) (ts us : List RawToken) (o : Option (List RawToken)) → left_by e ts ≡ o → option_and_then (left_after es) o ≡ Some us
          → Ready m gone (e ∷ es) ts → Leaves s.rest ts → (0 < a.open_nodes → s.depth + gone ≡ begun m all)
          → ((t : Laying) (vs : List RawToken) → Ready (suc m) (gone + one_node (node_of r m (Some e))) es vs → Leaves t.rest vs → left_after es vs ≡ Some us
          → (0 < a.open_nodes → t.depth + (gone + one_node (node_of r m (Some e))) ≡ begun (suc m) all) → Stayed (suc m) (gone + one_node (node_of r m (Some e))) es t us)
          → Stayed m gone (e ∷ es) s us
      stays_on e es m gone s ts us None is left ready h deep more = absurd (none_some us left)
      stays_on e es m gone s ts us (Some vs) is left ready h deep more =
          let ks = kinds_at m all in
          let one = one_node (node_of r m (Some e)) in
          let t = walked text attaching (map begin_node ks) s in
          let u = ordered text attaching (order_of r m e) t in
          let later = orders_from all (suc m) (turns r (suc m) es) in
          let count : begun (suc m) all ≡ begun m all + length ks = begun_more m all in
          let most : begun (suc m) all ≤ length all = begun_few (suc m) all in
          let low : 0 < a.open_nodes → s.depth + length ks + a.open_nodes < 2 ^ 64 - 1 = λ some. omega (arith, deep some, count, most, room) in
          let t_depth : 0 < a.open_nodes → t.depth ≡ s.depth + length ks = λ some. begins_depth ks s (omega (arith, low some)) in
          let same : length (past_lead s.rest) ≡ length (past_lead ts) = ap length (leaves_past s.rest ts h) in
          let t_rest = begins_rest ks s ts h in
          let t_stay = begins_stay ks s (λ some none. ready.0 some (omega (arith, same, none))) low in
          let t_deep : 0 < a.open_nodes → 0 < one → 0 < t.depth = λ some here. omega (arith, t_depth some, deep some, count, ready.1 some, here) in
          let u_stay = order_stays r m e t ts vs t_rest is t_deep in
          let u_rest = order_rest r m e t ts vs t_rest is in
          let u_depth : 0 < a.open_nodes → u.depth + one ≡ t.depth = λ some. order_depth r m e t (t_deep some) in
          let rest = more u vs (ready.2 vs is) u_rest left (λ some. omega (arith, u_depth some, t_depth some, deep some, count)) in
          let both = walked_both text attaching (map begin_node ks) (order_of r m e ∷ later) s in
          let next : m + suc (length es) ≡ suc m + length es = omega arith in
          record {
            stay = stay_both (map begin_node ks) (order_of r m e ∷ later) s t_stay (u_stay, rest.stay);
            rest = subst (λ (v : Laying). Leaves v.rest us) (sym both) rest.rest;
            depth = λ some. omega (arith, ap (λ (v : Laying). v.depth) both, rest.depth some, ap (λ n. begun n all) next);
          }

      pub stays : (es : List Event) (m gone : ℕ) (s : Laying) (ts us : List RawToken) → Ready m gone es ts → Leaves s.rest ts → left_after es ts ≡ Some us
          → (0 < a.open_nodes → s.depth + gone ≡ begun m all) → Stayed m gone es s us
      stays [] m gone s ts us ready h left deep =
          let e : m + 0 ≡ m = omega arith in
          record { stay = tt; rest = subst (Leaves s.rest) (some_is ts us left) h; depth = λ some. omega (arith, deep some, ap (λ n. begun n all) e) }
      stays (e ∷ es) m gone s ts us ready h left deep =
          stays_on e es m gone s ts us (left_by e ts) refl left ready h deep
          (λ t vs again rest left deeper. stays es (suc m) (gone + one_node (node_of r m (Some e))) t vs us again rest left deeper)

      -- where tokens behind do not begin with white space, and nothing is open
      pub ready_easy : lead a.behind ≡ 0 → (0 < a.open_nodes → ⊥) → (es : List Event) (m gone : ℕ) (ts : List RawToken) → Ready m gone es ts
      ready_easy none top [] m gone ts = tt
      ready_easy none top (e ∷ es) m gone ts =
          (λ some empty. none, λ some. absurd (top some), λ us left. ready_easy none top es (suc m) (gone + one_node (node_of r m (Some e))) us)
