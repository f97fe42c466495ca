-- Where the pieces of a text of Rust end.
use Rattle.std.proofs.Common.{◌≡◌, ℕ, zero, suc, ◌+◌, ◌-◌, ◌<◌, ◌≤◌, ◌^◌, Bool, true, false, if◌then◌else◌, List, [], ◌∷◌, ◌++◌, length, take, drop, ap, ◌∙◌, refl, subst, sym, arith, mod-eq_of_lt}
use Rattle.std.specs.Prelude.{Some, reverse, option_and_then}
use Rattle.std.proofs.lemmas.List.{length-append, length-drop, length-take-le, take-append-drop}
use Rattle.syntax_kind.specs.Kinds.{is_trivia}
use Rattle.syntax_kind.specs.declared.syntax_kind.SyntaxKind.{SyntaxKind}
use Rattle.token_layout.specs.declared.span.Token.{Token as RawToken}
use Rattle.grammar_machine.specs.declared.event.Event.{Event}
use Rattle.grammar_machine.specs.declared.event.Event.TheVariants.{Token, Piece, Node, Error}
use Rattle.grammar_machine.specs.declared.grammar.Sight.{Sight}
use Rattle.grammar_machine.specs.declared.grammar.Op.TheVariants as op
use Rattle.grammar_machine.specs.Counting.{signs_by, taken_by}
use Rattle.grammar_machine.specs.Running.{Tables, State, with_place, past_of, sealed_on, step_of, runs, begin_of}
use Rattle.grammar_machine.specs.Sealing.{SealedCall, returned}
use Rattle.grammar_machine.proofs.Counted.{runs-counted}
use Rattle.grammar_machine.proofs.Growing.{runs-grow}
use Rattle.grammar_machine.proofs.Running.{runs-suc, step-obeys}
use Rattle.grammar_machine.proofs.Seen.{runs-seen}
use Rattle.event_layout.specs.Filled.{past_lead, left_after}
use Rattle.event_layout.specs.Finding.{AreSightsOf}
use Rattle.event_layout.specs.Placed.{EndsSeen}
use Rattle.event_layout.specs.Taking.{seen_tokens, FindsTokens, AllFind, LeavesSeen}
use Rattle.event_layout.proofs.Amid.{lead_past}
use Rattle.event_layout.proofs.Finding.{events_find, taken_turned}
use Rattle.event_layout.proofs.Taking.{seen_both, first_seen, events_leave}
use Rattle.lexer_laws.specs.Pieces.{Opens}
use Rattle.rust_grammar.specs.declared.tables.rules.Rule.TheVariants as rule
use Rattle.rust_grammar.specs.Rules.{first_op}
use Rattle.rust_grammar.specs.Seeing.{sights_of}
use Rattle.rust_grammar.specs.Tables.{rust_tables}
use Rattle.rust_lexer.specs.Lexing.{tokens_of}
use Rattle.document_laws.specs.Ending.{RunsTakeNoMore, PiecesEndAtTheirTokens}
use Rattle.document_laws.specs.Own.{before_call}
use Rattle.document_laws.proofs.Knowns.{lexer_known}
use Rattle.document_laws.proofs.Near.{NearBy, near_one, past_is, seen_past, some_same}
use Rattle.document_laws.proofs.Opening.{SomeAt, some_at}
use Rattle.document_laws.proofs.Owning.{returned_at, short_text}
use Rattle.document_laws.proofs.Sights.{sights_are}

-- ---- a run takes no more than there is

enough : (n : ℕ) (ts : List RawToken) → n ≤ length (past_lead ts) → seen_tokens (take n (past_lead ts)) ≡ take n (past_lead ts) → n ≤ length (seen_tokens ts)
enough n ts h e =
    let parts : seen_tokens ts ≡ seen_tokens (take n (past_lead ts)) ++ seen_tokens (drop n (past_lead ts)) =
    sym (seen_past ts) ∙ ap seen_tokens (sym (take-append-drop n (past_lead ts))) ∙ seen_both (take n (past_lead ts)) (drop n (past_lead ts)) in
    omega (arith, ap length parts, length-append (seen_tokens (take n (past_lead ts))) (seen_tokens (drop n (past_lead ts))), ap length e, length-take-le n (past_lead ts) h)

few_signs : (e : Event) (ts : List RawToken) → FindsTokens e ts → signs_by e ≤ length (seen_tokens ts)
few_signs (Token k signs) ts h = enough signs ts h.1 h.2
few_signs (Piece p true) ts h = enough 1 ts (omega (arith, h)) (first_seen (past_lead ts) (lead_past ts))
few_signs (Piece p false) ts h = omega arith
few_signs (Node k from) ts h = omega arith
few_signs (Error m) ts h = omega arith

few_found : (es : List Event) (ts : List RawToken) → AllFind es ts → taken_by es ≤ length (seen_tokens ts)
few_found [] ts h = omega arith
few_found (e ∷ es) ts h =
    let o : NearBy 0 0 e (record { tokens = ts; text = [] }) ts false = near_one 0 0 e (record { tokens = ts; text = [] }) ts false (past_is ts []) h.0 in
    let v : LeavesSeen (e ∷ []) ts = events_leave (e ∷ []) ts (h.0, λ us q. tt) in
    let left : v.left ≡ o.left = some_same v.left o.left (sym v.is ∙ ap (option_and_then (left_after [])) o.is) in
    let seen : length (seen_tokens o.left) ≡ length (seen_tokens ts) - taken_by (e ∷ []) =
    sym (ap (λ (us : List RawToken). length (seen_tokens us)) left) ∙ ap length v.seen ∙ length-drop (taken_by (e ∷ [])) (seen_tokens ts) in
    omega (arith, seen, few_signs e ts h.0, few_found es o.left (h.1 o.left o.is))

pub take_no_more : RunsTakeNoMore
take_no_more n g rule ss ts short sights =
    let es : List Event = (runs n g ss (begin_of rule)).made.events in
    omega (arith, few_found (reverse es) ts (events_find ss ts es sights (runs-seen n g ss rule short)), taken_turned es, runs-counted n g ss rule short, sights.count)

-- ---- tokens up to one that is seen

record EndCut (ts : List RawToken) (m : ℕ) : Type 0 where
  own : List RawToken
  behind : List RawToken
  is : ts ≡ own ++ behind
  ends : EndsSeen own
  count : length (seen_tokens own) ≡ m

end_more : (t : RawToken) (ts : List RawToken) (m j : ℕ) → length (seen_tokens (t ∷ [])) + m ≡ j → EndCut ts m → EndCut (t ∷ ts) j
end_more t ts m j e w = record {
  own = t ∷ w.own;
  behind = w.behind;
  is = ap (λ (us : List RawToken). t ∷ us) w.is;
  ends = record { front = t ∷ w.ends.front; last = w.ends.last; is = ap (λ (us : List RawToken). t ∷ us) w.ends.is; seen = w.ends.seen };
  count = ap length (seen_both (t ∷ []) w.own) ∙ length-append (seen_tokens (t ∷ [])) (seen_tokens w.own) ∙ ap (λ (n : ℕ). length (seen_tokens (t ∷ [])) + n) w.count ∙ e;
}

one_seen : (t : RawToken) (b : Bool) → is_trivia t.kind ≡ b → length (seen_tokens (t ∷ [])) ≡ (if b then 0 else 1)
one_seen t true e = ap (λ (b : Bool). length (if b then [] else t ∷ [])) e
one_seen t false e = ap (λ (b : Bool). length (if b then [] else t ∷ [])) e

end_cut : (ts : List RawToken) (m : ℕ) → 0 < m → m ≤ length (seen_tokens ts) → EndCut ts m
end_cut [] m h k = absurd (omega (arith, h, k))
end_cut (t ∷ ts) m h k = by (is_trivia t.kind) refl m h (λ j. end_cut ts j) (ap length (seen_both (t ∷ []) ts) ∙ length-append (seen_tokens (t ∷ [])) (seen_tokens ts)) k
  where
    by : (b : Bool) → is_trivia t.kind ≡ b → (j : ℕ) → 0 < j → ((n : ℕ) → 0 < n → n ≤ length (seen_tokens ts) → EndCut ts n)
        → length (seen_tokens (t ∷ ts)) ≡ length (seen_tokens (t ∷ [])) + length (seen_tokens ts) → j ≤ length (seen_tokens (t ∷ ts)) → EndCut (t ∷ ts) j
    by true e j p f l q = end_more t ts j j (omega (arith, one_seen t true e)) (f j p (omega (arith, q, l, one_seen t true e)))
    by false e zero p f l q = absurd (omega (arith, p))
    by false e (suc zero) p f l q = record {
      own = t ∷ [];
      behind = ts;
      is = refl;
      ends = record { front = []; last = t; is = refl; seen = e };
      count = one_seen t false e;
    }
    by false e (suc (suc j)) p f l q = end_more t ts (suc j) (suc (suc j)) (omega (arith, one_seen t false e)) (f (suc j) (omega arith) (omega (arith, q, l, one_seen t false e)))

-- what is up to a seen token of tokens that begin with `{` begins so too
opens_too : (ts own behind : List RawToken) → Opens ts → ts ≡ own ++ behind → EndsSeen own → Opens own
opens_too ts [] behind o e s = absurd (let long : length (s.front ++ s.last ∷ []) ≡ 0 = ap length (sym s.is) in omega (arith, long, length-append s.front (s.last ∷ [])))
opens_too ts (t ∷ own) behind o e s =
    let first : o.first ≡ t = head o.first t o.rest (own ++ behind) (sym o.begins ∙ e) in
    record { first = t; rest = own; begins = refl; is_open = ap (λ (u : RawToken). u.kind) (sym first) ∙ o.is_open }
  where
    head : (x y : RawToken) (xs ys : List RawToken) → x ∷ xs ≡ y ∷ ys → x ≡ y
    head x y xs ys q = cc

-- ---- the call

took : (g : Tables) (ts : List Sight) (k : SyntaxKind) (s : State) (c : SealedCall g ts k s) → length ts + 3 < 2 ^ 64 → s.place.at < (returned c).place.at
took g ts k s c short =
    let t : SomeAt ts s.place.at = some_at ts s.place.at c.token in
    let one : step_of g ts s ≡ sealed_on g c.target k (Some t.sight) (with_place past_of s) =
    step-obeys g ts s (op.Sealed c.target k) c.found c.left ∙ ap (λ o. sealed_on g c.target k o (with_place past_of s)) t.there in
    let at : (step_of g ts s).place.at ≡ s.place.at + 1 =
    ap (λ (z : State). z.place.at) one ∙ mod-eq_of_lt (omega (arith, short, c.token)) in
    let grows : (step_of g ts s).place.at ≤ (runs (suc c.steps) g ts (step_of g ts s)).place.at = (runs-grow (suc c.steps) g ts (step_of g ts s) short).at in
    let more : (step_of g ts s).place.at ≤ (returned c).place.at =
    subst (λ (z : State). (step_of g ts s).place.at ≤ z.place.at) (runs-suc c.steps g ts (step_of g ts s)) grows in
    omega (arith, at, more)

pub pieces_end : PiecesEndAtTheirTokens
pieces_end e text t p k r o u small =
    let ts : List RawToken = tokens_of e text in
    let ss : List Sight = sights_of e text ts in
    let start : ℕ = first_op rule.SourceFile in
    let short : length ss + 3 < 2 ^ 64 = omega (arith, short_text e text u small) in
    let sights : AreSightsOf ss ts = sights_are e text ts (lexer_known e text) in
    let c = o.piece.called in
    let last : (returned c.call).place.at ≤ length ss =
    subst (λ (z : State). z.place.at ≤ length ss) (sym (returned_at rust_tables ss start c.before k c.call))
    (take_no_more (suc (c.call.steps + suc c.before)) rust_tables start ss ts short sights) in
    let long : length (seen_tokens ts) ≡ length (seen_tokens o.front) + length (seen_tokens o.back) =
    ap (λ (us : List RawToken). length (seen_tokens us)) o.tokens ∙ ap length (seen_both o.front o.back) ∙ length-append (seen_tokens o.front) (seen_tokens o.back) in
    let more : (before_call c).place.at < (returned c.call).place.at = took rust_tables ss k (before_call c) c.call short in
    let w : EndCut o.back ((returned c.call).place.at - (before_call c).place.at) =
    end_cut o.back ((returned c.call).place.at - (before_call c).place.at) (omega (arith, more)) (omega (arith, last, long, o.count, sights.count)) in
    record {
      own = w.own;
      behind = w.behind;
      is = w.is;
      opens = opens_too o.back w.own w.behind o.opens w.is w.ends;
      ends = w.ends;
      count = omega (arith, w.count, o.count, more);
    }
