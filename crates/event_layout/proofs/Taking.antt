-- Events leave the tokens that are seen but for as many as they take.
use Rattle.std.proofs.Common.{◌≡◌, ℕ, suc, ◌+◌, ◌-◌, ◌≤◌, List, [], ◌∷◌, ◌++◌, length, take, drop, ap, sym, ◌∙◌, refl, arith, Some, None, Bool, true, false, if◌then◌else◌, add-one}
use Rattle.std.specs.Prelude.{nat_le, option_map, option_and_then}
use Rattle.std.proofs.lemmas.Bool.Decides.{nat_tests}
use Rattle.std.proofs.lemmas.List.{drop-drop, drop_all, take-append-drop, length-take-le}
use Rattle.std.proofs.Math.Seq.{drop-append_seam}
use Rattle.syntax_kind.specs.Kinds.{is_trivia}
use Rattle.token_layout.specs.declared.span.Token.{Token as RawToken}
use Rattle.grammar_machine.specs.declared.event.Event.{Event}
use Rattle.grammar_machine.specs.declared.event.Event.TheVariants.{Token, Piece, Node, Error}
use Rattle.grammar_machine.specs.Counting.{taken_by}
use Rattle.event_layout.specs.Trivia.{lead}
use Rattle.event_layout.specs.Filled.{past_lead, taken, left_by, left_after}
use Rattle.event_layout.specs.Taking.{seen_tokens, FindsTokens, AllFind, EventsLeaveWhatIsSeen}
use Rattle.event_layout.proofs.Amid.{lead_more, lead_none, lead_past}

pub past_on : (t : RawToken) (ts : List RawToken) → is_trivia t.kind ≡ true → past_lead (t ∷ ts) ≡ past_lead ts
past_on t ts e =
    let l : lead (t ∷ ts) ≡ suc (lead ts) = lead_more t ts ∙ ap (λ b. if b then lead ts + 1 else 0) e ∙ add-one (lead ts) in
    ap (λ n. drop n (t ∷ ts)) l

pub past_stops : (t : RawToken) (ts : List RawToken) → is_trivia t.kind ≡ false → past_lead (t ∷ ts) ≡ t ∷ ts
past_stops t ts e =
    let l : lead (t ∷ ts) ≡ 0 = lead_more t ts ∙ ap (λ b. if b then lead ts + 1 else 0) e in
    ap (λ n. drop n (t ∷ ts)) l

past_empty : past_lead [] ≡ []
past_empty = ap (λ n. drop n []) lead_none

seen_past_on : (t : RawToken) (ts : List RawToken) (b : Bool) → is_trivia t.kind ≡ b → seen_tokens (past_lead ts) ≡ seen_tokens ts → seen_tokens (past_lead (t ∷ ts)) ≡ seen_tokens (t ∷ ts)
seen_past_on t ts true e h = ap seen_tokens (past_on t ts e) ∙ h ∙ sym (ap (λ b. if b then seen_tokens ts else t ∷ seen_tokens ts) e)
seen_past_on t ts false e h = ap seen_tokens (past_stops t ts e)

seen_past : (ts : List RawToken) → seen_tokens (past_lead ts) ≡ seen_tokens ts
seen_past [] = ap seen_tokens past_empty
seen_past (t ∷ ts) = seen_past_on t ts (is_trivia t.kind) refl (seen_past ts)

seen_both_on : (t : RawToken) (xs ys : List RawToken) (b : Bool) → seen_tokens (xs ++ ys) ≡ seen_tokens xs ++ seen_tokens ys
    → (if b then seen_tokens (xs ++ ys) else t ∷ seen_tokens (xs ++ ys)) ≡ (if b then seen_tokens xs else t ∷ seen_tokens xs) ++ seen_tokens ys
seen_both_on t xs ys true h = h
seen_both_on t xs ys false h = ap (λ zs. t ∷ zs) h

pub seen_both : (xs ys : List RawToken) → seen_tokens (xs ++ ys) ≡ seen_tokens xs ++ seen_tokens ys
seen_both [] ys = refl
seen_both (t ∷ xs) ys = seen_both_on t xs ys (is_trivia t.kind) (seen_both xs ys)

-- behind n tokens of which all are seen
seen_behind : (n : ℕ) (ts : List RawToken) → n ≤ length ts → seen_tokens (take n ts) ≡ take n ts → seen_tokens (drop n ts) ≡ drop n (seen_tokens ts)
seen_behind n ts h e =
    let split : seen_tokens ts ≡ take n ts ++ seen_tokens (drop n ts) = sym (ap seen_tokens (take-append-drop n ts)) ∙ seen_both (take n ts) (drop n ts) ∙ ap (λ xs. xs ++ seen_tokens (drop n ts)) e in
    sym (ap (drop n) split ∙ ap (λ m. drop m (take n ts ++ seen_tokens (drop n ts))) (sym (length-take-le n ts h)) ∙ drop-append_seam (take n ts) (seen_tokens (drop n ts)))

first_seen_on : (t : RawToken) (ts : List RawToken) (b : Bool) → is_trivia t.kind ≡ b → lead (t ∷ ts) ≡ 0 → seen_tokens (t ∷ []) ≡ t ∷ []
first_seen_on t ts false e h = ap (λ b. if b then [] else t ∷ []) e
first_seen_on t ts true e h = absurd (omega (arith, h, lead_more t ts ∙ ap (λ b. if b then lead ts + 1 else 0) e))

pub first_seen : (ts : List RawToken) → lead ts ≡ 0 → seen_tokens (take 1 ts) ≡ take 1 ts
first_seen [] h = refl
first_seen (t ∷ ts) h = first_seen_on t ts (is_trivia t.kind) refl h

none_left_on : (t : RawToken) (ts : List RawToken) (b : Bool) → is_trivia t.kind ≡ b → (seen_tokens ts ≡ [] → past_lead ts ≡ []) → (if b then seen_tokens ts else t ∷ seen_tokens ts) ≡ [] → past_lead (t ∷ ts) ≡ []
none_left_on t ts true e more h = past_on t ts e ∙ more h
none_left_on t ts false e more h = absurd (omega (arith, ap length h))

none_left : (ts : List RawToken) → seen_tokens ts ≡ [] → past_lead ts ≡ []
none_left [] h = past_empty
none_left (t ∷ ts) h = none_left_on t ts (is_trivia t.kind) refl (none_left ts) h

pub taken_is : (n : ℕ) (ts : List RawToken) → n ≤ length ts → taken n ts ≡ Some (drop n ts)
taken_is n ts h = let e : nat_le n (length ts) ≡ true = grind (arith, nat_tests, h) in ap (λ b. if b then Some (drop n ts) else None) e

-- what one event leaves
record LeavesOne (e : Event) (ts : List RawToken) : Type 0 where
  left : List RawToken
  is : left_by e ts ≡ Some left
  seen : seen_tokens left ≡ drop (taken_by (e ∷ [])) (seen_tokens ts)

leaves_one : (e : Event) (ts : List RawToken) → FindsTokens e ts → LeavesOne e ts
leaves_one (Token k signs) ts h =
    let n : signs - 1 + 1 ≡ signs = omega (arith, h.0) in
    let m : signs + 0 ≡ signs = omega arith in
    record {
      left = drop signs (past_lead ts);
      is = ap (λ n. taken n (past_lead ts)) n ∙ taken_is signs (past_lead ts) h.1;
      seen = seen_behind signs (past_lead ts) h.1 h.2 ∙ ap (drop signs) (seen_past ts) ∙ sym (ap (λ n. drop n (seen_tokens ts)) m);
    }
leaves_one (Piece p true) ts h = record {
  left = drop 1 (past_lead ts);
  is = taken_is 1 (past_lead ts) (omega (arith, h));
  seen = seen_behind 1 (past_lead ts) (omega (arith, h)) (first_seen (past_lead ts) (lead_past ts)) ∙ ap (drop 1) (seen_past ts);
}
leaves_one (Piece p false) ts h = record { left = ts; is = ap (option_map (λ (us : List RawToken). ts)) (taken_is 1 (past_lead ts) (omega (arith, h))); seen = refl }
leaves_one (Node k from) ts h = record { left = ts; is = refl; seen = refl }
leaves_one (Error m) ts h = record { left = ts; is = refl; seen = refl }

record Left (es : List Event) (ts : List RawToken) : Type 0 where
  left : List RawToken
  is : left_after es ts ≡ Some left
  seen : seen_tokens left ≡ drop (taken_by es) (seen_tokens ts)

leaves : (es : List Event) (ts : List RawToken) → AllFind es ts → Left es ts
leaves [] ts h = record { left = ts; is = refl; seen = refl }
leaves (e ∷ es) ts h =
    let one = leaves_one e ts h.0 in
    let more = leaves es one.left (h.1 one.left one.is) in
    let sum : taken_by (e ∷ []) + taken_by es ≡ taken_by (e ∷ es) = omega arith in
    record {
      left = more.left;
      is = ap (option_and_then (left_after es)) one.is ∙ more.is;
      seen = more.seen ∙ ap (drop (taken_by es)) one.seen ∙ drop-drop (taken_by es) (taken_by (e ∷ [])) (seen_tokens ts) ∙ ap (λ n. drop n (seen_tokens ts)) sum;
    }

pub events_leave : EventsLeaveWhatIsSeen
events_leave es ts h =
    let l = leaves es ts h in
    record {
      left = l.left;
      is = l.is;
      seen = l.seen;
      all = λ all. ap (option_map past_lead) l.is ∙ ap Some (none_left l.left (l.seen ∙ drop_all (taken_by es) (seen_tokens ts) (omega (arith, all))));
    }
