-- Events find the tokens that were seen.
use Rattle.std.proofs.Common.{◌≡◌, ℕ, zero, suc, ◌+◌, ◌-◌, ◌<◌, ◌≤◌, List, [], ◌∷◌, ◌++◌, length, take, drop, ap, sym, subst, ◌∙◌, refl, arith, Some, Bool, true, false, if◌then◌else◌, add-one, append_assoc}
use Rattle.std.specs.Prelude.{reverse, slice_get, option_map}
use Rattle.std.proofs.lemmas.List.{length-append, length-take-le, reverse-append, take-append-drop}
use Rattle.std.proofs.lemmas.Option.{slice_get_within}
use Rattle.syntax_kind.specs.Kinds.{is_trivia}
use Rattle.token_layout.specs.declared.span.Token.{Token as RawToken}
use Rattle.grammar_machine.specs.declared.event.Event.{Event}
use Rattle.grammar_machine.specs.declared.event.Event.TheVariants.{Token, Piece, Node, Error}
use Rattle.grammar_machine.specs.declared.grammar.Sight.{Sight}
use Rattle.grammar_machine.specs.Counting.{signs_by, taken_by}
use Rattle.grammar_machine.specs.Seen.{EventIsSeen, AllSeen}
use Rattle.event_layout.specs.Trivia.{lead}
use Rattle.event_layout.specs.Filled.{past_lead, taken, left_by}
use Rattle.event_layout.specs.Taking.{seen_tokens, FindsTokens, AllFind}
use Rattle.event_layout.specs.Finding.{StandTogether, AreSightsOf, EventsFindWhatIsSeen}
use Rattle.event_layout.proofs.Amid.{lead_more, lead_none, lead_past}
use Rattle.event_layout.proofs.Taking.{seen_both, first_seen, taken_is}

-- ---- white space and comments are not seen

skipped_on : (t : RawToken) (ts : List RawToken) (b : Bool) → is_trivia t.kind ≡ b → seen_tokens (take (lead ts) ts) ≡ [] → seen_tokens (take (lead (t ∷ ts)) (t ∷ ts)) ≡ []
skipped_on t ts true e h =
    let l : lead (t ∷ ts) ≡ suc (lead ts) = lead_more t ts ∙ ap (λ b. if b then lead ts + 1 else 0) e ∙ add-one (lead ts) in
    ap (λ n. seen_tokens (take n (t ∷ ts))) l ∙ ap (λ b. if b then seen_tokens (take (lead ts) ts) else t ∷ seen_tokens (take (lead ts) ts)) e ∙ h
skipped_on t ts false e h =
    let l : lead (t ∷ ts) ≡ 0 = lead_more t ts ∙ ap (λ b. if b then lead ts + 1 else 0) e in
    ap (λ n. seen_tokens (take n (t ∷ ts))) l

skipped : (ts : List RawToken) → seen_tokens (take (lead ts) ts) ≡ []
skipped [] = ap (λ n. seen_tokens (take n [])) lead_none
skipped (t ∷ ts) = skipped_on t ts (is_trivia t.kind) refl (skipped ts)

-- ---- one event, where so many tokens are seen before what is left

stands : (n : ℕ) (ts : List RawToken) → 0 < n → n ≤ 3 → StandTogether 1 ts → (n ≡ 2 → StandTogether 2 ts) → (n ≡ 3 → StandTogether 3 ts) → StandTogether n ts
stands zero ts some few one two three = absurd (omega (arith, some))
stands (suc zero) ts some few one two three = one
stands (suc (suc zero)) ts some few one two three = two refl
stands (suc (suc (suc zero))) ts some few one two three = three refl
stands (suc (suc (suc (suc n)))) ts some few one two three = absurd (omega (arith, few))

-- where more tokens are seen than before these, one of these is
is_there : (ss : List Sight) (all before behind : List RawToken) (s : Sight) → AreSightsOf ss all → all ≡ before ++ behind → slice_get ss (length (seen_tokens before)) ≡ Some s → 0 < length behind
is_there ss all before [] s a e f =
    let here : length (seen_tokens before) < length ss = slice_get_within ss (length (seen_tokens before)) s f in
    let sum : length (seen_tokens all) ≡ length (seen_tokens before) + 0 = ap (λ ts. length (seen_tokens ts)) e ∙ ap length (seen_both before []) ∙ length-append (seen_tokens before) [] in
    let count = a.count in
    absurd (omega (arith, here, sum, count))
is_there ss all before (t ∷ ts) s a e f = omega arith

past_of : List RawToken → List RawToken → List RawToken
past_of before ts = before ++ take (lead ts) ts

split : (before ts : List RawToken) → before ++ ts ≡ past_of before ts ++ past_lead ts
unfolding past_of
split before ts = ap (λ us. before ++ us) (sym (take-append-drop (lead ts) ts)) ∙ sym (append_assoc before (take (lead ts) ts) (drop (lead ts) ts))

still : (before ts : List RawToken) → length (seen_tokens (past_of before ts)) ≡ length (seen_tokens before)
unfolding past_of
still before ts =
    ap length (seen_both before (take (lead ts) ts)) ∙ length-append (seen_tokens before) (seen_tokens (take (lead ts) ts))
    ∙ (let none : length (seen_tokens (take (lead ts) ts)) ≡ 0 = ap length (skipped ts) in omega (arith, none))

finds : (ss : List Sight) (all before ts : List RawToken) (e : Event) → AreSightsOf ss all → all ≡ before ++ ts → EventIsSeen ss (length (seen_tokens before)) e → FindsTokens e ts
finds ss all before ts (Token k signs) a e h =
    let whole : all ≡ past_of before ts ++ past_lead ts = e ∙ split before ts in
    let there : slice_get ss (length (seen_tokens (past_of before ts))) ≡ Some h.sight = ap (slice_get ss) (still before ts) ∙ h.there in
    let next = a.joins (past_of before ts) (past_lead ts) h.sight whole (lead_past ts) there in
    let some : 0 < length (past_lead ts) = is_there ss all (past_of before ts) (past_lead ts) h.sight a whole there in
    let together : StandTogether signs (past_lead ts) = stands signs (past_lead ts) h.some h.few (omega (arith, some), first_seen (past_lead ts) (lead_past ts)) (λ is. next.two (h.two is)) (λ is. next.three (h.three is)) in
    (h.some, together.0, together.1)
finds ss all before ts (Piece p last) a e h =
    let whole : all ≡ past_of before ts ++ past_lead ts = e ∙ split before ts in
    is_there ss all (past_of before ts) (past_lead ts) h.sight a whole (ap (slice_get ss) (still before ts) ∙ h.there)
finds ss all before ts (Node k from) a e h = tt
finds ss all before ts (Error m) a e h = tt

-- what an event takes of the tokens
record Takes (e : Event) (ts us : List RawToken) : Type 0 where
  own : List RawToken
  is : ts ≡ own ++ us
  count : length (seen_tokens own) ≡ signs_by e

some_is : (xs ys : List RawToken) → Some xs ≡ Some ys → xs ≡ ys
some_is xs ys e = cc

takes_by : (n : ℕ) (ts us : List RawToken) → StandTogether n (past_lead ts) → Some (drop n (past_lead ts)) ≡ Some us
    → (own : List RawToken) × (ts ≡ own ++ us) × (length (seen_tokens own) ≡ n)
takes_by n ts us h e =
    let all : ts ≡ past_of [] ts ++ past_lead ts = split [] ts in
    let rest : past_lead ts ≡ take n (past_lead ts) ++ us = sym (take-append-drop n (past_lead ts)) ∙ ap (λ xs. take n (past_lead ts) ++ xs) (some_is (drop n (past_lead ts)) us e) in
    let none : length (seen_tokens (past_of [] ts)) ≡ 0 = still [] ts in
    let some : length (seen_tokens (take n (past_lead ts))) ≡ n = ap length h.1 ∙ length-take-le n (past_lead ts) h.0 in (
      past_of [] ts ++ take n (past_lead ts),
      all ∙ ap (λ xs. past_of [] ts ++ xs) rest ∙ sym (append_assoc (past_of [] ts) (take n (past_lead ts)) us),
      ap length (seen_both (past_of [] ts) (take n (past_lead ts))) ∙ length-append (seen_tokens (past_of [] ts)) (seen_tokens (take n (past_lead ts))) ∙ omega (arith, none, some),
    )

takes : (e : Event) (ts us : List RawToken) → FindsTokens e ts → left_by e ts ≡ Some us → Takes e ts us
takes (Token k signs) ts us h e =
    let n : signs - 1 + 1 ≡ signs = (let some = h.0 in omega (arith, some)) in
    let got = takes_by signs ts us (h.1, h.2) (sym (ap (λ n. taken n (past_lead ts)) n ∙ taken_is signs (past_lead ts) h.1) ∙ e) in
    record { own = got.0; is = got.1; count = got.2 }
takes (Piece p true) ts us h e =
    let some : 1 ≤ length (past_lead ts) = omega (arith, h) in
    let got = takes_by 1 ts us (some, first_seen (past_lead ts) (lead_past ts)) (sym (taken_is 1 (past_lead ts) some) ∙ e) in
    record { own = got.0; is = got.1; count = got.2 }
takes (Piece p false) ts us h e =
    let some : 1 ≤ length (past_lead ts) = omega (arith, h) in
    record { own = []; is = some_is ts us (sym (ap (λ o. option_map (λ (us : List RawToken). ts) o) (taken_is 1 (past_lead ts) some)) ∙ e); count = refl }
takes (Node k from) ts us h e = record { own = []; is = some_is ts us e; count = refl }
takes (Error m) ts us h e = record { own = []; is = some_is ts us e; count = refl }

-- ---- all events, in order

InOrder : List Sight → ℕ → List Event → Type 0
InOrder ss at [] = Unit
InOrder ss at (e ∷ es) = EventIsSeen ss at e × InOrder ss (at + signs_by e) es

find : (ss : List Sight) (all before ts : List RawToken) (es : List Event) → AreSightsOf ss all → all ≡ before ++ ts → InOrder ss (length (seen_tokens before)) es → AllFind es ts
unfolding InOrder
find ss all before ts [] a e h = tt
find ss all before ts (x ∷ xs) a e h =
    let one : FindsTokens x ts = finds ss all before ts x a e h.0 in (
      one,
      λ us left.
          let t = takes x ts us one left in
          find ss all (before ++ t.own) us xs a (e ∙ ap (λ ys. before ++ ys) t.is ∙ sym (append_assoc before t.own us))
          (subst (λ n. InOrder ss n xs) (sym (ap length (seen_both before t.own) ∙ length-append (seen_tokens before) (seen_tokens t.own) ∙ ap (λ n. length (seen_tokens before) + n) t.count)) h.1),
    )

taken_both : (xs ys : List Event) → taken_by (xs ++ ys) ≡ taken_by xs + taken_by ys
taken_both [] ys = omega arith
taken_both (x ∷ xs) ys = (let more = taken_both xs ys in omega (arith, more))

pub taken_turned : (es : List Event) → taken_by (reverse es) ≡ taken_by es
taken_turned [] = refl
taken_turned (x ∷ xs) =
    ap taken_by (reverse-append (x ∷ []) xs) ∙ taken_both (reverse xs) (x ∷ [])
    ∙ (let more = taken_turned xs in omega (arith, more))

both : (ss : List Sight) (at : ℕ) (xs ys : List Event) → InOrder ss at xs → InOrder ss (at + taken_by xs) ys → InOrder ss at (xs ++ ys)
unfolding InOrder
both ss at [] ys h more = subst (λ n. InOrder ss n ys) (let e : at + 0 ≡ at = omega arith in e) more
both ss at (x ∷ xs) ys h more = (h.0, both ss (at + signs_by x) xs ys h.1 (subst (λ n. InOrder ss n ys) (let e : at + (signs_by x + taken_by xs) ≡ (at + signs_by x) + taken_by xs = omega arith in e) more))

turned : (ss : List Sight) (es : List Event) → AllSeen ss es → InOrder ss 0 (reverse es)
unfolding InOrder
turned ss [] h = tt
turned ss (x ∷ xs) h =
    let at : 0 + taken_by (reverse xs) ≡ taken_by xs = (let e = taken_turned xs in omega (arith, e)) in
    subst (λ es. InOrder ss 0 es) (sym (reverse-append (x ∷ []) xs))
    (both ss 0 (reverse xs) (x ∷ []) (turned ss xs h.1) (subst (λ n. EventIsSeen ss n x) (sym at) h.0, tt))

pub events_find : EventsFindWhatIsSeen
events_find ss ts es a h = find ss ts [] ts (reverse es) a refl (turned ss es h)
