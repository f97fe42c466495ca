-- What events leave of the tokens, as they are made and as they are counted: the same, but for the
-- first token where a part of it was taken.
use Rattle.std.proofs.Common.{◌≡◌, ◌⊎◌, inl, inr, ℕ, suc, ◌+◌, ◌-◌, ◌<◌, ◌^◌, Bool, true, false, not, nat_le, if◌then◌else◌, List, [], ◌∷◌, ◌++◌, length, take, drop, ap, ◌∙◌, refl, subst, sym, arith, append_assoc}
use Rattle.std.specs.Prelude.{Option, Some, None, slice_get, reverse, option_map, option_and_then}
use Rattle.std.proofs.lemmas.List.{reverse-append, take-append-drop, length-append, length-drop}
use Rattle.std.proofs.lemmas.Option.{slice_get_within}
use Rattle.syntax_kind.specs.Kinds.{is_trivia}
use Rattle.syntax_kind.specs.declared.syntax_kind.SyntaxKind.{SyntaxKind}
use Rattle.token_layout.specs.declared.span.Token.{Token as RawToken}
use Rattle.grammar_machine.specs.declared.event.Event.{Event}
use Rattle.grammar_machine.specs.declared.event.Event.TheVariants.{Token, Piece, Node, Error}
use Rattle.grammar_machine.specs.declared.event.Part.{Part}
use Rattle.grammar_machine.specs.declared.grammar.Sight.{Sight}
use Rattle.grammar_machine.specs.Running.{Tables, State, runs, begin_of}
use Rattle.grammar_machine.specs.Counting.{taken_by}
use Rattle.grammar_machine.specs.Seen.{AllSeen, HasParts}
use Rattle.grammar_machine.proofs.Counted.{runs-counted}
use Rattle.grammar_machine.proofs.Seen.{runs-seen}
use Rattle.event_layout.specs.Filled.{past_lead, taken, left_by, left_after}
use Rattle.event_layout.specs.Finding.{AreSightsOf}
use Rattle.event_layout.specs.Layout.{kind_of_part, dot_of}
use Rattle.event_layout.specs.Made.{Left, past_trivia, past, joined_on, part_len, shorter, parted_at, parted_on, made_by}
use Rattle.event_layout.specs.Taking.{seen_tokens, FindsTokens, AllFind, LeavesSeen}
use Rattle.event_layout.specs.Trivia.{lead}
use Rattle.event_layout.proofs.Amid.{lead_more, lead_none, lead_past}
use Rattle.event_layout.proofs.Finding.{events_find, taken_turned}
use Rattle.event_layout.proofs.Seeing.{past_on as trivia_on, past_stops as trivia_stops}
use Rattle.event_layout.proofs.Taking.{past_on, past_stops, seen_both, taken_is, events_leave}
use Rattle.document_laws.specs.Nodes.{made_left}
use Rattle.document_laws.specs.Leaving.{RunsLeaveTheirTokens}

-- ---- white space and comments

past_empty : past_lead [] ≡ []
past_empty = ap (λ (n : ℕ). drop n []) lead_none

pub past_is : (ts : List RawToken) (text : List ℕ) → (past_trivia ts text).tokens ≡ past_lead ts
past_is [] text = sym past_empty
past_is (t ∷ ts) text = by (is_trivia t.kind) refl (past_is ts (drop t.len text))
  where
    by : (b : Bool) → is_trivia t.kind ≡ b → (past_trivia ts (drop t.len text)).tokens ≡ past_lead ts → (past_trivia (t ∷ ts) text).tokens ≡ past_lead (t ∷ ts)
    by true e h = ap (λ (l : Left). l.tokens) (trivia_on t ts text e) ∙ h ∙ sym (past_on t ts e)
    by false e h = ap (λ (l : Left). l.tokens) (trivia_stops t ts text e) ∙ sym (past_stops t ts e)

plain_on : (t : RawToken) (ts : List RawToken) (b : Bool) → is_trivia t.kind ≡ b → lead (t ∷ ts) ≡ 0 → b ≡ false
plain_on t ts false e h = refl
plain_on t ts true e h = absurd (omega (arith, h, lead_more t ts ∙ ap (λ (b : Bool). if b then lead ts + 1 else 0) e))

first_plain : (ts : List RawToken) (t : RawToken) (rest : List RawToken) → past_lead ts ≡ t ∷ rest → is_trivia t.kind ≡ false
first_plain ts t rest e = plain_on t rest (is_trivia t.kind) refl (ap lead (sym e) ∙ lead_past ts)

-- ---- the same but for the first token

pub record Alike (us vs : List RawToken) : Type 0 where
  pub u : RawToken
  pub t : RawToken
  pub rest : List RawToken
  pub is_left : us ≡ u ∷ rest
  pub is_right : vs ≡ t ∷ rest
  pub kind : u.kind ≡ t.kind

abbrev pub Near : Bool → List RawToken → List RawToken → Type 0
Near false us vs = us ≡ vs
Near true us vs = (us ≡ vs) ⊎ Alike us vs

same_alike : (us vs : List RawToken) → us ≡ vs → 0 < length vs → Alike us vs
same_alike us [] e h = absurd (omega (arith, h))
same_alike us (v ∷ vs) e h = record { u = v; t = v; rest = vs; is_left = e; is_right = refl; kind = refl }

alike : (b : Bool) (us vs : List RawToken) → Near b us vs → 0 < length vs → Alike us vs
alike false us vs h l = same_alike us vs h l
alike true us vs (inl e) l = same_alike us vs e l
alike true us vs (inr a) l = a

-- whether a part of the first token may be taken
abbrev pub next_parted : Event → Bool → Bool
next_parted (Token k signs) b = false
next_parted (Piece p last) b = not last
next_parted (Node k from) b = b
next_parted (Error m) b = b

abbrev parted_after : List Event → Bool → Bool
parted_after [] b = b
parted_after (e ∷ es) b = parted_after es (next_parted e b)

pub record NearBy (root n : ℕ) (e : Event) (l : Left) (ts : List RawToken) (b : Bool) : Type 0 where
  pub left : List RawToken
  pub is : left_by e ts ≡ Some left
  pub near : Near (next_parted e b) (past (made_by root n e l).left).tokens (past_lead left)

-- a token is taken, with so many more
taken_near : (k : SyntaxKind) (more : ℕ) (text : List ℕ) (us vs : List RawToken) → Alike us vs → (past (joined_on k more us text).left).tokens ≡ past_lead (drop (suc more) vs)
taken_near k more text us vs a =
    let l : Left = (joined_on k more us text).left in
    past_is l.tokens l.text
    ∙ ap (λ (xs : List RawToken). past_lead (joined_on k more xs text).left.tokens) a.is_left
    ∙ sym (ap (λ (xs : List RawToken). past_lead (drop (suc more) xs)) a.is_right)

record PartNear (p : Part) (u : RawToken) (rest : List RawToken) (text : List ℕ) : Type 0 where
  v : RawToken
  kind : v.kind ≡ u.kind
  is : (past (parted_on p (u ∷ rest) text).left).tokens ≡ v ∷ rest

part_near : (p : Part) (u : RawToken) (rest : List RawToken) (text : List ℕ) → is_trivia u.kind ≡ false → PartNear p u rest text
part_near p u rest text plain = by _ refl
  where
    by : (o : Option ℕ) → dot_of u.kind (take u.len text) ≡ o → PartNear p u rest text
    by None e = record {
      v = u;
      kind = refl;
      is = ap (λ (o : Option ℕ). (past (parted_at p o u rest text).left).tokens) e ∙ past_is (u ∷ rest) text ∙ past_stops u rest plain;
    }
    by (Some dot) e = record {
      v = shorter (part_len p dot) u;
      kind = refl;
      is =
          ap (λ (o : Option ℕ). (past (parted_at p o u rest text).left).tokens) e ∙ past_is (shorter (part_len p dot) u ∷ rest) (drop (part_len p dot) text)
          ∙ past_stops (shorter (part_len p dot) u) rest plain;
    }

pub near_one : (root n : ℕ) (e : Event) (l : Left) (ts : List RawToken) (b : Bool) → Near b (past l).tokens (past_lead ts) → FindsTokens e ts → NearBy root n e l ts b
near_one root n (Token k signs) l ts b h f =
    let m : signs - 1 + 1 ≡ signs = omega (arith, f.0) in
    let c : suc (signs - 1) ≡ signs = omega (arith, f.0) in
    record {
      left = drop signs (past_lead ts);
      is = ap (λ (i : ℕ). taken i (past_lead ts)) m ∙ taken_is signs (past_lead ts) f.1;
      near =
          taken_near k (signs - 1) (past l).text (past l).tokens (past_lead ts) (alike b (past l).tokens (past_lead ts) h (omega (arith, f.0, f.1)))
          ∙ ap (λ (i : ℕ). past_lead (drop i (past_lead ts))) c;
    }
near_one root n (Piece p true) l ts b h f = record {
  left = drop 1 (past_lead ts);
  is = taken_is 1 (past_lead ts) (omega (arith, f));
  near = taken_near (kind_of_part p) 0 (past l).text (past l).tokens (past_lead ts) (alike b (past l).tokens (past_lead ts) h f);
}
near_one root n (Piece p false) l ts b h f =
    let a : Alike (past l).tokens (past_lead ts) = alike b (past l).tokens (past_lead ts) h f in
    let plain : is_trivia a.u.kind ≡ false = ap is_trivia a.kind ∙ first_plain ts a.t a.rest a.is_right in
    let w : PartNear p a.u a.rest (past l).text = part_near p a.u a.rest (past l).text plain in
    record {
      left = ts;
      is = ap (option_map (λ (us : List RawToken). ts)) (taken_is 1 (past_lead ts) (omega (arith, f)));
      near = inr (record {
        u = w.v;
        t = a.t;
        rest = a.rest;
        is_left = ap (λ (xs : List RawToken). (past (parted_on p xs (past l).text).left).tokens) a.is_left ∙ w.is;
        is_right = a.is_right;
        kind = w.kind ∙ a.kind;
      });
    }
near_one root n (Node k from) l ts b h f = record { left = ts; is = refl; near = h }
near_one root n (Error m) l ts b h f = record { left = ts; is = refl; near = h }

pub some_same : {X : Type 0} (x y : X) → Some x ≡ Some y → x ≡ y
some_same x y e = cc

near_all : (root n : ℕ) (es : List Event) (l : Left) (ts us : List RawToken) (b : Bool) → Near b (past l).tokens (past_lead ts) → AllFind es ts → left_after es ts ≡ Some us
    → Near (parted_after es b) (past (made_left root n es l)).tokens (past_lead us)
near_all root n [] l ts us b h f e = subst (λ (xs : List RawToken). Near b (past l).tokens (past_lead xs)) (some_same ts us e) h
near_all root n (e ∷ es) l ts us b h f q =
    let o : NearBy root n e l ts b = near_one root n e l ts b h f.0 in
    near_all root (n + 1) es (made_by root n e l).left o.left us (next_parted e b) o.near (f.1 o.left o.is) (sym (ap (option_and_then (left_after es)) o.is) ∙ q)

-- ---- a token of which a part is taken has parts

parted_both : (xs ys : List Event) (b : Bool) → parted_after (xs ++ ys) b ≡ parted_after ys (parted_after xs b)
parted_both [] ys b = refl
parted_both (x ∷ xs) ys b = parted_both xs ys (next_parted x b)

parted_turned : (e : Event) (es : List Event) → parted_after (reverse (e ∷ es)) false ≡ next_parted e (parted_after (reverse es) false)
parted_turned e es = ap (λ (xs : List Event). parted_after xs false) (reverse-append (e ∷ []) es) ∙ parted_both (reverse es) (e ∷ []) false

no : false ≡ true → ⊥
no h = cc

none_more : (n : ℕ) → n ≡ 0 + n
none_more n = omega arith

has_parts : (ss : List Sight) (es : List Event) → AllSeen ss es → parted_after (reverse es) false ≡ true → HasParts ss (taken_by es)
has_parts ss [] h p = absurd (no p)
has_parts ss (Token k signs ∷ es) h p = absurd (no (sym (parted_turned (Token k signs) es) ∙ p))
has_parts ss (Piece q true ∷ es) h p = absurd (no (sym (parted_turned (Piece q true) es) ∙ p))
has_parts ss (Piece q false ∷ es) h p = subst (HasParts ss) (none_more (taken_by es)) h.0
has_parts ss (Node k from ∷ es) h p = subst (HasParts ss) (none_more (taken_by es)) (has_parts ss es h.1 (sym (parted_turned (Node k from) es) ∙ p))
has_parts ss (Error m ∷ es) h p = subst (HasParts ss) (none_more (taken_by es)) (has_parts ss es h.1 (sym (parted_turned (Error m) es) ∙ p))

-- ---- what is left is the end of the tokens

record IsEnd (ts us : List RawToken) : Type 0 where
  front : List RawToken
  is : ts ≡ front ++ us

drop_end : (n : ℕ) (ts : List RawToken) → IsEnd ts (drop n ts)
drop_end n ts = record { front = take n ts; is = sym (take-append-drop n ts) }

end_twice : (ts us vs : List RawToken) → IsEnd ts us → IsEnd us vs → IsEnd ts vs
end_twice ts us vs a b =
    record { front = a.front ++ b.front; is = a.is ∙ ap (λ (xs : List RawToken). a.front ++ xs) b.is ∙ sym (append_assoc a.front b.front vs) }

taken_end : (n : ℕ) (ts us : List RawToken) → taken n ts ≡ Some us → IsEnd ts us
taken_end n ts us e = by (nat_le n (length ts)) e
  where
    by : (x : Bool) → (if x then Some (drop n ts) else None) ≡ Some us → IsEnd ts us
    by true f = subst (IsEnd ts) (some_same (drop n ts) us f) (drop_end n ts)
    by false f = absurd (let bad : None ≡ Some us = f in cc)

seen_end : (ts us : List RawToken) (o : Option (List RawToken)) → option_map (λ (vs : List RawToken). ts) o ≡ Some us → IsEnd ts us
seen_end ts us (Some vs) e = record { front = []; is = some_same ts us e }
seen_end ts us None e = absurd (let bad : None ≡ Some us = e in cc)

by_end : (e : Event) (ts us : List RawToken) → left_by e ts ≡ Some us → IsEnd ts us
by_end (Token k signs) ts us h = end_twice ts (past_lead ts) us (drop_end (lead ts) ts) (taken_end (signs - 1 + 1) (past_lead ts) us h)
by_end (Piece p true) ts us h = end_twice ts (past_lead ts) us (drop_end (lead ts) ts) (taken_end 1 (past_lead ts) us h)
by_end (Piece p false) ts us h = seen_end ts us (taken 1 (past_lead ts)) h
by_end (Node k from) ts us h = record { front = []; is = some_same ts us h }
by_end (Error m) ts us h = record { front = []; is = some_same ts us h }

after_end : (es : List Event) (ts us : List RawToken) → left_after es ts ≡ Some us → IsEnd ts us
after_end [] ts us h = record { front = []; is = some_same ts us h }
after_end (e ∷ es) ts us h = by (left_by e ts) refl h (λ vs. after_end es vs us)
  where
    by : (o : Option (List RawToken)) → left_by e ts ≡ o → option_and_then (left_after es) o ≡ Some us → ((vs : List RawToken) → left_after es vs ≡ Some us → IsEnd vs us)
        → IsEnd ts us
    by (Some vs) f m k = end_twice ts vs us (by_end e ts vs f) (k vs m)
    by None f m k = absurd (let bad : None ≡ Some us = m in cc)

pub seen_past : (ts : List RawToken) → seen_tokens (past_lead ts) ≡ seen_tokens ts
seen_past [] = ap seen_tokens past_empty
seen_past (t ∷ ts) = by (is_trivia t.kind) refl (seen_past ts)
  where
    by : (b : Bool) → is_trivia t.kind ≡ b → seen_tokens (past_lead ts) ≡ seen_tokens ts → seen_tokens (past_lead (t ∷ ts)) ≡ seen_tokens (t ∷ ts)
    by true e h = ap seen_tokens (past_on t ts e) ∙ h ∙ sym (ap (λ (b : Bool). if b then seen_tokens ts else t ∷ seen_tokens ts) e)
    by false e h = ap seen_tokens (past_stops t ts e)

-- ---- the law

sight_same : (ss : List Sight) (i j : ℕ) (x y : Sight) → i ≡ j → slice_get ss i ≡ Some x → slice_get ss j ≡ Some y → x ≡ y
sight_same ss i j x y e a b = some_same x y (sym a ∙ ap (slice_get ss) e ∙ b)

pub runs_leave : RunsLeaveTheirTokens
runs_leave n root g rule ss ts text s short sights there word =
    let st : State = runs n g ss (begin_of rule) in
    let es : List Event = st.made.events in
    let counted : taken_by es ≡ st.place.at = runs-counted n g ss rule short in
    let seen : AllSeen ss es = runs-seen n g ss rule short in
    let found : AllFind (reverse es) ts = events_find ss ts es sights seen in
    let l : LeavesSeen (reverse es) ts = events_leave (reverse es) ts found in
    let near : Near (parted_after (reverse es) false) (past (made_left root 0 (reverse es) (record { tokens = ts; text = text }))).tokens (past_lead l.left) =
    near_all root 0 (reverse es) (record { tokens = ts; text = text }) ts l.left false (past_is ts text) found l.is in
    let end : IsEnd ts (past_lead l.left) = end_twice ts l.left (past_lead l.left) (after_end (reverse es) ts l.left l.is) (drop_end (lead l.left) l.left) in
    let within : st.place.at < length ss = slice_get_within ss st.place.at s there in
    let parts : seen_tokens ts ≡ seen_tokens end.front ++ seen_tokens (past_lead l.left) = ap seen_tokens end.is ∙ seen_both end.front (past_lead l.left) in
    let behind : length (seen_tokens (past_lead l.left)) ≡ length (seen_tokens ts) - taken_by (reverse es) =
    ap length (seen_past l.left ∙ l.seen) ∙ length-drop (taken_by (reverse es)) (seen_tokens ts) in
    let long : length (seen_tokens ts) ≡ length (seen_tokens end.front) + length (seen_tokens (past_lead l.left)) =
    ap length parts ∙ length-append (seen_tokens end.front) (seen_tokens (past_lead l.left)) in
    record {
      front = end.front;
      back = past_lead l.left;
      is = end.is;
      first = lead_past l.left;
      count = omega (arith, long, behind, taken_turned es, counted, within, sights.count);
      left = by (parted_after (reverse es) false) refl near counted seen;
    }
  where
    by : (b : Bool) → parted_after (reverse (runs n g ss (begin_of rule)).made.events) false ≡ b → {us vs : List RawToken} → Near b us vs
        → taken_by (runs n g ss (begin_of rule)).made.events ≡ (runs n g ss (begin_of rule)).place.at → AllSeen ss (runs n g ss (begin_of rule)).made.events → us ≡ vs
    by false e {us} {vs} h c q = h
    by true e {us} {vs} h c q =
        let p : HasParts ss (taken_by (runs n g ss (begin_of rule)).made.events) = has_parts ss (runs n g ss (begin_of rule)).made.events q e in
        let same : p.sight ≡ s = sight_same ss (taken_by (runs n g ss (begin_of rule)).made.events) (runs n g ss (begin_of rule)).place.at p.sight s c p.there there in
        let none : p.sight.word ≡ 0 = ap (λ (x : Sight). x.word) same ∙ word in
        absurd (omega (arith, none, p.finer))

near_long : (b : Bool) (us vs : List RawToken) → Near b us vs → length us ≡ length vs
near_long false us vs h = ap length h
near_long true us vs (inl e) = ap length e
near_long true us vs (inr a) = ap length a.is_left ∙ sym (ap length a.is_right)

some_seen : (ts : List RawToken) → 0 < length (seen_tokens ts) → 0 < length ts
some_seen [] h = h
some_seen (t ∷ ts) h = omega arith

-- where a run has come to a token, some are left
pub some_left : (n root : ℕ) (g : Tables) (rule : ℕ) (ss : List Sight) (ts : List RawToken) (text : List ℕ) → length ss + 3 < 2 ^ 64 → AreSightsOf ss ts
    → (runs n g ss (begin_of rule)).place.at < length ss
    → 0 < length (past (made_left root 0 (reverse (runs n g ss (begin_of rule)).made.events) (record { tokens = ts; text = text }))).tokens
some_left n root g rule ss ts text short sights within =
    let st : State = runs n g ss (begin_of rule) in
    let es : List Event = st.made.events in
    let counted : taken_by es ≡ st.place.at = runs-counted n g ss rule short in
    let found : AllFind (reverse es) ts = events_find ss ts es sights (runs-seen n g ss rule short) in
    let l : LeavesSeen (reverse es) ts = events_leave (reverse es) ts found in
    let us : List RawToken = (past (made_left root 0 (reverse es) (record { tokens = ts; text = text }))).tokens in
    let near : Near (parted_after (reverse es) false) us (past_lead l.left) =
    near_all root 0 (reverse es) (record { tokens = ts; text = text }) ts l.left false (past_is ts text) found l.is in
    let seen : length (seen_tokens (past_lead l.left)) ≡ length (seen_tokens ts) - taken_by (reverse es) =
    ap length (seen_past l.left ∙ l.seen) ∙ length-drop (taken_by (reverse es)) (seen_tokens ts) in
    omega (
      arith,
      near_long (parted_after (reverse es) false) us (past_lead l.left) near,
      some_seen (past_lead l.left) (omega (arith, seen, taken_turned es, counted, within, sights.count)),
    )
