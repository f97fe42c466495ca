-- The tokens of a node read from the last, back to the first.
use Rattle.std.proofs.Common.{◌≡◌, ℕ, suc, ◌+◌, ◌<◌, List, [], ◌∷◌, ◌++◌, length, reverse, Bool, true, false, not, ◌&&◌, ◌||◌, cond, Option, Some, None, refl, sym, ap, subst, ◌∙◌, arith, append_assoc, append-nil}
use Rattle.std.specs.List.{All, filter, find}
use Rattle.std.proofs.lemmas.List.{reverse-append, reverse-reverse}
use Rattle.std.proofs.lemmas.List.Elements.{All-head, All-tail, All-filter, All-map, filter_passes, filter-append}
use Rattle.syntax_kind.specs.Kinds.{is_trivia}
use Rattle.tree_model.specs.declared.direction.Direction.TheVariants.{Prev}
use Rattle.tree_model.specs.Tree.{Tree, node, token, IsPlace, places, kind_of, text, is_token}
use Rattle.tree_model.specs.Cursor.{Cursor, focus, at_place, at_token, descendants_of, all_tokens, IsRightBefore}
use Rattle.tree_model.specs.NearestToken.{tokens_beyond}
use Rattle.tree_model.specs.Neighbours.{TokensStandTogether}
use Rattle.tree_model.proofs.NearestToken.{tokens_before}
use Rattle.operator_terms.specs.Token.{Token}
use Rattle.operator_terms.specs.Reading.{is_as, is_name}
use Rattle.operator_terms.specs.Places.{is_one_name, ends_in_cast}
use Rattle.operator_trees.specs.Leaves.{leaves_of}
use Rattle.operator_powers.specs.LastTokens.{tokens_of, head_of}
use Rattle.operator_powers.proofs.Walk.{leaf_here, flat, flat-append, leaves_descendants}

-- ---- lists

find_first : {X : Type 0} (test : X → Bool) (xs : List X) → find test xs ≡ head_of (filter test xs)
find_first test [] = refl
find_first test (x ∷ xs) = by (test x) (find_first test xs)
  where
    by : (b : Bool) → find test xs ≡ head_of (filter test xs)
        → cond b (Some x) (find test xs) ≡ head_of (cond b (x ∷ filter test xs) (filter test xs))
    by true e = refl
    by false e = e

filter_reverse : {X : Type 0} (test : X → Bool) (xs : List X) → filter test (reverse xs) ≡ reverse (filter test xs)
filter_reverse test [] = refl
filter_reverse test (x ∷ xs) =
    ap (filter test) (reverse-append (x ∷ []) xs)
    ∙ filter-append test (reverse xs) (x ∷ [])
    ∙ ap (λ l. l ++ filter test (x ∷ [])) (filter_reverse test xs)
    ∙ by (test x)
  where
    by : (b : Bool) → reverse (filter test xs) ++ cond b (x ∷ []) [] ≡ reverse (cond b (x ∷ filter test xs) (filter test xs))
    by true = sym (reverse-append (x ∷ []) (filter test xs))
    by false = append-nil (reverse (filter test xs))

inside : (P : Cursor → Type 0) (y : Cursor) (front back : List Cursor) → All P (front ++ y ∷ back) → P y
inside P y [] back h = All-head P y back h
inside P y (x ∷ front) back h = inside P y front back (All-tail P x (front ++ y ∷ back) h)

turned : (y : Cursor) (before after : List Cursor) → reverse (y ∷ before) ++ after ≡ reverse before ++ y ∷ after
turned y before after = ap (λ l. l ++ after) (reverse-append (y ∷ []) before) ∙ append_assoc (reverse before) (y ∷ []) after

pub first_in : (c : Cursor) → find at_token (descendants_of c) ≡ head_of (tokens_of c)
first_in c = find_first at_token (descendants_of c)

pub last_in : (c : Cursor) → find at_token (reverse (descendants_of c)) ≡ head_of (reverse (tokens_of c))
last_in c = find_first at_token (reverse (descendants_of c)) ∙ ap head_of (filter_reverse at_token (descendants_of c))

-- ---- the tokens before one of a node's

same_tree : (c : Cursor) → All (λ y. y.tree ≡ c.tree) (tokens_of c)
same_tree c =
    All-filter at_token (λ y. y.tree ≡ c.tree) (descendants_of c)
    (All-map (λ y. y.tree ≡ c.tree) (λ q. at_place c (c.place ++ q)) (places (focus c)) (λ k d h. refl))

-- those before the node, the nearest first
outside : TokensStandTogether → (c : Cursor) → IsPlace c.tree c.place → List Cursor
outside law c is = reverse (law c is).0

before_one : (law : TokensStandTogether) (c y : Cursor) (before after : List Cursor) (is : IsPlace c.tree c.place)
    → tokens_of c ≡ reverse before ++ y ∷ after → tokens_beyond Prev y ≡ before ++ outside law c is
unfolding outside
before_one law c y before after is e =
    let front = (law c is).0 in
    let back = (law c is).1 in
    let tree : y.tree ≡ c.tree = inside (λ x. x.tree ≡ c.tree) y (reverse before) after (subst (All (λ x. x.tree ≡ c.tree)) e (same_tree c)) in
    let whole : all_tokens y ≡ (front ++ reverse before) ++ y ∷ (after ++ back) =
    ap (λ t. filter at_token (descendants_of (record { tree = t; place = [] }))) tree
    ∙ (law c is).2
    ∙ ap (λ l. front ++ (l ++ back)) e
    ∙ ap (λ l. front ++ l) (append_assoc (reverse before) (y ∷ after) back)
    ∙ sym (append_assoc front (reverse before) (y ∷ (after ++ back))) in
    tokens_before y (front ++ reverse before) (after ++ back) whole
    ∙ reverse-append front (reverse before)
    ∙ ap (λ l. l ++ reverse front) (reverse-reverse before)

none_before : (before out : List Cursor) → out ≡ before ++ out → None ≡ head_of before
none_before [] out e = refl
none_before (x ∷ before) out e = absurd (longer (length before) (length out) (ap length e ∙ ap suc (sum before)))
  where
    sum : (xs : List Cursor) → length (xs ++ out) ≡ length xs + length out
    sum [] = omega arith
    sum (y ∷ ys) = let more = sum ys in omega arith

    longer : (n m : ℕ) → m ≡ suc (n + m) → ⊥
    longer n m h = omega arith

head_nil : (before out : List Cursor) → before ++ out ≡ [] → None ≡ head_of before
head_nil [] out e = refl
head_nil (x ∷ before) out e = absurd (let bad : (x ∷ (before ++ out)) ≡ [] = e in cc)

-- before the first there is none
pub before_first_one : TokensStandTogether → (c y : Cursor) (before after : List Cursor) → IsPlace c.tree c.place
    → tokens_of c ≡ reverse before ++ y ∷ after → Some y ≡ find at_token (descendants_of c)
    → None ≡ head_of before
before_first_one law c y before after is e first = by (tokens_of c) refl
  where
    by : (l : List Cursor) → tokens_of c ≡ l → None ≡ head_of before
    by [] none = absurd (let bad : Some y ≡ None = first ∙ first_in c ∙ ap head_of none in cc)
    by (x ∷ rest) some =
        let heads : Some y ≡ Some x = first ∙ first_in c ∙ ap head_of some in
        let same : x ≡ y = cc in
        none_before before (outside law c is) (sym (before_one law c y [] rest is (some ∙ ap (λ z. z ∷ rest) same)) ∙ before_one law c y before after is e)

-- before another, the one right before it among all tokens
pub before_other_one : TokensStandTogether → (c y : Cursor) (found : Option Cursor) (before after : List Cursor)
    → IsPlace c.tree c.place → tokens_of c ≡ reverse before ++ y ∷ after
    → (Some y ≡ find at_token (descendants_of c) → ⊥) → IsRightBefore (all_tokens y) y found → found ≡ head_of before
before_other_one law c y None before after is e other h =
    head_nil before (outside law c is) (sym (before_one law c y before after is e) ∙ tokens_before y [] h.0 h.1)
before_other_one law c y (Some x) [] after is e other h = absurd (other (sym (first_in c ∙ ap head_of e)))
before_other_one law c y (Some x) (z ∷ before) after is e other h =
    let split : all_tokens y ≡ (h.0 ++ x ∷ []) ++ y ∷ h.1 = h.2 ∙ sym (append_assoc h.0 (x ∷ []) (y ∷ h.1)) in
    let both : (z ∷ (before ++ outside law c is)) ≡ x ∷ reverse h.0 =
    sym (before_one law c y (z ∷ before) after is e) ∙ tokens_before y (h.0 ++ x ∷ []) h.1 split ∙ reverse-append h.0 (x ∷ []) in
    let same : x ≡ z = cc in
    ap (λ w. Some w) same

-- a node with a token has a first one
pub none_first : (c y : Cursor) (before after : List Cursor) → tokens_of c ≡ reverse before ++ y ∷ after
    → None ≡ find at_token (descendants_of c) → None ≡ head_of before
none_first c y before after e none = absurd (by (reverse before) (none ∙ first_in c ∙ ap head_of e))
  where
    by : (l : List Cursor) → None ≡ head_of (l ++ y ∷ after) → ⊥
    by [] bad = cc
    by (x ∷ l) bad = cc

-- how many are left to read from one on
abbrev pub to_read : Option Cursor → ℕ
to_read None = 0
to_read (Some y) = suc (length (tokens_beyond Prev y))

pub fewer_to_read : TokensStandTogether → (c y : Cursor) (before after : List Cursor) → IsPlace c.tree c.place
    → tokens_of c ≡ reverse before ++ y ∷ after → to_read (head_of before) < suc (length (tokens_beyond Prev y))
fewer_to_read law c y [] after is e = omega arith
fewer_to_read law c y (z ∷ before) after is e =
    let here = ap length (before_one law c y (z ∷ before) after is e) in
    let there = ap length (before_one law c z before (y ∷ after) is (e ∙ turned z before (y ∷ after))) in
    omega (arith, here, there)

-- ---- what the tokens say

-- none of them, or a name alone
abbrev pub Seen : Bool → List Token → Type 0
Seen false ts = ts ≡ []
Seen true ts = is_one_name ts ≡ true

no_more : (named : Bool) (ts : List Token) → Seen named ts → ends_in_cast ts ≡ false
no_more false ts h = ap ends_in_cast h
no_more true [] h = refl
no_more true (t ∷ []) h = alone (is_as t.kind)
  where
    alone : (b : Bool) → ((b && false) || false) ≡ false
    alone true = refl
    alone false = refl
no_more true (t ∷ u ∷ ts) h = absurd (let bad : false ≡ true = h in cc)

two_last : (ts : List Token) (t u : Token) → ends_in_cast (ts ++ t ∷ (u ∷ [])) ≡ (is_as t.kind && is_name u.kind)
two_last [] t u = by (is_as t.kind) (is_name u.kind) (is_as u.kind)
  where
    by : (a b d : Bool) → ((a && b) || ((d && false) || false)) ≡ (a && b)
    by true true d = refl
    by true false true = refl
    by true false false = refl
    by false b true = refl
    by false b false = refl
two_last (s ∷ ts) t u = skip (is_as s.kind) ts ∙ two_last ts t u
  where
    skip : (b : Bool) (ts : List Token) → ((b && is_one_name (ts ++ t ∷ (u ∷ []))) || ends_in_cast (ts ++ t ∷ (u ∷ []))) ≡ ends_in_cast (ts ++ t ∷ (u ∷ []))
    skip false ts = refl
    skip true [] = refl
    skip true (r ∷ []) = refl
    skip true (r ∷ q ∷ ts) = refl

no_name_last : (ts : List Token) (t : Token) → is_name t.kind ≡ false → ends_in_cast (ts ++ t ∷ []) ≡ false
no_name_last [] t h = by (is_as t.kind)
  where
    by : (b : Bool) → ((b && false) || false) ≡ false
    by true = refl
    by false = refl
no_name_last (s ∷ ts) t h = skip (is_as s.kind) ts ∙ no_name_last ts t h
  where
    skip : (b : Bool) (ts : List Token) → ((b && is_one_name (ts ++ t ∷ [])) || ends_in_cast (ts ++ t ∷ [])) ≡ ends_in_cast (ts ++ t ∷ [])
    skip false ts = refl
    skip true [] = ap (λ b. b || ends_in_cast (t ∷ [])) h
    skip true (r ∷ []) = refl
    skip true (r ∷ q ∷ ts) = refl

said : (named : Bool) (ts us : List Token) (t : Token) → Seen named us → (named || not (is_name t.kind)) ≡ true
    → ends_in_cast (ts ++ t ∷ us) ≡ (named && is_as t.kind)
said false ts us t h stops = ap (λ l. ends_in_cast (ts ++ t ∷ l)) h ∙ no_name_last ts t (turn (is_name t.kind) stops)
  where
    turn : (b : Bool) → not b ≡ true → b ≡ false
    turn true e = sym e
    turn false e = refl
said true ts [] t h stops = absurd (let bad : false ≡ true = h in cc)
said true ts (u ∷ []) t h stops = two_last ts t u ∙ ap (λ b. is_as t.kind && b) h ∙ whole (is_as t.kind)
  where
    whole : (b : Bool) → (b && true) ≡ b
    whole true = refl
    whole false = refl
said true ts (u ∷ v ∷ us) t h stops = absurd (let bad : false ≡ true = h in cc)

-- ---- the loop

abbrev seen_of : List Cursor → List Token
seen_of cs = flat (λ d. leaf_here (focus d)) cs

kept_leaves : (cs : List Cursor) → seen_of (filter at_token cs) ≡ seen_of cs
kept_leaves [] = refl
kept_leaves (c ∷ cs) = out (at_token c) ∙ by (focus c) (kept_leaves cs)
  where
    out : (b : Bool) → seen_of (cond b (c ∷ filter at_token cs) (filter at_token cs)) ≡ cond b (leaf_here (focus c) ++ seen_of (filter at_token cs)) (seen_of (filter at_token cs))
    out true = refl
    out false = refl

    by : (t : Tree) → seen_of (filter at_token cs) ≡ seen_of cs
        → cond (is_token t) (leaf_here t ++ seen_of (filter at_token cs)) (seen_of (filter at_token cs)) ≡ leaf_here t ++ seen_of cs
    by (token k x) rest = ap (λ l. leaf_here (token k x) ++ l) rest
    by (node k d) rest = rest

leaves_seen : (c : Cursor) → leaves_of (focus c) ≡ seen_of (tokens_of c)
leaves_seen c = sym (kept_leaves (descendants_of c) ∙ leaves_descendants c)

-- the token of a tree that is one
abbrev as_token : Tree → Token
as_token t = record { kind = kind_of t; text = text t }

leaf_of : (t : Tree) (b : Bool) → is_token t ≡ true → is_trivia (kind_of t) ≡ b → leaf_here t ≡ cond b [] (as_token t ∷ [])
leaf_of (token k x) b h e = ap (λ b. cond b [] (record { kind = k; text = x } ∷ [])) e
leaf_of (node k d) b h e = absurd (let bad : false ≡ true = h in cc)

-- the tokens that are left, the next one first, and those that were read
pub record Unread (c : Cursor) (next : Option Cursor) (named : Bool) : Type 0 where
  pub before : List Cursor
  pub after : List Cursor
  pub parts : tokens_of c ≡ reverse before ++ after
  pub nearest : next ≡ head_of before
  pub seen : Seen named (seen_of after)

pub unread_all : (c : Cursor) (next : Option Cursor) → next ≡ find at_token (reverse (descendants_of c)) → Unread c next false
unread_all c next e = record {
  before = reverse (tokens_of c);
  after = [];
  parts = sym (append-nil (reverse (reverse (tokens_of c))) ∙ reverse-reverse (tokens_of c));
  nearest = e ∙ last_in c;
  seen = refl;
}

-- the next one precedes those that were read
pub record Standing (c y : Cursor) (named : Bool) : Type 0 where
  pub before : List Cursor
  pub after : List Cursor
  pub parts : tokens_of c ≡ reverse before ++ y ∷ after
  pub seen : Seen named (seen_of after)
  pub is_token : at_token y ≡ true

pub standing : (c y : Cursor) (next : Option Cursor) (named : Bool) → next ≡ Some y → Unread c next named → Standing c y named
standing c y next named is u = by u.before refl
  where
    by : (l : List Cursor) → u.before ≡ l → Standing c y named
    by [] e = absurd (let bad : None ≡ Some y = sym (u.nearest ∙ ap head_of e) ∙ is in cc)
    by (x ∷ l) e =
        let heads : Some x ≡ Some y = sym (u.nearest ∙ ap head_of e) ∙ is in
        let same : x ≡ y = cc in
        let parts : tokens_of c ≡ reverse l ++ y ∷ u.after =
        u.parts ∙ ap (λ m. reverse m ++ u.after) e ∙ turned x l u.after ∙ ap (λ z. reverse l ++ z ∷ u.after) same in
        record {
          before = l;
          after = u.after;
          parts = parts;
          seen = u.seen;
          is_token = inside (λ z. at_token z ≡ true) y (reverse l) u.after (subst (All (λ z. at_token z ≡ true)) parts (filter_passes at_token (descendants_of c)));
        }

-- it is trivia
pub past_trivia : (c y : Cursor) (next : Option Cursor) (named : Bool) (s : Standing c y named) → is_trivia (kind_of (focus y)) ≡ true
    → next ≡ head_of s.before → Unread c next named
past_trivia c y next named s is nearest = record {
  before = s.before;
  after = y ∷ s.after;
  parts = s.parts;
  nearest = nearest;
  seen = subst (Seen named) (sym (ap (λ l. l ++ seen_of s.after) (leaf_of (focus y) true s.is_token is))) s.seen;
}

-- it is the name
pub past_name : (c y : Cursor) (next : Option Cursor) (named : Bool) (s : Standing c y named) → is_trivia (kind_of (focus y)) ≡ false
    → (named || not (is_name (kind_of (focus y)))) ≡ false → next ≡ head_of s.before → Unread c next true
past_name c y next true s is goes nearest = absurd (let bad : true ≡ false = goes in cc)
past_name c y next false s is goes nearest = record {
  before = s.before;
  after = y ∷ s.after;
  parts = s.parts;
  nearest = nearest;
  seen =
      ap is_one_name (ap (λ l. l ++ seen_of s.after) (leaf_of (focus y) false s.is_token is) ∙ ap (λ l. as_token (focus y) ∷ l) s.seen)
      ∙ turn (is_name (kind_of (focus y))) goes;
}
  where
    turn : (b : Bool) → not b ≡ false → b ≡ true
    turn true e = refl
    turn false e = sym e

-- it decides
pub decided : (c y : Cursor) (named : Bool) (s : Standing c y named) → is_trivia (kind_of (focus y)) ≡ false
    → (named || not (is_name (kind_of (focus y)))) ≡ true
    → (named && is_as (kind_of (focus y))) ≡ ends_in_cast (leaves_of (focus c))
decided c y named s is stops =
    sym (ap ends_in_cast (leaves_seen c ∙ ap seen_of s.parts ∙ flat-append (λ d. leaf_here (focus d)) (reverse s.before) (y ∷ s.after)
    ∙ ap (λ l. seen_of (reverse s.before) ++ (l ++ seen_of s.after)) (leaf_of (focus y) false s.is_token is))
    ∙ said named (seen_of (reverse s.before)) (seen_of s.after) (as_token (focus y)) s.seen stops)

-- none is left
pub none_left : (c : Cursor) (next : Option Cursor) (named : Bool) → next ≡ None → Unread c next named
    → false ≡ ends_in_cast (leaves_of (focus c))
none_left c next named is u = by u.before refl
  where
    by : (l : List Cursor) → u.before ≡ l → false ≡ ends_in_cast (leaves_of (focus c))
    by [] e =
        sym (ap ends_in_cast (leaves_seen c ∙ ap seen_of (u.parts ∙ ap (λ m. reverse m ++ u.after) e)) ∙ no_more named (seen_of u.after) u.seen)
    by (x ∷ l) e = absurd (let bad : Some x ≡ None = sym (u.nearest ∙ ap head_of e) ∙ is in cc)
