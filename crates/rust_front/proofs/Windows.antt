-- What the test of a window tells, in which one token was given another text.
use Rattle.std.proofs.Common.{◌≡◌, ◌⊎◌, inl, inr, ℕ, ◌+◌, ◌-◌, ◌<◌, ◌≤◌, ◌^◌, Bool, true, false, not, ◌==◌, ◌&&◌, ◌||◌, nat_lt, nat_le, if◌then◌else◌, Option, Some, None, List, [], ◌∷◌, ◌++◌, length, drop, ap, ap₂, sym, ◌∙◌, refl, arith, subst, append_assoc, length-drop}
use Rattle.std.specs.Prelude.{IsUtf8, slice_get}
use Rattle.std.specs.Bool.{beq}
use Rattle.std.proofs.lemmas.Bool.{eqb-true}
use Rattle.std.proofs.lemmas.Bool.Decides.{nat_tests}
use Rattle.text_size.specs.TextRange.{Bounds}
use Rattle.syntax_kind.specs.declared.syntax_kind.SyntaxKind.{SyntaxKind}
use Rattle.syntax_kind.specs.declared.syntax_kind.SyntaxKind.TheVariants as kinds
use Rattle.syntax_kind.specs.declared.syntax_kind.token_kind.TokenKind.TheVariants as token
use Rattle.syntax_kind.specs.Kinds.{kind_raw, is_trivia, is_same_kind}
use Rattle.syntax_kind.specs.KindLaws.{kind_raw-injective}
use Rattle.ras_front_end.specs.declared.edition.Edition.{Edition}
use Rattle.token_layout.specs.declared.span.Token as span
use Rattle.token_layout.specs.Laid.{IsCut}
use Rattle.grammar_machine.specs.declared.grammar.Sight.{Sight}
use Rattle.event_layout.specs.Amid.{sum_len}
use Rattle.event_layout.specs.Trivia.{has_blank_line, is_comment}
use Rattle.event_layout.specs.Layout.{is_number}
use Rattle.rust_grammar.specs.Seeing.{sights_of}
use Rattle.rust_lexer.specs.declared.lexer.LexError.{LexError}
use Rattle.rust_lexer.specs.Lexing.{tokens_of, errors_of}
use Rattle.rust_lexer.proofs.Kept.{lexed}
use Rattle.rust_front.specs.Heads.{has_head_of}
use Rattle.rust_front.specs.Retold.{is_brace, is_brace_at, is_empty, begins_well, ends_well, stands_alone, ends_in_dot, has_no_head, is_same_token, are_same_tokens, kind_if, retold_kind, has_dot, keeps_lines, keeps_whole, may_be_retold, if_retold, part_of, len_of, new_len, keeps_tokens, is_same_sight, are_same_sights, is_inside, token_keeps_sort, may_be_inside, retold_in, both_alone, retold_with, are_short, is_retold_of}
use Rattle.rust_front.specs.RetoldLaws.{IsBraceKind, BeginsInBrace, EndsInBrace, StandsAlone, OneTokenDiffers, IsRetoldAs}

abbrev Tokens : Type 0
Tokens = List span.Token

-- ---- tests

no : false ≡ true → ⊥
no h = cc

never : {X : Type 0} (x : X) → None ≡ Some x → ⊥
never x h = (let bad : None ≡ Some x = h in cc)

some_is : {X : Type 0} (x y : X) → Some x ≡ Some y → x ≡ y
some_is x y h = cc

both_true : (p q : Bool) → p && q ≡ true → (p ≡ true) × (q ≡ true)
both_true true true h = (refl, refl)
both_true true false h = absurd (no h)
both_true false q h = absurd (no h)

one_true : (p q : Bool) → p || q ≡ true → (p ≡ true) ⊎ (q ≡ true)
one_true true q h = inl refl
one_true false q h = inr h

not_true : (p : Bool) → not p ≡ true → p ≡ false
not_true true h = absurd (no h)
not_true false h = refl

both_picked : (p q : Bool) → (if p then q else false) ≡ true → (p ≡ true) × (q ≡ true)
both_picked true q h = (refl, h)
both_picked false q h = absurd (no h)

picked : {X : Type 0} (p : Bool) (o : Option X) (x : X) → (if p then o else None) ≡ Some x → (p ≡ true) × (o ≡ Some x)
picked true o x h = (refl, h)
picked false o x h = absurd (never x h)

is_below : (m n : ℕ) → nat_lt m n ≡ true → m < n
is_below m n h = grind (arith, nat_tests)

is_most : (m n : ℕ) → nat_le m n ≡ true → m ≤ n
is_most m n h = grind (arith, nat_tests)

no_items : {X : Type 0} (xs : List X) → (length xs == 0) ≡ true → xs ≡ []
no_items [] h = refl
no_items (x ∷ xs) h = absurd (let none : length (x ∷ xs) ≡ 0 = eqb-true (length (x ∷ xs)) 0 h in omega (arith, none))

-- ---- braces

brace_kind : (k : SyntaxKind) → is_brace k ≡ true → IsBraceKind k
brace_kind (kinds.Token token.L_CURLY) h = inl refl
brace_kind (kinds.Token token.R_CURLY) h = inr refl
brace_kind _ h = absurd (no h)

begun : (ts : Tokens) → is_brace_at (slice_get ts 0) ≡ true → BeginsInBrace ts
begun [] h = absurd (no h)
begun (t ∷ ts) h = record { first = t; rest = ts; begins = refl; is_brace = brace_kind t.kind h }

ended_on : (t : span.Token) (front rest : Tokens) → is_brace_at (slice_get (t ∷ rest) (length rest)) ≡ true → EndsInBrace (front ++ t ∷ rest)
ended_on t front [] h = record { front = front; last = t; ends = refl; is_brace = brace_kind t.kind h }
ended_on t front (u ∷ rest) h = subst EndsInBrace (append_assoc front (t ∷ []) (u ∷ rest)) (ended_on u (front ++ t ∷ []) rest h)

ended : (ts : Tokens) → is_brace_at (slice_get ts (length ts - 1)) ≡ true → EndsInBrace ts
ended [] h = absurd (no h)
ended (t ∷ ts) h =
    let n : length (t ∷ ts) - 1 ≡ length ts = omega arith in
    ended_on t [] ts (sym (ap (λ (i : ℕ). is_brace_at (slice_get (t ∷ ts) i)) n) ∙ h)

begins_on : (before : List ℕ) (ts : Tokens) → (is_empty before ≡ true) ⊎ (is_brace_at (slice_get ts 0) ≡ true) → (before ≡ []) ⊎ BeginsInBrace ts
begins_on before ts (inl h) = inl (no_items before h)
begins_on before ts (inr h) = inr (begun ts h)

ends_on : (behind : List ℕ) (ts : Tokens) → (is_empty behind ≡ true) ⊎ (is_brace_at (slice_get ts (length ts - 1)) ≡ true) → (behind ≡ []) ⊎ EndsInBrace ts
ends_on behind ts (inl h) = inl (no_items behind h)
ends_on behind ts (inr h) = inr (ended ts h)

alone : (e : Edition) (before window behind : List ℕ) → length window < 2 ^ 32 → stands_alone before behind (tokens_of e window) (errors_of e window) ≡ true
    → StandsAlone e before window behind
alone e before window behind l h =
    let ts : Tokens = tokens_of e window in
    let es : List LexError = errors_of e window in
    let p = both_true (begins_well before ts) (ends_well behind ts && (length es == 0)) h in
    let q = both_true (ends_well behind ts) (length es == 0) p.1 in
    record {
      short = l;
      begins = begins_on before ts (one_true (is_empty before) (is_brace_at (slice_get ts 0)) p.0);
      ends = ends_on behind ts (one_true (is_empty behind) (is_brace_at (slice_get ts (length ts - 1))) q.0);
      no_errors = no_items es q.1;
    }

-- ---- the tokens

same_kind : (k l : SyntaxKind) → is_same_kind k l ≡ true → k ≡ l
same_kind k l h = kind_raw-injective k l (eqb-true (kind_raw k) (kind_raw l) h)

same_token : (t u : span.Token) → is_same_token t u ≡ true → t ≡ u
same_token t u h =
    let p = both_true (is_same_kind t.kind u.kind) (t.len == u.len) h in
    ap₂ (λ (k : SyntaxKind) (n : ℕ). record { kind = k; len = n }) (same_kind t.kind u.kind p.0) (eqb-true t.len u.len p.1)

same_tokens : (ts us : Tokens) → are_same_tokens ts us ≡ true → ts ≡ us
unfolding are_same_tokens
same_tokens [] us h = sym (no_items us h)
same_tokens (t ∷ ts) [] h = absurd (no h)
same_tokens (t ∷ ts) (u ∷ us) h =
    let p = both_picked (is_same_token t u) (are_same_tokens ts us) h in
    ap₂ (λ (x : span.Token) (xs : Tokens). x ∷ xs) (same_token t u p.0) (same_tokens ts us p.1)

-- the token at a byte is in the other tokens, too, with another length
record Found (at len : ℕ) (ts us : Tokens) (k : SyntaxKind) : Type 0 where
  front : Tokens
  back : Tokens
  other : ℕ
  tokens : ts ≡ front ++ record { kind = k; len = len } ∷ back
  new_tokens : us ≡ front ++ record { kind = k; len = other } ∷ back
  starts : sum_len front ≡ at

abbrev found_test : ℕ → span.Token → span.Token → Tokens → Tokens → Bool
found_test len t u ts us = is_same_kind t.kind u.kind && ((t.len == len) && are_same_tokens ts us)

found_here : (at len : ℕ) (t u : span.Token) (ts us : Tokens) (k : SyntaxKind) → (at == 0) ≡ true
    → kind_if (found_test len t u ts us) t.kind ≡ Some k → Found at len (t ∷ ts) (u ∷ us) k
found_here at len t u ts us k z h =
    let p = picked (found_test len t u ts us) (Some t.kind) k h in
    let q = both_true (is_same_kind t.kind u.kind) ((t.len == len) && are_same_tokens ts us) p.0 in
    let r = both_true (t.len == len) (are_same_tokens ts us) q.1 in
    let kind : t.kind ≡ k = some_is t.kind k p.1 in
    record {
      front = [];
      back = ts;
      other = u.len;
      tokens = ap₂ (λ (l : SyntaxKind) (n : ℕ). record { kind = l; len = n } ∷ ts) kind (eqb-true t.len len r.0);
      new_tokens =
          ap₂ (λ (l : SyntaxKind) (xs : Tokens). record { kind = l; len = u.len } ∷ xs) (sym (same_kind t.kind u.kind q.0) ∙ kind) (sym (same_tokens ts us r.1));
      starts = sym (eqb-true at 0 z);
    }

found_later : (at len : ℕ) (t u : span.Token) (ts us : Tokens) (k : SyntaxKind)
    → (retold_kind (at - t.len) len ts us ≡ Some k → Found (at - t.len) len ts us k)
    → (if is_same_token t u && nat_le t.len at then retold_kind (at - t.len) len ts us else None) ≡ Some k → Found at len (t ∷ ts) (u ∷ us) k
found_later at len t u ts us k next h =
    let p = picked (is_same_token t u && nat_le t.len at) (retold_kind (at - t.len) len ts us) k h in
    let q = both_true (is_same_token t u) (nat_le t.len at) p.0 in
    let f : Found (at - t.len) len ts us k = next p.1 in
    record {
      front = t ∷ f.front;
      back = f.back;
      other = f.other;
      tokens = ap (λ (xs : Tokens). t ∷ xs) f.tokens;
      new_tokens = ap₂ (λ (x : span.Token) (xs : Tokens). x ∷ xs) (sym (same_token t u q.0)) f.new_tokens;
      starts = omega (arith, f.starts, is_most t.len at q.1);
    }

found_on : (b : Bool) (at len : ℕ) (t u : span.Token) (ts us : Tokens) (k : SyntaxKind) → (at == 0) ≡ b
    → (retold_kind (at - t.len) len ts us ≡ Some k → Found (at - t.len) len ts us k)
    → (if b then kind_if (found_test len t u ts us) t.kind
    else (if is_same_token t u && nat_le t.len at then retold_kind (at - t.len) len ts us else None)) ≡ Some k
    → Found at len (t ∷ ts) (u ∷ us) k
found_on true at len t u ts us k z next h = found_here at len t u ts us k z h
found_on false at len t u ts us k z next h = found_later at len t u ts us k next h

found : (at len : ℕ) (ts us : Tokens) (k : SyntaxKind) → retold_kind at len ts us ≡ Some k → Found at len ts us k
unfolding retold_kind
found at len [] us k h = absurd (never k h)
found at len (t ∷ ts) [] k h = absurd (never k h)
found at len (t ∷ ts) (u ∷ us) k h = found_on (at == 0) at len t u ts us k refl (λ r. found (at - t.len) len ts us k r) h

-- ---- how long the token is

cut_sum : (ts : Tokens) (s : List ℕ) → IsCut ts s → sum_len ts ≡ length s
cut_sum [] s h = sym (ap length h)
cut_sum (t ∷ ts) s h = omega (arith, cut_sum ts (drop t.len s) h.2, length-drop t.len s, h.0)

sum_append : (ts us : Tokens) → sum_len (ts ++ us) ≡ sum_len ts + sum_len us
sum_append [] us = omega arith
sum_append (t ∷ ts) us = omega (arith, sum_append ts us)

all_bytes : (e : Edition) (s : List ℕ) → IsUtf8 s → length s < 2 ^ 32 → sum_len (tokens_of e s) ≡ length s
all_bytes e s u l = cut_sum (tokens_of e s) s (lexed e s u l).cut

other_len : (e : Edition) (old new : List ℕ) (at len : ℕ) (k : SyntaxKind) → IsUtf8 old → IsUtf8 new → length old < 2 ^ 32 → length new < 2 ^ 32
    → (f : Found at len (tokens_of e old) (tokens_of e new) k) → f.other ≡ new_len old new len
other_len e old new at len k u v l m f =
    let t : span.Token = record { kind = k; len = len } in
    let w : span.Token = record { kind = k; len = f.other } in
    let before : sum_len (f.front ++ t ∷ f.back) ≡ length old = ap sum_len (sym f.tokens) ∙ all_bytes e old u l in
    let now : sum_len (f.front ++ w ∷ f.back) ≡ length new = ap sum_len (sym f.new_tokens) ∙ all_bytes e new v m in
    omega (arith, before, now, sum_append f.front (t ∷ f.back), sum_append f.front (w ∷ f.back))

-- ---- the token's texts

same_bool : (p q : Bool) → beq p q ≡ true → p ≡ q
same_bool true true h = refl
same_bool true false h = absurd (no h)
same_bool false true h = absurd (no h)
same_bool false false h = refl

not_both : (p q : Bool) → p ≡ false → p || q ≡ true → q ≡ true
not_both true q z h = absurd (let bad : true ≡ false = z in cc)
not_both false q z h = h

no_comment : (k : SyntaxKind) → is_trivia k ≡ true → is_comment k ≡ false → (not (is_trivia k) || is_comment k) ≡ false
no_comment k t c = ap₂ (λ a b. not a || b) t c

lines_same : (k : SyntaxKind) (old new : List ℕ) → may_be_retold k old new ≡ true → is_trivia k ≡ true → is_comment k ≡ false → has_blank_line old ≡ has_blank_line new
lines_same k old new h t c =
    same_bool (has_blank_line old) (has_blank_line new)
    (not_both (not (is_trivia k) || is_comment k) (beq (has_blank_line old) (has_blank_line new)) (no_comment k t c)
    (both_true (keeps_lines k old new) (keeps_whole k old new) h).0)

no_dots : (k : SyntaxKind) (old new : List ℕ) → may_be_retold k old new ≡ true → is_number k ≡ true → (has_dot old ≡ false) × (has_dot new ≡ false)
no_dots k old new h n =
    let p =
    both_true (not (has_dot old)) (not (has_dot new))
    (not_both (not (is_number k)) (not (has_dot old) && not (has_dot new)) (ap not n) (both_true (keeps_lines k old new) (keeps_whole k old new) h).1) in
    (not_true (has_dot old) p.0, not_true (has_dot new) p.1)

differs_on : (e : Edition) (old new : List ℕ) (t : Bounds) (o : Option SyntaxKind) → IsUtf8 old → IsUtf8 new → length old < 2 ^ 32 → length new < 2 ^ 32
    → 0 < new_len old new (len_of t) → retold_kind t.start (len_of t) (tokens_of e old) (tokens_of e new) ≡ o
    → if_retold o (part_of old t.start (len_of t)) (part_of new t.start (new_len old new (len_of t))) ≡ true → OneTokenDiffers e old new t
differs_on e old new t None u v l m some is h = absurd (no h)
differs_on e old new t (Some k) u v l m some is h =
    let f : Found t.start (len_of t) (tokens_of e old) (tokens_of e new) k = found t.start (len_of t) (tokens_of e old) (tokens_of e new) k is in
    let part : List ℕ = part_of old t.start (len_of t) in
    let new_part : List ℕ = part_of new t.start (new_len old new (len_of t)) in
    record {
      kind = k;
      front = f.front;
      back = f.back;
      tokens = f.tokens;
      new_tokens =
          f.new_tokens ∙ ap (λ (n : ℕ). f.front ++ record { kind = k; len = n } ∷ f.back) (other_len e old new t.start (len_of t) k u v l m f);
      starts = f.starts;
      new_some = some;
      lines = λ trivia comment. lines_same k part new_part h trivia comment;
      no_dot = λ number. (no_dots k part new_part h number).0;
      no_new_dot = λ number. (no_dots k part new_part h number).1;
    }

-- ---- what the machine sees

same_sight : (s t : Sight) → is_same_sight s t ≡ true → s ≡ t
unfolding is_same_sight
same_sight s t h =
    let p = both_true (s.one == t.one) ((s.two == t.two) && ((s.three == t.three) && (s.word == t.word))) h in
    let q = both_true (s.two == t.two) ((s.three == t.three) && (s.word == t.word)) p.1 in
    let r = both_true (s.three == t.three) (s.word == t.word) q.1 in
    ap₂ (λ (m n : ℕ). record { one = m; two = n; three = s.three; word = s.word }) (eqb-true s.one t.one p.0) (eqb-true s.two t.two q.0)
    ∙ ap₂ (λ (m n : ℕ). record { one = t.one; two = t.two; three = m; word = n }) (eqb-true s.three t.three r.0) (eqb-true s.word t.word r.1)

same_sights : (ss ts : List Sight) → are_same_sights ss ts ≡ true → ss ≡ ts
unfolding are_same_sights
same_sights [] ts h = sym (no_items ts h)
same_sights (s ∷ ss) [] h = absurd (no h)
same_sights (s ∷ ss) (t ∷ ts) h =
    let p = both_picked (is_same_sight s t) (are_same_sights ss ts) h in
    ap₂ (λ (x : Sight) (xs : List Sight). x ∷ xs) (same_sight s t p.0) (same_sights ss ts p.1)

-- ---- the whole

headless : (before new : List ℕ) → has_no_head before new ≡ true → before ≡ [] → has_head_of new ≡ false
headless [] new h is = not_true (has_head_of new) h
headless (b ∷ before) new h is = absurd (let bad : b ∷ before ≡ [] = is in cc)

start_on : (before : List ℕ) (n : ℕ) → (is_empty before ≡ true) ⊎ (nat_lt 0 n ≡ true) → (before ≡ []) ⊎ (0 < n)
start_on before n (inl h) = inl (no_items before h)
start_on before n (inr h) = inr (is_below 0 n h)

pub retold_windows : (e : Edition) (before old new behind : List ℕ) (t : Bounds) → IsUtf8 old → IsUtf8 new
    → is_retold_of e before old new behind t ≡ true → IsRetoldAs e before old new behind t
unfolding is_retold_of
retold_windows e before old new behind t u v h =
    let ts : Tokens = tokens_of e old in
    let us : Tokens = tokens_of e new in
    let size : ℕ = new_len old new (len_of t) in
    let p = both_true (are_short old new) (may_be_inside before old new t && retold_with e before old new behind t) h in
    let short = both_true (nat_lt (length old) (2 ^ 32)) (nat_lt (length new) (2 ^ 32)) p.0 in
    let l : length old < 2 ^ 32 = is_below (length old) (2 ^ 32) short.0 in
    let m : length new < 2 ^ 32 = is_below (length new) (2 ^ 32) short.1 in
    let q = both_true (may_be_inside before old new t) (retold_with e before old new behind t) p.1 in
    let i = both_true (is_inside before old new t && token_keeps_sort old new t) (not (ends_in_dot before) && has_no_head before new) q.0 in
    let inner = both_true (is_inside before old new t) (token_keeps_sort old new t) i.0 in
    let dot = both_true (not (ends_in_dot before)) (has_no_head before new) i.1 in
    let bounds = both_true (nat_lt 0 (len_of t)) (nat_lt 0 size && (is_empty before || nat_lt 0 t.start)) inner.0 in
    let sizes = both_true (nat_lt 0 size) (is_empty before || nat_lt 0 t.start) bounds.1 in
    let some : 0 < len_of t = is_below 0 (len_of t) bounds.0 in
    let w = both_true (both_alone e before old new behind) (retold_in e old new t ts us) q.1 in
    let stand = both_true (stands_alone before behind ts (errors_of e old)) (stands_alone before behind us (errors_of e new)) w.0 in
    let told = both_true (keeps_tokens old new t ts us) (are_same_sights (sights_of e old ts) (sights_of e new us)) w.1 in
    record {
      stands = alone e before old behind l stand.0;
      new_stands = alone e before new behind m stand.1;
      no_head = headless before new dot.1;
      no_dot_before = not_true (ends_in_dot before) dot.0;
      not_first = start_on before t.start (one_true (is_empty before) (nat_lt 0 t.start) sizes.1);
      some = omega (arith, some);
      differs = differs_on e old new t (retold_kind t.start (len_of t) ts us) u v l m (is_below 0 size sizes.0) refl told.0;
      sights = same_sights (sights_of e old ts) (sights_of e new us) told.1;
    }
