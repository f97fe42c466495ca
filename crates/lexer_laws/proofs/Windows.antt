-- A text in which a window between braces was replaced.
use Rattle.std.proofs.Common.{◌≡◌, ◌⊎◌, inl, inr, ℕ, suc, ◌+◌, ◌-◌, ◌<◌, ◌^◌, Bool, true, false, ◌&&◌, nat_eq, if◌then◌else◌, List, [], ◌∷◌, ◌++◌, length, take, drop, ap, ap₂, sym, ◌∙◌, refl, arith, subst, append-nil, length-append}
use Rattle.std.specs.Prelude.{IsUtf8}
use Rattle.std.specs.List.{flat_map}
use Rattle.std.specs.Str.{trim_start, chars}
use Rattle.std.proofs.Math.Seq.{drop-append_seam, take-append_seam}
use Rattle.std.proofs.lemmas.Bool.{cases_Bool, eqb-true, or_from, or_parts}
use Rattle.syntax_kind.specs.declared.syntax_kind.SyntaxKind.{SyntaxKind}
use Rattle.syntax_kind.specs.declared.syntax_kind.SyntaxKind.TheVariants as kinds
use Rattle.ras_front_end.specs.declared.edition.Edition.{Edition}
use Rattle.token_layout.specs.declared.span.Token as span
use Rattle.grammar_machine.specs.declared.grammar.Sight.{Sight}
use Rattle.rust_grammar.specs.Seeing.{sights_of}
use Rattle.rust_lexer.specs.Heads.{empty_lines}
use Rattle.rust_lexer.specs.Lexing.{tokens_of, errors_of, taken_head, steps_of}
use Rattle.lexer_laws.specs.Behind.{IsBrace}
use Rattle.lexer_laws.specs.Cuts.{tokens_within, bytes_of}
use Rattle.lexer_laws.specs.Heads.{HasNoHead, is_visible, may_be_shebang, may_be_fence, may_have_head}
use Rattle.lexer_laws.specs.Quiet.{is_quiet_from, ended_by}
use Rattle.lexer_laws.specs.Windows.{IsBraceKind, BeginsInBrace, EndsInBrace, IsWindow, OneBrace, WindowIsReplaced, WindowsAreExchanged}
use Rattle.lexer_laws.proofs.Bracing.{braces_cut}
use Rattle.lexer_laws.proofs.BraceKinds.{brace_of}
use Rattle.lexer_laws.proofs.Finding.{Closed, brace_plain, closed_text}
use Rattle.lexer_laws.proofs.Heading.{plain_heads}
use Rattle.lexer_laws.proofs.Messages.{text_told, all_ended, quiet_behind, quiet_none, closed_told}
use Rattle.lexer_laws.proofs.Pieces.{IsClosed, closed_cut, all_bytes, behind_cut, headless}
use Rattle.lexer_laws.proofs.Sighting.{window_seen}
use Rattle.lexer_laws.proofs.Stepping.{Tokens, token_at, within_empty, within_more, token_some}
use Rattle.lexer_laws.proofs.Telling.{Errors, all, silent, Each, each_more, all_from, EndsBy, Before, before_brace, Parted, parted}

-- ---- braces

-- the kind of a token is that of a brace
record OfBrace (k : SyntaxKind) : Type 0 where
  byte : ℕ
  is_brace : IsBrace byte
  is_of : brace_of k ≡ byte
  some : 0 < brace_of k

of_brace : (k : SyntaxKind) → IsBraceKind k → OfBrace k
of_brace k (inl h) =
    let is : brace_of k ≡ 123 = ap brace_of h in
    record { byte = 123; is_brace = inl refl; is_of = is; some = omega (arith, is) }
of_brace k (inr h) =
    let is : brace_of k ≡ 125 = ap brace_of h in
    record { byte = 125; is_brace = inr refl; is_of = is; some = omega (arith, is) }

-- ---- a window at the start of the text

fence_on : (b f g : Bool) (d : Bool) → (f ≡ false → g ≡ false) → (if b then d else f) ≡ false → (if b then d else g) ≡ false
fence_on true f g d k h = h
fence_on false f g d k h = k h

fence_front : (w c : List ℕ) → may_be_fence (w ++ c) ≡ false → may_be_fence w ≡ false
fence_front [] c h = refl
fence_front (b ∷ w) c h = fence_on (is_visible b) (may_be_fence (w ++ c)) (may_be_fence w) (nat_eq b 45) (fence_front w c) h

-- the text `#!`
abbrev mark : List ℕ
mark = 35 ∷ 33 ∷ []

and_none : (p : Bool) → (p && false) ≡ false
and_none true = refl
and_none false = refl

first_fails : (p q : Bool) → p ≡ false → (p && q) ≡ false
first_fails p q h = ap (λ (x : Bool). x && q) h

second_fails : (p q r : Bool) → q ≡ false → (p && (q && r)) ≡ false
second_fails p q r h = ap (λ (x : Bool). p && (x && r)) h ∙ and_none p

shebang_two : (x y : ℕ) → (nat_eq x 35 ≡ true) ⊎ (nat_eq x 35 ≡ false) → (nat_eq y 33 ≡ true) ⊎ (nat_eq y 33 ≡ false)
    → (may_be_shebang (x ∷ y ∷ []) ≡ false) ⊎ (x ∷ y ∷ [] ≡ mark)
shebang_two x y (inl h) (inl k) = inr (ap₂ (λ (n m : ℕ). n ∷ m ∷ []) (eqb-true x 35 h) (eqb-true y 33 k))
shebang_two x y (inl h) (inr k) = inl (second_fails (nat_eq x 35) (nat_eq y 33) true k)
shebang_two x y (inr h) k = inl (first_fails (nat_eq x 35) (nat_eq y 33 && true) h)

shebang_front : (w c : List ℕ) → may_be_shebang (w ++ c) ≡ false → (may_be_shebang w ≡ false) ⊎ (w ≡ mark)
shebang_front [] c h = inl refl
shebang_front (x ∷ []) c h = inl (and_none (nat_eq x 35))
shebang_front (x ∷ y ∷ []) c h = shebang_two x y (cases_Bool (nat_eq x 35)) (cases_Bool (nat_eq y 33))
shebang_front (x ∷ y ∷ z ∷ w) c h = inl h

head_front : (w c : List ℕ) → may_have_head (w ++ c) ≡ false → (may_have_head w ≡ false) ⊎ (w ≡ mark)
head_front w c h =
    elim (shebang_front w c (or_parts (may_be_shebang (w ++ c)) (may_be_fence (w ++ c)) h).0) [
      | inl none ↦ inl (or_from (may_be_shebang w) (may_be_fence w) none (fence_front w c (or_parts (may_be_shebang (w ++ c)) (may_be_fence (w ++ c)) h).1))
      | inr is ↦ inr is
    ]

-- the only token of `#!` is a shebang
mark_tokens : (e : Edition) → tokens_of e mark ≡ record { kind = kinds.OTHER 1; len = 2 } ∷ []
unfolding taken_head steps_of empty_lines trim_start chars
mark_tokens e = refl

last_kind : (front : Tokens) (t u : span.Token) → u ∷ [] ≡ front ++ t ∷ [] → t ≡ u
last_kind [] t u h = cc
last_kind (r ∷ []) t u h = absurd (cc)
last_kind (r ∷ s ∷ front) t u h = absurd (cc)

not_mark : (e : Edition) (w : List ℕ) → w ≡ mark → EndsInBrace (tokens_of e w) → ⊥
not_mark e w is b =
    let only : record { kind = kinds.OTHER 1; len = 2 } ∷ [] ≡ b.front ++ b.last ∷ [] = sym (ap (tokens_of e) is ∙ mark_tokens e) ∙ b.ends in
    let none : brace_of b.last.kind ≡ 0 = ap (λ (t : span.Token). brace_of t.kind) (last_kind b.front b.last (record { kind = kinds.OTHER 1; len = 2 }) only) in
    absurd (omega (arith, none, (of_brace b.last.kind b.is_brace).some))

front_plain : (e : Edition) (w c : List ℕ) → IsUtf8 w → may_have_head (w ++ c) ≡ false → (c ≡ []) ⊎ EndsInBrace (tokens_of e w) → HasNoHead e w
front_plain e w c u h (inl none) = plain_heads e w u (sym (ap may_have_head (ap (λ (s : List ℕ). w ++ s) none ∙ append-nil w)) ∙ h)
front_plain e w c u h (inr b) =
    elim (head_front w c h) [
      | inl plain ↦ plain_heads e w u plain
      | inr is ↦ absurd (not_mark e w is b)
    ]

-- ---- a window by itself

window_plain : (e : Edition) (a w c : List ℕ) → (i : IsWindow e a w c) → (a ≡ []) ⊎ BeginsInBrace (tokens_of e w) → HasNoHead e w
window_plain e a w c i (inl none) = front_plain e w c i.is_part (ap (λ (s : List ℕ). may_have_head (s ++ (w ++ c))) (sym none) ∙ i.no_head) i.ends
window_plain e a w c i (inr b) = brace_plain e w b.first b.rest b.begins (of_brace b.first.kind b.is_brace).some

-- what follows of a window
record Window (e : Edition) (a w c : List ℕ) : Type 0 where
  own_plain : HasNoHead e w
  plain : HasNoHead e (a ++ (w ++ c))
  brace : ℕ
  closed : (c ≡ []) ⊎ IsClosed e w brace (tokens_of e w)
  within : tokens_of e w ≡ tokens_within e w
  size : length a + (length w + length c) < 2 ^ 32

closing : (e : Edition) (a w c : List ℕ) → IsWindow e a w c → HasNoHead e w → HasNoHead e (a ++ (w ++ c)) → length a + (length w + length c) < 2 ^ 32
    → (c ≡ []) ⊎ EndsInBrace (tokens_of e w) → Window e a w c
closing e a w c i own all_plain l (inl none) =
    record { own_plain = own; plain = all_plain; brace = 0; closed = inl none; within = headless e w own; size = l }
closing e a w c i own all_plain l (inr b) =
    let o : OfBrace b.last.kind = of_brace b.last.kind b.is_brace in
    let same : tokens_of e w ≡ tokens_within e w = headless e w own in
    let d : Closed w o.byte b.last = closed_text (length w) e w b.front o.byte b.last (omega arith) i.is_part (sym same ∙ b.ends) o.is_of o.is_brace in
    record {
      own_plain = own;
      plain = all_plain;
      brace = o.byte;
      closed = inr (record {
        is_brace = o.is_brace;
        inner = d.before;
        parts = d.parts;
        are_tokens = sym same;
        front = b.front;
        close = b.last;
        closed = b.ends;
        one_byte = d.one_byte;
      });
      within = same;
      size = l;
    }

window : (e : Edition) (a w c : List ℕ) → IsWindow e a w c → Window e a w c
window e a w c i =
    closing e a w c i (window_plain e a w c i i.begins) (plain_heads e (a ++ (w ++ c)) i.is_text i.no_head)
    (omega (arith, i.short, length-append a (w ++ c), length-append w c)) i.ends

-- the window has its own tokens, and what follows it has its own
window_cut : (e : Edition) (a w c : List ℕ) → IsUtf8 c → (v : Window e a w c) → (c ≡ []) ⊎ IsClosed e w v.brace (tokens_of e w)
    → tokens_within e (w ++ c) ≡ tokens_of e w ++ tokens_within e c
window_cut e a w c u v (inl none) =
    ap (tokens_within e) (ap (λ (s : List ℕ). w ++ s) none ∙ append-nil w) ∙ sym v.within
    ∙ sym (ap (λ (s : List ℕ). tokens_of e w ++ tokens_within e s) none ∙ ap (λ (ts : Tokens). tokens_of e w ++ ts) (within_empty e) ∙ append-nil (tokens_of e w))
window_cut e a w c u v (inr d) = closed_cut e w c v.brace (tokens_of e w) d u (omega (arith, v.size))

window_tokens : (e : Edition) (a w c : List ℕ) → IsUtf8 c → Window e a w c → tokens_within e (w ++ c) ≡ tokens_of e w ++ tokens_within e c
window_tokens e a w c u v = window_cut e a w c u v v.closed

window_bytes : (e : Edition) (a w c : List ℕ) → Window e a w c → bytes_of (tokens_of e w) ≡ length w
window_bytes e a w c v = ap bytes_of v.within ∙ all_bytes (length w) e w (omega arith) (omega (arith, v.size))

-- a window without errors, behind which no error comes
quiet_window : (e : Edition) (ts : Tokens) (a w c : List ℕ) → IsUtf8 c → (v : Window e a w c) → (c ≡ []) ⊎ IsClosed e w v.brace (tokens_of e w)
    → all e [] [] w ≡ [] → all e [] [] c ≡ [] → all e ts a (w ++ c) ≡ []
quiet_window e ts a w c u v (inl none) own behind =
    ap (all e ts a) (ap (λ (s : List ℕ). w ++ s) none ∙ append-nil w) ∙ silent e ts [] a [] w own
quiet_window e ts a w c u v (inr d) own behind =
    closed_told e ts a w c v.brace (tokens_of e w) d u (omega (arith, v.size)) behind ∙ silent e ts [] a [] w own

-- ---- the text before a window

-- the tokens and errors before the window, whatever it is
record Kept (e : Edition) (a w q c : List ℕ) (ts us : Tokens) : Type 0 where
  rest : tokens_within e (w ++ c) ≡ us
  new_tokens : tokens_within e (a ++ (q ++ c)) ≡ ts ++ tokens_within e (q ++ c)
  before : Errors
  old : all e [] [] (a ++ (w ++ c)) ≡ before ++ all e ts a (w ++ c)
  new : all e [] [] (a ++ (q ++ c)) ≡ before ++ all e ts a (q ++ c)
  early : Each (EndsBy (length a)) before

no_tokens : (e : Edition) (s : List ℕ) (ts us : Tokens) → tokens_within e s ≡ ts ++ us → bytes_of ts ≡ 0 → ts ≡ []
no_tokens e s [] us is k = refl
no_tokens e [] (t ∷ ts) us is k = absurd (let bad : [] ≡ t ∷ (ts ++ us) = sym (within_empty e) ∙ is in cc)
no_tokens e (x ∷ s) (t ∷ ts) us is k =
    let both = sym (within_more e x s) ∙ is in
    let first : token_at e (x ∷ s) ≡ t = cc in
    absurd (omega (arith, k, token_some e x s, ap (λ (r : span.Token). r.len) first))

at_start : (e : Edition) (w q c : List ℕ) (us : Tokens) → tokens_within e (w ++ c) ≡ us → Kept e [] w q c [] us
at_start e w q c us is = record { rest = is; new_tokens = refl; before = []; old = refl; new = refl; early = tt }

at_brace : (e : Edition) (a w q c : List ℕ) (ts us : Tokens) → OneBrace w q → length a + (length w + length c) < 2 ^ 32 → length a + (length q + length c) < 2 ^ 32
    → tokens_within e (a ++ (w ++ c)) ≡ ts ++ us → bytes_of ts ≡ length a → Kept e a w q c ts us
at_brace e a w q c ts us o l m is k =
    let old_len : length w ≡ suc (length o.old) = ap length o.begins in
    let new_len : length q ≡ suc (length o.new) = ap length o.new_begins in
    let old_text : a ++ (w ++ c) ≡ a ++ o.brace ∷ (o.old ++ c) = ap (λ (t : List ℕ). a ++ (t ++ c)) o.begins in
    let new_text : a ++ (q ++ c) ≡ a ++ o.brace ∷ (o.new ++ c) = ap (λ (t : List ℕ). a ++ (t ++ c)) o.new_begins in
    let len : length (a ++ (w ++ c)) ≡ length a + (length w + length c) = length-append a (w ++ c) ∙ ap (λ (n : ℕ). length a + n) (length-append w c) in
    let few : length a + length (o.old ++ c) < 2 ^ 32 - 1 = omega (arith, length-append o.old c, old_len, l) in
    let new_few : length a + length (o.new ++ c) < 2 ^ 32 - 1 = omega (arith, length-append o.new c, new_len, m) in
    let opened : tokens_within e (a ++ o.brace ∷ (o.old ++ c)) ≡ ts ++ us = ap (tokens_within e) (sym old_text) ∙ is in
    let b : Before e [] [] a o.brace (o.old ++ c) (o.new ++ c) ts =
    before_brace (length a) e o.brace o.is_brace [] [] a (o.old ++ c) (o.new ++ c) ts us (omega arith) few new_few opened k in
    record {
      rest = sym (
          behind_cut (length (a ++ (w ++ c))) e (a ++ (w ++ c)) ts us (omega arith) (omega (arith, len, l)) is
          ∙ ap (λ (n : ℕ). tokens_within e (drop n (a ++ (w ++ c)))) k ∙ ap (tokens_within e) (drop-append_seam a (w ++ c))
          );
      new_tokens =
          ap (tokens_within e) new_text ∙ braces_cut e a (o.old ++ c) (o.new ++ c) o.brace ts us o.is_brace few new_few opened k
          ∙ ap (λ (t : List ℕ). ts ++ tokens_within e (t ++ c)) (sym o.new_begins);
      before = b.errors;
      old = ap (all e [] []) old_text ∙ b.first ∙ ap (λ (t : List ℕ). b.errors ++ all e ts a (t ++ c)) (sym o.begins);
      new = ap (all e [] []) new_text ∙ b.second ∙ ap (λ (t : List ℕ). b.errors ++ all e ts a (t ++ c)) (sym o.new_begins);
      early = each_more (EndsBy (length {A = ℕ} [] + length a)) (EndsBy (length a)) b.errors (λ f h. omega (arith, h)) b.end;
    }

kept_on : (e : Edition) (a w q c : List ℕ) (ts us : Tokens) → (a ≡ []) ⊎ OneBrace w q → length a + (length w + length c) < 2 ^ 32 → length a + (length q + length c) < 2 ^ 32
    → tokens_within e (a ++ (w ++ c)) ≡ ts ++ us → bytes_of ts ≡ length a → Kept e a w q c ts us
kept_on e a w q c ts us (inr o) l m is k = at_brace e a w q c ts us o l m is k
kept_on e a w q c ts us (inl none) l m is k =
    let no_ts : ts ≡ [] = no_tokens e (a ++ (w ++ c)) ts us is (k ∙ ap length none) in
    let now : tokens_within e (w ++ c) ≡ us =
    ap (λ (d : List ℕ). tokens_within e (d ++ (w ++ c))) (sym none) ∙ is ∙ ap (λ (rs : Tokens). rs ++ us) no_ts in
    subst (λ (d : List ℕ). Kept e d w q c ts us) (sym none) (subst (λ (rs : Tokens). Kept e [] w q c rs us) (sym no_ts) (at_start e w q c us now))

-- ---- both texts

no_begin : (e : Edition) (a w c : List ℕ) (ts us : Tokens) → tokens_within e (a ++ (w ++ c)) ≡ ts ++ us → bytes_of ts ≡ length a → (a ≡ []) ⊎ BeginsInBrace (tokens_of e w)
    → ((a ≡ []) × (ts ≡ [])) ⊎ BeginsInBrace (tokens_of e w)
no_begin e a w c ts us is k (inl none) = inl (none, no_tokens e (a ++ (w ++ c)) ts us is (k ∙ ap length none))
no_begin e a w c ts us is k (inr b) = inr b

no_end : (e : Edition) (w c : List ℕ) → (c ≡ []) ⊎ EndsInBrace (tokens_of e w) → ((c ≡ []) × (tokens_within e c ≡ [])) ⊎ EndsInBrace (tokens_of e w)
no_end e w c (inl none) = inl (none, ap (tokens_within e) none ∙ within_empty e)
no_end e w c (inr b) = inr b

-- the machine sees the text, the window in it as by itself
window_sights : (e : Edition) (a w c : List ℕ) (ts us : Tokens) → IsWindow e a w c → Window e a w c → tokens_within e (a ++ (w ++ c)) ≡ ts ++ us → bytes_of ts ≡ length a
    → sights_of e (a ++ (w ++ c)) (ts ++ (tokens_of e w ++ tokens_within e c)) ≡ sights_of e a ts ++ (sights_of e w (tokens_of e w) ++ sights_of e c (tokens_within e c))
window_sights e a w c ts us i v is k =
    window_seen e a w c ts (tokens_of e w) (tokens_within e c) k (window_bytes e a w c v) (no_begin e a w c ts us is k i.begins) (no_end e w c i.ends)

pub windows_replaced : (e : Edition) (a w q c : List ℕ) (ts us : Tokens) → WindowIsReplaced e a w q c ts us → WindowsAreExchanged e a w q c ts
windows_replaced e a w q c ts us r =
    let v : Window e a w c = window e a w c r.old in
    let x : Window e a q c = window e a q c r.new in
    let is : tokens_within e (a ++ (w ++ c)) ≡ ts ++ us = sym (headless e (a ++ (w ++ c)) v.plain) ∙ r.are_tokens in
    let k : Kept e a w q c ts us = kept_on e a w q c ts us r.one_brace v.size x.size is r.cut_before in
    let parts : tokens_within e (w ++ c) ≡ tokens_of e w ++ tokens_within e c = window_tokens e a w c r.old.is_rest v in
    let tokens : tokens_of e (a ++ (w ++ c)) ≡ ts ++ (tokens_of e w ++ tokens_within e c) = r.are_tokens ∙ ap (λ (rs : Tokens). ts ++ rs) (sym k.rest ∙ parts) in
    let new_within : tokens_within e (a ++ (q ++ c)) ≡ ts ++ (tokens_of e q ++ tokens_within e c) =
    k.new_tokens ∙ ap (λ (rs : Tokens). ts ++ rs) (window_tokens e a q c r.new.is_rest x) in
    let new_tokens : tokens_of e (a ++ (q ++ c)) ≡ ts ++ (tokens_of e q ++ tokens_within e c) = headless e (a ++ (q ++ c)) x.plain ∙ new_within in
    let bytes : bytes_of (tokens_of e w) ≡ length w = window_bytes e a w c v in
    let d : Parted e ts a (w ++ c) (tokens_of e w) =
    parted (length (w ++ c)) e ts a (w ++ c) (tokens_of e w) (tokens_within e c) (omega arith) (omega (arith, length-append w c, v.size)) parts in
    let told : errors_of e (a ++ (w ++ c)) ≡ k.before ++ all e ts a (w ++ c) = text_told e (a ++ (w ++ c)) v.plain r.old.is_text r.old.short ∙ k.old in
    let front : take (bytes_of (tokens_of e w)) (w ++ c) ≡ w = ap (λ (j : ℕ). take j (w ++ c)) bytes ∙ take-append_seam w c in
    let back : drop (bytes_of (tokens_of e w)) (w ++ c) ≡ c = ap (λ (j : ℕ). drop j (w ++ c)) bytes ∙ drop-append_seam w c in
    let behind : Errors = all e (ts ++ tokens_of e w) (a ++ w) c in
    let cut : all e ts a (w ++ c) ≡ d.errors ++ behind =
    d.parts ∙ ap₂ (λ (y z : List ℕ). d.errors ++ all e (ts ++ tokens_of e w) (a ++ y) z) front back in
    let quiet : is_quiet_from (length (a ++ w)) behind ≡ true =
    quiet_behind (length (a ++ w)) d.errors behind
    (ap (is_quiet_from (length (a ++ w))) (sym cut)
    ∙ quiet_behind (length (a ++ w)) k.before (all e ts a (w ++ c)) (ap (is_quiet_from (length (a ++ w))) (sym told) ∙ r.quiet)) in
    let none : all e [] [] c ≡ [] =
    silent e [] (ts ++ tokens_of e w) [] (a ++ w) c (quiet_none (length (a ++ w)) behind (all_from e (ts ++ tokens_of e w) (a ++ w) c) quiet) in
    let own : all e [] [] w ≡ [] = sym (text_told e w v.own_plain r.old.is_part (omega (arith, v.size))) ∙ r.no_errors in
    let new_own : all e [] [] q ≡ [] = sym (text_told e q x.own_plain r.new.is_part (omega (arith, x.size))) ∙ r.no_new_errors in
    let old_errors : errors_of e (a ++ (w ++ c)) ≡ k.before =
    told ∙ ap (λ (es : Errors). k.before ++ es) (quiet_window e ts a w c r.old.is_rest v v.closed own none) ∙ append-nil k.before in
    let new_errors : errors_of e (a ++ (q ++ c)) ≡ k.before =
    text_told e (a ++ (q ++ c)) x.plain r.new.is_text r.new.short ∙ k.new
    ∙ ap (λ (es : Errors). k.before ++ es) (quiet_window e ts a q c r.new.is_rest x x.closed new_own none) ∙ append-nil k.before in
    record {
      tokens = tokens;
      new_tokens = new_tokens;
      errors = new_errors ∙ sym old_errors;
      early = ap (flat_map (ended_by (length a))) old_errors ∙ all_ended (length a) k.before k.early ∙ sym old_errors;
      sights = λ same.
          ap (sights_of e (a ++ (w ++ c))) tokens ∙ window_sights e a w c ts us r.old v is r.cut_before
          ∙ ap (λ (p : List Sight). sights_of e a ts ++ (p ++ sights_of e c (tokens_within e c))) same
          ∙ sym (ap (sights_of e (a ++ (q ++ c))) new_tokens ∙ window_sights e a q c ts (tokens_of e q ++ tokens_within e c) r.new x new_within r.cut_before);
    }
