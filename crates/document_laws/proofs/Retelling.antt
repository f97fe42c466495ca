-- The tokens of a text in which one token of a window was given another text.
use Rattle.std.proofs.Common.{◌≡◌, ◌⊎◌, inl, inr, ℕ, ◌+◌, ◌<◌, ◌^◌, true, false, List, [], ◌∷◌, ◌++◌, length, take, drop, get_or, ap, ap₂, ◌∙◌, refl, sym, subst, arith, append_assoc, append-nil, length-append}
use Rattle.std.specs.Prelude.{IsUtf8}
use Rattle.std.proofs.Math.Seq.{take-append_seam, drop-append_seam, drop-append-add}
use Rattle.std.proofs.lemmas.Str.{IsUtf8-nil, IsUtf8-take, IsUtf8-drop, IsCharBoundary-at_seam, IsCharBoundary-before_ascii, IsCharBoundary-after_ascii}
use Rattle.syntax_kind.specs.declared.syntax_kind.SyntaxKind.{SyntaxKind}
use Rattle.text_size.specs.TextRange.{Bounds}
use Rattle.ras_front_end.specs.declared.edition.Edition.{Edition}
use Rattle.token_layout.specs.declared.span.Token.{Token}
use Rattle.token_layout.specs.Laid.{IsCut}
use Rattle.event_layout.specs.Retold.{IsRetold, AreCutAt}
use Rattle.event_layout.specs.Trivia.{has_blank_line}
use Rattle.lexer_laws.specs.Behind.{IsBrace}
use Rattle.lexer_laws.specs.Cuts.{tokens_within, bytes_of}
use Rattle.lexer_laws.specs.Heads.{may_have_head, HeadsEndBeforeBraces}
use Rattle.lexer_laws.specs.Quiet.{is_quiet_from}
use Rattle.lexer_laws.specs.Windows as lexer
use Rattle.lexer_laws.specs.Windows.{WindowIsReplaced, WindowsAreExchanged, WindowsAreReplaced}
use Rattle.rust_grammar.specs.Seeing.{sights_of}
use Rattle.rust_lexer.specs.Lexing.{tokens_of, errors_of}
use Rattle.rust_lexer.proofs.Kept.{lexed}
use Rattle.rust_front.specs.Heads.{has_head_of}
use Rattle.rust_front.specs.Retold.{has_dot, part_of, len_of, new_len}
use Rattle.rust_front.specs.RetoldLaws as seen
use Rattle.rust_front.specs.RetoldLaws.{IsRetoldAs, OneTokenDiffers}
use Rattle.document_laws.specs.Windows.{StartsWithBrace, EndsWithBrace}
use Rattle.document_laws.proofs.Alone.{heads_tested}
use Rattle.document_laws.proofs.Opening.{bytes_are, sum_both}
use Rattle.document_laws.proofs.Reporting.{with_len}
use Rattle.document_laws.proofs.Textual.{both_cut}

-- ---- UTF-8

pub front_utf8 : (s r : List ℕ) → IsUtf8 (s ++ r) → IsUtf8 r → IsUtf8 s
front_utf8 s r u v = subst IsUtf8 (take-append_seam s r) (IsUtf8-take (s ++ r) (length s) u (IsCharBoundary-at_seam (s ++ r) s r refl v))

pub small_brace : (b : ℕ) → IsBrace b → b < 128
small_brace b (inl e) = omega (arith, e)
small_brace b (inr e) = omega (arith, e)

byte_there : (p c : List ℕ) (b : ℕ) → get_or (p ++ b ∷ c) (length p) 0 ≡ b
byte_there [] c b = refl
byte_there (x ∷ p) c b = byte_there p c b

-- a brace and what is behind it
brace_rest : (p c : List ℕ) (b : ℕ) → IsBrace b → IsUtf8 (p ++ b ∷ c) → IsUtf8 (b ∷ c) × IsUtf8 c
brace_rest p c b is u =
    let s : List ℕ = p ++ b ∷ c in
    let inside : length p < length s = omega (arith, length-append p (b ∷ c)) in
    let ascii : get_or s (length p) 0 < 128 = omega (arith, byte_there p c b, small_brace b is) in (
      subst IsUtf8 (drop-append_seam p (b ∷ c)) (IsUtf8-drop s (length p) u (IsCharBoundary-before_ascii s (length p) inside ascii)),
      subst IsUtf8 (drop-append-add p (b ∷ c) 1) (IsUtf8-drop s (length p + 1) u (IsCharBoundary-after_ascii s (length p) u inside ascii)),
    )

behind_first : (a x r : List ℕ) → (a ≡ []) ⊎ StartsWithBrace x → IsUtf8 (a ++ (x ++ r)) → IsUtf8 (x ++ r)
behind_first a x r (inl e) u = subst (λ (z : List ℕ). IsUtf8 (z ++ (x ++ r))) e u
behind_first a x r (inr b) u =
    subst (λ (z : List ℕ). IsUtf8 (z ++ r)) (sym b.is)
    (brace_rest a (b.rest ++ r) b.brace b.is_brace (subst (λ (z : List ℕ). IsUtf8 (a ++ (z ++ r))) b.is u)).0

behind_last : (p y c : List ℕ) → (c ≡ []) ⊎ EndsWithBrace y → IsUtf8 (p ++ (y ++ c)) → IsUtf8 c
behind_last p y c (inl e) u = subst IsUtf8 (sym e) IsUtf8-nil
behind_last p y c (inr b) u =
    let is : p ++ (y ++ c) ≡ (p ++ b.front) ++ b.brace ∷ c =
    ap (λ (z : List ℕ). p ++ (z ++ c)) b.is ∙ ap (λ (z : List ℕ). p ++ z) (append_assoc b.front (b.brace ∷ []) c) ∙ sym (append_assoc p b.front (b.brace ∷ c)) in
    (brace_rest (p ++ b.front) c b.brace b.is_brace (subst IsUtf8 is u)).1

-- the parts of a text around a window
pub record PartsAreUtf8 (a x m y c : List ℕ) : Type 0 where
  pub before : IsUtf8 a
  pub window : IsUtf8 (x ++ (m ++ y))
  pub behind : IsUtf8 c

four : (a x m y c : List ℕ) → a ++ ((x ++ (m ++ y)) ++ c) ≡ (a ++ (x ++ m)) ++ (y ++ c)
four a x m y c = simp append_assoc

three : (x m y c : List ℕ) → (x ++ (m ++ y)) ++ c ≡ x ++ (m ++ (y ++ c))
three x m y c = simp append_assoc

pub five : (a x m y c : List ℕ) → a ++ ((x ++ (m ++ y)) ++ c) ≡ (a ++ x) ++ (m ++ (y ++ c))
five a x m y c = simp append_assoc

pub parts_utf8 : (a x m y c : List ℕ) → (a ≡ []) ⊎ StartsWithBrace x → (c ≡ []) ⊎ EndsWithBrace y → IsUtf8 (a ++ ((x ++ (m ++ y)) ++ c)) → PartsAreUtf8 a x m y c
parts_utf8 a x m y c begins ends u =
    let last : IsUtf8 c = behind_last (a ++ (x ++ m)) y c ends (subst IsUtf8 (four a x m y c) u) in
    let rest : IsUtf8 ((x ++ (m ++ y)) ++ c) =
    subst IsUtf8 (sym (three x m y c))
    (behind_first a x (m ++ (y ++ c)) begins (subst (λ (z : List ℕ). IsUtf8 (a ++ z)) (three x m y c) u)) in
    record {
      before = front_utf8 a ((x ++ (m ++ y)) ++ c) u rest;
      window = front_utf8 (x ++ (m ++ y)) c rest last;
      behind = last;
    }

-- ---- heads

head_behind : HeadsEndBeforeBraces → (x m y c : List ℕ) → (c ≡ []) ⊎ EndsWithBrace y → has_head_of (x ++ (m ++ y)) ≡ false → may_have_head ((x ++ (m ++ y)) ++ c) ≡ false
head_behind heads x m y c (inl e) h =
    ap (λ (z : List ℕ). may_have_head ((x ++ (m ++ y)) ++ z)) e ∙ ap may_have_head (append-nil (x ++ (m ++ y)))
    ∙ sym (heads_tested (x ++ (m ++ y))) ∙ h
head_behind heads x m y c (inr b) h =
    let is : (z : List ℕ) → (x ++ (m ++ y)) ++ z ≡ (x ++ (m ++ b.front)) ++ b.brace ∷ z = λ z.
    ap (λ (v : List ℕ). (x ++ (m ++ v)) ++ z) b.is ∙ regroup x m b.front (b.brace ∷ []) z in
    ap may_have_head (is c) ∙ heads (x ++ (m ++ b.front)) c [] b.brace b.is_brace ∙ sym (ap may_have_head (is []))
    ∙ ap may_have_head (append-nil (x ++ (m ++ y))) ∙ sym (heads_tested (x ++ (m ++ y))) ∙ h
  where
    regroup : (p q r t z : List ℕ) → (p ++ (q ++ (r ++ t))) ++ z ≡ (p ++ (q ++ r)) ++ (t ++ z)
    regroup p q r t z = simp append_assoc

new_no_head : HeadsEndBeforeBraces → (a x old new y c : List ℕ) → (a ≡ []) ⊎ StartsWithBrace x → (c ≡ []) ⊎ EndsWithBrace y
    → may_have_head (a ++ ((x ++ (old ++ y)) ++ c)) ≡ false → (a ≡ [] → has_head_of (x ++ (new ++ y)) ≡ false)
    → may_have_head (a ++ ((x ++ (new ++ y)) ++ c)) ≡ false
new_no_head heads a x old new y c (inl e) ends no_head h =
    ap (λ (z : List ℕ). may_have_head (z ++ ((x ++ (new ++ y)) ++ c))) e ∙ head_behind heads x new y c ends (h e)
new_no_head heads a x old new y c (inr b) ends no_head h =
    let is : (m : List ℕ) → a ++ ((x ++ (m ++ y)) ++ c) ≡ a ++ b.brace ∷ ((b.rest ++ (m ++ y)) ++ c) = λ m.
    ap (λ (z : List ℕ). a ++ ((z ++ (m ++ y)) ++ c)) b.is in
    ap may_have_head (is new) ∙ heads a ((b.rest ++ (new ++ y)) ++ c) ((b.rest ++ (old ++ y)) ++ c) b.brace b.is_brace
    ∙ sym (ap may_have_head (is old)) ∙ no_head

-- ---- the window

begins_so : (a : List ℕ) (ts : List Token) → (a ≡ []) ⊎ seen.BeginsInBrace ts → (a ≡ []) ⊎ lexer.BeginsInBrace ts
begins_so a ts (inl e) = inl e
begins_so a ts (inr h) = inr (record { first = h.first; rest = h.rest; begins = h.begins; is_brace = h.is_brace })

ends_so : (c : List ℕ) (ts : List Token) → (c ≡ []) ⊎ seen.EndsInBrace ts → (c ≡ []) ⊎ lexer.EndsInBrace ts
ends_so c ts (inl e) = inl e
ends_so c ts (inr h) = inr (record { front = h.front; last = h.last; ends = h.ends; is_brace = h.is_brace })

one_brace : (a x old new y : List ℕ) → (a ≡ []) ⊎ StartsWithBrace x → (a ≡ []) ⊎ lexer.OneBrace (x ++ (old ++ y)) (x ++ (new ++ y))
one_brace a x old new y (inl e) = inl e
one_brace a x old new y (inr b) = inr (record {
  brace = b.brace;
  old = b.rest ++ (old ++ y);
  new = b.rest ++ (new ++ y);
  is_brace = b.is_brace;
  begins = ap (λ (z : List ℕ). z ++ (old ++ y)) b.is;
  new_begins = ap (λ (z : List ℕ). z ++ (new ++ y)) b.is;
})

-- what is so of a text in whose window a token was given another text: the texts, and the token
-- in the window
pub record InWindow (e : Edition) (a x old new y c : List ℕ) (t : Bounds) : Type 0 where
  pub is_text : IsUtf8 (a ++ ((x ++ (old ++ y)) ++ c))
  pub is_new_text : IsUtf8 (a ++ ((x ++ (new ++ y)) ++ c))
  pub short : length (a ++ ((x ++ (old ++ y)) ++ c)) < 2 ^ 32
  pub new_short : length (a ++ ((x ++ (new ++ y)) ++ c)) < 2 ^ 32
  pub no_head : may_have_head (a ++ ((x ++ (old ++ y)) ++ c)) ≡ false
  pub begins : (a ≡ []) ⊎ StartsWithBrace x
  pub ends : (c ≡ []) ⊎ EndsWithBrace y
  pub starts : t.start ≡ length x
  pub long : len_of t ≡ length old
  pub cut : AreCutAt (tokens_of e (a ++ ((x ++ (old ++ y)) ++ c))) (length a)
  pub quiet : is_quiet_from (length (a ++ (x ++ (old ++ y)))) (errors_of e (a ++ ((x ++ (old ++ y)) ++ c))) ≡ true
  pub retold : IsRetoldAs e a (x ++ (old ++ y)) (x ++ (new ++ y)) c t

replaced : HeadsEndBeforeBraces → (e : Edition) (a x old new y c : List ℕ) (t : Bounds) → (h : InWindow e a x old new y c t)
    → WindowIsReplaced e a (x ++ (old ++ y)) (x ++ (new ++ y)) c h.cut.front h.cut.back
replaced heads e a x old new y c t h =
    let w : List ℕ = x ++ (old ++ y) in
    let q : List ℕ = x ++ (new ++ y) in
    let r : IsRetoldAs e a w q c t = h.retold in
    let us : PartsAreUtf8 a x old y c = parts_utf8 a x old y c h.begins h.ends h.is_text in
    let vs : PartsAreUtf8 a x new y c = parts_utf8 a x new y c h.begins h.ends h.is_new_text in
    record {
      old = record {
        is_text = h.is_text;
        is_part = us.window;
        is_rest = us.behind;
        short = h.short;
        no_head = h.no_head;
        begins = begins_so a (tokens_of e w) r.stands.begins;
        ends = ends_so c (tokens_of e w) r.stands.ends;
      };
      new = record {
        is_text = h.is_new_text;
        is_part = vs.window;
        is_rest = vs.behind;
        short = h.new_short;
        no_head = new_no_head heads a x old new y c h.begins h.ends h.no_head r.no_head;
        begins = begins_so a (tokens_of e q) r.new_stands.begins;
        ends = ends_so c (tokens_of e q) r.new_stands.ends;
      };
      one_brace = one_brace a x old new y h.begins;
      are_tokens = h.cut.is;
      cut_before = bytes_are h.cut.front ∙ h.cut.bytes;
      no_errors = r.stands.no_errors;
      no_new_errors = r.new_stands.no_errors;
      quiet = h.quiet;
    }

-- ---- the tokens

regroup : (ts f b u : List Token) (k : Token) → ts ++ ((f ++ k ∷ b) ++ u) ≡ (ts ++ f) ++ k ∷ (b ++ u)
regroup ts f b u k = ap (λ (z : List Token). ts ++ z) (append_assoc f (k ∷ b) u) ∙ sym (append_assoc ts f (k ∷ (b ++ u)))

middle : (x m y : List ℕ) (i n : ℕ) → i ≡ length x → n ≡ length m → take n (drop i (x ++ (m ++ y))) ≡ m
middle x m y i n e f =
    ap₂ (λ (j k : ℕ). take k (drop j (x ++ (m ++ y)))) e f ∙ ap (take (length m)) (drop-append_seam x (m ++ y)) ∙ take-append_seam m y

sizes : (x m y : List ℕ) → length (x ++ (m ++ y)) ≡ length x + (length m + length y)
sizes x m y = length-append x (m ++ y) ∙ ap (λ (n : ℕ). length x + n) (length-append m y)

-- the tokens are the same but for the length of one, and the machine sees no difference
pub record TokensAreAlike (e : Edition) (s z x old new y : List ℕ) : Type 0 where
  pub kind : SyntaxKind
  pub front : List Token
  pub back : List Token
  pub tokens : tokens_of e s ≡ front ++ with_len kind (length old) ∷ back
  pub new_tokens : tokens_of e z ≡ front ++ with_len kind (length new) ∷ back
  pub retold : IsRetold s z (tokens_of e s) (tokens_of e z) x old new y
  pub sights : sights_of e s (tokens_of e s) ≡ sights_of e z (tokens_of e z)

pub tokens_alike : HeadsEndBeforeBraces → WindowsAreReplaced → (e : Edition) (a x old new y c : List ℕ) (t : Bounds) → (h : InWindow e a x old new y c t)
    → WindowsAreExchanged e a (x ++ (old ++ y)) (x ++ (new ++ y)) c h.cut.front
    × TokensAreAlike e (a ++ ((x ++ (old ++ y)) ++ c)) (a ++ ((x ++ (new ++ y)) ++ c)) (a ++ x) old new (y ++ c)
tokens_alike heads windows e a x old new y c t h =
    let w : List ℕ = x ++ (old ++ y) in
    let q : List ℕ = x ++ (new ++ y) in
    let s : List ℕ = a ++ (w ++ c) in
    let z : List ℕ = a ++ (q ++ c) in
    let ts : List Token = h.cut.front in
    let us : List Token = tokens_within e c in
    let ex : WindowsAreExchanged e a w q c ts = windows e a w q c ts h.cut.back (replaced heads e a x old new y c t h) in
    let d : OneTokenDiffers e w q t = h.retold.differs in
    let own = h.long in
    let new_own : new_len w q (len_of t) ≡ length new = omega (arith, sizes x old y, sizes x new y, own) in
    let front : List Token = ts ++ d.front in
    let back : List Token = d.back ++ us in
    let olds : tokens_of e s ≡ front ++ with_len d.kind (length old) ∷ back =
    ex.tokens ∙ ap (λ (l : List Token). ts ++ (l ++ us)) d.tokens ∙ regroup ts d.front d.back us (with_len d.kind (len_of t))
    ∙ ap (λ (n : ℕ). front ++ with_len d.kind n ∷ back) h.long in
    let news : tokens_of e z ≡ front ++ with_len d.kind (length new) ∷ back =
    ex.new_tokens ∙ ap (λ (l : List Token). ts ++ (l ++ us)) d.new_tokens ∙ regroup ts d.front d.back us (with_len d.kind (new_len w q (len_of t)))
    ∙ ap (λ (n : ℕ). front ++ with_len d.kind n ∷ back) new_own in
    let text : s ≡ (a ++ x) ++ (old ++ (y ++ c)) = five a x old y c in
    let cut : IsCut (tokens_of e s) s = (lexed e s h.is_text h.short).cut in
    let bytes : bytes_of front ≡ length (a ++ x) =
    bytes_are front
    ∙ (let one = sum_both ts d.front in let two = length-append a x in let three = h.cut.bytes in let four = d.starts in let five = h.starts in omega (arith, one, two, three, four, five)) in
    let cuts : IsCut front (a ++ x) × IsCut (with_len d.kind (length old) ∷ back) (old ++ (y ++ c)) =
    both_cut front (with_len d.kind (length old) ∷ back) (a ++ x) (old ++ (y ++ c))
    (subst (λ (l : List ℕ). IsCut (front ++ with_len d.kind (length old) ∷ back) l) text (subst (λ (l : List Token). IsCut l s) olds cut)) bytes in
    let old_is : part_of w t.start (len_of t) ≡ old = middle x old y t.start (len_of t) h.starts h.long in
    let new_is : part_of q t.start (new_len w q (len_of t)) ≡ new = middle x new y t.start (new_len w q (len_of t)) h.starts new_own in
    let new_some = d.new_some in
    let some = h.retold.some in (
      ex,
      record {
        kind = d.kind;
        front = front;
        back = back;
        tokens = olds;
        new_tokens = news;
        retold = record {
          kind = d.kind;
          front = front;
          back = back;
          text = text;
          new_text = five a x new y c;
          tokens = olds;
          new_tokens = news;
          cut = cut;
          new_cut = (lexed e z h.is_new_text h.new_short).cut;
          cut_before = cuts.0;
          some = omega (arith, some, own);
          new_some = omega (arith, new_some, new_own);
          lines = λ trivia comment. sym (ap has_blank_line old_is) ∙ d.lines trivia comment ∙ ap has_blank_line new_is;
          no_dots = λ number. (sym (ap has_dot old_is) ∙ d.no_dot number, sym (ap has_dot new_is) ∙ d.no_new_dot number);
        };
        sights = ex.sights h.retold.sights;
      },
    )
