-- A text whose first token is `{` and whose last one is `}` is a piece.
use Rattle.std.proofs.Common.{◌≡◌, ◌⊎◌, inl, inr, ℕ, zero, suc, ◌+◌, ◌<◌, ◌≤◌, ◌^◌, Bool, true, false, ◌==◌, if◌then◌else◌, Option, Some, None, List, [], ◌∷◌, ◌++◌, length, drop, ap, ap₂, sym, ◌∙◌, refl, arith, append_assoc, length-append, take-append-drop}
use Rattle.std.proofs.Math.Seq.{drop-append_seam}
use Rattle.std.specs.Prelude.{IsUtf8}
use Rattle.std.proofs.lemmas.Str.{IsUtf8-drop, IsCharBoundary-after_ascii}
use Rattle.syntax_kind.specs.declared.syntax_kind.SyntaxKind.{SyntaxKind}
use Rattle.syntax_kind.specs.declared.syntax_kind.SyntaxKind.TheVariants as kinds
use Rattle.syntax_kind.specs.declared.syntax_kind.token_kind.TokenKind.TheVariants as token
use Rattle.ras_front_end.specs.declared.edition.Edition.{Edition}
use Rattle.token_layout.specs.declared.span.Token as span
use Rattle.rust_lexer.specs.declared.front_matter.Prelude.{Prelude}
use Rattle.rust_lexer.specs.declared.shape.Shape.{Shape}
use Rattle.rust_lexer.specs.Cuts.{cut_of, front_of, back_of}
use Rattle.rust_lexer.specs.Heads.{prelude_of, shebang_of}
use Rattle.rust_lexer.specs.Lexing.{Lexing, size_of, taken, taken_some, taken_head, taken_head_on, fresh, tokens_of}
use Rattle.rust_lexer.specs.Shapes.{plain_of}
use Rattle.rust_lexer.specs.Tokens.{token_of}
use Rattle.rust_lexer.proofs.Cutting.{back-utf8}
use Rattle.lexer_laws.specs.Behind.{IsBrace}
use Rattle.lexer_laws.specs.Cuts.{tokens_within, bytes_of}
use Rattle.lexer_laws.specs.Heads.{HasNoHead, may_have_head}
use Rattle.lexer_laws.specs.Pieces.{Opens, Closes, IsBraced, IsReplaced}
use Rattle.lexer_laws.proofs.Bracing.{cut_one}
use Rattle.lexer_laws.proofs.Heading.{plain_heads, heads_end}
use Rattle.lexer_laws.proofs.BraceKinds.{brace_of, brace_first}
use Rattle.lexer_laws.proofs.Pieces.{IsPiece, headless, behind_cut, pieces_cut, pieces_put}
use Rattle.lexer_laws.proofs.Stepping.{Tokens, head_same, tail_same, token_at, tokens_from, steps_tokens, within_empty, within_more, token_some, front_length, back_short}

-- ---- a head is no brace

-- the lexer has not moved, or taken a token that is no brace
abbrev Moved : Lexing → Lexing → Type 0
Moved l m = (m ≡ l) ⊎ ((t : span.Token) × (m.tokens ≡ l.tokens ++ t ∷ []) × (brace_of t.kind ≡ 0))

some_on : (b : Bool) (text : List ℕ) (k : SyntaxKind) (n : ℕ) (l : Lexing) → brace_of k ≡ 0 → Moved l (if b then l else taken text (plain_of k n) l)
some_on true text k n l h = inl refl
some_on false text k n l h = inr (record { kind = k; len = size_of (length (front_of n l.rest)) }, refl, h)

some_moved : (text : List ℕ) (k : SyntaxKind) (o : Option ℕ) (l : Lexing) → brace_of k ≡ 0 → Moved l (taken_some text k o l)
some_moved text k None l h = inl refl
some_moved text k (Some n) l h = some_on (length l.rest == 0) text k n l h

-- nothing is taken, or the first token is no brace
abbrev Headed : List ℕ → Lexing → Type 0
Headed text l = (l ≡ fresh text) ⊎ ((t : span.Token) × (ts : Tokens) × (l.tokens ≡ t ∷ ts) × (brace_of t.kind ≡ 0))

moved_on : (text : List ℕ) (l m : Lexing) → Headed text l → Moved l m → Headed text m
moved_on text l m (inl e) (inl f) = inl (f ∙ e)
moved_on text l m (inl e) (inr g) = inr (g.0, [], g.1 ∙ ap (λ (z : Lexing). z.tokens ++ g.0 ∷ []) e, g.2)
moved_on text l m (inr h) (inl f) = inr (h.0, h.1, ap (λ (z : Lexing). z.tokens) f ∙ h.2, h.3)
moved_on text l m (inr h) (inr g) = inr (h.0, h.1 ++ g.0 ∷ [], g.1 ∙ ap (λ (ts : Tokens). ts ++ g.0 ∷ []) h.2, h.3)

head_on : (e : Edition) (text : List ℕ) (o : Option Prelude) → Headed text (taken_head_on e text (fresh text) o)
head_on e text (Some p) =
    let first : Lexing = taken_some text (kinds.OTHER 1) p.shebang (fresh text) in
    moved_on text first (taken_some text (kinds.OTHER 0) p.front_matter first)
    (moved_on text (fresh text) first (inl refl) (some_moved text (kinds.OTHER 1) p.shebang (fresh text) refl))
    (some_moved text (kinds.OTHER 0) p.front_matter first refl)
head_on e text None =
    moved_on text (fresh text) (taken_some text (kinds.OTHER 1) (shebang_of e text) (fresh text)) (inl refl)
    (some_moved text (kinds.OTHER 1) (shebang_of e text) (fresh text) refl)

headed : (e : Edition) (text : List ℕ) → Headed text (taken_head e text (fresh text))
unfolding taken_head
headed e text = head_on e text (prelude_of text)

open_is : (t : span.Token) → t.kind ≡ kinds.Token token.L_CURLY → brace_of t.kind ≡ 123
open_is t h = ap brace_of h

close_is : (t : span.Token) → t.kind ≡ kinds.Token token.R_CURLY → brace_of t.kind ≡ 125
close_is t h = ap brace_of h

no_head : (e : Edition) (text : List ℕ) (first : span.Token) (rest : Tokens) → tokens_of e text ≡ first ∷ rest → 0 < brace_of first.kind
    → Headed text (taken_head e text (fresh text)) → HasNoHead e text
no_head e text first rest is h (inl k) = k
no_head e text first rest is h (inr k) =
    let l : Lexing = taken_head e text (fresh text) in
    let all : tokens_of e text ≡ k.0 ∷ (k.1 ++ tokens_from (length text) e l.rest) =
    steps_tokens (length text) e text l ∙ ap (λ (ts : Tokens). ts ++ tokens_from (length text) e l.rest) k.2 in
    let same : k.0 ≡ first = head_same k.0 first _ rest (sym all ∙ is) in
    absurd (omega (arith, ap (λ (t : span.Token). brace_of t.kind) same, k.3, h))

-- a text whose first token is a brace has no head
pub brace_plain : (e : Edition) (text : List ℕ) (first : span.Token) (rest : Tokens) → tokens_of e text ≡ first ∷ rest → 0 < brace_of first.kind → HasNoHead e text
brace_plain e text first rest is h = no_head e text first rest is h (headed e text)

-- ---- the first token

first_byte : (e : Edition) (s : List ℕ) (t : span.Token) (ts : Tokens) → tokens_within e s ≡ t ∷ ts → t.kind ≡ kinds.Token token.L_CURLY → s ≡ 123 ∷ drop 1 s
first_byte e [] t ts is h = absurd (let bad : [] ≡ t ∷ ts = sym (within_empty e) ∙ is in cc)
first_byte e (x ∷ s) t ts is h =
    let same : token_at e (x ∷ s) ≡ t = head_same (token_at e (x ∷ s)) t _ ts (sym (within_more e x s) ∙ is) in
    let kind : brace_of (token_of e (x ∷ s)).kind ≡ 123 = ap (λ (z : span.Token). brace_of z.kind) same ∙ open_is t h in
    ap (λ (j : ℕ). j ∷ s) (brace_first e x s 123 kind (omega arith)).0

-- ---- the last token

brace_some : (b : ℕ) → IsBrace b → 0 < b
brace_some b (inl h) = omega (arith, h)
brace_some b (inr h) = omega (arith, h)

brace_low : (b : ℕ) → IsBrace b → b < 128
brace_low b (inl h) = omega (arith, h)
brace_low b (inr h) = omega (arith, h)

-- the last byte is the brace b, and a token
pub record Closed (s : List ℕ) (b : ℕ) (t : span.Token) : Type 0 where
  pub before : List ℕ
  pub parts : s ≡ before ++ b ∷ []
  pub one_byte : t.len ≡ 1

none_left : (e : Edition) (s : List ℕ) → tokens_within e s ≡ [] → s ≡ []
none_left e [] h = refl
none_left e (x ∷ s) h = absurd (let bad : [] ≡ token_at e (x ∷ s) ∷ tokens_within e (back_of (token_of e (x ∷ s)).left (x ∷ s)) = sym h ∙ within_more e x s in cc)

closed_alone : (e : Edition) (x : ℕ) (s : List ℕ) (b : ℕ) (t : span.Token) → IsUtf8 (x ∷ s) → tokens_within e (x ∷ s) ≡ t ∷ [] → brace_of t.kind ≡ b → IsBrace b → Closed (x ∷ s) b t
closed_alone e x s b t u is h i =
    let some : 0 < b = brace_some b i in
    let low : b < 128 = brace_low b i in
    let both = sym (within_more e x s) ∙ is in
    let same : token_at e (x ∷ s) ≡ t = head_same (token_at e (x ∷ s)) t _ [] both in
    let brace = brace_first e x s b (ap (λ (z : span.Token). brace_of z.kind) same ∙ h) some in
    let text : IsUtf8 s = IsUtf8-drop (x ∷ s) 1 u (IsCharBoundary-after_ascii (x ∷ s) 0 u (omega arith) (omega (arith, brace.0, low))) in
    let cut : cut_of (token_of e (x ∷ s)).left (x ∷ s) ≡ 1 = ap (λ (z : Shape). cut_of z.left (x ∷ s)) brace.1 ∙ cut_one x s text in
    let left : s ≡ [] = ap (λ (j : ℕ). drop j (x ∷ s)) (sym cut) ∙ none_left e (back_of (token_of e (x ∷ s)).left (x ∷ s)) (tail_same (token_at e (x ∷ s)) t _ [] both) in
    record {
      before = [];
      parts = ap₂ (λ (y : ℕ) (r : List ℕ). y ∷ r) brace.0 left;
      one_byte =
          sym (ap (λ (z : span.Token). z.len) same) ∙ ap size_of (front_length (token_of e (x ∷ s)).left (x ∷ s) ∙ cut);
    }

pub closed_text : (n : ℕ) (e : Edition) (s : List ℕ) (front : Tokens) (b : ℕ) (t : span.Token) → length s ≤ n → IsUtf8 s → tokens_within e s ≡ front ++ t ∷ []
    → brace_of t.kind ≡ b → IsBrace b → Closed s b t
closed_text n e [] [] b t m u is h i = absurd (let bad : [] ≡ t ∷ [] = sym (within_empty e) ∙ is in cc)
closed_text n e [] (r ∷ front) b t m u is h i = absurd (let bad : [] ≡ r ∷ (front ++ t ∷ []) = sym (within_empty e) ∙ is in cc)
closed_text n e (x ∷ s) [] b t m u is h i = closed_alone e x s b t u is h i
closed_text zero e (x ∷ s) (r ∷ front) b t m u is h i = absurd (omega (arith, m))
closed_text (suc n) e (x ∷ s) (r ∷ front) b t m u is h i =
    let k : ℕ = (token_of e (x ∷ s)).left in
    let rest : List ℕ = back_of k (x ∷ s) in
    let behind : tokens_within e rest ≡ front ++ t ∷ [] = tail_same (token_at e (x ∷ s)) r _ (front ++ t ∷ []) (sym (within_more e x s) ∙ is) in
    let c = closed_text n e rest front b t (omega (arith, back_short k x s, m)) (back-utf8 k (x ∷ s) u) behind h i in
    record {
      before = front_of k (x ∷ s) ++ c.before;
      parts =
          sym (take-append-drop (cut_of k (x ∷ s)) (x ∷ s)) ∙ ap (λ (z : List ℕ). front_of k (x ∷ s) ++ z) c.parts
          ∙ sym (append_assoc (front_of k (x ∷ s)) c.before (b ∷ []));
      one_byte = c.one_byte;
    }

-- ---- pieces

record Between (s : List ℕ) : Type 0 where
  inner : List ℕ
  parts : s ≡ 123 ∷ (inner ++ 125 ∷ [])

first_same : (x y : ℕ) (s r : List ℕ) → x ∷ s ≡ y ∷ r → x ≡ y
first_same x y s r h = cc

between : (s r before : List ℕ) → s ≡ 123 ∷ r → s ≡ before ++ 125 ∷ [] → Between s
between s r [] h k = absurd (let bad : 123 ∷ r ≡ 125 ∷ [] = sym h ∙ k in omega (arith, first_same 123 125 r [] bad))
between s r (x ∷ inner) h k =
    let first : x ≡ 123 = first_same x 123 (inner ++ 125 ∷ []) r (sym k ∙ h) in
    record { inner = inner; parts = k ∙ ap (λ (y : ℕ). y ∷ (inner ++ 125 ∷ [])) first }

opens_plain : (e : Edition) (text : List ℕ) → Opens (tokens_of e text) → HasNoHead e text
opens_plain e text o = brace_plain e text o.first o.rest o.begins (omega (arith, open_is o.first o.is_open))

piece_found : (e : Edition) (text : List ℕ) → IsUtf8 text → Opens (tokens_of e text) → Closes (tokens_of e text) → IsPiece e text (tokens_of e text)
piece_found e text u o c =
    let plain : HasNoHead e text = opens_plain e text o in
    let same : tokens_of e text ≡ tokens_within e text = headless e text plain in
    let first : text ≡ 123 ∷ drop 1 text = first_byte e text o.first o.rest (sym same ∙ o.begins) o.is_open in
    let d = closed_text (length text) e text c.front 125 c.last (omega arith) u (sym same ∙ c.ends) (close_is c.last c.is_close) (inr refl) in
    let t = between text (drop 1 text) d.before first d.parts in
    record { inner = t.inner; parts = t.parts; are_tokens = sym same; front = c.front; close = c.last; closed = c.ends; one_byte = d.one_byte }

pub braced_cut : (e : Edition) (piece c : List ℕ) → IsUtf8 piece → IsUtf8 c → length (piece ++ c) < 2 ^ 32 → IsBraced (tokens_of e piece)
    → tokens_within e (piece ++ c) ≡ tokens_of e piece ++ tokens_within e c
braced_cut e piece c u v l b = pieces_cut e piece c (tokens_of e piece) (piece_found e piece u b.0 b.1) v (omega (arith, l, length-append piece c))

-- ---- replaced pieces

begins_part : (s r t : List ℕ) → s ++ r ≡ 123 ∷ t → 0 < length s → s ≡ 123 ∷ drop 1 s
begins_part [] r t h l = absurd (omega (arith, l))
begins_part (x ∷ s) r t h l = ap (λ (y : ℕ). y ∷ s) (first_same x 123 (s ++ r) t h)

some_bytes : (e : Edition) (s : List ℕ) (t : span.Token) (ts : Tokens) → tokens_within e s ≡ t ∷ ts → 0 < t.len
some_bytes e [] t ts h = absurd (let bad : [] ≡ t ∷ ts = sym (within_empty e) ∙ h in cc)
some_bytes e (x ∷ s) t ts h =
    omega (arith, token_some e x s, ap (λ (z : span.Token). z.len) (head_same (token_at e (x ∷ s)) t _ ts (sym (within_more e x s) ∙ h)))

-- the part begins with `{`
part_opens : (e : Edition) (a part c : List ℕ) (ts ps us : Tokens) → HasNoHead e (a ++ (part ++ c)) → length a + (length part + length c) < 2 ^ 32
    → tokens_of e (a ++ (part ++ c)) ≡ ts ++ (ps ++ us) → bytes_of ts ≡ length a → bytes_of ps ≡ length part → Opens ps → part ≡ 123 ∷ drop 1 part
part_opens e a part c ts ps us h l is at till o =
    let text : List ℕ = a ++ (part ++ c) in
    let len : length text ≡ length a + (length part + length c) = length-append a (part ++ c) ∙ ap (λ (n : ℕ). length a + n) (length-append part c) in
    let behind : ps ++ us ≡ tokens_within e (part ++ c) =
    behind_cut (length text) e text ts (ps ++ us) (omega arith) (omega (arith, len, l)) (sym (headless e text h) ∙ is)
    ∙ ap (λ (n : ℕ). tokens_within e (drop n text)) at ∙ ap (tokens_within e) (drop-append_seam a (part ++ c)) in
    let now : tokens_within e (part ++ c) ≡ o.first ∷ (o.rest ++ us) = sym behind ∙ ap (λ (rs : Tokens). rs ++ us) o.begins in
    let first : part ++ c ≡ 123 ∷ drop 1 (part ++ c) = first_byte e (part ++ c) o.first (o.rest ++ us) now o.is_open in
    let some : 0 < o.first.len = some_bytes e (part ++ c) o.first (o.rest ++ us) now in
    let size : o.first.len + bytes_of o.rest ≡ length part = sym (ap bytes_of o.begins) ∙ till in
    begins_part part c (drop 1 (part ++ c)) first (omega (arith, some, size))

head_moved : (a part piece c : List ℕ) (r s : List ℕ) → part ≡ 123 ∷ r → piece ≡ 123 ∷ s → may_have_head (a ++ (part ++ c)) ≡ may_have_head (a ++ (piece ++ c))
head_moved a part piece c r s h k =
    ap (λ (t : List ℕ). may_have_head (a ++ (t ++ c))) h ∙ heads_end a (r ++ c) (s ++ c) 123 (inl refl) ∙ sym (ap (λ (t : List ℕ). may_have_head (a ++ (t ++ c))) k)

-- what follows of the old text, the new part and the new text
pub record Replaced (e : Edition) (a part piece c : List ℕ) (ts ps us : Tokens) : Type 0 where
  pub is_piece : IsPiece e piece (tokens_of e piece)
  pub piece_plain : HasNoHead e piece
  pub plain : HasNoHead e (a ++ (part ++ c))
  pub new_plain : HasNoHead e (a ++ (piece ++ c))
  pub opens : part ≡ 123 ∷ drop 1 part
  pub within : tokens_within e (a ++ (part ++ c)) ≡ ts ++ (ps ++ us)
  pub rest : tokens_within e (part ++ c) ≡ ps ++ us
  pub short : length a + (length part + length c) < 2 ^ 32
  pub new_short : length a + (length piece + length c) < 2 ^ 32

pub replaced : (e : Edition) (a part piece c : List ℕ) (ts ps us : Tokens) → IsReplaced e a part piece c ts ps us → Replaced e a part piece c ts ps us
replaced e a part piece c ts ps us r =
    let old : length a + (length part + length c) < 2 ^ 32 = omega (arith, r.short, length-append a (part ++ c), length-append part c) in
    let new : length a + (length piece + length c) < 2 ^ 32 = omega (arith, r.new_short, length-append a (piece ++ c), length-append piece c) in
    let p : IsPiece e piece (tokens_of e piece) = piece_found e piece r.is_piece_text r.braced.0 r.braced.1 in
    let plain : HasNoHead e (a ++ (part ++ c)) = plain_heads e (a ++ (part ++ c)) r.is_text r.no_head in
    let opens : part ≡ 123 ∷ drop 1 part = part_opens e a part c ts ps us plain old r.are_tokens r.cut_before r.cut_behind r.opens in
    record {
      is_piece = p;
      piece_plain = opens_plain e piece r.braced.0;
      plain = plain;
      new_plain =
          plain_heads e (a ++ (piece ++ c)) r.is_new_text (sym (head_moved a part piece c (drop 1 part) (p.inner ++ 125 ∷ []) opens p.parts) ∙ r.no_head);
      opens = opens;
      within = sym (headless e (a ++ (part ++ c)) plain) ∙ r.are_tokens;
      rest = sym (
          behind_cut (length (a ++ (part ++ c))) e (a ++ (part ++ c)) ts (ps ++ us) (omega arith) r.short (sym (headless e (a ++ (part ++ c)) plain) ∙ r.are_tokens)
          ∙ ap (λ (n : ℕ). tokens_within e (drop n (a ++ (part ++ c)))) r.cut_before ∙ ap (tokens_within e) (drop-append_seam a (part ++ c))
          );
      short = old;
      new_short = new;
    }

pub pieces_replaced : (e : Edition) (a part piece c : List ℕ) (ts ps us : Tokens) → IsReplaced e a part piece c ts ps us → tokens_of e (a ++ (piece ++ c)) ≡ ts ++ (tokens_of e piece ++ us)
pieces_replaced e a part piece c ts ps us r =
    let w = replaced e a part piece c ts ps us r in
    pieces_put e a part (drop 1 part) piece c ts ps (tokens_of e piece) us w.opens w.plain w.new_plain r.is_rest_text w.short w.new_short r.are_tokens r.cut_before r.cut_behind w.is_piece
