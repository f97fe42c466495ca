-- The tokens of a text in which a piece between braces was replaced.
use Rattle.std.proofs.Common.{◌≡◌, inl, inr, ℕ, zero, suc, ◌+◌, ◌<◌, ◌≤◌, ◌^◌, List, [], ◌∷◌, ◌++◌, length, drop, ap, ap₂, sym, ◌∙◌, refl, arith, append_assoc, length-append}
use Rattle.std.specs.Prelude.{IsUtf8}
use Rattle.std.proofs.Math.Seq.{drop-append_seam}
use Rattle.std.proofs.lemmas.List.{drop-drop}
use Rattle.std.proofs.lemmas.Str.{IsUtf8-nil}
use Rattle.ras_front_end.specs.declared.edition.Edition.{Edition}
use Rattle.token_layout.specs.declared.span.Token as span
use Rattle.rust_lexer.specs.Cuts.{cut_of, back_of}
use Rattle.rust_lexer.specs.Lexing.{Lexing, steps_of, tokens_of}
use Rattle.rust_lexer.specs.Signs.{sign_kind_of}
use Rattle.rust_lexer.specs.Tokens.{token_of}
use Rattle.rust_lexer.proofs.Cutting.{cut-boundary}
use Rattle.lexer_laws.specs.Behind.{IsBrace}
use Rattle.lexer_laws.specs.Cuts.{tokens_within, bytes_of}
use Rattle.lexer_laws.specs.Heads.{HasNoHead}
use Rattle.lexer_laws.proofs.Bracing.{braces_cut, brace_alone}
use Rattle.lexer_laws.proofs.Stepping.{Tokens, head_same, tail_same, token_at, within_empty, within_more, token_some, front_length, back_length}

-- ---- how long tokens are

pub first_bytes : (e : Edition) (x : ℕ) (s : List ℕ) → length (x ∷ s) < 2 ^ 32 → (token_at e (x ∷ s)).len ≡ cut_of (token_of e (x ∷ s)).left (x ∷ s)
first_bytes e x s l =
    let n : ℕ = (token_of e (x ∷ s)).left in
    let few : cut_of n (x ∷ s) ≤ length (x ∷ s) = (cut-boundary n (x ∷ s)).0 in
    omega (arith, front_length n (x ∷ s), few, l)

short_rest : (e : Edition) (x : ℕ) (s : List ℕ) → length (x ∷ s) < 2 ^ 32 → length (back_of (token_of e (x ∷ s)).left (x ∷ s)) + (token_at e (x ∷ s)).len ≡ length (x ∷ s)
short_rest e x s l =
    let n : ℕ = (token_of e (x ∷ s)).left in
    let few : cut_of n (x ∷ s) ≤ length (x ∷ s) = (cut-boundary n (x ∷ s)).0 in
    omega (arith, first_bytes e x s l, back_length n (x ∷ s), few)

-- ---- what follows a cut

behind_first : (e : Edition) (x : ℕ) (s : List ℕ) (t : span.Token) (ts us : Tokens) → length (x ∷ s) < 2 ^ 32 → tokens_within e (x ∷ s) ≡ t ∷ (ts ++ us)
    → ((r : List ℕ) → length r ≤ length s → tokens_within e r ≡ ts ++ us → us ≡ tokens_within e (drop (bytes_of ts) r))
    → us ≡ tokens_within e (drop (t.len + bytes_of ts) (x ∷ s))
behind_first e x s t ts us l is more =
    let n : ℕ = (token_of e (x ∷ s)).left in
    let k : ℕ = cut_of n (x ∷ s) in
    let both = sym (within_more e x s) ∙ is in
    let first : token_at e (x ∷ s) ≡ t = head_same (token_at e (x ∷ s)) t _ (ts ++ us) both in
    let rest : tokens_within e (back_of n (x ∷ s)) ≡ ts ++ us = tail_same (token_at e (x ∷ s)) t _ (ts ++ us) both in
    let len : t.len ≡ k = sym (ap (λ (z : span.Token). z.len) first) ∙ first_bytes e x s l in
    more (back_of n (x ∷ s)) (omega (arith, short_rest e x s l, token_some e x s)) rest
    ∙ ap (tokens_within e) (drop-drop (bytes_of ts) k (x ∷ s) ∙ ap (λ (j : ℕ). drop (j + bytes_of ts) (x ∷ s)) (sym len))

-- the tokens behind a cut are those of the rest of the text
pub behind_cut : (n : ℕ) (e : Edition) (s : List ℕ) (ts us : Tokens) → length s ≤ n → length s < 2 ^ 32 → tokens_within e s ≡ ts ++ us
    → us ≡ tokens_within e (drop (bytes_of ts) s)
behind_cut n e s [] us m l is = sym is
behind_cut n e [] (t ∷ ts) us m l is = absurd (let bad : [] ≡ t ∷ (ts ++ us) = sym (within_empty e) ∙ is in cc)
behind_cut zero e (x ∷ s) (t ∷ ts) us m l is = absurd (omega (arith, m))
behind_cut (suc n) e (x ∷ s) (t ∷ ts) us m l is =
    behind_first e x s t ts us l is (λ r k now. behind_cut n e r ts us (omega (arith, k, m)) (omega (arith, k, l)) now)

-- the tokens of a text have its bytes
pub all_bytes : (n : ℕ) (e : Edition) (s : List ℕ) → length s ≤ n → length s < 2 ^ 32 → bytes_of (tokens_within e s) ≡ length s
all_bytes n e [] m l = ap bytes_of (within_empty e)
all_bytes zero e (x ∷ s) m l = absurd (omega (arith, m))
all_bytes (suc n) e (x ∷ s) m l =
    let rest : List ℕ = back_of (token_of e (x ∷ s)).left (x ∷ s) in
    let sum : length rest + (token_at e (x ∷ s)).len ≡ length (x ∷ s) = short_rest e x s l in
    let some : 0 < (token_at e (x ∷ s)).len = token_some e x s in
    let more : bytes_of (tokens_within e rest) ≡ length rest = all_bytes n e rest (omega (arith, sum, some, m)) (omega (arith, sum, l)) in
    ap bytes_of (within_more e x s) ∙ omega (arith, sum, more)

pub bytes_append : (ts us : Tokens) → bytes_of (ts ++ us) ≡ bytes_of ts + bytes_of us
bytes_append [] us = omega arith
bytes_append (t ∷ ts) us = omega (arith, bytes_append ts us)

-- ---- pieces

-- the text is from `{` to `}`, and the last of its tokens is that `}`
pub record IsPiece (e : Edition) (text : List ℕ) (ts : Tokens) : Type 0 where
  pub inner : List ℕ
  pub parts : text ≡ 123 ∷ (inner ++ 125 ∷ [])
  pub are_tokens : tokens_within e text ≡ ts
  pub front : Tokens
  pub close : span.Token
  pub closed : ts ≡ front ++ close ∷ []
  pub one_byte : close.len ≡ 1

-- the text ends in the brace b, and the last of its tokens is that brace
pub record IsClosed (e : Edition) (text : List ℕ) (b : ℕ) (ts : Tokens) : Type 0 where
  pub is_brace : IsBrace b
  pub inner : List ℕ
  pub parts : text ≡ inner ++ b ∷ []
  pub are_tokens : tokens_within e text ≡ ts
  pub front : Tokens
  pub close : span.Token
  pub closed : ts ≡ front ++ close ∷ []
  pub one_byte : close.len ≡ 1

pub piece_closed : (e : Edition) (text : List ℕ) (ts : Tokens) → IsPiece e text ts → IsClosed e text 125 ts
piece_closed e text ts p =
    record { is_brace = inr refl; inner = 123 ∷ p.inner; parts = p.parts; are_tokens = p.are_tokens; front = p.front; close = p.close; closed = p.closed; one_byte = p.one_byte }

closing : (e : Edition) (b : ℕ) → IsBrace b → IsUtf8 [] → tokens_within e (b ∷ []) ≡ record { kind = sign_kind_of b; len = 1 } ∷ []
closing e b h u =
    brace_alone e b [] h u ∙ ap (λ (ts : Tokens). record { kind = sign_kind_of b; len = 1 } ∷ ts) (within_empty e)

-- the bytes before the brace
pub closed_front : (e : Edition) (text : List ℕ) (b : ℕ) (ts : Tokens) (p : IsClosed e text b ts) → length text < 2 ^ 32 → bytes_of p.front ≡ length p.inner
closed_front e text b ts p l =
    let len : length text ≡ length p.inner + 1 = ap length p.parts ∙ length-append p.inner (b ∷ []) in
    let total : bytes_of (p.front ++ p.close ∷ []) ≡ length text =
    ap bytes_of (sym p.closed ∙ sym p.are_tokens) ∙ all_bytes (length text) e text (omega arith) l in
    omega (arith, total, len, bytes_append p.front (p.close ∷ []), p.one_byte)

pub closed_cut : (e : Edition) (text c : List ℕ) (b : ℕ) (ts : Tokens) → IsClosed e text b ts → IsUtf8 c → length text + length c < 2 ^ 32
    → tokens_within e (text ++ c) ≡ ts ++ tokens_within e c
closed_cut e text c b ts p u l =
    let s : List ℕ = p.inner in
    let len : length text ≡ length s + 1 = ap length p.parts ∙ length-append s (b ∷ []) in
    let is : tokens_within e (s ++ b ∷ []) ≡ p.front ++ p.close ∷ [] = ap (tokens_within e) (sym p.parts) ∙ p.are_tokens ∙ p.closed in
    let before : bytes_of p.front ≡ length s = closed_front e text b ts p (omega (arith, l)) in
    let close : span.Token = record { kind = sign_kind_of b; len = 1 } in
    let alone : tokens_within e text ≡ p.front ++ close ∷ [] =
    ap (tokens_within e) p.parts
    ∙ braces_cut e s [] [] b p.front (p.close ∷ []) p.is_brace (omega (arith, len, l)) (omega (arith, len, l)) is before
    ∙ ap (λ (rs : Tokens). p.front ++ rs) (closing e b p.is_brace IsUtf8-nil) in
    ap (λ (t : List ℕ). tokens_within e (t ++ c)) p.parts
    ∙ ap (tokens_within e) (append_assoc s (b ∷ []) c)
    ∙ braces_cut e s [] c b p.front (p.close ∷ []) p.is_brace (omega (arith, len, l)) (omega (arith, len, l)) is before
    ∙ ap (λ (rs : Tokens). p.front ++ rs) (brace_alone e b c p.is_brace u)
    ∙ sym (append_assoc p.front (close ∷ []) (tokens_within e c))
    ∙ ap (λ (rs : Tokens). rs ++ tokens_within e c) (sym alone ∙ p.are_tokens)

-- the bytes before the `}`
pub piece_front : (e : Edition) (piece : List ℕ) (ts : Tokens) (p : IsPiece e piece ts) → length piece < 2 ^ 32 → bytes_of p.front ≡ length (123 ∷ p.inner)
unfolding piece_closed
piece_front e piece ts p l = closed_front e piece 125 ts (piece_closed e piece ts p) l

pub pieces_cut : (e : Edition) (piece c : List ℕ) (ts : Tokens) → IsPiece e piece ts → IsUtf8 c → length piece + length c < 2 ^ 32
    → tokens_within e (piece ++ c) ≡ ts ++ tokens_within e c
pieces_cut e piece c ts p u l = closed_cut e piece c 125 ts (piece_closed e piece ts p) u l

pub headless : (e : Edition) (text : List ℕ) → HasNoHead e text → tokens_of e text ≡ tokens_within e text
headless e text h = ap (λ (l : Lexing). (steps_of (length text) e text l).tokens) h

pub pieces_put : (e : Edition) (a part r piece c : List ℕ) (ts ps qs us : Tokens) → part ≡ 123 ∷ r → HasNoHead e (a ++ (part ++ c)) → HasNoHead e (a ++ (piece ++ c))
    → IsUtf8 c → length a + (length part + length c) < 2 ^ 32 → length a + (length piece + length c) < 2 ^ 32
    → tokens_of e (a ++ (part ++ c)) ≡ ts ++ (ps ++ us) → bytes_of ts ≡ length a → bytes_of ps ≡ length part
    → IsPiece e piece qs → tokens_of e (a ++ (piece ++ c)) ≡ ts ++ (qs ++ us)
pieces_put e a part r piece c ts ps qs us o h k u l m is at till p =
    let old : List ℕ = part ++ c in
    let inner : List ℕ = p.inner ++ 125 ∷ [] in
    let within : tokens_within e (a ++ old) ≡ ts ++ (ps ++ us) = sym (headless e (a ++ old) h) ∙ is in
    let opened : tokens_within e (a ++ 123 ∷ (r ++ c)) ≡ ts ++ (ps ++ us) = ap (λ (t : List ℕ). tokens_within e (a ++ (t ++ c))) (sym o) ∙ within in
    let part_len : length part ≡ length (123 ∷ r) = ap length o in
    let old_len : length old ≡ length part + length c = length-append part c in
    let text_len : length (a ++ old) ≡ length a + length old = length-append a old in
    let piece_len : length piece ≡ length (123 ∷ inner) = ap length p.parts in
    let both : bytes_of (ts ++ ps) ≡ length (a ++ part) =
    bytes_append ts ps ∙ ap₂ (λ (x y : ℕ). x + y) at till ∙ sym (length-append a part) in
    let rest : us ≡ tokens_within e c =
    behind_cut (length (a ++ old)) e (a ++ old) (ts ++ ps) us (omega arith) (omega (arith, text_len, old_len, l)) (within ∙ sym (append_assoc ts ps us))
    ∙ ap (λ (n : ℕ). tokens_within e (drop n (a ++ old))) both
    ∙ ap (λ (t : List ℕ). tokens_within e (drop (length (a ++ part)) t)) (sym (append_assoc a part c))
    ∙ ap (tokens_within e) (drop-append_seam (a ++ part) c) in
    headless e (a ++ (piece ++ c)) k
    ∙ ap (λ (t : List ℕ). tokens_within e (a ++ (t ++ c))) p.parts
    ∙ braces_cut e a (r ++ c) (inner ++ c) 123 ts (ps ++ us) (inl refl)
    (omega (arith, length-append r c, part_len, l)) (omega (arith, length-append inner c, piece_len, m)) opened at
    ∙ ap (λ (rs : Tokens). ts ++ rs) (
    ap (λ (t : List ℕ). tokens_within e (t ++ c)) (sym p.parts)
    ∙ pieces_cut e piece c qs p u (omega (arith, m))
    ∙ ap (λ (rs : Tokens). qs ++ rs) (sym rest)
    )
