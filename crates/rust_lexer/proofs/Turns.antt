-- One turn of the loops at a file's start, and of that over the last tokens.
use Rattle.std.proofs.Common.{◌≡◌, ℕ, zero, suc, ◌+◌, ◌-◌, ◌<◌, Bool, true, false, not, ◌||◌, List, [], ◌∷◌, ◌++◌, ap, ◌∙◌, refl, arith, length, reverse, take, drop, if◌then◌else◌}
use Rattle.std.proofs.lemmas.List.{reverse-append}
use Rattle.ras_front_end.specs.declared.edition.Edition.{Edition}
use Rattle.token_layout.specs.declared.span.Token.{Token}
use Rattle.rust_lexer.specs.declared.class.Wide.TheVariants as wides
use Rattle.rust_lexer.specs.Classes.{begins_wide_of, after_char_of}
use Rattle.rust_lexer.specs.Cuts.{back_of}
use Rattle.rust_lexer.specs.Heads.{empty_lines, last_line_of, begins_bracket_of, is_passed_over_of, is_bracket_of}
use Rattle.rust_lexer.specs.History.{is_behind_code_of, is_code_of}
use Rattle.rust_lexer.specs.Tokens.{token_of}

one_less : (n i : ℕ) → i < n → n - i ≡ suc (n - (i + 1))
one_less n i l = omega (arith, l)

pub lines-more : (n i : ℕ) (p s : List ℕ) → i < n → begins_wide_of wides.Space s ≡ true → empty_lines (n - i) p s ≡ empty_lines (n - (i + 1)) (last_line_of p s) (after_char_of s)
unfolding empty_lines
lines-more n i p s l h =
    rw (one_less n i l) (ap (λ b. if b then empty_lines (n - (i + 1)) (last_line_of p s) (after_char_of s) else p) h)

pub lines-stop : (k : ℕ) (p s : List ℕ) → begins_wide_of wides.Space s ≡ false → empty_lines k p s ≡ p
unfolding empty_lines
lines-stop zero p s h = refl
lines-stop (suc k) p s h = ap (λ b. if b then empty_lines k (last_line_of p s) (after_char_of s) else p) h

pub lines-end : (k : ℕ) (p s : List ℕ) → k ≡ 0 → empty_lines k p s ≡ p
unfolding empty_lines
lines-end zero p s h = refl
lines-end (suc k) p s h = absurd (omega (arith, h))

pub bracket-more : (n i : ℕ) (e : Edition) (s : List ℕ) → i < n → is_passed_over_of (token_of e s).kind ≡ true → begins_bracket_of (n - i) e s ≡ begins_bracket_of (n - (i + 1)) e (back_of (token_of e s).left s)
unfolding begins_bracket_of
bracket-more n i e s l h =
    rw (one_less n i l) (ap (λ b. if not b then is_bracket_of (token_of e s).kind else begins_bracket_of (n - (i + 1)) e (back_of (token_of e s).left s)) h)

pub bracket-stop : (n i : ℕ) (e : Edition) (s : List ℕ) → i < n → is_passed_over_of (token_of e s).kind ≡ false → begins_bracket_of (n - i) e s ≡ is_bracket_of (token_of e s).kind
unfolding begins_bracket_of
bracket-stop n i e s l h =
    rw (one_less n i l) (ap (λ b. if not b then is_bracket_of (token_of e s).kind else begins_bracket_of (n - (i + 1)) e (back_of (token_of e s).left s)) h)

pub bracket-end : (k : ℕ) (e : Edition) (s : List ℕ) → k ≡ 0 → begins_bracket_of k e s ≡ false
unfolding begins_bracket_of
bracket-end zero e s h = refl
bracket-end (suc k) e s h = absurd (omega (arith, h))

last_first : (ts bs : List Token) (t : Token) → ts ≡ bs ++ (t ∷ []) → reverse ts ≡ t ∷ reverse bs
last_first ts bs t h = ap reverse h ∙ reverse-append bs (t ∷ [])

or_true : (a b : Bool) → a ≡ true → (a || b) ≡ true
or_true true b h = refl
or_true false b h = (let bad : false ≡ true = h in cc)

or_false : (a b : Bool) → a ≡ false → (a || b) ≡ b
or_false false b h = refl
or_false true b h = (let bad : true ≡ false = h in cc)

pub code-here : (n i : ℕ) (ts bs : List Token) (t : Token) (s : List ℕ) → ts ≡ bs ++ (t ∷ []) → i < n → is_code_of t.kind (drop (length s - t.len) s) ≡ true → is_behind_code_of (n - i) (reverse ts) s ≡ true
unfolding is_behind_code_of
code-here n i ts bs t s e l h =
    rw (one_less n i l, last_first ts bs t e) (or_true (is_code_of t.kind (drop (length s - t.len) s)) (is_behind_code_of (n - (i + 1)) (reverse bs) (take (length s - t.len) s)) h)

pub code-before : (n i : ℕ) (ts bs : List Token) (t : Token) (s : List ℕ) → ts ≡ bs ++ (t ∷ []) → i < n → is_code_of t.kind (drop (length s - t.len) s) ≡ false → is_behind_code_of (n - i) (reverse ts) s ≡ is_behind_code_of (n - (i + 1)) (reverse bs) (take (length s - t.len) s)
unfolding is_behind_code_of
code-before n i ts bs t s e l h =
    rw (one_less n i l, last_first ts bs t e) (or_false (is_code_of t.kind (drop (length s - t.len) s)) (is_behind_code_of (n - (i + 1)) (reverse bs) (take (length s - t.len) s)) h)

pub code-none : (k : ℕ) (ts : List Token) (s : List ℕ) → length ts ≡ 0 → is_behind_code_of k (reverse ts) s ≡ false
unfolding is_behind_code_of
code-none zero ts s h = refl
code-none (suc k) [] s h = refl
code-none (suc k) (t ∷ ts) s h = absurd (omega (arith, h))

pub code-end : (k : ℕ) (ts : List Token) (s : List ℕ) → k ≡ 0 → is_behind_code_of k ts s ≡ false
unfolding is_behind_code_of
code-end zero ts s h = refl
code-end (suc k) ts s h = absurd (omega (arith, h))
