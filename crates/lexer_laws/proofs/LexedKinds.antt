-- The kinds of the lexer's tokens by any test of kinds: where the test is 0 at each kind that the
-- lexer gives to what is no sign, it is 0 at each token that is no sign.
use Rattle.std.proofs.Common.{◌≡◌, ◌⊎◌, inl, inr, ℕ, ◌-◌, Bool, true, false, not, ◌==◌, ◌&&◌, ◌||◌, nat_lt, nat_le, if◌then◌else◌, Option, Some, List, [], ◌∷◌, length, drop, ap, sym, ◌∙◌, refl}
use Rattle.std.specs.Prelude.{bytes_eq, codes, cond}
use Rattle.std.specs.Map.{lookup}
use Rattle.std.proofs.lemmas.Bool.{and_parts, eqb-true}
use Rattle.syntax_kind.specs.declared.syntax_kind.SyntaxKind.{SyntaxKind}
use Rattle.syntax_kind.specs.declared.syntax_kind.SyntaxKind.TheVariants.{Token}
use Rattle.syntax_kind.specs.declared.syntax_kind.token_kind.TokenKind.{TokenKind}
use Rattle.syntax_kind.specs.declared.syntax_kind.token_kind.TokenKind.TheVariants as token
use Rattle.syntax_kind.specs.Kinds.{is_same_kind}
use Rattle.syntax_kind.specs.KindLaws.{is_same_kind-equal}
use Rattle.literal_escape.specs.declared.mode.Mode.{Mode}
use Rattle.literal_escape.specs.declared.mode.Mode.TheVariants as modes
use Rattle.ras_front_end.specs.declared.edition.Edition.{Edition}
use Rattle.ras_front_end.specs.declared.edition.Edition.TheVariants.{Edition2015, Edition2018, Edition2021, Edition2024}
use Rattle.rust_kinds.specs.Keywords.{Words, keywords, keyword_of}
use Rattle.rust_lexer.specs.declared.class.Class.{Class}
use Rattle.rust_lexer.specs.declared.class.Class.TheVariants as classes
use Rattle.rust_lexer.specs.declared.class.Wide.TheVariants as wides
use Rattle.rust_lexer.specs.declared.scan.Scan.{Scan}
use Rattle.rust_lexer.specs.declared.scan.Scan.TheVariants.{Comment, Text, Quote, QuoteLine, Raw, Closed}
use Rattle.rust_lexer.specs.declared.shape.Shape.{Shape}
use Rattle.rust_lexer.specs.Classes.{begins_of, begins_digit_of, begins_beyond_of, begins_wide_of, is_in_of, is_letter_of, is_digit_of, skip_of, after_char_of}
use Rattle.rust_lexer.specs.Comments.{line_kind_of, block_kind_of, block_on, block_comment_of}
use Rattle.rust_lexer.specs.Cuts.{front_of}
use Rattle.rust_lexer.specs.Names.{begins_name_of, begins_emoji_of, begins_wide_emoji_of, is_literal_mark_of, prefix_of, word_on, word_kind_of, name_of, skip_name_of, skip_suffix_of}
use Rattle.rust_lexer.specs.Numbers.{begins_exponent_of, exponent_of, fraction_of, behind_digits_of, based_of, number_of, sign_of as signed}
use Rattle.rust_lexer.specs.Quotes.{kind_of, string_on, string_of, is_mark_of, character_on, character_of, lifetime_of, is_raw_lifetime_of, may_be_lifetime_of, character_or_lifetime_of}
use Rattle.rust_lexer.specs.RawStrings.{invalid_of, body_on, body_of, raw_string_of}
use Rattle.rust_lexer.specs.Scans.{run_of}
use Rattle.rust_lexer.specs.Shapes.{plain_of}
use Rattle.rust_lexer.specs.Signs.{sign_kind_of}
use Rattle.rust_lexer.specs.Tokens.{space_of, sign_of, slash_of, opens_raw_of, is_reserved_of, pound_of, letter_r_of, letter_b_of, letter_c_of, letter_of, beyond_of, mark_of, other_of, token_of}

-- ---- the tests

-- the kinds of tokens that are no signs, but for words. `/` and `#` are signs, of which the lexer
-- looks at more than the first byte
abbrev plain_kinds : List SyntaxKind
plain_kinds =
    Token token.WHITESPACE ∷ Token token.COMMENT ∷ Token token.INNER_DOC_COMMENT ∷ Token token.OUTER_DOC_COMMENT
    ∷ Token token.IDENT ∷ Token token.UNDERSCORE ∷ Token token.LIFETIME_IDENT ∷ Token token.INT_NUMBER ∷ Token token.FLOAT_NUMBER
    ∷ Token token.CHAR ∷ Token token.BYTE ∷ Token token.STRING ∷ Token token.BYTE_STRING ∷ Token token.C_STRING
    ∷ Token token.ERROR ∷ Token token.SLASH ∷ Token token.POUND ∷ []

abbrev word_kinds : Words → List SyntaxKind
word_kinds [] = []
word_kinds (w ∷ ws) = w.1 ∷ word_kinds ws

abbrev are_null : (SyntaxKind → ℕ) → List SyntaxKind → Bool
are_null f [] = true
are_null f (k ∷ ks) = (f k == 0) && are_null f ks

abbrev are_words_null : (SyntaxKind → ℕ) → Edition → Bool
are_words_null f e = are_null f (word_kinds (keywords e))

abbrev all_editions : (Edition → Bool) → Bool
all_editions t = t Edition2015 && t Edition2018 && t Edition2021 && t Edition2024

-- what is asked of a test: where the test is given, `refl` shows it
abbrev pub is_null_beside_signs : (SyntaxKind → ℕ) → Bool
is_null_beside_signs f = are_null f plain_kinds && all_editions (are_words_null f)

-- the test is 0 at the token, or the token is the sign that its first byte is
abbrev pub IsSign : (SyntaxKind → ℕ) → ℕ → List ℕ → Shape → Type 0
IsSign f x s t = (f t.kind ≡ 0) ⊎ (t ≡ sign_of x s)

all_true : (a b c d : Bool) → (a && b && c && d) ≡ true → (a ≡ true) × (b ≡ true) × (c ≡ true) × (d ≡ true)
all_true true true true d h = (refl, refl, refl, h)
all_true true true false d h = absurd (let bad : false ≡ true = h in cc)
all_true true false c d h = absurd (let bad : false ≡ true = h in cc)
all_true false b c d h = absurd (let bad : false ≡ true = h in cc)

-- what holds in all editions holds in each
at_edition : (t : Edition → Bool) → all_editions t ≡ true → (e : Edition) → t e ≡ true
at_edition t h e = by (all_true (t Edition2015) (t Edition2018) (t Edition2021) (t Edition2024) h) e
  where
    by : (t Edition2015 ≡ true) × (t Edition2018 ≡ true) × (t Edition2021 ≡ true) × (t Edition2024 ≡ true) → (d : Edition) → t d ≡ true
    by k Edition2015 = k.0
    by k Edition2018 = k.1
    by k Edition2021 = k.2
    by k Edition2024 = k.3

abbrev is_among : List SyntaxKind → SyntaxKind → Bool
is_among [] k = false
is_among (j ∷ js) k = is_same_kind j k || is_among js k

-- the test is 0 at a kind that is among those at which it is 0
null_in : (f : SyntaxKind → ℕ) (ks : List SyntaxKind) (k : SyntaxKind) → are_null f ks ≡ true → is_among ks k ≡ true → f k ≡ 0
null_in f [] k h m = absurd (let bad : false ≡ true = m in cc)
null_in f (j ∷ js) k h m = by (is_same_kind j k) refl m (null_in f js k (and_parts (f j == 0) (are_null f js) h).1)
  where
    by : (b : Bool) → is_same_kind j k ≡ b → (b || is_among js k) ≡ true → (is_among js k ≡ true → f k ≡ 0) → f k ≡ 0
    by true e n later = ap f (sym ((is_same_kind-equal j k).0 e)) ∙ eqb-true (f j) 0 (and_parts (f j == 0) (are_null f js) h).0
    by false e n later = later n

-- ---- the kinds of literals and comments do not depend on where these end

string_kind : (m : Mode) (p : Scan) (r : List ℕ) → (string_on m p r).kind ≡ kind_of m
string_kind m Closed r = refl
string_kind m _ r = refl

character_kind : (m : Mode) (p : Scan) (r : List ℕ) → (character_on m p r).kind ≡ kind_of m
character_kind m Closed r = refl
character_kind m QuoteLine r = refl
character_kind m _ r = refl

few_kind : (c : Bool) (k : SyntaxKind) (n m : ℕ) → (if c then plain_of k n else invalid_of k m).kind ≡ k
few_kind true k n m = refl
few_kind false k n m = refl

body_kind : (k : SyntaxKind) (h : ℕ) (p : Scan) (r : List ℕ) → (body_on k h p r).kind ≡ k
body_kind k h Closed r = few_kind (nat_lt h 256) k (length (skip_suffix_of r)) (length r)
body_kind k h _ r = refl

block_on_kind : (k : SyntaxKind) (p : Scan) (n : ℕ) → (block_on k p n).kind ≡ k
block_on_kind k Closed n = refl
block_on_kind k _ n = refl

-- ---- each token, by such a test

module _ (f : SyntaxKind → ℕ) (given : is_null_beside_signs f ≡ true) where
  null : (t : TokenKind) → is_among plain_kinds (Token t) ≡ true → f (Token t) ≡ 0
  null t m = null_in f plain_kinds (Token t) (and_parts (are_null f plain_kinds) (all_editions (are_words_null f)) given).0 m

  words_null : (e : Edition) → are_words_null f e ≡ true
  words_null e = at_edition (are_words_null f) (and_parts (are_null f plain_kinds) (all_editions (are_words_null f)) given).1 e

  abbrev IsNull : Shape → Type 0
  IsNull t = f t.kind ≡ 0

  pick : (c : Bool) (u v : Shape) → IsNull u → IsNull v → IsNull (if c then u else v)
  pick true u v h k = h
  pick false u v h k = k

  pick_sign : (x : ℕ) (s : List ℕ) (c : Bool) (u v : Shape) → IsSign f x s u → IsSign f x s v → IsSign f x s (if c then u else v)
  pick_sign x s true u v h k = h
  pick_sign x s false u v h k = k

  kind_on : (c : Bool) (k l : SyntaxKind) → f k ≡ 0 → f l ≡ 0 → f (if c then k else l) ≡ 0
  kind_on true k l h e = h
  kind_on false k l h e = e

  kind_is : (t : Shape) (k : SyntaxKind) → t.kind ≡ k → f k ≡ 0 → IsNull t
  kind_is t k h e = ap f h ∙ e

  space_null : (s : List ℕ) → IsNull (space_of s)
  space_null s = pick (begins_beyond_of (skip_of classes.Space s)) _ _ (null token.WHITESPACE refl) (null token.WHITESPACE refl)

  -- ---- words

  word_on_null : (c : Bool) (k : SyntaxKind) (o : Option SyntaxKind) → f k ≡ 0 → f (word_on o) ≡ 0 → f (word_on (cond c (Some k) o)) ≡ 0
  word_on_null true k o h e = h
  word_on_null false k o h e = e

  found_null : (w : List ℕ) (ws : Words) → are_null f (word_kinds ws) ≡ true → f (word_on (lookup (bytes_eq w) ws)) ≡ 0
  found_null w [] h = null token.IDENT refl
  found_null w (x ∷ ws) h =
      word_on_null (bytes_eq w x.0) x.1 (lookup (bytes_eq w) ws) (eqb-true (f x.1) 0 (and_parts (f x.1 == 0) (are_null f (word_kinds ws)) h).0)
      (found_null w ws (and_parts (f x.1 == 0) (are_null f (word_kinds ws)) h).1)

  word_null : (e : Edition) (w : List ℕ) → f (word_kind_of e w) ≡ 0
  word_null e w = kind_on (bytes_eq w (codes "_")) (Token token.UNDERSCORE) (word_on (keyword_of e w)) (null token.UNDERSCORE refl) (found_null w (keywords e) (words_null e))

  prefix_null : (w : List ℕ) (n : ℕ) → IsNull (prefix_of w n)
  prefix_null w n = pick (bytes_eq w (codes "builtin")) _ _ (null token.IDENT refl) (null token.IDENT refl)

  name_null : (e : Edition) (s : List ℕ) → IsNull (name_of e s)
  name_null e s =
      let r : List ℕ = skip_name_of s in
      pick (is_literal_mark_of r) _ _ (prefix_null (front_of (length r) s) (length r))
      (pick (begins_wide_emoji_of r) _ _ (null token.IDENT refl) (word_null e (front_of (length r) s)))

  -- ---- literals

  mode_null : (m : Mode) → f (kind_of m) ≡ 0
  mode_null modes.Char = null token.CHAR refl
  mode_null modes.Byte = null token.BYTE refl
  mode_null modes.Str = null token.STRING refl
  mode_null modes.ByteStr = null token.BYTE_STRING refl
  mode_null modes.CStr = null token.C_STRING refl

  string_null : (m : Mode) (s : List ℕ) → IsNull (string_of m s)
  string_null m s = kind_is (string_of m s) (kind_of m) (string_kind m (run_of Text s).0 (run_of Text s).1) (mode_null m)

  character_null : (m : Mode) (s : List ℕ) → IsNull (character_of m s)
  character_null m s =
      pick (is_mark_of s) _ _ (mode_null m)
      (kind_is (character_on m (run_of Quote s).0 (run_of Quote s).1) (kind_of m) (character_kind m (run_of Quote s).0 (run_of Quote s).1) (mode_null m))

  lifetime_null : (s : List ℕ) → IsNull (lifetime_of s)
  lifetime_null s =
      pick (begins_of 39 (skip_name_of s)) _ _ (null token.CHAR refl)
      (pick (begins_digit_of s) _ _ (null token.LIFETIME_IDENT refl) (pick (begins_of 35 (skip_name_of s)) _ _ (null token.LIFETIME_IDENT refl) (null token.LIFETIME_IDENT refl)))

  character_or_lifetime_null : (s : List ℕ) → IsNull (character_or_lifetime_of s)
  character_or_lifetime_null s =
      pick (not (may_be_lifetime_of s)) _ _ (character_null modes.Char s) (pick (is_raw_lifetime_of s) _ _ (null token.LIFETIME_IDENT refl) (lifetime_null s))

  raw_null : (k : SyntaxKind) (s : List ℕ) → f k ≡ 0 → IsNull (raw_string_of k s)
  raw_null k s h =
      let o : List ℕ = skip_of classes.Hash s in
      let n : ℕ = length s - length o in
      pick (begins_of 34 o) (body_of k n (drop 1 o)) (invalid_of k (length (after_char_of o)))
      (kind_is (body_of k n (drop 1 o)) k (body_kind k n (run_of (Raw n) (drop 1 o)).0 (run_of (Raw n) (drop 1 o)).1) h) h

  -- ---- numbers

  exponent_null : (s : List ℕ) → IsNull (exponent_of s)
  exponent_null s = pick (begins_digit_of (skip_of classes.Underscore (signed s))) _ _ (null token.FLOAT_NUMBER refl) (null token.FLOAT_NUMBER refl)

  fraction_null : (s : List ℕ) → IsNull (fraction_of s)
  fraction_null s =
      pick (not (begins_digit_of s)) _ _ (null token.FLOAT_NUMBER refl)
      (pick (begins_exponent_of (skip_of classes.Decimal s)) _ _ (exponent_null (drop 1 (skip_of classes.Decimal s))) (null token.FLOAT_NUMBER refl))

  digits_null : (s : List ℕ) → IsNull (behind_digits_of s)
  digits_null s =
      pick (begins_of 46 s) _ _ (pick (begins_of 46 (drop 1 s) || begins_name_of (drop 1 s)) _ _ (null token.INT_NUMBER refl) (fraction_null (drop 1 s)))
      (pick (begins_exponent_of s) _ _ (exponent_null (drop 1 s)) (null token.INT_NUMBER refl))

  based_null : (c : Class) (s : List ℕ) → IsNull (based_of c s)
  based_null c s =
      let d : List ℕ = skip_of classes.Underscore s in
      pick (length (skip_of c d) == length d) _ _ (null token.INT_NUMBER refl) (digits_null (skip_of c d))

  number_null : (x : ℕ) (s : List ℕ) → IsNull (number_of x s)
  number_null x s =
      pick ((x == 48) && begins_of 120 s) _ _ (based_null classes.Hexadecimal (drop 1 s))
      (pick ((x == 48) && (begins_of 98 s || begins_of 111 s)) _ _ (based_null classes.Decimal (drop 1 s)) (digits_null (skip_of classes.Decimal s)))

  -- ---- comments

  line_kind_null : (s : List ℕ) → f (line_kind_of s) ≡ 0
  line_kind_null s =
      kind_on (begins_of 33 s) _ _ (null token.INNER_DOC_COMMENT refl)
      (kind_on (begins_of 47 s && not (begins_of 47 (drop 1 s))) _ _ (null token.OUTER_DOC_COMMENT refl) (null token.COMMENT refl))

  block_kind_null : (s : List ℕ) → f (block_kind_of s) ≡ 0
  block_kind_null s =
      kind_on (begins_of 33 s) _ _ (null token.INNER_DOC_COMMENT refl)
      (kind_on (begins_of 42 s && not (begins_of 42 (drop 1 s)) && not (begins_of 47 (drop 1 s))) _ _ (null token.OUTER_DOC_COMMENT refl) (null token.COMMENT refl))

  block_null : (s : List ℕ) → IsNull (block_comment_of s)
  block_null s =
      kind_is (block_comment_of s) (block_kind_of s) (block_on_kind (block_kind_of s) (run_of (Comment 0) s).0 (length (run_of (Comment 0) s).1)) (block_kind_null s)

  slash_null : (s : List ℕ) → IsNull (slash_of s)
  slash_null s = pick (begins_of 47 s) _ _ (line_kind_null (drop 1 s)) (pick (begins_of 42 s) _ _ (block_null (drop 1 s)) (null token.SLASH refl))

  -- ---- all tokens

  letter_r_null : (e : Edition) (t s : List ℕ) → IsNull (letter_r_of e t s)
  letter_r_null e t s =
      pick (begins_of 35 s && begins_name_of (drop 1 s)) _ _ (null token.IDENT refl)
      (pick (opens_raw_of s) _ _ (raw_null (Token token.STRING) s (null token.STRING refl)) (name_null e t))

  letter_b_null : (e : Edition) (t s : List ℕ) → IsNull (letter_b_of e t s)
  letter_b_null e t s =
      pick (begins_of 114 s && opens_raw_of (drop 1 s)) _ _ (raw_null (Token token.BYTE_STRING) (drop 1 s) (null token.BYTE_STRING refl))
      (pick (begins_of 34 s) _ _ (string_null modes.ByteStr (drop 1 s))
      (pick (begins_of 39 s) _ _ (character_null modes.Byte (drop 1 s)) (name_null e t)))

  letter_c_null : (e : Edition) (t s : List ℕ) → IsNull (letter_c_of e t s)
  letter_c_null e t s =
      pick (begins_of 114 s && opens_raw_of (drop 1 s)) _ _ (raw_null (Token token.C_STRING) (drop 1 s) (null token.C_STRING refl))
      (pick (begins_of 34 s) _ _ (string_null modes.CStr (drop 1 s)) (name_null e t))

  letter_null : (e : Edition) (x : ℕ) (t s : List ℕ) → IsNull (letter_of e x t s)
  letter_null e x t s =
      pick (x == 114) _ _ (letter_r_null e t s)
      (pick (x == 98) _ _ (letter_b_null e t s) (pick (x == 99) _ _ (letter_c_null e t s) (name_null e t)))

  beyond_null : (e : Edition) (s : List ℕ) → IsNull (beyond_of e s)
  beyond_null e s =
      pick (begins_wide_of wides.Space s) _ _ (space_null s)
      (pick (begins_name_of s) _ _ (name_null e s) (pick (begins_emoji_of s) _ _ (null token.IDENT refl) (null token.ERROR refl)))

  pound_null : (e : Edition) (s : List ℕ) → IsNull (pound_of e s)
  pound_null e s = pick (is_reserved_of e s) _ _ (null token.ERROR refl) (null token.POUND refl)

  mark_sign : (e : Edition) (x : ℕ) (s : List ℕ) → IsSign f x s (mark_of e x s)
  mark_sign e x s =
      pick_sign x s (x == 47) _ _ (inl (slash_null s))
      (pick_sign x s (x == 34) _ _ (inl (string_null modes.Str s))
      (pick_sign x s (x == 39) _ _ (inl (character_or_lifetime_null s))
      (pick_sign x s (x == 35) _ _ (inl (pound_null e s)) (inr refl))))

  other_sign : (e : Edition) (x : ℕ) (s : List ℕ) → IsSign f x s (other_of e x (x ∷ s) s)
  other_sign e x s =
      pick_sign x s (is_digit_of x) _ _ (inl (number_null x s)) (pick_sign x s (nat_le 128 x) _ _ (inl (beyond_null e (x ∷ s))) (mark_sign e x s))

  -- the first token of a text
  pub token_sign : (e : Edition) (x : ℕ) (s : List ℕ) → IsSign f x s (token_of e (x ∷ s))
  unfolding token_of
  token_sign e x s =
      pick_sign x s (is_in_of classes.Space x) _ _ (inl (space_null (x ∷ s)))
      (pick_sign x s (is_letter_of x || x == 95) _ _ (inl (letter_null e x (x ∷ s) s)) (other_sign e x s))

-- ---- signs

abbrev Signs : Type 0
Signs = List (ℕ × SyntaxKind)

-- the bytes that are signs, each with the kind of its sign
abbrev pub signs : Signs
signs =
    (59, Token token.SEMICOLON) ∷ (44, Token token.COMMA) ∷ (46, Token token.DOT)
    ∷ (40, Token token.L_PAREN) ∷ (41, Token token.R_PAREN) ∷ (123, Token token.L_CURLY) ∷ (125, Token token.R_CURLY)
    ∷ (91, Token token.L_BRACK) ∷ (93, Token token.R_BRACK) ∷ (60, Token token.L_ANGLE) ∷ (62, Token token.R_ANGLE)
    ∷ (64, Token token.AT) ∷ (35, Token token.POUND) ∷ (36, Token token.DOLLAR) ∷ (126, Token token.TILDE)
    ∷ (63, Token token.QUESTION) ∷ (38, Token token.AMP) ∷ (124, Token token.PIPE) ∷ (43, Token token.PLUS)
    ∷ (42, Token token.STAR) ∷ (47, Token token.SLASH) ∷ (94, Token token.CARET) ∷ (37, Token token.PERCENT)
    ∷ (58, Token token.COLON) ∷ (61, Token token.EQ) ∷ (33, Token token.BANG) ∷ (45, Token token.MINUS) ∷ []

abbrev sign_in : Signs → ℕ → SyntaxKind
sign_in [] b = Token token.ERROR
sign_in (r ∷ rs) b = if b == r.0 then r.1 else sign_in rs b

-- the test holds of each sign and its byte
abbrev pub all_signs : (ℕ → SyntaxKind → Bool) → Signs → Bool
all_signs g [] = true
all_signs g (r ∷ rs) = g r.0 r.1 && all_signs g rs

sign_on : (g : ℕ → SyntaxKind → Bool) (b n : ℕ) (k l : SyntaxKind) (c : Bool) → (b == n) ≡ c → g n k ≡ true → g b l ≡ true → g b (if c then k else l) ≡ true
sign_on g b n k l true e h r = ap (λ (m : ℕ). g m k) (eqb-true b n e) ∙ h
sign_on g b n k l false e h r = r

sign_found : (g : ℕ → SyntaxKind → Bool) (b : ℕ) (rs : Signs) → g b (Token token.ERROR) ≡ true → all_signs g rs ≡ true → g b (sign_in rs b) ≡ true
sign_found g b [] e h = e
sign_found g b (r ∷ rs) e h =
    sign_on g b r.0 r.1 (sign_in rs b) (b == r.0) refl (and_parts (g r.0 r.1) (all_signs g rs) h).0
    (sign_found g b rs e (and_parts (g r.0 r.1) (all_signs g rs) h).1)

-- a test that holds of each sign holds of any byte and the kind of sign that it is
pub sign_passes : (g : ℕ → SyntaxKind → Bool) (b : ℕ) → g b (Token token.ERROR) ≡ true → all_signs g signs ≡ true → g b (sign_kind_of b) ≡ true
sign_passes g b e h = sign_found g b signs e h
