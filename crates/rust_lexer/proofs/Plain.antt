-- The first token, where its first byte says what it is.
use Rattle.std.proofs.Common.{◌≡◌, ◌∙◌, ℕ, Bool, true, false, not, nat_le, ◌==◌, ◌&&◌, ◌||◌, if◌then◌else◌, Some, List, [], ◌∷◌, ◌<◌, arith, take, drop, slice_get, length, ◌-◌, ap, refl}
use Rattle.literal_escape.specs.declared.mode.Mode.TheVariants as modes
use Rattle.syntax_kind.specs.declared.syntax_kind.SyntaxKind.TheVariants.{Token}
use Rattle.syntax_kind.specs.declared.syntax_kind.token_kind.TokenKind.TheVariants as token
use Rattle.ras_front_end.specs.declared.edition.Edition.{Edition}
use Rattle.rust_lexer.specs.declared.class.Class.TheVariants as classes
use Rattle.rust_lexer.specs.declared.class.Wide.TheVariants as wides
use Rattle.rust_lexer.specs.Classes.{is_in_of, is_letter_of, is_digit_of, begins_of, begins_beyond_of, skip_of, skip_wide_of}
use Rattle.rust_lexer.specs.Fast.{is_alone_of, begins_word_of, opens_literal_of}
use Rattle.rust_lexer.specs.Names.{name_of, begins_name_of, skip_name_of, is_literal_mark_of, prefix_of, begins_wide_emoji_of, begins_emoji_of, emoji_name_of, word_kind_of}
use Rattle.rust_lexer.specs.Cuts.{front_of, IsEnd}
use Rattle.std.specs.Str.{IsUtf8}
use Rattle.std.proofs.lemmas.Str.{IsCharBoundary-after_ascii}
use Rattle.std.proofs.lemmas.Bool.Decides.{nat_tests}
use Rattle.rust_lexer.proofs.Cutting.{cut-end}
use Rattle.rust_lexer.specs.RawStrings.{raw_string_of}
use Rattle.rust_lexer.specs.Shapes.{plain_of}
use Rattle.rust_lexer.specs.Numbers.{number_of}
use Rattle.rust_lexer.specs.Quotes.{string_of, character_of, character_or_lifetime_of}
use Rattle.rust_lexer.specs.Tokens.{space_of, sign_of, slash_of, pound_of, beyond_of, opens_raw_of, letter_of, other_of, token_on, token_of}

-- none of the tests holds
last_of : {A : Type 0} (i j k l m n o p : Bool) (a b c d e f g h z : A)
    → (not i && not j && not k && not l && not m && not n && not o && not p) ≡ true
    → (if i then a else (if j then b else (if k then c else (if l then d else (if m then e else (if n then f else (if o then g else (if p then h else z)))))))) ≡ z
last_of true j k l m n o p a b c d e f g h z t = cc
last_of false true k l m n o p a b c d e f g h z t = cc
last_of false false true l m n o p a b c d e f g h z t = cc
last_of false false false true m n o p a b c d e f g h z t = cc
last_of false false false false true n o p a b c d e f g h z t = cc
last_of false false false false false true o p a b c d e f g h z t = cc
last_of false false false false false false true p a b c d e f g h z t = cc
last_of false false false false false false false true a b c d e f g h z t = cc
last_of false false false false false false false false a b c d e f g h z t = refl

pub sign_alone : (e : Edition) (s : List ℕ) (b : ℕ) → slice_get s 0 ≡ Some b → is_alone_of b ≡ true → token_of e s ≡ sign_of b (drop 1 s)
unfolding token_of
sign_alone e s b at alone =
    ap (token_on e s) at
    ∙ last_of (is_in_of classes.Space b) (is_letter_of b || b == 95) (is_digit_of b) (nat_le 128 b) (b == 47) (b == 34) (b == 39) (b == 35)
    (space_of s) (letter_of e b s (drop 1 s)) (number_of b (drop 1 s)) (beyond_of e s)
    (slash_of (drop 1 s)) (string_of modes.Str (drop 1 s)) (character_or_lifetime_of (drop 1 s)) (pound_of e (drop 1 s)) (sign_of b (drop 1 s))
    alone

-- i, j, k: the letter is r, b, c; p, q, n: a quote, a # and a name follow; m: r and then a quote or
-- a # do; o: a single quote does
named : {A : Type 0} (i j k p q n m o : Bool) (a b c d e f g z : A)
    → ((i || j || k) && ((p || q) || o || m)) ≡ false
    → (if i then (if q && n then a else (if p || q then b else z)) else (if j then (if m then c else (if p then d else (if o then e else z))) else (if k then (if m then f else (if p then g else z)) else z))) ≡ z
named false false false p q n m o a b c d e f g z t = refl
named true j k false false n false false a b c d e f g z t = refl
named false true k false false n false false a b c d e f g z t = refl
named false false true false false n false false a b c d e f g z t = refl
named true j k true q n m o a b c d e f g z t = cc
named true j k false true n m o a b c d e f g z t = cc
named true j k false false n m true a b c d e f g z t = cc
named true j k false false n true false a b c d e f g z t = cc
named false true k true q n m o a b c d e f g z t = cc
named false true k false true n m o a b c d e f g z t = cc
named false true k false false n m true a b c d e f g z t = cc
named false true k false false n true false a b c d e f g z t = cc
named false false true true q n m o a b c d e f g z t = cc
named false false true false true n m o a b c d e f g z t = cc
named false false true false false n m true a b c d e f g z t = cc
named false false true false false n true false a b c d e f g z t = cc

pub letter_named : (e : Edition) (s r : List ℕ) (b : ℕ) → opens_literal_of b r ≡ false → letter_of e b s r ≡ name_of e s
letter_named e s r b h =
    named (b == 114) (b == 98) (b == 99) (begins_of 34 r) (begins_of 35 r) (begins_name_of (drop 1 r)) (begins_of 114 r && opens_raw_of (drop 1 r)) (begins_of 39 r)
    (plain_of (Token token.IDENT) (length (skip_name_of (drop 1 r)))) (raw_string_of (Token token.STRING) r)
    (raw_string_of (Token token.BYTE_STRING) (drop 1 r)) (string_of modes.ByteStr (drop 1 r)) (character_of modes.Byte (drop 1 r))
    (raw_string_of (Token token.C_STRING) (drop 1 r)) (string_of modes.CStr (drop 1 r)) (name_of e s)
    h

first_branch : {A : Type 0} (i : Bool) (a b : A) → i ≡ true → (if i then a else b) ≡ a
first_branch true a b h = refl
first_branch false a b h = cc

second_branch : {A : Type 0} (i j : Bool) (a b c : A) → i ≡ false → j ≡ true → (if i then a else (if j then b else c)) ≡ b
second_branch false true a b c f t = refl
second_branch true j a b c f t = cc
second_branch false false a b c f t = cc

pub space_first : (e : Edition) (s : List ℕ) (b : ℕ) → slice_get s 0 ≡ Some b → is_in_of classes.Space b ≡ true → token_of e s ≡ space_of s
unfolding token_of
space_first e s b at blank = ap (token_on e s) at ∙ first_branch (is_in_of classes.Space b) (space_of s) (if is_letter_of b || b == 95 then letter_of e b s (drop 1 s) else other_of e b s (drop 1 s)) blank

pub word_first : (e : Edition) (s : List ℕ) (b : ℕ) → slice_get s 0 ≡ Some b → is_in_of classes.Space b ≡ false → begins_word_of b ≡ true → token_of e s ≡ letter_of e b s (drop 1 s)
unfolding token_of
word_first e s b at blank word =
    ap (token_on e s) at
    ∙ second_branch (is_in_of classes.Space b) (is_letter_of b || b == 95) (space_of s) (letter_of e b s (drop 1 s)) (other_of e b s (drop 1 s)) blank word

third_branch : {A : Type 0} (i j : Bool) (a b c : A) → i ≡ false → j ≡ false → (if i then a else (if j then b else c)) ≡ c
third_branch false false a b c f g = refl
third_branch true j a b c f g = cc
third_branch false true a b c f g = cc

other_branch : {A : Type 0} (i : Bool) (a b : A) → i ≡ false → (if i then a else b) ≡ b
other_branch false a b h = refl
other_branch true a b h = cc

neither : (a b : Bool) → a ≡ false → (a && b) ≡ false
neither false b h = refl
neither true b h = cc

name_rest : (s r : List ℕ) → skip_of classes.Name s ≡ r → begins_beyond_of r ≡ false → skip_name_of s ≡ r
name_rest s r is ascii =
    ap (λ (x : List ℕ). if begins_beyond_of x then skip_wide_of wides.Name x else x) is
    ∙ other_branch (begins_beyond_of r) (skip_wide_of wides.Name r) r ascii

pub name_plain : (e : Edition) (s r : List ℕ) (n : ℕ) → skip_of classes.Name s ≡ r → begins_beyond_of r ≡ false → is_literal_mark_of r ≡ false → length r ≡ length s - n → IsEnd s n → name_of e s ≡ plain_of (word_kind_of e (take n s)) (length s - n)
name_plain e s r n is ascii unmarked len end =
    ap (λ (x : List ℕ). if is_literal_mark_of x then prefix_of (front_of (length x) s) (length x) else (if begins_wide_emoji_of x then emoji_name_of x else plain_of (word_kind_of e (front_of (length x) s)) (length x))) (name_rest s r is ascii)
    ∙ (third_branch (is_literal_mark_of r) (begins_wide_emoji_of r) (prefix_of (front_of (length r) s) (length r)) (emoji_name_of r) (plain_of (word_kind_of e (front_of (length r) s)) (length r)) unmarked (neither (begins_beyond_of r) (begins_emoji_of r) ascii)
    ∙ (ap (λ (m : ℕ). plain_of (word_kind_of e (front_of m s)) m) len
    ∙ ap (λ (i : ℕ). plain_of (word_kind_of e (take i s)) (length s - n)) (cut-end n s end)))

fourth : (i j k l m n o p : Bool) → (not i && not j && not k && not l && not m && not n && not o && not p) ≡ true → l ≡ false
fourth true j k l m n o p h = cc
fourth false true k l m n o p h = cc
fourth false false true l m n o p h = cc
fourth false false false true m n o p h = cc
fourth false false false false m n o p h = refl

alone_ascii : (b : ℕ) → is_alone_of b ≡ true → b < 128
alone_ascii b h =
    let ascii : nat_le 128 b ≡ false = fourth (is_in_of classes.Space b) (begins_word_of b) (is_digit_of b) (nat_le 128 b) (b == 47) (b == 34) (b == 39) (b == 35) h in
    grind (arith, nat_tests, ascii)

pub sign_end : (s : List ℕ) (b : ℕ) → IsUtf8 s → slice_get s 0 ≡ Some b → is_alone_of b ≡ true → IsEnd s 1
sign_end [] b u at alone = cc
sign_end (x ∷ xs) b u at alone =
    let same : x ≡ b = cc in
    let ascii : x < 128 = rw same (alone_ascii b alone) in
    (omega arith, IsCharBoundary-after_ascii (x ∷ xs) 0 u (omega arith) ascii)
