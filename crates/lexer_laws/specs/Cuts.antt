-- The tokens of a text that is cut at a brace.
use Rattle.std.specs.Prelude.{◌≡◌, ℕ, ◌+◌, ◌<◌, ◌^◌, IsUtf8, List, [], ◌∷◌, ◌++◌, length}
use Rattle.ras_front_end.specs.declared.edition.Edition.{Edition}
use Rattle.token_layout.specs.declared.span.Token.{Token}
use Rattle.rust_lexer.specs.Lexing.{steps_of, fresh}
use Rattle.rust_lexer.specs.Signs.{sign_kind_of}
use Rattle.lexer_laws.specs.Behind.{IsBrace}

-- the tokens of a text that is not at the head of a file
abbrev pub tokens_within : Edition → List ℕ → List Token
tokens_within e s = (steps_of (length s) e s (fresh s)).tokens

-- how many bytes the tokens take
abbrev pub bytes_of : List Token → ℕ
bytes_of [] = 0
bytes_of (t ∷ ts) = t.len + bytes_of ts

-- where the tokens of a text are cut before a brace, they are the same whatever follows the brace
abbrev pub BracesCut : Type 0
BracesCut =
    (e : Edition) (s u v : List ℕ) (b : ℕ) (ts us : List Token) → IsBrace b
    → length (s ++ b ∷ u) < 2 ^ 32 → length (s ++ b ∷ v) < 2 ^ 32
    → tokens_within e (s ++ b ∷ u) ≡ ts ++ us → bytes_of ts ≡ length s
    → tokens_within e (s ++ b ∷ v) ≡ ts ++ tokens_within e (b ∷ v)

-- a brace at the front of a text is a token of one byte
abbrev pub BracesAreTokens : Type 0
BracesAreTokens =
    (e : Edition) (b : ℕ) (s : List ℕ) → IsBrace b → IsUtf8 s
    → tokens_within e (b ∷ s) ≡ record { kind = sign_kind_of b; len = 1 } ∷ tokens_within e s
