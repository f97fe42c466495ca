-- The first token of a text behind which there is a brace.
use Rattle.std.specs.Prelude.{◌≡◌, ◌⊎◌, ℕ, suc, ◌+◌, ◌<◌, ◌^◌, List, ◌∷◌, ◌++◌, length}
use Rattle.ras_front_end.specs.declared.edition.Edition.{Edition}
use Rattle.rust_lexer.specs.Cuts.{cut_of}
use Rattle.rust_lexer.specs.Tokens.{token_of}
use Rattle.lexer_laws.specs.Behind.{IsBrace, before}

-- it is that of the text without the brace, whatever follows the brace
abbrev pub EndsBefore : Edition → ℕ → List ℕ → Type 0
EndsBefore e b s =
    (y : List ℕ) → length s + length y < 2 ^ 32
    → token_of e (s ++ b ∷ y) ≡ before (suc (length y)) (token_of e s)

-- the brace is in it, whatever follows the brace
abbrev pub GoesOver : Edition → ℕ → List ℕ → Type 0
GoesOver e b s = (y : List ℕ) → length s < cut_of (token_of e (s ++ b ∷ y)).left (s ++ b ∷ y)

-- one of both holds
abbrev pub FirstTokensEnd : Type 0
FirstTokensEnd = (e : Edition) (b : ℕ) (s : List ℕ) → IsBrace b → 0 < length s → EndsBefore e b s ⊎ GoesOver e b s
