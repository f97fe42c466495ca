-- Where a character ends, in terms of its text: a law of the definitions. Source: the Rust
-- Reference, "Tokens", on character literals.
use Rattle.std.specs.Prelude.{◌≡◌, ◌≢◌, ℕ, List, [], ◌∷◌, ◌++◌}
use Rattle.rust_lexer.specs.declared.scan.Scan.TheVariants.{Quote, Closed}
use Rattle.rust_lexer.specs.Scans.{run_of}

-- what may be between the quotes of a character: no quote, backslash, slash or newline, except
-- after a backslash, and one newline right before the closing quote; whether it is a single
-- character is checked later
pub data CharacterContent : List ℕ → Type 0 where
  nothing : CharacterContent []
  newline : CharacterContent (10 ∷ [])
  plain : (b : ℕ) (s : List ℕ) → b ≢ 39 → b ≢ 92 → b ≢ 10 → b ≢ 47 → CharacterContent s → CharacterContent (b ∷ s)
  escape : (b : ℕ) (s : List ℕ) → CharacterContent s → CharacterContent (92 ∷ b ∷ s)

-- what is between the opening quote of a character and what follows its closing one
pub record CharacterRead (s r : List ℕ) : Type 0 where
  pub content : List ℕ
  pub parts : s ≡ content ++ 39 ∷ r
  pub is_content : CharacterContent content

-- a character is read to the quote after its content
abbrev pub CharactersAreRead : Type 0
CharactersAreRead = (s : List ℕ) → (run_of Quote s).0 ≡ Closed → CharacterRead s (run_of Quote s).1

-- and whatever content precedes a quote is read
abbrev pub CharacterContentsAreRead : Type 0
CharacterContentsAreRead = (content r : List ℕ) → CharacterContent content → run_of Quote (content ++ 39 ∷ r) ≡ (Closed, r)
