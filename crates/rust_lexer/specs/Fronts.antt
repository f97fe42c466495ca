-- Which prefix of a text each definition reads, in terms of the text: laws of the definitions.
-- Source: the Rust Reference, "Comments", "Whitespace", "Identifiers" and "Tokens".
use Rattle.std.specs.Prelude.{◌≡◌, ◌≢◌, ℕ, zero, suc, Bool, true, false, List, [], ◌∷◌, ◌++◌, All, slice_get}
use Rattle.rust_lexer.specs.declared.class.Class.{Class}
use Rattle.rust_lexer.specs.declared.scan.Scan.TheVariants.{Text, Raw, Closed}
use Rattle.rust_lexer.specs.Classes.{is_in_of, skip_of, test_on}
use Rattle.rust_lexer.specs.Scans.{run_of}

-- r is the rest of s after the longest prefix whose bytes pass the test
pub record FollowsLongest (test : ℕ → Bool) (s r : List ℕ) : Type 0 where
  pub front : List ℕ
  pub parts : s ≡ front ++ r
  pub all_pass : All (λ b. test b ≡ true) front
  pub next_fails : test_on test (slice_get r 0) ≡ false

-- white space, the letters of a name, digits, the rest of a line: the longest prefix in their class
-- is read
abbrev pub LongestFronts : Type 0
LongestFronts = (c : Class) (s : List ℕ) → FollowsLongest (is_in_of c) s (skip_of c s)

-- the content of a string: characters but quotes and backslashes, and backslashes with a character
-- after each
pub data StringContent : List ℕ → Type 0 where
  nothing : StringContent []
  plain : (b : ℕ) (s : List ℕ) → b ≢ 34 → b ≢ 92 → StringContent s → StringContent (b ∷ s)
  escape : (b : ℕ) (s : List ℕ) → StringContent s → StringContent (92 ∷ b ∷ s)

-- what is between the opening quote of a string and what follows its closing one
pub record StringRead (s r : List ℕ) : Type 0 where
  pub content : List ℕ
  pub parts : s ≡ content ++ 34 ∷ r
  pub is_content : StringContent content

-- a string is read to the quote after its content
abbrev pub StringsAreRead : Type 0
StringsAreRead = (s : List ℕ) → (run_of Text s).0 ≡ Closed → StringRead s (run_of Text s).1

-- and whatever content precedes a quote is read
abbrev pub ContentsAreRead : Type 0
ContentsAreRead = (content r : List ℕ) → StringContent content → run_of Text (content ++ 34 ∷ r) ≡ (Closed, r)

-- n signs #
abbrev pub hashes : ℕ → List ℕ
hashes zero = []
hashes (suc n) = 35 ∷ hashes n

-- what is between the opening quote of a raw string with h signs # and what follows its closing
-- ones
pub record RawRead (h : ℕ) (s r : List ℕ) : Type 0 where
  pub content : List ℕ
  pub parts : s ≡ content ++ 34 ∷ (hashes h ++ r)

-- a raw string is read up to a quote with as many # after it as it began with
abbrev pub RawStringsAreRead : Type 0
RawStringsAreRead = (h : ℕ) (s : List ℕ) → (run_of (Raw h) s).0 ≡ Closed → RawRead h s (run_of (Raw h) s).1
