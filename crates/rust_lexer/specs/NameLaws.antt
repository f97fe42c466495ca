-- Names and white space past ASCII, in terms of their characters: a law of the definitions. Source:
-- the Rust Reference, "Identifiers" and "Whitespace".
use Rattle.std.specs.Prelude.{◌≡◌, ℕ, Bool, true, false, Some, List, drop}
use Rattle.bstr.specs.Utf8.{decoded}
use Rattle.rust_lexer.specs.declared.class.Class.TheVariants as classes
use Rattle.rust_lexer.specs.declared.class.Wide.{Wide}
use Rattle.rust_lexer.specs.Classes.{is_in_of, is_wide_of, is_name_continue_of, test_on, begins_beyond_of, skip_wide_of}
use Rattle.rust_lexer.specs.Fronts.{FollowsLongest}
use Rattle.rust_lexer.specs.Names.{skip_name_of}

-- the second text is the rest of the first after the longest prefix whose characters pass the test
pub data FollowsCharacters : (ℕ → Bool) → List ℕ → List ℕ → Type 0 where
  ends : (test : ℕ → Bool) (s : List ℕ) → test_on test (decoded s).char ≡ false → FollowsCharacters test s s
  goes_on : (test : ℕ → Bool) (s r : List ℕ) (c : ℕ) → (decoded s).char ≡ Some c → test c ≡ true → FollowsCharacters test (drop (decoded s).size s) r → FollowsCharacters test s r

-- r is the rest after a name whose first character was read: letters, digits and `_`, and if a
-- character past ASCII follows these, characters of XID_Continue
pub record NameRead (s r : List ℕ) : Type 0 where
  pub middle : List ℕ
  pub in_ascii : FollowsLongest (is_in_of classes.Name) s middle
  pub past_ascii : begins_beyond_of middle ≡ true → FollowsCharacters is_name_continue_of middle r
  pub all_ascii : begins_beyond_of middle ≡ false → r ≡ middle

-- white space, the rest of a name and emoji past ASCII are read to the end of the longest prefix in
-- their class
abbrev pub LongestCharacters : Type 0
LongestCharacters = (w : Wide) (s : List ℕ) → FollowsCharacters (is_wide_of w) s (skip_wide_of w s)

abbrev pub NamesAreRead : Type 0
NamesAreRead = (s : List ℕ) → NameRead s (skip_name_of s)
