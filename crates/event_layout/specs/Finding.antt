-- Events find the tokens that were seen: a law of the definitions.
use Rattle.std.specs.Prelude.{◌≡◌, ℕ, ◌<◌, ◌≤◌, Some, List, ◌++◌, length, take, reverse, slice_get}
use Rattle.token_layout.specs.declared.span.Token.{Token as RawToken}
use Rattle.grammar_machine.specs.declared.event.Event.{Event}
use Rattle.grammar_machine.specs.declared.grammar.Sight.{Sight}
use Rattle.grammar_machine.specs.Seen.{AllSeen}
use Rattle.event_layout.specs.Trivia.{lead}
use Rattle.event_layout.specs.Taking.{seen_tokens, AllFind}

-- the first n tokens are there, and none of them is white space or a comment
abbrev pub StandTogether : ℕ → List RawToken → Type 0
StandTogether n ts = (n ≤ length ts) × (seen_tokens (take n ts) ≡ take n ts)

-- a token is seen together with others only where they stand together
pub record JoinsNext (s : Sight) (ts : List RawToken) : Type 0 where
  pub two : 0 < s.two → StandTogether 2 ts
  pub three : 0 < s.three → StandTogether 3 ts

-- each token that is neither white space nor a comment has a sight
pub record AreSightsOf (ss : List Sight) (ts : List RawToken) : Type 0 where
  pub count : length ss ≡ length (seen_tokens ts)
  pub joins : (before behind : List RawToken) (s : Sight) → ts ≡ before ++ behind → lead behind ≡ 0
      → slice_get ss (length (seen_tokens before)) ≡ Some s → JoinsNext s behind

abbrev pub EventsFindWhatIsSeen : Type 0
EventsFindWhatIsSeen =
    (ss : List Sight) (ts : List RawToken) (es : List Event)
    → AreSightsOf ss ts → AllSeen ss es → AllFind (reverse es) ts
