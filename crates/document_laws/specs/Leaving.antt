-- Which of the lexer's tokens are left where a run has come to a token that has no parts.
use Rattle.std.specs.Prelude.{◌≡◌, ℕ, ◌+◌, ◌<◌, ◌^◌, Some, List, ◌++◌, length, reverse, slice_get}
use Rattle.token_layout.specs.declared.span.Token.{Token as RawToken}
use Rattle.grammar_machine.specs.declared.grammar.Sight.{Sight}
use Rattle.grammar_machine.specs.Running.{Tables, State, runs, begin_of}
use Rattle.event_layout.specs.Finding.{AreSightsOf}
use Rattle.event_layout.specs.Made.{past}
use Rattle.event_layout.specs.Taking.{seen_tokens}
use Rattle.event_layout.specs.Trivia.{lead}
use Rattle.document_laws.specs.Nodes.{made_left}

-- the tokens are cut where the state has come to: what its events leave of them, white space and
-- comments aside, is the second part, and the first part has as many other tokens as the state has
-- taken
pub record LeavesTokens (root : ℕ) (s : State) (ts : List RawToken) (text : List ℕ) : Type 0 where
  pub front : List RawToken
  pub back : List RawToken
  pub is : ts ≡ front ++ back
  pub first : lead back ≡ 0
  pub count : length (seen_tokens front) ≡ s.place.at
  pub left : (past (made_left root 0 (reverse s.made.events) (record { tokens = ts; text = text }))).tokens ≡ back

abbrev pub RunsLeaveTheirTokens : Type 0
RunsLeaveTheirTokens =
    (n root : ℕ) (g : Tables) (rule : ℕ) (ss : List Sight) (ts : List RawToken) (text : List ℕ) (s : Sight)
    → length ss + 3 < 2 ^ 64 → AreSightsOf ss ts
    → slice_get ss (runs n g ss (begin_of rule)).place.at ≡ Some s → s.word ≡ 0
    → LeavesTokens root (runs n g ss (begin_of rule)) ts text
