-- The events of a run take the tokens whose sights it took: a law of the definitions.
use Rattle.std.specs.Prelude.{◌≡◌, ℕ, ◌<◌, ◌+◌, ◌-◌, ◌^◌, false, Some, option_map, List, [], ◌∷◌, ◌++◌, length, reverse, slice_get}
use Rattle.syntax_kind.specs.declared.syntax_kind.SyntaxKind.{SyntaxKind}
use Rattle.syntax_kind.specs.Kinds.{is_trivia}
use Rattle.token_layout.specs.declared.span.Token.{Token as RawToken}
use Rattle.grammar_machine.specs.declared.event.Event.{Event}
use Rattle.grammar_machine.specs.declared.grammar.Sight.{Sight}
use Rattle.grammar_machine.specs.Running.{Tables, runs, begin_of}
use Rattle.grammar_machine.specs.Reading.{IsSealedRule}
use Rattle.grammar_machine.specs.Exchanging.{ReadsAlone}
use Rattle.event_layout.specs.Filled.{past_lead, left_after}
use Rattle.event_layout.specs.Finding.{AreSightsOf}

-- the next token, if there is one, has no parts
abbrev pub NextIsPlain : List Sight → Type 0
NextIsPlain ss = (s : Sight) → slice_get ss 0 ≡ Some s → s.word ≡ 0

-- the tokens end with one that is neither white space nor a comment
pub record EndsSeen (ts : List RawToken) : Type 0 where
  pub front : List RawToken
  pub last : RawToken
  pub is : ts ≡ front ++ last ∷ []
  pub seen : is_trivia last.kind ≡ false

-- where a run has taken the first part of its tokens, its events take all tokens of that part, but
-- for white space and comments at the end
abbrev pub RunsTakeTheirTokens : Type 0
RunsTakeTheirTokens =
    (n : ℕ) (g : Tables) (rule : ℕ) (before behind : List Sight) (ts : List RawToken)
    → length (before ++ behind) + 3 < 2 ^ 64 → AreSightsOf before ts → NextIsPlain behind
    → (runs n g (before ++ behind) (begin_of rule)).place.at ≡ length before
    → option_map past_lead
    (left_after (reverse (runs n g (before ++ behind) (begin_of rule)).made.events) ts) ≡ Some []

-- the events of a piece that is read alone take all its tokens
abbrev pub PiecesTakeTheirTokens : Type 0
PiecesTakeTheirTokens =
    (g : Tables) (rule target : ℕ) (k : SyntaxKind) (piece : List Sight)
    (es : List Event) (ts : List RawToken)
    → IsSealedRule g rule target k → ReadsAlone g rule k piece es
    → length piece + 3 < 2 ^ 64 → length es + 1 < 2 ^ 32 - 1
    → AreSightsOf piece ts → EndsSeen ts → left_after es ts ≡ Some []
