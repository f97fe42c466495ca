-- Which tokens events leave, by how many they take: a law of the definitions.
use Rattle.std.specs.Prelude.{◌≡◌, ◌<◌, ◌≤◌, if◌then◌else◌, Some, option_map, List, [], ◌∷◌, length, take, drop}
use Rattle.syntax_kind.specs.Kinds.{is_trivia}
use Rattle.token_layout.specs.declared.span.Token.{Token as RawToken}
use Rattle.grammar_machine.specs.declared.event.Event.{Event}
use Rattle.grammar_machine.specs.declared.event.Event.TheVariants.{Token, Piece, Node, Error}
use Rattle.grammar_machine.specs.Counting.{taken_by}
use Rattle.event_layout.specs.Filled.{past_lead, left_by, left_after}

-- the tokens without white space and comments, which a parser sees
abbrev pub seen_tokens : List RawToken → List RawToken
seen_tokens [] = []
seen_tokens (t ∷ ts) = if is_trivia t.kind then seen_tokens ts else t ∷ seen_tokens ts

-- an event finds its tokens, and between those that it joins is nothing
abbrev pub FindsTokens : Event → List RawToken → Type 0
FindsTokens (Token k signs) ts =
    (0 < signs) × (signs ≤ length (past_lead ts))
    × (seen_tokens (take signs (past_lead ts)) ≡ take signs (past_lead ts))
FindsTokens (Piece p last) ts = 0 < length (past_lead ts)
FindsTokens (Node k from) ts = Unit
FindsTokens (Error m) ts = Unit

-- so do all, each in what those before it left
abbrev pub AllFind : List Event → List RawToken → Type 0
AllFind [] ts = Unit
AllFind (e ∷ es) ts =
    FindsTokens e ts × ((us : List RawToken) → left_by e ts ≡ Some us → AllFind es us)

-- they leave what is seen but for as many tokens as they take; if they take all, only white space
-- and comments are left
pub record LeavesSeen (es : List Event) (ts : List RawToken) : Type 0 where
  pub left : List RawToken
  pub is : left_after es ts ≡ Some left
  pub seen : seen_tokens left ≡ drop (taken_by es) (seen_tokens ts)
  pub all : taken_by es ≡ length (seen_tokens ts) → option_map past_lead (left_after es ts) ≡ Some []

abbrev pub EventsLeaveWhatIsSeen : Type 0
EventsLeaveWhatIsSeen = (es : List Event) (ts : List RawToken) → AllFind es ts → LeavesSeen es ts
