-- A piece of a text is laid in its place as it is laid by itself, and what is around it as if any
-- other piece were there: laws of the definitions.
use Rattle.std.specs.Prelude.{◌≡◌, ℕ, ◌+◌, ◌-◌, ◌≤◌, ◌<◌, ◌^◌, nat_le, Bool, true, false, if◌then◌else◌, Option, Some, None, option_map, option_and_then, List, [], ◌∷◌, ◌++◌, map, length, drop, reverse, All}
use Rattle.syntax_kind.specs.declared.syntax_kind.SyntaxKind.{SyntaxKind}
use Rattle.ras_front_end.specs.Reading.{FrontStep, begins, takes, ends, reports}
use Rattle.token_layout.specs.declared.span.Token.{Token as RawToken}
use Rattle.token_layout.specs.Laid.{IsCut}
use Rattle.grammar_machine.specs.declared.event.Event.{Event}
use Rattle.grammar_machine.specs.declared.event.Event.TheVariants.{Token, Piece, Node, Error}
use Rattle.grammar_machine.specs.Framing.{moved_events}
use Rattle.grammar_machine.specs.Filling.{event_later, inserted}
use Rattle.event_layout.specs.declared.layout.ParserError.{ParserError}
use Rattle.event_layout.specs.Trivia.{lead, attaches_of}
use Rattle.event_layout.specs.Layout.{Laying, root_of, laid_of}
use Rattle.event_layout.specs.Amid.{faults_amid}

-- a part of a text, its tokens, and the events that a parser made of them
pub record Stretch : Type 0 where
  pub text : List ℕ
  pub tokens : List RawToken
  pub events : List Event

-- what is around a piece, and the kind of its node; behind it, events are numbered as if the piece
-- were one event
pub record Setting : Type 0 where
  pub before : Stretch
  pub kind : SyntaxKind
  pub behind : Stretch

-- the events with those of a piece in its place, and behind these its node
abbrev pub events_in : Setting → List Event → List Event
events_in s es = s.before.events ++ (moved_events (length s.before.events) es
    ++ Node s.kind (length s.before.events)
    ∷ map (event_later (length s.before.events) (length es)) s.behind.events)

abbrev pub set_in : Setting → Stretch → Stretch
set_in s p = record {
  text = s.before.text ++ (p.text ++ s.behind.text);
  tokens = s.before.tokens ++ (p.tokens ++ s.behind.tokens);
  events = events_in s p.events;
}

-- the piece by itself
abbrev pub alone : SyntaxKind → Stretch → Stretch
alone k p = record p { events = p.events ++ Node k 0 ∷ [] }

abbrev pub laid : SyntaxKind → List SyntaxKind → Stretch → Laying
laid root attaching p = laid_of root attaching p.text p.tokens p.events

-- ---- which tokens events take

abbrev pub past_lead : List RawToken → List RawToken
past_lead ts = drop (lead ts) ts

abbrev pub taken : ℕ → List RawToken → Option (List RawToken)
taken n ts = if nat_le n (length ts) then Some (drop n ts) else None

-- what an event leaves of the tokens; nothing is said where it finds too few of them
abbrev pub left_by : Event → List RawToken → Option (List RawToken)
left_by (Token k signs) ts = taken (signs - 1 + 1) (past_lead ts)
left_by (Piece p last) ts =
    if last then taken 1 (past_lead ts) else option_map (λ us. ts) (taken 1 (past_lead ts))
left_by (Node k from) ts = Some ts
left_by (Error m) ts = Some ts

abbrev pub left_after : List Event → List RawToken → Option (List RawToken)
left_after [] ts = Some ts
left_after (e ∷ es) ts = option_and_then (left_after es) (left_by e ts)

abbrev pub is_error_of : Event → Bool
is_error_of (Error m) = true
is_error_of (Token k signs) = false
is_error_of (Piece p last) = false
is_error_of (Node k from) = false

-- ---- the law

pub record IsSetting (attaching : List SyntaxKind) (s : Setting) : Type 0 where
  -- of the lexer
  pub cut_before : IsCut s.before.tokens s.before.text
  pub cut_behind : IsCut s.behind.tokens s.behind.text
  -- the events before the piece take their tokens, but for white space and comments at the end: the
  -- sights that the machine took before the call
  pub taken : option_map past_lead (left_after s.before.events s.before.tokens) ≡ Some []
  -- a node that ends behind the piece is around it: that of the grammar's first rule
  pub around : root_of s.behind.events < length s.behind.events
  -- no comments before the piece go into its node: of the list of kinds
  pub apart : attaches_of attaching s.kind ≡ false

pub record IsPiece (p : Stretch) : Type 0 where
  -- of the lexer; no white space and no comment comes first
  pub cut : IsCut p.tokens p.text
  pub some : 0 < length p.tokens
  pub first : lead p.tokens ≡ 0
  -- the events take all tokens: `ReadsPiece.at` of the machine, over their sights
  pub taken : left_after p.events p.tokens ≡ Some []
  -- after the last token they only say errors: where the last token is the last child of the
  -- piece's node
  pub body : List Event
  pub kind : SyntaxKind
  pub signs : ℕ
  pub errors : List Event
  pub events : p.events ≡ body ++ Token kind signs ∷ errors
  pub last : All (λ e. is_error_of e ≡ true) errors

pub record IsShort (p : Stretch) : Type 0 where
  pub text : length p.text < 2 ^ 32
  pub events : length p.events < 2 ^ 32

-- how many bytes steps take
abbrev pub bytes_taken : List FrontStep → ℕ
bytes_taken [] = 0
bytes_taken (begins k ∷ es) = bytes_taken es
bytes_taken (takes k n ∷ es) = n + bytes_taken es
bytes_taken (ends ∷ es) = bytes_taken es
bytes_taken (reports m p ∷ es) = bytes_taken es

-- what is laid before and behind the piece is the same for all pieces
pub record LaidAround (root : SyntaxKind) (attaching : List SyntaxKind) (s : Setting) : Type 0 where
  pub before : List FrontStep
  pub behind : List FrontStep
  pub faults_before : List ParserError
  pub faults_behind : List ParserError
  -- what is laid before it takes the text before it
  pub bytes : (p : Stretch) → IsPiece p → IsShort (set_in s p) → length s.before.text < 2 ^ 32 - 1 → bytes_taken before ≡ length s.before.text
  pub steps : (p : Stretch) → IsPiece p → IsShort (set_in s p)
      → (laid root attaching (set_in s p)).steps
      ≡ before ++ ((laid s.kind attaching (alone s.kind p)).steps ++ behind)
  pub faults : (p : Stretch) → IsPiece p → IsShort (set_in s p)
      → (laid root attaching (set_in s p)).faults
      ≡ faults_amid 0 (length (p.tokens ++ s.behind.tokens)) faults_before
      ++ (faults_amid (length s.before.text) (length s.behind.tokens)
      (laid s.kind attaching (alone s.kind p)).faults
      ++ faults_amid (length (s.before.text ++ p.text)) 0 faults_behind)
  -- the errors before it are in the text before it, and those behind it among the tokens behind it
  pub lie_before : (p : Stretch) → IsPiece p → IsShort (set_in s p)
      → All (λ f. f.position ≤ length s.before.text) faults_before
  pub lie_behind : (p : Stretch) → IsPiece p → IsShort (set_in s p)
      → All (λ f. f.left ≤ length s.behind.tokens) faults_behind

abbrev pub PiecesAreLaidInPlace : Type 0
PiecesAreLaidInPlace =
    (root : SyntaxKind) (attaching : List SyntaxKind) (s : Setting)
    → IsSetting attaching s → LaidAround root attaching s

-- ---- the events of a run

-- what the law of replaced pieces says of events, last first, is in order what is set in: behind a
-- sealed call, with the events of the call moved to its place
abbrev pub FilledEventsAreSetIn : Type 0
FilledEventsAreSetIn =
    (s : Setting) (es : List Event)
    → reverse (inserted (length s.before.events)
    (reverse (moved_events (length s.before.events) es))
    (reverse s.behind.events
    ++ Node s.kind (length s.before.events) ∷ reverse s.before.events))
    ≡ events_in s es
