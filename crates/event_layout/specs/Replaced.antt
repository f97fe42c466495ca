-- A text in which one piece is replaced is laid as the old one, but for the piece: a law of the
-- definitions.
use Rattle.std.specs.Prelude.{◌≡◌, ℕ, ◌+◌, ◌-◌, ◌≤◌, ◌<◌, ◌^◌, true, false, List, [], ◌∷◌, ◌++◌, length, reverse, All}
use Rattle.syntax_kind.specs.declared.syntax_kind.SyntaxKind.{SyntaxKind}
use Rattle.ras_front_end.specs.Reading.{FrontStep}
use Rattle.token_layout.specs.declared.span.Token.{Token as RawToken}
use Rattle.token_layout.specs.Laid.{IsCut}
use Rattle.grammar_machine.specs.declared.event.Event.{Event}
use Rattle.grammar_machine.specs.declared.event.Event.TheVariants.{Node}
use Rattle.grammar_machine.specs.declared.grammar.Sight.{Sight}
use Rattle.grammar_machine.specs.Running.{Tables, is_among, run_of, events_of}
use Rattle.grammar_machine.specs.Filling.{LooksAreShort, Fits}
use Rattle.grammar_machine.specs.Reading.{IsSealedRule}
use Rattle.grammar_machine.specs.Exchanging.{ComesToCall, EndAlike, ReadsAlone}
use Rattle.event_layout.specs.declared.layout.ParserError.{ParserError}
use Rattle.event_layout.specs.Trivia.{lead, attaches_of}
use Rattle.event_layout.specs.Amid.{faults_amid}
use Rattle.event_layout.specs.Filled.{Stretch, laid, bytes_taken}
use Rattle.event_layout.specs.Finding.{AreSightsOf}
use Rattle.event_layout.specs.Placed.{NextIsPlain, EndsSeen}
use Rattle.event_layout.specs.Ending.{closes_last}

-- a part of a text, its tokens, and how a parser sees them in the whole text
pub record Part : Type 0 where
  pub text : List ℕ
  pub tokens : List RawToken
  pub sights : List Sight

abbrev pub sights_in : Part → Part → Part → List Sight
sights_in a p c = a.sights ++ (p.sights ++ c.sights)

-- a text with a piece in it, and the events that are made of the whole
abbrev pub whole_of : Tables → ℕ → Part → Part → Part → Stretch
whole_of g rule a p c = record {
  text = a.text ++ (p.text ++ c.text);
  tokens = a.tokens ++ (p.tokens ++ c.tokens);
  events = events_of g rule (sights_in a p c);
}

-- the piece by itself, and events that end with its node
abbrev pub piece_of : SyntaxKind → Part → List Event → Stretch
piece_of k p es = record { text = p.text; tokens = p.tokens; events = es ++ Node k 0 ∷ [] }

-- a piece that its rule reads alone, with the events that are made of it
pub record IsReadAlone
    (g : Tables) (rule : ℕ) (k : SyntaxKind) (p : Part) (es : List Event) : Type 0 where
  pub cut : IsCut p.tokens p.text
  pub sights : AreSightsOf p.sights p.tokens
  pub first : lead p.tokens ≡ 0
  pub last : EndsSeen p.tokens
  pub alone : ReadsAlone g rule k p.sights es
  pub closes : closes_last (reverse (es ++ Node k 0 ∷ [])) ≡ true

-- a piece's place: a run over the whole text comes there to a sealed call of the piece's rule
pub record IsPlace
    (g : Tables) (rule target : ℕ) (k : SyntaxKind) (attaching : List SyntaxKind) (a p c : Part)
    (made : ℕ) : Type 0 where
  pub cut_before : IsCut a.tokens a.text
  pub cut_behind : IsCut c.tokens c.text
  pub sights : AreSightsOf a.sights a.tokens
  pub plain : NextIsPlain (p.sights ++ c.sights)
  pub comes : ComesToCall g rule target k (sights_in a p c) (length a.sights) made
  -- of the tables
  pub sealed : is_among g.sealed k ≡ true
  pub apart : attaches_of attaching k ≡ false

-- events behind so many are the last ones, and a node ends last
pub record EndsInNode (n : ℕ) (es : List Event) : Type 0 where
  pub front : List Event
  pub kind : SyntaxKind
  pub from : ℕ
  pub is : es ≡ front ++ Node kind from ∷ []
  pub behind : n < length es

pub record IsSmall
    (g : Tables) (rule : ℕ) (a p c : Part) (made : ℕ) (es : List Event) : Type 0 where
  pub text : length (a.text ++ (p.text ++ c.text)) < 2 ^ 32
  pub sights : length (sights_in a p c) + 3 < 2 ^ 64
  pub fits : Fits (run_of g rule (sights_in a p c))
  pub events : (length es + 1) + made < 2 ^ 32 - 1

-- what is laid before and behind is the same, and the piece is laid as by itself
pub record LaidIn
    (root k : SyntaxKind) (attaching : List SyntaxKind) (g : Tables) (rule : ℕ) (a p c : Part)
    (es : List Event) (before behind : List FrontStep) (faults_before faults_behind : List ParserError)
    : Type 0 where
  pub steps : (laid root attaching (whole_of g rule a p c)).steps
      ≡ before ++ ((laid k attaching (piece_of k p es)).steps ++ behind)
  -- what is laid before the piece takes the text before it
  pub bytes : length a.text < 2 ^ 32 - 1 → bytes_taken before ≡ length a.text
  pub faults : (laid root attaching (whole_of g rule a p c)).faults
      ≡ faults_amid 0 (length (p.tokens ++ c.tokens)) faults_before
      ++ (faults_amid (length a.text) (length c.tokens) (laid k attaching (piece_of k p es)).faults
      ++ faults_amid (length (a.text ++ p.text)) 0 faults_behind)
  -- the errors before the piece are in the text before it, and those behind it among the tokens
  -- behind it
  pub lie_before : All (λ f. f.position ≤ length a.text) faults_before
  pub lie_behind : All (λ f. f.left ≤ length c.tokens) faults_behind

pub record LaidAround
    (root k : SyntaxKind) (attaching : List SyntaxKind) (g : Tables) (rule : ℕ) (a p q c : Part)
    (es fs : List Event) : Type 0 where
  pub before : List FrontStep
  pub behind : List FrontStep
  pub faults_before : List ParserError
  pub faults_behind : List ParserError
  pub was : LaidIn root k attaching g rule a p c es before behind faults_before faults_behind
  pub now : LaidIn root k attaching g rule a q c fs before behind faults_before faults_behind

abbrev pub ReplacedPiecesAreLaid : Type 0
ReplacedPiecesAreLaid =
    (root k : SyntaxKind) (attaching : List SyntaxKind) (g : Tables) (rule part target : ℕ)
    (a p q c : Part) (made : ℕ) (es fs : List Event)
    → LooksAreShort g → IsSealedRule g part target k
    → IsPlace g rule target k attaching a p c made
    → IsReadAlone g part k p es → IsReadAlone g part k q fs → EndAlike g p.sights q.sights
    → EndsInNode ((length es + 1) + made) (events_of g rule (sights_in a p c))
    → IsSmall g rule a p c made es → IsSmall g rule a q c made fs
    → LaidAround root k attaching g rule a p q c es fs
