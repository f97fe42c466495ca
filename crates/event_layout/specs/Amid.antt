-- What is laid of a part of a text does not depend on what is around it: a law of the definitions.
use Rattle.std.specs.Prelude.{◌≡◌, ℕ, ◌+◌, ◌-◌, ◌<◌, ◌≤◌, ◌^◌, List, [], ◌∷◌, ◌++◌, map, length}
use Rattle.syntax_kind.specs.declared.syntax_kind.SyntaxKind.{SyntaxKind}
use Rattle.ras_front_end.specs.Reading.{FrontStep}
use Rattle.token_layout.specs.declared.span.Token.{Token as RawToken}
use Rattle.event_layout.specs.declared.layout.ParserError.{ParserError}
use Rattle.event_layout.specs.Trivia.{lead, part_of}
use Rattle.event_layout.specs.Layout.{Laying}
use Rattle.event_layout.specs.Orders.{Order, begin_node, take_joined, take_part, end_node, say, nothing, ordered, walked}

-- what is around a part: how many bytes are before it, the tokens behind it, how many nodes are
-- open, and what is laid already
pub record Around : Type 0 where
  pub bytes : ℕ
  pub behind : List RawToken
  pub open_nodes : ℕ
  pub steps : List FrontStep
  pub faults : List ParserError

abbrev pub fault_amid : ℕ → ℕ → ParserError → ParserError
fault_amid bytes tokens f = record f { position = f.position + bytes; left = f.left + tokens }

-- the errors of a part, with so many bytes before it and so many tokens behind it
abbrev pub faults_amid : ℕ → ℕ → List ParserError → List ParserError
faults_amid bytes tokens fs = map (fault_amid bytes tokens) fs

-- a state of the part's layout, as it is with all that is around
abbrev pub amid : Around → Laying → Laying
amid a s = record s {
  rest = s.rest ++ a.behind;
  position = s.position + a.bytes;
  depth = s.depth + a.open_nodes;
  steps = a.steps ++ s.steps;
  faults = a.faults ++ faults_amid a.bytes (length a.behind) s.faults;
}

-- the text is in the whole behind so many bytes
abbrev pub IsIn : List ℕ → ℕ → List ℕ → Type 0
IsIn text bytes whole = part_of whole bytes (length text) ≡ text

abbrev pub sum_len : List RawToken → ℕ
sum_len [] = 0
sum_len (t ∷ ts) = t.len + sum_len ts

abbrev pub first_len : List RawToken → ℕ
first_len [] = 0
first_len (t ∷ ts) = t.len

-- the tokens that are left, but for what is cut off the first, are as long as the text that is left
pub record Fits (text : List ℕ) (s : Laying) : Type 0 where
  pub sum : s.position + sum_len s.rest ≡ length text + s.cut
  pub cut : s.cut ≤ first_len s.rest
  pub whole : 0 < lead s.rest → s.cut ≡ 0
  pub short : sum_len s.rest ≤ length text

-- where the part has not so many tokens left, none are behind it
abbrev pub HasLeft : ℕ → Around → Laying → Type 0
HasLeft n a s = length s.rest < lead s.rest + n → a.behind ≡ []

-- an order meets nothing of what is around
abbrev pub Stays : Around → Order → Laying → Type 0
Stays a (begin_node k) s =
    (lead s.rest ≡ length s.rest → lead a.behind ≡ 0)
    × (0 < a.open_nodes → s.depth + a.open_nodes < 2 ^ 64 - 1)
Stays a (take_joined k more) s = HasLeft (more + 1) a s
Stays a (take_part p) s = HasLeft 1 a s
Stays a end_node s = 0 < a.open_nodes → 0 < s.depth
Stays a (say m) s = Unit
Stays a nothing s = Unit

-- so do all of them
abbrev pub AllStay : List ℕ → List SyntaxKind → Around → List Order → Laying → Type 0
AllStay text attaching a [] s = Unit
AllStay text attaching a (o ∷ os) s =
    Stays a o s × AllStay text attaching a os (ordered text attaching o s)

-- orders that meet nothing of what is around lay the same there
abbrev pub PartsAreLaidAlike : Type 0
PartsAreLaidAlike =
    (text whole : List ℕ) (attaching : List SyntaxKind) (a : Around) (os : List Order) (s : Laying)
    → IsIn text a.bytes whole → length text + a.bytes < 2 ^ 32
    → Fits text s → AllStay text attaching a os s
    → walked whole attaching os (amid a s) ≡ amid a (walked text attaching os s)
