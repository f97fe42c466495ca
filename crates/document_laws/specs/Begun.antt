-- A sealed call begins with the token that it takes.
use Rattle.std.specs.Prelude.{◌≡◌, Some, List, ◌∷◌, slice_get}
use Rattle.syntax_kind.specs.declared.syntax_kind.SyntaxKind.{SyntaxKind}
use Rattle.grammar_machine.specs.declared.event.Event.{Event}
use Rattle.grammar_machine.specs.declared.event.Event.TheVariants as event
use Rattle.grammar_machine.specs.declared.grammar.Sight.{Sight}
use Rattle.grammar_machine.specs.Exchanging.{Makes}
use Rattle.grammar_machine.specs.Running.{Tables, State, kind_of}
use Rattle.grammar_machine.specs.Sealing.{SealedCall}

-- the first of the events is a token, as the machine sees it
pub record BeginsWithSight (g : Tables) (t : Sight) (own : List Event) : Type 0 where
  pub later : List Event
  pub is : own ≡ event.Token (kind_of g t.one) 1 ∷ later

-- of the events that a sealed call makes, the first is of the token where it began
abbrev pub CallsBeginWithTheirToken : Type 0
CallsBeginWithTheirToken =
    (g : Tables) (ts : List Sight) (k : SyntaxKind) (s : State) (c : SealedCall g ts k s) (t : Sight) (own : List Event)
    → slice_get ts s.place.at ≡ Some t → Makes c own → BeginsWithSight g t own
