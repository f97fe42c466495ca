-- A run's events take as many tokens as it has taken: a law of the definitions.
use Rattle.std.specs.Prelude.{◌≡◌, ℕ, ◌+◌, ◌<◌, ◌^◌, if◌then◌else◌, List, [], ◌∷◌, length}
use Rattle.grammar_machine.specs.declared.event.Event.{Event}
use Rattle.grammar_machine.specs.declared.event.Event.TheVariants as event
use Rattle.grammar_machine.specs.declared.grammar.Sight.{Sight}
use Rattle.grammar_machine.specs.Running.{Tables, runs, begin_of}

-- how many signs an event takes
abbrev pub signs_by : Event → ℕ
signs_by (event.Token k signs) = signs
signs_by (event.Piece p last) = if last then 1 else 0
signs_by (event.Node k from) = 0
signs_by (event.Error m) = 0

abbrev pub taken_by : List Event → ℕ
taken_by [] = 0
taken_by (e ∷ es) = signs_by e + taken_by es

abbrev pub RunsCountTokens : Type 0
RunsCountTokens =
    (n : ℕ) (g : Tables) (ts : List Sight) (rule : ℕ) → length ts + 3 < 2 ^ 64
    → taken_by (runs n g ts (begin_of rule)).made.events ≡ (runs n g ts (begin_of rule)).place.at
