-- A run ends within its fuel: a law of the definitions.
use Rattle.std.specs.Prelude.{◌≡◌, ℕ, ◌+◌, ◌<◌, ◌≤◌, ◌^◌, List, length}
use Rattle.grammar_machine.specs.declared.grammar.Sight.{Sight}
use Rattle.grammar_machine.specs.Running.{Tables, runs, run_of, begin_of, fuel_of}

-- more operations than the fuel change nothing
abbrev pub RunsEnd : Type 0
RunsEnd =
    (n : ℕ) (g : Tables) (rule : ℕ) (ts : List Sight)
    → length ts + 3 < 2 ^ 64 → fuel_of (length ts) ≤ n
    → runs n g ts (begin_of rule) ≡ run_of g rule ts
