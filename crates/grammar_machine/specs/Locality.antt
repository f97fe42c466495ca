-- What a run looks at: laws of the definitions.
use Rattle.std.specs.Prelude.{◌≡◌, ℕ, ◌<◌, ◌≤◌, ◌+◌, ◌^◌, true, List, length, slice_get}
use Rattle.grammar_machine.specs.declared.grammar.Sight.{Sight}
use Rattle.grammar_machine.specs.declared.grammar.View.TheVariants.{One}
use Rattle.grammar_machine.specs.Running.{Tables, State, seen_at_of, is_brace_of, runs}

-- the tokens are the same below p
abbrev pub Agree : ℕ → List Sight → List Sight → Type 0
Agree p ts us = (i : ℕ) → i < p → slice_get ts i ≡ slice_get us i

-- the token at p is a brace
abbrev pub IsBraceAt : Tables → List Sight → ℕ → Type 0
IsBraceAt g ts p = is_brace_of g (seen_at_of ts One p) ≡ true

-- a run up to a brace does not depend on what is behind the brace
abbrev pub RunsAreLocal : Type 0
RunsAreLocal =
    (n p : ℕ) (g : Tables) (ts us : List Sight) (s : State)
    → Agree (p + 1) ts us → IsBraceAt g ts p → p + 1 < 2 ^ 64 → length ts + 3 < 2 ^ 64
    → (runs n g ts s).place.at ≤ p
    → runs n g ts s ≡ runs n g us s
