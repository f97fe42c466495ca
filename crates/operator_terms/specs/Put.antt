-- A term in the place of an operand.
use Rattle.std.specs.Prelude.{ℕ, List, [], ◌∷◌}
use Rattle.operator_terms.specs.Term.{Term}
use Rattle.operator_terms.specs.Pairs.{change_part}

-- the whole term with `s` in the place of the operand at a place
abbrev pub put : Term → List ℕ → Term → Term
put s [] t = s
put s (i ∷ q) t = change_part (put s q) t i
