-- Whether two parses are the same.
use Rattle.std.specs.Prelude.{Bool}
use Rattle.std.specs.Ordering.{on, eq_of_both}
use Rattle.std.specs.Cmp.{IsEquivalence, on_equiv, and_equiv}
use Rattle.std.specs.Cmp.Lexicographic.{pointwise, lists_equiv}
use Rattle.tree_model.specs.Equality.{is_same_cursor}
use Rattle.tree_model.specs.EqualityLaws.{cursor_equivalence}
use Rattle.tree_model.specs.Edit.{root_of}
use Rattle.ras_front_end.specs.ErrorEquality.{is_same_fault, faults_equivalence}
use Rattle.ras_front_end.specs.Parsed.{Parsed}

-- equal trees, and stored errors that are equal one by one
abbrev pub is_same_parsed : Parsed → Parsed → Bool
is_same_parsed = eq_of_both (on (λ p. root_of p.tree) is_same_cursor) (on (λ p. p.errors) (pointwise is_same_fault))

pub parsed_equivalence : IsEquivalence is_same_parsed
parsed_equivalence = and_equiv (on_equiv (λ p. root_of p.tree) cursor_equivalence) (on_equiv (λ p. p.errors) (lists_equiv faults_equivalence))
