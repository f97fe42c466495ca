-- What is left to find after a step.
use Rattle.std.specs.Prelude.{ℕ, suc, Option, Some, None}
use Rattle.syntax_kind.specs.declared.syntax_kind.SyntaxKind.{SyntaxKind}
use Rattle.lossless_tree.specs.Element.{cursor_of}
use Rattle.operator_pairs.specs.declared.behind.Step.{Step}
use Rattle.operator_pairs.specs.declared.behind.Step.TheVariants.{Found, On, End}
use Rattle.operator_pairs.specs.Next.{kind_behind, steps_left}

abbrev pub answer : Step → Option SyntaxKind
answer (Found k) = Some k
answer (On x) = kind_behind (cursor_of x)
answer End = None

abbrev pub steps_after : Step → ℕ
steps_after (Found k) = 0
steps_after (On x) = suc (steps_left x)
steps_after End = 0
