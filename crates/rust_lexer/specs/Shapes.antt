-- What a token is: its kind, how many bytes follow it, and what may be wrong with it.
use Rattle.std.specs.Prelude.{ℕ}
use Rattle.syntax_kind.specs.declared.syntax_kind.SyntaxKind.{SyntaxKind}
use Rattle.rust_lexer.specs.declared.problem.Problem.{Problem}
use Rattle.rust_lexer.specs.declared.shape.Shape.{Shape}
use Rattle.rust_lexer.specs.declared.shape.Check.TheVariants.{No, Is}

abbrev pub plain_of : SyntaxKind → ℕ → Shape
plain_of k n = record { kind = k; left = n; check = No }

abbrev pub with_of : SyntaxKind → ℕ → Problem → Shape
with_of k n p = record { kind = k; left = n; check = Is p }
