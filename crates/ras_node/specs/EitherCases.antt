-- A view of one of two types: its kind is one of the left's or of the right's.
use Rattle.std.specs.Prelude.{◌≡◌, Bool, true, false, ◌||◌}
use Rattle.std.proofs.Common.{refl, ap, ◌∙◌}
use Rattle.syntax_kind.specs.declared.syntax_kind.SyntaxKind.{SyntaxKind}
use Rattle.tree_model.specs.Cursor.{Cursor}
use Rattle.either.specs.declared.Either.{Either}
use Rattle.either.specs.declared.Either.TheVariants.{Left, Right}
use Rattle.either.specs.Either.{either}
use Rattle.ras_node.specs.Nodes.{kind_at}

or_true : (b : Bool) → (b || true) ≡ true
or_true true = refl
or_true false = refl

pub either_castable : {L R : Type 0} (f g : SyntaxKind → Bool) (left : L → Cursor) (right : R → Cursor) → ((it : L) → f (kind_at (left it)) ≡ true) → ((it : R) → g (kind_at (right it)) ≡ true) → (it : Either L R) → (f (kind_at (either left right it)) || g (kind_at (either left right it))) ≡ true
either_castable f g left right is_left is_right (Left it) = ap (λ b. b || g (kind_at (left it))) (is_left it)
either_castable f g left right is_left is_right (Right it) = ap (λ b. f (kind_at (right it)) || b) (is_right it) ∙ or_true (f (kind_at (right it)))
