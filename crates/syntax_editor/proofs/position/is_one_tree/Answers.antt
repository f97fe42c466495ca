use Rattle.std.proofs.Common.{◌≡◌, sym, subst}
use Rattle.std.specs.Prelude.{IsTrue}
use Rattle.tree_model.specs.EqualityLaws.{tree_Decides}
use Rattle.syntax_editor.proofs.position.is_one_tree.Goals as goal

pub returns : goal.returns
returns c = subst (λ b. (IsTrue b → c.args.one.now ≡ c.args.other.now) × (c.args.one.now ≡ c.args.other.now → IsTrue b)) (sym c.eq.ensures) (tree_Decides c.args.one.now c.args.other.now)
