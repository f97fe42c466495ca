use Rattle.std.proofs.Common.{◌≡◌, ◌∙◌, true, sym}
use Rattle.tree_model.specs.EqualityLaws.{cursor_Decides}
use Rattle.ras_prec_walks.proofs.inside.Operands.kept.Goals as goal

pub returns-then-eq : goal.returns-then-eq
returns-then-eq c = sym c.operands.view_is ∙ (cursor_Decides c.operands.inside.parent c.args.parent).0 (sym c.if-eq.ensures)
