use Rattle.std.proofs.Common.{◌≡◌, take}
use Rattle.std.specs.List.{list_any}
use Rattle.syntax_kind.specs.declared.syntax_kind.TheConstants.SyntaxKind.{ATTR}
use Rattle.tree_model.specs.Cursor.{ancestors_from}
use Rattle.ras_node.specs.Nodes.{is_of_kind}
use Rattle.rust_report.specs.Roles.{in_attribute}
use Rattle.rust_report.proofs.roles.in_attribute.Given as goal

abbrev pub invariant-loop-left : goal.invariant-loop-left
invariant-loop-left l = list_any (is_of_kind ATTR) (take l.left (ancestors_from l.next)) ≡ in_attribute l.fn.parent

abbrev pub decreases-loop-left : goal.decreases-loop-left
decreases-loop-left l = l.left
