use Rattle.std.proofs.Common.{refl, sym, ◌∙◌}
use Rattle.syntax_kind.specs.declared.syntax_kind.TheConstants.SyntaxKind.{ATTR}
use Rattle.ras_node.specs.Nodes.{is_of_kind}
use Rattle.rust_report.proofs.RolesLemmas.{among_none, among_no_more, among_first, among_others}
use Rattle.rust_report.proofs.roles.in_attribute.Goals as goal

pub returns-in_default : goal.returns-in_default
returns-in_default c = sym (among_none (is_of_kind ATTR) c.loop-left.left c.loop-left.next c.in_default.is) ∙ c.loop-left.invariant

pub returns-then-is_of_kind : goal.returns-then-is_of_kind
returns-then-is_of_kind c =
    sym (among_first (is_of_kind ATTR) c.loop-left.left c.loop-left.next c.in-Some.node c.loop-left-test.true c.in-Some.is (sym c.is_of_kind.ensures ∙ c.if-is_of_kind.true)) ∙ c.loop-left.invariant

pub loop-left-preserved : goal.loop-left-preserved
loop-left-preserved c =
    among_others (is_of_kind ATTR) c.loop-left.left _ c.loop-left.next c.parent-next.result c.in-Some.node c.loop-left-test.true refl c.in-Some.is c.parent-next.ensures (sym c.is_of_kind.ensures ∙ c.if-is_of_kind.false)
    ∙ c.loop-left.invariant

pub returns : goal.returns
returns c = sym (among_no_more (is_of_kind ATTR) c.loop-left.left c.loop-left.next c.loop-left-test.false) ∙ c.loop-left.invariant
