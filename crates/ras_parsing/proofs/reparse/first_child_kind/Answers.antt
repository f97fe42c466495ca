use Rattle.std.proofs.Common.{sym, ap, ◌∙◌, Some}
use Rattle.tree_model.specs.Cursor.{first_child_of}
use Rattle.ras_parsing.proofs.ElementKinds.{element_kind}
use Rattle.ras_parsing.proofs.reparse.first_child_kind.Goals as goal

pub returns-in-Some : goal.returns-in-Some
returns-in-Some c = ap Some c.kind.ensures ∙ element_kind (first_child_of c.args.node.now) c.in-Some.child (sym c.first_child_or_token.ensures ∙ c.in-Some.is)
