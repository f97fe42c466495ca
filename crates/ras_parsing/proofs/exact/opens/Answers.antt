use Rattle.std.proofs.Common.{sym, ap, ◌∙◌}
use Rattle.tree_model.specs.Cursor.{first_child_of}
use Rattle.ras_front_end.specs.Balanced.{opens_brace}
use Rattle.ras_parsing.proofs.ExactPaths.{opens_is}
use Rattle.ras_parsing.proofs.exact.opens.Goals as goal

pub returns-in-Some : goal.returns-in-Some
returns-in-Some c = c.opens_brace.ensures ∙ ap opens_brace c.kind.ensures ∙ opens_is (first_child_of c.args.node.now) c.in-Some.child (sym c.first_child_or_token.ensures ∙ c.in-Some.is)
