use Rattle.std.proofs.Common.{sym, ap, ◌∙◌}
use Rattle.tree_model.specs.Cursor.{last_child_of}
use Rattle.ras_front_end.specs.Balanced.{closes_brace}
use Rattle.ras_parsing.proofs.ExactPaths.{closes_is}
use Rattle.ras_parsing.proofs.exact.closes.Goals as goal

pub returns-in-Some : goal.returns-in-Some
returns-in-Some c = c.closes_brace.ensures ∙ ap closes_brace c.kind.ensures ∙ closes_is (last_child_of c.args.node.now) c.in-Some.child (sym c.last_child_or_token.ensures ∙ c.in-Some.is)
