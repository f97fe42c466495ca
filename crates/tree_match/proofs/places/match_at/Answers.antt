use Rattle.std.proofs.Common.{sym}
use Rattle.tree_match.proofs.RootLemmas.{none_match}
use Rattle.tree_match.proofs.places.match_at.Goals as goal

pub returns-then-is_empty : goal.returns-then-is_empty
returns-then-is_empty c =
    none_match c.args.rules.now c.args.roots.now c.rules_for-numbers.result.now c.kind.result
    c.args.node.now c.requires.roots c.rules_for-numbers.ensures c.kind.ensures
    (sym c.if-is_empty.ensures)
