use Rattle.std.proofs.Common.{◌+◌, drop}
use Rattle.tree_match.proofs.PlaceLemmas.{drop_got}
use Rattle.tree_match.proofs.RootLemmas.{one_root}
use Rattle.tree_match.proofs.roots.roots_of.Goals as goal

pub loop-kind-preserved : goal.loop-kind-preserved
loop-kind-preserved c =
    one_root (drop c.loop-kind.kind-index c.deref-kind-items.result.now)
    (drop (c.loop-kind.kind-index + 1) c.deref-kind-items.result.now) _ c.args.rules.now
    c.loop-kind.roots.items c.push.new.self.items _ c.loop-kind.invariant
    (drop_got c.deref-kind-items.result.now c.loop-kind.kind-index _ c.loop-kind-test.true)
    c.to_raw.ensures c.in_ok-numbers_for.ensures c.in_ok-push.ensures.items
