use Rattle.std.proofs.Common.{◌≡◌, ◌-◌, suc, ap, ◌∙◌, take, arith}
use Rattle.tree_match.specs.Finds.{with_some}
use Rattle.tree_match.proofs.PlaceLemmas.{some_last}
use Rattle.tree_match.proofs.places.push_values.Goals as goal

pub loop-left-preserved : goal.loop-left-preserved
loop-left-preserved c =
    let n = c.loop-left.left - 1 in
    let up : suc n ≡ c.loop-left.left = omega (arith, c.loop-left-test.true) in (
      ap (with_some (take n c.args.values.now)) c.in_ok-push_some.ensures
          ∙ some_last c.args.values.now n c.loop-left.free.items c.index-values-left.result (omega (arith, c.loop-left.invariant.1, up)) c.index-values-left.is
          ∙ ap (λ k. with_some (take k c.args.values.now) c.loop-left.free.items) up
          ∙ c.loop-left.invariant.0,
      omega (arith, c.loop-left.invariant.1),
    )
