use Rattle.std.proofs.Common.{◌≡◌, ◌+◌, ◌-◌, sym, ◌∙◌, ap, arith}
use Rattle.event_layout.specs.Layout.{root_from}
use Rattle.event_layout.proofs.Moves.{root_none, root_here, root_back}
use Rattle.event_layout.proofs.layout.root_of.Goals as goal

pub returns-then-is_node_at : goal.returns-then-is_node_at
returns-then-is_node_at c =
    let es = c.args.events.now in
    let n : c.loop-left.left ≡ (c.loop-left.left - 1) + 1 = omega arith in
    sym (c.loop-left.invariant.1 ∙ ap (root_from es) n ∙ root_here es (c.loop-left.left - 1) cc)

pub loop-left-preserved : goal.loop-left-preserved
loop-left-preserved c =
    let es = c.args.events.now in
    let n : c.loop-left.left ≡ (c.loop-left.left - 1) + 1 = omega arith in
    (omega arith, c.loop-left.invariant.1 ∙ ap (root_from es) n ∙ root_back es (c.loop-left.left - 1) cc)

pub returns : goal.returns
returns c = sym (c.loop-left.invariant.1 ∙ root_none c.args.events.now c.loop-left.left (omega arith))
