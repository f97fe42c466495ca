use Rattle.std.proofs.Common.{arith}
use Rattle.text_edit.proofs.Order.{mine_popped, theirs_popped, rest_in_order, fails}
use Rattle.text_edit.proofs.merge.pop_first.Goals as goal

pub returns-then-is_mine_first-clause-first : goal.returns-then-is_mine_first-clause-first
returns-then-is_mine_first-clause-first c =
    mine_popped c.args.mine.now.items c.args.theirs.now.items c.pop_front.new.self.items c.pop_front.result c.requires (c.is_mine_first.ensures.0 c.if-is_mine_first.true) c.pop_front.ensures.items
    (λ s. omega (arith, c.pop_front.ensures.variant.0 s, c.args.mine.now.ok.0), λ s. c.pop_front.ensures.variant.1 (omega (arith, s, c.args.mine.now.ok.0)))

pub returns-else-is_mine_first-clause-order : goal.returns-else-is_mine_first-clause-order
returns-else-is_mine_first-clause-order c =
    rest_in_order c.args.theirs.now.items c.pop_front-else-is_mine_first.new.self.items c.pop_front-else-is_mine_first.result c.requires c.pop_front-else-is_mine_first.ensures.items

pub returns-else-is_mine_first-clause-first : goal.returns-else-is_mine_first-clause-first
returns-else-is_mine_first-clause-first c =
    theirs_popped c.args.mine.now.items c.args.theirs.now.items c.pop_front-else-is_mine_first.new.self.items c.pop_front-else-is_mine_first.result c.requires
    (fails c.is_mine_first.result _ c.is_mine_first.ensures c.if-is_mine_first.false) c.pop_front-else-is_mine_first.ensures.items
    (λ s. omega (arith, c.pop_front-else-is_mine_first.ensures.variant.0 s, c.args.theirs.now.ok.0), λ s. c.pop_front-else-is_mine_first.ensures.variant.1 (omega (arith, s, c.args.theirs.now.ok.0)))
