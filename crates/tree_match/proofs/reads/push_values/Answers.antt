use Rattle.std.proofs.Common.{rules, arith, ◌+◌, drop}
use Rattle.tree_match.proofs.PlaceLemmas.{drop_item, drop_none, nil_of}
use Rattle.tree_match.proofs.ReadLemmas.{one_came, all_came}
use Rattle.tree_match.proofs.reads.push_values.Goals as goal

pub loop-new-preserved : goal.loop-new-preserved
loop-new-preserved c =
    one_came c.loop-new.left.rest.now (drop c.loop-new.new-index c.args.news.now) c.next.new.self.rest.now (drop (c.loop-new.new-index + 1) c.args.news.now)
    c.args.olds.now c.args.news.now c.loop-new.tasks.items c.push_value.new.tasks.items c.args.tasks.now.items
    c.in-Some.old.now c.new-item.result c.in_ok-push_value.field-0
    c.loop-new.invariant (search rules)
    (drop_item c.args.news.now c.loop-new.new-index c.new-item.result c.loop-new-test.true c.new-item.is)
    (search rules) c.in_ok-push_value.ensures

pub returns-in-None : goal.returns-in-None
returns-in-None c =
    all_came c.loop-new.left.rest.now (drop c.loop-new.new-index c.args.news.now) c.args.olds.now c.args.news.now c.loop-new.tasks.items c.args.tasks.now.items
    c.loop-new.invariant (drop_none c.args.news.now c.loop-new.new-index (omega (arith, c.loop-new-test.false))) (nil_of c.loop-new.left.rest.now c.in-None.ensures.steps.0)
