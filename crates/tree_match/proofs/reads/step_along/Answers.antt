use Rattle.std.proofs.Common.{sym}
use Rattle.tree_match.proofs.ReadLemmas.{some_lead}
use Rattle.tree_match.proofs.reads.step_along.Goals as goal

pub returns : goal.returns
returns c =
    some_lead c.args.rules.now c.step_into.new.tasks.items c.push_front.new.self.items c.args.tasks.now.items c.args.old.now c.args.new.now
    c.past-old.result c.past-new.result c.rest.result c.rest-2.result c.step_into.result
    c.past-old.ensures c.past-new.ensures (sym c.if-is_done.ensures) (sym c.if-is_done-2.ensures) c.rest.ensures c.rest-2.ensures
    c.in_ok-push_front.ensures.items c.step_into.ensures
