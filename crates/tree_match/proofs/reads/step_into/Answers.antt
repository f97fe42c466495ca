use Rattle.std.proofs.Common.{sym}
use Rattle.tree_match.proofs.ReadLemmas.{match_leads}
use Rattle.tree_match.proofs.reads.step_into.Goals as goal

pub returns-in-Some : goal.returns-in-Some
returns-in-Some c =
    match_leads c.args.rules.now c.is_replaced.new.tasks.items c.args.tasks.now.items c.args.old.now c.args.new.now c.in_ok-found.field-0 c.in-Some.found c.is_replaced.result
    (sym c.if-is_token.ensures) c.in_ok-found.ensures c.in-Some.is c.is_replaced.ensures
