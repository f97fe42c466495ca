use Rattle.std.proofs.Common.{sym}
use Rattle.tree_match.proofs.ReadLemmas.{other_leads}
use Rattle.tree_match.proofs.reads.push_node.Goals as goal

pub returns : goal.returns
returns c =
    other_leads c.push_bare.new.tasks.items c.args.tasks.now.items c.args.old.now c.args.new.now c.push_bare.result (sym c.if-is_short_first.ensures)
    c.push_bare.ensures
