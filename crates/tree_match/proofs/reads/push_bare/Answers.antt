use Rattle.lossless_tree.specs.Trees.{Siblings}
use Rattle.tree_match.specs.declared.bare.Comments.TheVariants.{Passed}
use Rattle.tree_match.specs.Bare.{bare}
use Rattle.tree_match.specs.Reads.{IsSameNode, Leads}
use Rattle.std.proofs.Common.{subst}
use Rattle.tree_match.proofs.ReadLemmas.{if_ok}
use Rattle.tree_match.proofs.reads.push_bare.Goals as goal

pub returns : goal.returns
returns c =
    if_ok c.push_inside.result c.push_inside.ensures (λ ok l.
    subst (λ (n : Siblings). Leads (λ rules. IsSameNode rules (bare Passed c.args.old.now) n) ok c.push_inside.new.tasks.items c.args.tasks.now.items) c.bare-2.ensures
    (subst (λ (o : Siblings). Leads (λ rules. IsSameNode rules o c.bare-2.result) ok c.push_inside.new.tasks.items c.args.tasks.now.items) c.bare.ensures l))
