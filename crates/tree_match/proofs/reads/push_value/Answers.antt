use Rattle.std.specs.Prelude.{Some}
use Rattle.std.proofs.Common.{sym, ap, ◌∙◌}
use Rattle.tree_match.proofs.ReadLemmas.{value_unused, value_used}
use Rattle.tree_match.proofs.reads.push_value.Goals as goal

pub returns-in_default-None : goal.returns-in_default-None
returns-in_default-None c = value_unused c.args.tasks.now.items c.args.old.now c.args.new.now c.in_default-None.is-1

pub returns-in_ok-push_front-in-Some-Some : goal.returns-in_ok-push_front-in-Some-Some
returns-in_ok-push_front-in-Some-Some c =
    value_used c.args.tasks.now.items c.push_front.new.self.items c.args.old.now c.args.new.now c.all.result c.all-in-Some-Some.result
    (c.in-Some-Some.is-0 ∙ ap Some (sym c.all.ensures)) (c.in-Some-Some.is-1 ∙ ap Some (sym c.all-in-Some-Some.ensures))
    c.in_ok-push_front-in-Some-Some.ensures.items
