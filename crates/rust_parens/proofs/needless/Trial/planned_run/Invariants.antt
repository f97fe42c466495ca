use Rattle.std.proofs.Common.{◌-◌, length}
use Rattle.rust_parens.proofs.TriedLemmas.{Follow}
use Rattle.rust_parens.proofs.needless.Trial.planned_run.Given as goal

abbrev pub invariant-loop-alloc : goal.invariant-loop-alloc
invariant-loop-alloc g l = Follow (g.F.FrontEnd.answers l.fn.self.front.now) l.fn.self.entry l.fn.self.edition l.fn.self.old.now l.chosen l.rest l.plan.stays.items l.before.items l.tried.items

abbrev pub decreases-loop-alloc : goal.decreases-loop-alloc
decreases-loop-alloc g l = length l.plan.stays.items - length l.tried.items
