use Rattle.std.proofs.Common.{sym}
use Rattle.tree_match.specs.Walks.{step_of, levels_of}
use Rattle.tree_match.proofs.StepLemmas.{differ, ended, goes_on}
use Rattle.tree_match.proofs.same.compare_next.Goals as goal

pub returns-then-not-is_same_step-clause-decided : goal.returns-then-not-is_same_step-clause-decided
returns-then-not-is_same_step-clause-decided c =
    differ c.args.first.now.comments c.args.second.now.comments (levels_of c.args.first.now) (levels_of c.args.second.now) (levels_of c.next.new.self) (levels_of c.next-2.new.self)
    (step_of c.in_ok-step.step) (step_of c.in_ok-other.other) c.requires.first c.requires.second c.in_ok-step.ensures.step c.in_ok-other.ensures.step (sym c.if-not-is_same_step.ensures)

pub returns-clause-decided : goal.returns-clause-decided
returns-clause-decided c =
    goes_on c.args.first.now.comments c.args.second.now.comments (levels_of c.args.first.now) (levels_of c.args.second.now) (levels_of c.next.new.self) (levels_of c.next-2.new.self)
    (step_of c.in_ok-step.step) (step_of c.in_ok-other.other) c.requires.first c.requires.second c.in_ok-step.ensures.step c.in_ok-other.ensures.step (sym c.if-not-is_same_step.ensures) (sym c.if-is_end.ensures)

pub returns-then-is_end-clause-decided : goal.returns-then-is_end-clause-decided
returns-then-is_end-clause-decided c =
    ended c.args.first.now.comments c.args.second.now.comments (levels_of c.args.first.now) (levels_of c.args.second.now) (levels_of c.next.new.self) (levels_of c.next-2.new.self)
    (step_of c.in_ok-step.step) (step_of c.in_ok-other.other) c.requires.first c.requires.second c.in_ok-step.ensures.step c.in_ok-other.ensures.step (sym c.if-not-is_same_step.ensures) (sym c.if-is_end.ensures)
