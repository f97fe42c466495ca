use Rattle.std.proofs.Common.{arith, ap, ◌∙◌, replicate, true}
use Rattle.tree_model.specs.Tree.{size}
use Rattle.rust_report.proofs.MarkLemmas.{none_left}
use Rattle.rust_report.proofs.pattern.matches.Goals as goal

pub loop-at-init : goal.loop-at-init
loop-at-init c = (
  omega arith,
  none_left c.args.table.now c.args.steps.now (size c.args.table.now) c.in_ok-marks.marks.items
      (c.in_ok-marks.ensures.items_if_clones_equal (λ y h. h) ∙ ap (λ n. replicate n true) c.len.ensures),
)
