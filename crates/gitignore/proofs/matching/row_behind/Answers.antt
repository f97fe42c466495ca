use Rattle.std.proofs.Common.{◌+◌}
use Rattle.gitignore.specs.Fits.{step, mark_in}
use Rattle.gitignore.proofs.FitsLemmas.{more_marks, mark_more, seen_on}
use Rattle.gitignore.proofs.matching.row_behind.Goals as goal

pub loop-at-preserved : goal.loop-at-preserved
loop-at-preserved c =
    let begins = mark_in c.args.before.now in
    let marked = mark_more c.args.piece.now c.args.path.now begins c.loop-at.at c.next_mark-mark.result c.loop-at.seen c.next_mark-mark.ensures c.loop-at.invariant.1 in (
      more_marks (step c.args.piece.now c.args.path.now begins) (c.loop-at.at + 1) c.loop-at.row.items c.push-in-loop-at.new.self.items c.next_mark-mark.result
          c.loop-at.invariant.0 marked c.in_ok-push-2.ensures.items,
      seen_on c.args.piece.now c.args.path.now begins c.loop-at.at c.next_mark-mark.result c.loop-at.seen c.seen_next-seen.result c.seen_next-seen.ensures marked c.loop-at.invariant.1,
    )
