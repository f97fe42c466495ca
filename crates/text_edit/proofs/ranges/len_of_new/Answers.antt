use Rattle.std.proofs.Common.{length, arith, ap, sym}
use Rattle.text_edit.proofs.Pass.{passed, edited_length, length_step, length_end}
use Rattle.text_edit.proofs.ranges.len_of_new.Goals as goal

pub loop-indel-init : goal.loop-indel-init
loop-indel-init c = record { within = omega arith; order = c.requires.order; long = omega arith }

pub returns-in_err-len : goal.returns-in_err-len
returns-in_err-len c =
    let w = length_step c.args.text.now c.loop-indel.at c.args.indels.now c.loop-indel.indel-index c.indel-item.result c.loop-indel.len (length (passed c.args.text.now 0 c.args.indels.now))
    c.loop-indel-test.true (sym c.indel-item.is) c.loop-indel.invariant.order c.requires.ranges c.loop-indel.invariant.long in
    rw c.from_residual.ensures (λ short. c.in_err-len.ensures (omega (arith, w, short, c.start-start.ensures.value, ap length c.inserted.ensures, edited_length c.args.text.now c.args.indels.now c.requires.order c.requires.ranges)))

pub returns-in_err-len-2 : goal.returns-in_err-len-2
returns-in_err-len-2 c =
    let w = length_end c.args.text.now c.loop-indel.at c.args.indels.now c.loop-indel.indel-index c.loop-indel.len (length (passed c.args.text.now 0 c.args.indels.now)) (omega (arith, c.loop-indel-test.false, c.loop-indel.auto.indel-index-end)) c.loop-indel.invariant.long in
    rw c.from_residual-in_err-len-2.ensures (λ short. c.in_err-len-2.ensures (omega (arith, w, short, edited_length c.args.text.now c.args.indels.now c.requires.order c.requires.ranges)))

pub returns-then-len : goal.returns-then-len
returns-then-len c =
    let w = length_end c.args.text.now c.loop-indel.at c.args.indels.now c.loop-indel.indel-index c.loop-indel.len (length (passed c.args.text.now 0 c.args.indels.now)) (omega (arith, c.loop-indel-test.false, c.loop-indel.auto.indel-index-end)) c.loop-indel.invariant.long in
    λ short. omega (arith, w, short, c.if-len.true, c.in_ok-len-2.ensures, edited_length c.args.text.now c.args.indels.now c.requires.order c.requires.ranges)

pub returns : goal.returns
returns c =
    let w = length_end c.args.text.now c.loop-indel.at c.args.indels.now c.loop-indel.indel-index c.loop-indel.len (length (passed c.args.text.now 0 c.args.indels.now)) (omega (arith, c.loop-indel-test.false, c.loop-indel.auto.indel-index-end)) c.loop-indel.invariant.long in
    let e = edited_length c.args.text.now c.args.indels.now c.requires.order c.requires.ranges in
    (omega (arith, w, c.if-len.false, c.in_ok-len-2.ensures.1, e), omega (arith, w, c.in_ok-len-2.ensures.1, e))
