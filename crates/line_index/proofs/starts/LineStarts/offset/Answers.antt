use Rattle.std.proofs.Common.{◌≡◌, ◌≤◌, length, arith, subst, sym, ap, ◌∙◌}
use Rattle.line_index.specs.Lines.{HasText, Numbers}
use Rattle.line_index.proofs.LineLemmas.{IsLast, last_before, last_of_text, has_line, from_start, on_line, starts_late}
use Rattle.line_index.proofs.starts.LineStarts.offset.Goals as goal
use Rattle.line_index.proofs.starts.LineStarts.offset.Goals.{in-Some, in-None}

pub returns-in_err-start : goal.returns-in_err-start
returns-in_err-start c s is = rw c.from_residual.ensures (λ o k. omega (arith, c.in_err-start.ensures s is, has_line s c.args.at.line c.args.at.col o k))

pub returns-in_err-offset : goal.returns-in_err-offset
returns-in_err-offset c s is =
    let len : c.self.inside.len ≡ length s = ap (λ (n : Numbers). n.len) c.self.view_is ∙ sym is.len in
    rw c.from_residual-in_err-offset.ensures (λ o k.
    c.in_err-offset.ensures (omega (arith, k.0, len, from_start s c.args.at.line c.in_ok-start.field-0 c.args.at.col o (c.in_ok-start.ensures s is) k)))

pub returns-then-last-offset : goal.returns-then-last-offset
returns-then-last-offset c s is =
    let len : c.self.inside.len ≡ length s = ap (λ (n : Numbers). n.len) c.self.view_is ∙ sym is.len in
    let n = c.args.at.line in
    let last : IsLast s n c.match-start.last =
    elim c.match-start.branch [
      | in-Some w ↦ rw w.last-is (last_before s n w.in-Some.next (w.in-Some.ensures s is))
      | in-None w ↦ rw w.last-is (rw len (last_of_text s n (w.in-None.ensures s is)))
    ] in
    λ o k. omega (arith, last.all c.args.at.col o k, c.if-last-offset.true, c.in_ok-offset.ensures.1, from_start s n c.in_ok-start.field-0 c.args.at.col o (c.in_ok-start.ensures s is) k)

pub returns : goal.returns
returns c s is =
    let len : c.self.inside.len ≡ length s = ap (λ (n : Numbers). n.len) c.self.view_is ∙ sym is.len in
    let n = c.args.at.line in
    let last : IsLast s n c.match-start.last =
    elim c.match-start.branch [
      | in-Some w ↦ rw w.last-is (last_before s n w.in-Some.next (w.in-Some.ensures s is))
      | in-None w ↦ rw w.last-is (rw len (last_of_text s n (w.in-None.ensures s is)))
    ] in
    let fits : c.in_ok-offset.offset ≤ length s = omega (arith, c.if-last-offset.false, last.within) in
    rw c.new.ensures (on_line s n c.in_ok-start.field-0 c.args.at.col c.in_ok-offset.offset (c.in_ok-start.ensures s is) c.in_ok-offset.ensures.1 fits (last.most c.in_ok-offset.offset c.if-last-offset.false))

pub overflow_sub-last : goal.overflow_sub-last
overflow_sub-last c =
    let some : HasText c.args.self.now = subst HasText c.self.view_is c.self.invariant in
    omega (arith, starts_late some.text c.args.at.line c.in-Some.next (c.in-Some.ensures some.text some.is))
