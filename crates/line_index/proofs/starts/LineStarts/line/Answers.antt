use Rattle.std.proofs.Common.{◌≡◌, length, arith, subst, sym, ap, ◌∙◌}
use Rattle.line_index.specs.Lines.{HasText, Numbers}
use Rattle.line_index.proofs.LineLemmas.{line_starts_rise, line_before, line_of_end}
use Rattle.line_index.proofs.starts.LineStarts.line.Goals as goal
use Rattle.line_index.proofs.starts.LineStarts.line.Goals.{in-Some, in-None}

pub new-requires-3 : goal.new-requires-3
new-requires-3 c =
    let some : HasText c.args.self.now = subst HasText c.self.view_is c.self.invariant in
    let start = c.in_ok-start.ensures some.text some.is in
    let len : c.self.inside.len ≡ length some.text = ap (λ (n : Numbers). n.len) c.self.view_is ∙ sym some.is.len in
    elim c.match-start.branch [
      | in-Some w ↦ omega (arith, c.new.ensures, c.new-2.ensures, w.end-is, line_starts_rise some.text c.args.line c.in_ok-start.start w.in-Some.next start (w.in-Some.ensures some.text some.is))
      | in-None w ↦ omega (arith, c.new.ensures, c.new-2.ensures, w.end-is, len, start.0)
    ]

pub returns : goal.returns
returns c s is =
    let start = c.in_ok-start.ensures s is in
    let len : c.self.inside.len ≡ length s = ap (λ (n : Numbers). n.len) c.self.view_is ∙ sym is.len in
    rw c.new-3.ensures (rw c.new.ensures (rw c.new-2.ensures (elim c.match-start.branch [
      | in-Some w ↦ rw w.end-is (line_before s c.args.line c.in_ok-start.start w.in-Some.next start (w.in-Some.ensures s is))
      | in-None w ↦ rw w.end-is (rw len (line_of_end s c.args.line c.in_ok-start.start start (w.in-None.ensures s is)))
    ])))
