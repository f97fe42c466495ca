use Rattle.std.proofs.Common.{◌≡◌, ℕ, ◌≤◌, ◌<◌, true, length, get_or}
use Rattle.std.specs.Str.{IsCharBoundary}
use Rattle.rust_report.specs.Texts.{is_line_end}
use Rattle.rust_report.proofs.texts.shown_line.Given as goal

abbrev pub invariant-loop-end : goal.invariant-loop-end
invariant-loop-end l = record {
  within : l.end ≤ length l.line;
  boundary : IsCharBoundary l.line l.end;
  ends : (k : ℕ) → l.end ≤ k → k < length l.line → is_line_end (get_or l.line k 0) ≡ true;
}

abbrev pub decreases-loop-end : goal.decreases-loop-end
decreases-loop-end l = l.end
