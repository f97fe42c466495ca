use Rattle.std.proofs.Common.{◌≡◌, ◌<◌, ◌+◌, ◌++◌, length, map, All}
use Rattle.memchr.specs.Find.{Passes, is_byte}
use Rattle.ras_c.specs.Lines.{line_starts}
use Rattle.ras_c.proofs.lines.line_starts.Given as goal

abbrev pub invariant-loop-at : goal.invariant-loop-at
invariant-loop-at l =
    (goal.iterator-loop-at).can_next l.at-iterator ×
    (goal.iterator-loop-at).is_finite l.at-iterator ×
    All (λ k. (k < length l.fn.text) × Passes (is_byte 10) l.fn.text k) l.at-iterator ×
    (l.starts.items ++ map (λ k. 0 + k + 1) l.at-iterator ≡ line_starts l.fn.text)
