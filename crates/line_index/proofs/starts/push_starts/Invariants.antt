use Rattle.std.proofs.Common.{◌≡◌, ◌<◌, ◌+◌, ◌++◌, length, map, All}
use Rattle.memchr.specs.Find.{Passes, is_byte}
use Rattle.line_index.specs.Lines.{starts_after}
use Rattle.line_index.proofs.starts.push_starts.Given as goal

abbrev pub invariant-loop-at : goal.invariant-loop-at
invariant-loop-at l =
    (goal.iterator-loop-at).can_next l.at-iterator ×
    (goal.iterator-loop-at).is_finite l.at-iterator ×
    All (λ k. (k < length l.fn.text) × Passes (is_byte 10) l.fn.text k) l.at-iterator ×
    (l.starts.items ++ map (λ k. l.fn.offset + k + 1) l.at-iterator ≡ l.fn.starts.items ++ starts_after l.fn.offset l.fn.text)
