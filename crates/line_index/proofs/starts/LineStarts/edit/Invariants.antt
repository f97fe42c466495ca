use Rattle.std.proofs.Common.{◌≡◌, ◌+◌, ◌-◌, ◌++◌, map, take}
use Rattle.line_index.specs.Lines.{starts_after}
use Rattle.line_index.proofs.starts.LineStarts.edit.Given as goal

abbrev pub invariant-loop-old : goal.invariant-loop-old
invariant-loop-old l = l.later.items ≡ starts_after l.start l.insert ++ map (λ x. x - l.end + l.inserted_end) (take l.old-index l.old-items)
