use Rattle.std.proofs.Common.{◌≡◌, List, ℕ, ◌++◌, length}
use Rattle.std.specs.Fmt.{HasWritten, IsPlainFormatter}
use Rattle.tree_model.specs.Cursor.{cursor_at}
use Rattle.tree_rows.specs.Walks.{walk_left, IsWalk, open_count}
use Rattle.lossless_tree.specs.Dump.{dump_of}
use Rattle.lossless_tree.proofs.DumpLemmas.{event_lines}
use Rattle.lossless_tree.proofs.dump.write_lines.Given as goal

-- the lines that are written so far, and those that the rest of the walk adds, are the whole dump
abbrev pub invariant-loop-step : goal.invariant-loop-step
invariant-loop-step g l = record {
  walks : IsWalk l.table l.start l.next l.innermost;
  level_is : l.level ≡ open_count l.table l.start l.innermost;
  whole : IsPlainFormatter l.fn.f
      → (done : List ℕ) × HasWritten g.W.Write.write_str_gives l.fn.f done l.f
      × (done ++ event_lines (cursor_at l.table l.start) (walk_left l.table l.start l.next l.innermost) ≡ dump_of (cursor_at l.table l.start));
}

abbrev pub decreases-loop-step : goal.decreases-loop-step
decreases-loop-step g l = length (walk_left l.table l.start l.next l.innermost)
