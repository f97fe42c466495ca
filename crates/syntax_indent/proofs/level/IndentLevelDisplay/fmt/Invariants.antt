use Rattle.std.proofs.Common.{◌≡◌, ℕ, ◌-◌, List, ◌++◌}
use Rattle.std.specs.Fmt.{HasWritten, IsPlainFormatter}
use Rattle.syntax_indent.specs.Level.{blanks}
use Rattle.syntax_indent.proofs.level.IndentLevelDisplay.fmt.Given as goal

-- what is written so far, and the blanks of the levels that are left
abbrev pub invariant-loop-level : goal.invariant-loop-level
invariant-loop-level g l = record {
  whole : IsPlainFormatter l.fn.f
      → (done : List ℕ) × HasWritten g.W.Write.write_str_gives l.fn.f done l.f
      × (done ++ blanks (l._level-end - l._level) ≡ blanks l.fn.self.number);
}
