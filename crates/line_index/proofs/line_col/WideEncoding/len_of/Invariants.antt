use Rattle.std.proofs.Common.{◌≡◌, ◌+◌}
use Rattle.std.specs.Prelude.{IsUtf8}
use Rattle.std.specs.Str.Iter.{chars_rest}
use Rattle.line_index.specs.Lines.{wide_length}
use Rattle.line_index.proofs.line_col.WideEncoding.len_of.Given as goal

-- the units so far, and those of the rest, are all
abbrev pub invariant-loop-c : goal.invariant-loop-c
invariant-loop-c l = IsUtf8 (chars_rest l.c-iterator) × (l.len + wide_length l.self (chars_rest l.c-iterator) ≡ wide_length l.self l.text)
