use Rattle.std.proofs.Common.{◌≡◌, ◌+◌, ◌++◌, length}
use Rattle.std.specs.Str.{IsUtf8, chars}
use Rattle.std.specs.Str.Iter.{chars_rest}
use Rattle.ras_c.specs.Units.{char_rows}
use Rattle.ras_c.proofs.units.raw_rows.Given as goal

-- the rows so far and those of the characters that are left are all
abbrev pub invariant-loop-c : goal.invariant-loop-c
invariant-loop-c l = record {
  text : IsUtf8 (chars_rest l.left);
  end : l.at + length (chars_rest l.left) ≡ l.fn.offset + length l.fn.content;
  all : l.rows.items ++ char_rows l.at (chars (chars_rest l.left)) ≡ char_rows l.fn.offset (chars l.fn.content);
}

abbrev pub decreases-loop-c : goal.decreases-loop-c
decreases-loop-c l = length (chars_rest l.left)
