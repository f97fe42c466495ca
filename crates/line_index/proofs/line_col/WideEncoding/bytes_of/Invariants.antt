use Rattle.std.proofs.Common.{◌≡◌, ◌+◌, drop}
use Rattle.std.specs.Str.{IsUtf8, IsCharBoundary}
use Rattle.std.specs.Str.Iter.{chars_rest}
use Rattle.line_index.specs.Lines.{wide_length}
use Rattle.line_index.proofs.line_col.WideEncoding.bytes_of.Given as goal

-- the rest of the text is after the bytes so far
abbrev pub invariant-loop-c : goal.invariant-loop-c
invariant-loop-c l = record {
  utf8 : IsUtf8 (chars_rest l.c-iterator);
  rest : drop l.bytes l.text ≡ chars_rest l.c-iterator;
  boundary : IsCharBoundary l.text l.bytes;
  count : wide_length l.self l.text + l.left ≡ l.units + wide_length l.self (chars_rest l.c-iterator);
}
