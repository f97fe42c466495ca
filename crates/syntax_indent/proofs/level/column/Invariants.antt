use Rattle.std.proofs.Common.{◌≡◌, ◌+◌, ◌≤◌, length}
use Rattle.std.specs.Prelude.{IsUtf8}
use Rattle.std.specs.Str.{chars}
use Rattle.std.specs.Str.Iter.{chars_rest}
use Rattle.syntax_indent.specs.Level.{column}
use Rattle.syntax_indent.proofs.level.column.Given as goal

abbrev pub invariant-loop-c : goal.invariant-loop-c
invariant-loop-c l = record {
  utf8 : IsUtf8 (chars_rest l.c-iterator);
  room : l.behind + length (chars_rest l.c-iterator) ≤ length l.text;
  whole : column l.behind (chars (chars_rest l.c-iterator)) ≡ column 0 (chars l.text);
}
