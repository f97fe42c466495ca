use Rattle.std.proofs.Common.{◌≡◌, ◌++◌, string_bytes, encode_utf8_all}
use Rattle.std.specs.Prelude.{IsUtf8}
use Rattle.std.specs.Str.{chars}
use Rattle.std.specs.Str.Iter.{chars_rest}
use Rattle.syntax_indent.specs.Shifted.{without_blanks}
use Rattle.syntax_indent.proofs.shift.push_dedented.Given as goal

-- what is appended so far, and what the rest adds
abbrev pub invariant-loop-c : goal.invariant-loop-c
invariant-loop-c l = record {
  utf8 : IsUtf8 (chars_rest l.c-iterator);
  whole : string_bytes l.out ++ encode_utf8_all (without_blanks l.count l.left (chars (chars_rest l.c-iterator)))
      ≡ string_bytes l.fn.out ++ encode_utf8_all (without_blanks l.count 0 (chars l.text));
}
