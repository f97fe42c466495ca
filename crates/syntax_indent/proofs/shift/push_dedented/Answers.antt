use Rattle.std.proofs.Common.{◌++◌, string_bytes, encode_utf8_all}
use Rattle.std.proofs.lemmas.Str.{IsUtf8-past_char}
use Rattle.std.specs.Str.{chars}
use Rattle.std.specs.Str.Iter.{chars_rest}
use Rattle.syntax_indent.specs.Shifted.{without_blanks}
use Rattle.syntax_indent.proofs.ShiftLemmas.{dedent-step, dedent-end}
use Rattle.syntax_indent.proofs.shift.push_dedented.Goals as goal

pub loop-c-preserved : goal.loop-c-preserved
loop-c-preserved c = record {
  utf8 = IsUtf8-past_char (chars_rest c.loop-c.c-iterator) (chars_rest c.next.new.self) c.in-Some.c c.loop-c.invariant.utf8 c.in-Some.ensures.steps.0;
  whole =
      dedent-step (string_bytes c.loop-c.out) (string_bytes c.push_kept.new.out) (string_bytes c.args.out.now ++ encode_utf8_all (without_blanks c.args.count 0 (chars c.args.text.now)))
      (chars_rest c.loop-c.c-iterator) (chars_rest c.next.new.self) c.in-Some.c c.args.count c.loop-c.left c.left_after-left.result c.loop-c.invariant.utf8 c.in-Some.ensures.steps.0
      c.left_after-left.ensures c.in_ok-push_kept.ensures c.loop-c.invariant.whole;
}

pub returns : goal.returns
returns c =
    dedent-end (string_bytes c.loop-c.out) (string_bytes c.args.out.now ++ encode_utf8_all (without_blanks c.args.count 0 (chars c.args.text.now))) (chars_rest c.loop-c.c-iterator) c.args.count c.loop-c.left c.in-None.ensures.steps.0.0 c.loop-c.invariant.whole
