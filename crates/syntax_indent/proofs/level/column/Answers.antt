use Rattle.std.proofs.Common.{◌∙◌, sym, arith}
use Rattle.std.proofs.lemmas.Str.{IsUtf8-past_char}
use Rattle.std.specs.Str.{chars}
use Rattle.std.specs.Str.Iter.{chars_rest}
use Rattle.syntax_indent.proofs.LevelLemmas.{room_past, column-newline, column-other, column-end}
use Rattle.syntax_indent.proofs.level.column.Goals as goal

pub loop-c-preserved-then-is_newline : goal.loop-c-preserved-then-is_newline
loop-c-preserved-then-is_newline c = record {
  utf8 = IsUtf8-past_char (chars_rest c.loop-c.c-iterator) (chars_rest c.next.new.self) c.in-Some.c c.loop-c.invariant.utf8 c.in-Some.ensures.steps.0;
  room = omega (arith, room_past (chars_rest c.loop-c.c-iterator) (chars_rest c.next.new.self) c.in-Some.c c.in-Some.ensures.steps.0, c.loop-c.invariant.room);
  whole = column-newline (chars_rest c.loop-c.c-iterator) (chars_rest c.next.new.self) (chars c.args.text.now) c.in-Some.c c.loop-c.behind c.loop-c.invariant.utf8 c.in-Some.ensures.steps.0 (sym c.is_newline.ensures ∙ c.if-is_newline.true) c.loop-c.invariant.whole;
}

pub loop-c-preserved : goal.loop-c-preserved
loop-c-preserved c = record {
  utf8 = IsUtf8-past_char (chars_rest c.loop-c.c-iterator) (chars_rest c.next.new.self) c.in-Some.c c.loop-c.invariant.utf8 c.in-Some.ensures.steps.0;
  room = omega (arith, room_past (chars_rest c.loop-c.c-iterator) (chars_rest c.next.new.self) c.in-Some.c c.in-Some.ensures.steps.0, c.loop-c.invariant.room);
  whole = column-other (chars_rest c.loop-c.c-iterator) (chars_rest c.next.new.self) (chars c.args.text.now) c.in-Some.c c.loop-c.behind c.loop-c.invariant.utf8 c.in-Some.ensures.steps.0 (sym c.is_newline.ensures ∙ c.if-is_newline.false) c.loop-c.invariant.whole;
}

pub returns : goal.returns
returns c = sym (column-end (chars_rest c.loop-c.c-iterator) c.loop-c.behind c.in-None.ensures.steps.0.0) ∙ c.loop-c.invariant.whole
