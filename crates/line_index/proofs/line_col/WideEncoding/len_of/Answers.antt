use Rattle.std.proofs.Common.{arith}
use Rattle.std.proofs.lemmas.Str.{IsUtf8-past_char}
use Rattle.std.specs.Str.Iter.{chars_rest}
use Rattle.line_index.proofs.WideLemmas.{wide_length_le, wide_past, wide_end}
use Rattle.line_index.proofs.line_col.WideEncoding.len_of.Goals as goal

pub overflow_add-len : goal.overflow_add-len
overflow_add-len c =
    let past = wide_past c.args.self (chars_rest c.loop-c.c-iterator) (chars_rest c.next.new.self) c.in-Some.c c.loop-c.invariant.0 c.in-Some.ensures.steps.0 in
    omega (arith, past, c.loop-c.invariant.1, c.units-len.ensures, wide_length_le c.args.self c.args.text.now c.utf8.text, c.requires)

pub loop-c-preserved : goal.loop-c-preserved
loop-c-preserved c =
    let past = wide_past c.args.self (chars_rest c.loop-c.c-iterator) (chars_rest c.next.new.self) c.in-Some.c c.loop-c.invariant.0 c.in-Some.ensures.steps.0 in (
      IsUtf8-past_char (chars_rest c.loop-c.c-iterator) (chars_rest c.next.new.self) c.in-Some.c c.loop-c.invariant.0 c.in-Some.ensures.steps.0,
      omega (arith, past, c.loop-c.invariant.1, c.units-len.ensures),
    )

pub returns : goal.returns
returns c = omega (arith, c.loop-c.invariant.1, wide_end c.args.self (chars_rest c.loop-c.c-iterator) c.in-None.ensures.steps.0.0)
