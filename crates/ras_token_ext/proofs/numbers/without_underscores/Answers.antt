use Rattle.std.proofs.Common.{ap, ◌∙◌, ◌++◌, arith}
use Rattle.std.specs.Str.Iter.{chars_rest}
use Rattle.std.proofs.lemmas.Str.{IsUtf8-past_char}
use Rattle.ras_token_ext.specs.Numbers.{value_text}
use Rattle.ras_token_ext.proofs.ValueTexts.{kept, dropped, ended}
use Rattle.ras_token_ext.proofs.numbers.without_underscores.Goals as goal

pub loop-c-preserved-in-Continue-1 : goal.loop-c-preserved-in-Continue-1
loop-c-preserved-in-Continue-1 c = record {
  same = ap (λ bs. bs ++ value_text (chars_rest c.next.new.self)) c.in_ok-push.ensures.bytes ∙ kept _ _ _ _ c.in-Some.c c.loop-c.invariant.text c.in-Some.ensures.steps.0 c.if-c-ne95.true c.loop-c.invariant.same;
  text = IsUtf8-past_char _ _ c.in-Some.c c.loop-c.invariant.text c.in-Some.ensures.steps.0;
}

pub loop-c-preserved : goal.loop-c-preserved
loop-c-preserved c = record {
  same = dropped _ _ _ _ c.in-Some.c c.loop-c.invariant.text c.in-Some.ensures.steps.0 c.if-c-ne95.false c.loop-c.invariant.same;
  text = IsUtf8-past_char _ _ c.in-Some.c c.loop-c.invariant.text c.in-Some.ensures.steps.0;
}

pub returns : goal.returns
returns c = ended _ _ _ (omega (arith, c.in_default.ensures.steps.0)) c.loop-c.invariant.same
