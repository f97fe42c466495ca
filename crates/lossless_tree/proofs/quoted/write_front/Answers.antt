use Rattle.std.proofs.Common.{◌++◌, arith, refl, subst, true}
use Rattle.std.proofs.Output.{has_written_append}
use Rattle.std.specs.Fmt.{HasWritten}
use Rattle.std.specs.Str.{chars}
use Rattle.std.specs.Str.Iter.{chars_rest}
use Rattle.std.proofs.lemmas.Str.{IsUtf8-past_char}
use Rattle.lossless_tree.specs.Dump.{escaped}
use Rattle.lossless_tree.proofs.DumpLemmas.{front_done, front_end, front_step}
use Rattle.lossless_tree.proofs.quoted.write_front.Goals as goal

pub loop-c-preserved : goal.loop-c-preserved
loop-c-preserved g c = record {
  utf8 = IsUtf8-past_char (chars_rest c.loop-c.c-iterator) (chars_rest c.next.new.self) c.in-Some.c c.loop-c.invariant.utf8 c.in-Some.ensures.steps.0;
  whole = λ plain.
      let now = c.loop-c.invariant.whole plain in (
        now.0 ++ escaped c.in-Some.c,
        has_written_append _ _ _ _ _ _ now.1 (c.in_ok-write_escaped.ensures now.1.plain (refl {a = true})),
        front_step now.0 (now.0 ++ escaped c.in-Some.c) _ (chars_rest c.loop-c.c-iterator) (chars_rest c.next.new.self) c.in-Some.c c.loop-c.missing c.saturating_sub-missing.result
            c.loop-c.invariant.utf8 c.in-Some.ensures.steps.0 c.if-missing-eq0.false (rw c.saturating_sub-missing.ensures (omega (arith, c.len_utf8.ensures.value))) (refl {a = now.0 ++ escaped c.in-Some.c}) now.2,
      );
}

pub returns-in-None : goal.returns-in-None
returns-in-None g c =
    λ plain _.
    let now = c.loop-c.invariant.whole plain in
    subst (λ bs. HasWritten g.W.Write.write_str_gives c.args.f.now bs c.loop-c.f) (front_end now.0 _ (chars_rest c.loop-c.c-iterator) c.loop-c.missing c.in-None.ensures.steps.0.0 now.2) now.1

pub returns-then-missing-eq0 : goal.returns-then-missing-eq0
returns-then-missing-eq0 g c =
    λ plain _.
    let now = c.loop-c.invariant.whole plain in
    subst (λ bs. HasWritten g.W.Write.write_str_gives c.args.f.now bs c.loop-c.f) (front_done now.0 _ (chars (chars_rest c.loop-c.c-iterator)) c.loop-c.missing c.if-missing-eq0.true now.2) now.1
