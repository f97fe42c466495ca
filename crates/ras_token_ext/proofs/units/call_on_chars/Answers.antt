use Rattle.std.proofs.Common.{of_calls, rules, length, ap, ◌∙◌, ◌+◌, subst, arith, length-append}
use Rattle.std.proofs.lemmas.Str.{IsUtf8-past_char, length-encode}
use Rattle.std.specs.Prelude.{Ok, encode_utf8}
use Rattle.std.specs.Char.{len_utf8}
use Rattle.std.specs.List.{FoldsTo}
use Rattle.std.specs.Str.{chars}
use Rattle.std.specs.Str.Iter.{chars_rest}
use Rattle.ras_token_ext.specs.Quotes.{bounds}
use Rattle.ras_token_ext.specs.Units.{char_calls}
use Rattle.ras_token_ext.proofs.CharCalls.{stepped, ended}
use Rattle.ras_token_ext.proofs.units.call_on_chars.Goals as goal

pub loop-c-preserved : goal.loop-c-preserved
loop-c-preserved g c =
    let range = c.new-in-Some-2.ensures ∙ (ap (λ s. bounds s c.new-in-Some.result) c.new.ensures
    ∙ ap (bounds c.loop-c.at) (c.new-in-Some.ensures ∙ ap (λ n. c.loop-c.at + n) c.len_utf8.ensures.value)) in
    let step : goal.F-step g c.loop-c.callback (bounds c.loop-c.at (c.loop-c.at + len_utf8 c.in-Some.c)) (Ok c.in-Some.c) tt c.callback.new.self =
    record { met = subst (λ r. g.F.FnMut.steps c.loop-c.callback (r, (Ok c.in-Some.c, tt)) tt c.callback.new.self) range c.callback.ensures.met } in
    record {
      callable = search (of_calls, rules);
      text = IsUtf8-past_char _ _ c.in-Some.c c.loop-c.invariant.text c.in-Some.ensures.steps.0;
      end = omega (arith, c.loop-c.invariant.end, ap length c.in-Some.ensures.steps.0, length-append (encode_utf8 c.in-Some.c) (chars_rest c.next.new.self), length-encode c.in-Some.c, c.len_utf8.ensures.value);
      called = λ last k. c.loop-c.invariant.called last (stepped (λ f call h. goal.F-step g f call.0 call.1 tt h) c.loop-c.at c.in-Some.c _ _ _ _ last c.loop-c.invariant.text c.in-Some.ensures.steps.0 step
          (subst (λ n. FoldsTo (λ f call h. goal.F-step g f call.0 call.1 tt h) c.callback.new.self (char_calls (c.loop-c.at + n) (chars (chars_rest c.next.new.self))) last) c.len_utf8.ensures.value k));
    }

pub returns : goal.returns
returns g c = c.loop-c.invariant.called c.loop-c.callback (ended (λ f call h. goal.F-step g f call.0 call.1 tt h) c.loop-c.at _ _ (omega (arith, c.in_default.ensures.steps.0)))
