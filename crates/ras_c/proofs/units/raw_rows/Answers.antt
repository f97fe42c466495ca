use Rattle.std.proofs.Common.{◌≡◌, ◌+◌, ◌∷◌, ◌++◌, [], length, ap, sym, ◌∙◌, subst, arith, length-append}
use Rattle.std.proofs.lemmas.Str.{IsUtf8-past_char, length-encode}
use Rattle.std.specs.Prelude.{encode_utf8}
use Rattle.std.specs.Str.{chars}
use Rattle.std.specs.Str.Iter.{chars_rest}
use Rattle.ras_c.specs.Units.{char_row, char_rows}
use Rattle.ras_c.proofs.UnitsLemmas.{one_more, none_left}
use Rattle.ras_c.proofs.units.raw_rows.Goals as goal

pub loop-c-preserved : goal.loop-c-preserved
loop-c-preserved c =
    let row = c.char_row.ensures ∙ ap (λ n. char_row c.loop-c.at (c.loop-c.at + n) c.in-Some.c) c.len_utf8.ensures.value in
    let more = c.in_ok-push.ensures.items ∙ ap (λ r. c.loop-c.rows.items ++ r ∷ []) row in
    let all = one_more c.loop-c.at c.in-Some.c _ _ c.loop-c.rows.items c.push.new.self.items _ c.loop-c.invariant.text c.in-Some.ensures.steps.0 more c.loop-c.invariant.all in
    record {
      text = IsUtf8-past_char _ _ c.in-Some.c c.loop-c.invariant.text c.in-Some.ensures.steps.0;
      end = omega (arith, c.loop-c.invariant.end, ap length c.in-Some.ensures.steps.0, length-append (encode_utf8 c.in-Some.c) (chars_rest c.next.new.self), length-encode c.in-Some.c, c.len_utf8.ensures.value);
      all = subst (λ n. c.push.new.self.items ++ char_rows (c.loop-c.at + n) (chars (chars_rest c.next.new.self)) ≡ char_rows c.args.offset (chars c.args.content.now)) (sym c.len_utf8.ensures.value) all;
    }

pub returns : goal.returns
returns c = none_left c.loop-c.at _ c.loop-c.rows.items _ (omega (arith, c.in_default.ensures.steps.0)) c.loop-c.invariant.all
