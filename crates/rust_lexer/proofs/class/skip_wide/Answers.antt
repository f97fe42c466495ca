use Rattle.std.proofs.Common.{◌≡◌, ◌∙◌, sym, ap, length, ◌+◌, ◌-◌, arith}
use Rattle.rust_lexer.specs.Classes.{skip_some}
use Rattle.rust_lexer.proofs.Reading.{some-more, some-stop, some-end}
use Rattle.rust_lexer.proofs.class.skip_wide.Goals as goal

pub returns-then-not-begins_wide : goal.returns-then-not-begins_wide
returns-then-not-begins_wide c =
    sym (some-stop (length c.args.bytes.now - c.loop-turn.turn) c.args.class c.loop-turn.rest.now (sym c.begins_wide.ensures ∙ c.if-not-begins_wide.true)) ∙ c.loop-turn.invariant

pub loop-turn-preserved : goal.loop-turn-preserved
loop-turn-preserved c =
    let e = some-more (length c.args.bytes.now) c.loop-turn.turn c.args.class c.loop-turn.rest.now c.loop-turn-test.true (sym c.begins_wide.ensures ∙ c.if-not-begins_wide.false) in
    ap (skip_some (length c.args.bytes.now - (c.loop-turn.turn + 1)) c.args.class) c.after_char-rest.ensures ∙ (sym e ∙ c.loop-turn.invariant)

pub returns : goal.returns
returns c =
    let z : length c.args.bytes.now - c.loop-turn.turn ≡ 0 = omega (arith, c.loop-turn-test.false) in
    sym (some-end (length c.args.bytes.now - c.loop-turn.turn) c.args.class c.loop-turn.rest.now z) ∙ c.loop-turn.invariant
