use Rattle.std.proofs.Common.{◌≡◌, ◌∙◌, sym, ap, length, ◌+◌, ◌-◌, arith, List, ℕ}
use Rattle.rust_lexer.specs.Heads.{empty_lines, last_line_of}
use Rattle.rust_lexer.proofs.Turns.{lines-more, lines-stop, lines-end}
use Rattle.rust_lexer.proofs.front_matter.skip_empty_lines.Goals as goal

pub returns-then-not-begins_wide : goal.returns-then-not-begins_wide
returns-then-not-begins_wide c =
    sym (lines-stop (length c.args.bytes.now - c.loop-turn.turn) c.loop-turn.behind_line.now c.loop-turn.rest.now (sym c.begins_wide.ensures ∙ c.if-not-begins_wide.true)) ∙ c.loop-turn.invariant

pub loop-turn-preserved : goal.loop-turn-preserved
loop-turn-preserved c =
    let n = length c.args.bytes.now - (c.loop-turn.turn + 1) in
    let e = lines-more (length c.args.bytes.now) c.loop-turn.turn c.loop-turn.behind_line.now c.loop-turn.rest.now c.loop-turn-test.true (sym c.begins_wide.ensures ∙ c.if-not-begins_wide.false) in
    ap (λ (p : List ℕ). empty_lines n p c.after_char-rest.result.now) c.last_line-behind_line.ensures ∙ (ap (empty_lines n (last_line_of c.loop-turn.behind_line.now c.loop-turn.rest.now)) c.after_char-rest.ensures ∙ (sym e ∙ c.loop-turn.invariant))

pub returns : goal.returns
returns c =
    let z : length c.args.bytes.now - c.loop-turn.turn ≡ 0 = omega (arith, c.loop-turn-test.false) in
    sym (lines-end (length c.args.bytes.now - c.loop-turn.turn) c.loop-turn.behind_line.now c.loop-turn.rest.now z) ∙ c.loop-turn.invariant
