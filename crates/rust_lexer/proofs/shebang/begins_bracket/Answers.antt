use Rattle.std.proofs.Common.{◌≡◌, ◌∙◌, sym, ap, length, ◌+◌, ◌-◌, arith, ℕ, subst}
use Rattle.std.specs.Str.{IsUtf8}
use Rattle.rust_lexer.specs.declared.shape.Shape.{Shape}
use Rattle.rust_lexer.specs.Cuts.{back_of}
use Rattle.rust_lexer.specs.Heads.{begins_bracket_of, is_passed_over_of, is_bracket_of}
use Rattle.rust_lexer.proofs.Turns.{bracket-more, bracket-stop, bracket-end}
use Rattle.rust_lexer.proofs.Cutting.{back-utf8}
use Rattle.rust_lexer.proofs.shebang.begins_bracket.Goals as goal

pub loop-turn-init : goal.loop-turn-init
loop-turn-init c =
    let z : length c.args.text.now - 0 ≡ length c.args.text.now = omega arith in
    record { is_text = c.utf8.text; same = ap (λ (k : ℕ). begins_bracket_of k c.args.edition c.args.text.now) z }

pub token-shape-requires-text-text : goal.token-shape-requires-text-text
token-shape-requires-text-text c = λ _. c.loop-turn.invariant.is_text

pub returns-then-not-is_passed_over : goal.returns-then-not-is_passed_over
returns-then-not-is_passed_over c =
    let h = ap (λ (x : Shape). is_passed_over_of x.kind) (sym c.token-shape.ensures) ∙ (sym c.is_passed_over.ensures ∙ c.if-not-is_passed_over.true) in
    c.is_bracket.ensures ∙ (ap (λ (x : Shape). is_bracket_of x.kind) c.token-shape.ensures ∙ (sym (bracket-stop (length c.args.text.now) c.loop-turn.turn c.args.edition c.loop-turn.rest.now c.loop-turn-test.true h) ∙ c.loop-turn.invariant.same))

pub loop-turn-preserved : goal.loop-turn-preserved
loop-turn-preserved c =
    let h = ap (λ (x : Shape). is_passed_over_of x.kind) (sym c.token-shape.ensures) ∙ (sym c.is_passed_over.ensures ∙ c.if-not-is_passed_over.false) in
    let more = bracket-more (length c.args.text.now) c.loop-turn.turn c.args.edition c.loop-turn.rest.now c.loop-turn-test.true h in
    let tail = c.split.ensures.back ∙ ap (λ (x : Shape). back_of x.left c.loop-turn.rest.now) c.token-shape.ensures in
    record {
      is_text = subst IsUtf8 (sym c.split.ensures.back) (back-utf8 c.token-shape.result.left c.loop-turn.rest.now c.loop-turn.invariant.is_text);
      same = ap (begins_bracket_of (length c.args.text.now - (c.loop-turn.turn + 1)) c.args.edition) tail ∙ (sym more ∙ c.loop-turn.invariant.same);
    }

pub returns : goal.returns
returns c =
    let z : length c.args.text.now - c.loop-turn.turn ≡ 0 = omega (arith, c.loop-turn-test.false) in
    sym (bracket-end (length c.args.text.now - c.loop-turn.turn) c.args.edition c.loop-turn.rest.now z) ∙ c.loop-turn.invariant.same
