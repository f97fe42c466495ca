use Rattle.std.proofs.Common.{◌≡◌, ◌∙◌, sym, ap, length, ◌+◌, ◌-◌, arith, ℕ, subst}
use Rattle.std.specs.Str.{IsUtf8}
use Rattle.rust_lexer.specs.Lexing.{Lexing, steps_of, lexing_of}
use Rattle.rust_lexer.specs.Tokens.{token_of}
use Rattle.rust_lexer.proofs.Cutting.{back-utf8}
use Rattle.rust_lexer.proofs.Steps.{steps-more, steps-stop, steps-end}
use Rattle.rust_lexer.proofs.lexer.take_all.Goals as goal

pub loop-turn-init : goal.loop-turn-init
loop-turn-init c =
    let z : length c.args.text.now - 0 ≡ length c.args.text.now = omega arith in
    record { is_text = c.utf8.rest; same = ap (λ (k : ℕ). steps_of k c.args.edition c.args.text.now (lexing_of c.args.lexed.now c.args.rest.now)) z }

pub returns-then-is_empty-clause-tokens : goal.returns-then-is_empty-clause-tokens
returns-then-is_empty-clause-tokens c =
    let s = lexing_of c.loop-turn.lexed c.loop-turn.rest.now in
    let e = steps-stop (length c.args.text.now - c.loop-turn.turn) c.args.edition c.args.text.now s (sym c.is_empty.ensures ∙ c.if-is_empty.true) in
    ap (λ (x : Lexing). x.tokens) (sym e ∙ c.loop-turn.invariant.same)

pub returns-then-is_empty-clause-errors : goal.returns-then-is_empty-clause-errors
returns-then-is_empty-clause-errors c =
    let s = lexing_of c.loop-turn.lexed c.loop-turn.rest.now in
    let e = steps-stop (length c.args.text.now - c.loop-turn.turn) c.args.edition c.args.text.now s (sym c.is_empty.ensures ∙ c.if-is_empty.true) in
    ap (λ (x : Lexing). x.errors) (sym e ∙ c.loop-turn.invariant.same)

pub loop-turn-preserved : goal.loop-turn-preserved
loop-turn-preserved c =
    let s = lexing_of c.loop-turn.lexed c.loop-turn.rest.now in
    let e = steps-more (length c.args.text.now) c.loop-turn.turn c.args.edition c.args.text.now s c.loop-turn-test.true (sym c.is_empty.ensures ∙ c.if-is_empty.false) in
    let rest_is = ap (λ (x : Lexing). x.rest) c.in_ok-rest.ensures in
    record {
      is_text = subst IsUtf8 (sym rest_is) (back-utf8 (token_of c.args.edition c.loop-turn.rest.now).left c.loop-turn.rest.now c.loop-turn.invariant.is_text);
      same = ap (steps_of (length c.args.text.now - (c.loop-turn.turn + 1)) c.args.edition c.args.text.now) c.in_ok-rest.ensures ∙ (sym e ∙ c.loop-turn.invariant.same);
    }

pub returns-clause-tokens : goal.returns-clause-tokens
returns-clause-tokens c =
    let z : length c.args.text.now - c.loop-turn.turn ≡ 0 = omega (arith, c.loop-turn-test.false) in
    let e = steps-end (length c.args.text.now - c.loop-turn.turn) c.args.edition c.args.text.now (lexing_of c.loop-turn.lexed c.loop-turn.rest.now) z in
    ap (λ (x : Lexing). x.tokens) (sym e ∙ c.loop-turn.invariant.same)

pub returns-clause-errors : goal.returns-clause-errors
returns-clause-errors c =
    let z : length c.args.text.now - c.loop-turn.turn ≡ 0 = omega (arith, c.loop-turn-test.false) in
    let e = steps-end (length c.args.text.now - c.loop-turn.turn) c.args.edition c.args.text.now (lexing_of c.loop-turn.lexed c.loop-turn.rest.now) z in
    ap (λ (x : Lexing). x.errors) (sym e ∙ c.loop-turn.invariant.same)
