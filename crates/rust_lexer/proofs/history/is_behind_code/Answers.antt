use Rattle.std.proofs.Common.{◌≡◌, ◌∙◌, sym, ap, length, ◌+◌, ◌-◌, arith, ℕ, reverse}
use Rattle.rust_lexer.specs.History.{is_behind_code_of, is_code_of}
use Rattle.rust_lexer.proofs.Turns.{code-here, code-before, code-none, code-end}
use Rattle.rust_lexer.proofs.history.is_behind_code.Goals as goal

pub returns-in-None : goal.returns-in-None
returns-in-None c = sym (code-none (5 - c.loop-turn.turn) c.loop-turn.earlier.now c.loop-turn.text.now c.in-None.ensures.cases) ∙ c.loop-turn.invariant

pub returns-then-is_code : goal.returns-then-is_code
returns-then-is_code c =
    let t = c.in-Some.token.now in
    let start = ap (λ (n : ℕ). length c.loop-turn.text.now - n) c.raw.ensures in
    let h = sym (c.is_code.ensures ∙ ap (is_code_of t.kind) c.split_at.ensures.back) ∙ c.if-is_code.true in
    sym (code-here 5 c.loop-turn.turn c.loop-turn.earlier.now c.in-Some.before.now t c.loop-turn.text.now c.in-Some.ensures.cases.0 c.loop-turn-test.true (cc)) ∙ c.loop-turn.invariant

pub loop-turn-preserved : goal.loop-turn-preserved
loop-turn-preserved c =
    let t = c.in-Some.token.now in
    let h = sym (c.is_code.ensures ∙ ap (is_code_of t.kind) c.split_at.ensures.back) ∙ c.if-is_code.false in
    let e = code-before 5 c.loop-turn.turn c.loop-turn.earlier.now c.in-Some.before.now t c.loop-turn.text.now c.in-Some.ensures.cases.0 c.loop-turn-test.true (cc) in
    ap (is_behind_code_of (5 - (c.loop-turn.turn + 1)) (reverse c.in-Some.before.now)) (cc) ∙ (sym e ∙ c.loop-turn.invariant)

pub returns : goal.returns
returns c =
    let z : 5 - c.loop-turn.turn ≡ 0 = omega (arith, c.loop-turn-test.false) in
    sym (code-end (5 - c.loop-turn.turn) (reverse c.loop-turn.earlier.now) c.loop-turn.text.now z) ∙ c.loop-turn.invariant
