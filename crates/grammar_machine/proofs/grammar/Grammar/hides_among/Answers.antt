use Rattle.std.proofs.Common.{ap, ◌∙◌, sym}
use Rattle.grammar_machine.specs.Running.{tables_of, is_brace_of}
use Rattle.grammar_machine.proofs.Hiding.{hides-none, hides-more, hides-behind}
use Rattle.grammar_machine.proofs.grammar.Grammar.hides_among.Goals as goal

pub loop-i-init : goal.loop-i-init
loop-i-init c = hides-none (tables_of c.args.self.now) c.args.sights.now c.args.at

pub returns-then-is_brace : goal.returns-then-is_brace
returns-then-is_brace c =
    let g = tables_of c.args.self.now in
    sym (hides-behind g c.args.sights.now c.args.at c.args.ahead c.loop-i.i c.loop-i-test.true (sym (c.is_brace.ensures ∙ ap (is_brace_of g) c.kind_at.ensures) ∙ c.if-is_brace.true))

pub loop-i-preserved : goal.loop-i-preserved
loop-i-preserved c =
    let g = tables_of c.args.self.now in
    hides-more g c.args.sights.now c.args.at c.loop-i.i c.loop-i.invariant (sym (c.is_brace.ensures ∙ ap (is_brace_of g) c.kind_at.ensures) ∙ c.if-is_brace.false)
