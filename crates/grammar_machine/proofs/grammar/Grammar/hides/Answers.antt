use Rattle.std.proofs.Common.{◌≡◌, ◌<◌, ap, sym, ◌∙◌, arith}
use Rattle.grammar_machine.specs.declared.grammar.View.TheVariants.{One}
use Rattle.grammar_machine.specs.Running.{tables_of, further_of, seen_at_of, is_brace_of, hides_of}
use Rattle.grammar_machine.proofs.Hiding.{hides-none, hides-one, hides-behind}
use Rattle.grammar_machine.proofs.grammar.Grammar.hides.Goals as goal

pub returns-then-ahead-eq0 : goal.returns-then-ahead-eq0
returns-then-ahead-eq0 c =
    let g = tables_of c.args.self.now in
    sym (ap (hides_of g c.args.sights.now c.args.at) c.if-ahead-eq0.true ∙ hides-none g c.args.sights.now c.args.at)

pub returns-then-is_brace : goal.returns-then-is_brace
returns-then-is_brace c =
    let g = tables_of c.args.self.now in
    let ts = c.args.sights.now in
    let here : further_of c.args.at 0 ≡ c.args.at = omega (arith, c.ranges.at.fits) in
    let some : 0 < c.args.ahead = omega (arith, c.if-ahead-eq0.false) in
    sym (hides-behind g ts c.args.at c.args.ahead 0 some
    (sym (c.is_brace.ensures ∙ ap (is_brace_of g) (c.kind_at.ensures ∙ ap (seen_at_of ts One) (sym here))) ∙ c.if-is_brace.true))

pub returns-then-ahead-eq1 : goal.returns-then-ahead-eq1
returns-then-ahead-eq1 c =
    let g = tables_of c.args.self.now in
    let ts = c.args.sights.now in
    let here : further_of c.args.at 0 ≡ c.args.at = omega (arith, c.ranges.at.fits) in
    sym (ap (hides_of g ts c.args.at) c.if-ahead-eq1.true ∙ hides-one g ts c.args.at
    ∙ sym (c.is_brace.ensures ∙ ap (is_brace_of g) (c.kind_at.ensures ∙ ap (seen_at_of ts One) (sym here))) ∙ c.if-is_brace.false)
