use Rattle.std.proofs.Common.{◌∙◌, sym, ap, List, ℕ}
use Rattle.rust_lexer.specs.declared.scan.Scan.{Scan}
use Rattle.rust_lexer.proofs.Reading.{run-none, run-some, run-end}
use Rattle.rust_lexer.proofs.scan.run.Goals as goal

pub returns-in-None-clause-scan : goal.returns-in-None-clause-scan
returns-in-None-clause-scan c =
    let e = run-none c.loop-first.scan c.loop-first.rest.now c.in-Some.tail.now c.in-Some.first.now c.in-Some.ensures.cases.0 c.in-None.ensures in
    sym (ap (λ (p : Scan × List ℕ). p.0) (sym c.loop-first.invariant ∙ e))

pub returns-in-None-clause-rest : goal.returns-in-None-clause-rest
returns-in-None-clause-rest c =
    let e = run-none c.loop-first.scan c.loop-first.rest.now c.in-Some.tail.now c.in-Some.first.now c.in-Some.ensures.cases.0 c.in-None.ensures in
    sym (ap (λ (p : Scan × List ℕ). p.1) (sym c.loop-first.invariant ∙ e))

pub loop-first-preserved : goal.loop-first-preserved
loop-first-preserved c =
    sym (run-some c.loop-first.scan c.in-Some-next.further c.loop-first.rest.now c.in-Some.tail.now c.in-Some.first.now c.in-Some.ensures.cases.0 c.in-Some-next.ensures) ∙ c.loop-first.invariant

pub returns-clause-scan : goal.returns-clause-scan
returns-clause-scan c =
    let e = run-end c.loop-first.scan c.loop-first.rest.now c.in_default.ensures.cases in
    sym (ap (λ (p : Scan × List ℕ). p.0) (sym c.loop-first.invariant ∙ e))

pub returns-clause-rest : goal.returns-clause-rest
returns-clause-rest c =
    let e = run-end c.loop-first.scan c.loop-first.rest.now c.in_default.ensures.cases in
    sym (ap (λ (p : Scan × List ℕ). p.1) (sym c.loop-first.invariant ∙ e))
