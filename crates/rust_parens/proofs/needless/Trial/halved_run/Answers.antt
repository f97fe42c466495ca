use Rattle.std.proofs.Common.{arith, rules}
use Rattle.ras_front_end.specs.Front.{Front}
use Rattle.rust_parens.proofs.TriedLemmas.{is_run, if_ok}
use Rattle.rust_parens.proofs.needless.Trial.halved_run.Goals as goal

pub returns-then-is_some : goal.returns-then-is_some
returns-then-is_some g c =
    let front : Front = g.F.FrontEnd.answers c.args.self.now.front.now in
    if_ok c.run_of.result c.run_of.ensures (λ run.
    is_run front c.args.self.now.entry c.args.self.now.edition c.args.self.now.old.now c.args.chosen.now c.args.rest.now c.loop-count.count c.in_ok-text.text run
    (omega (arith, c.loop-count-test.true)) c.loop-count.invariant (Prim.search rules) c.in_ok-text.ensures)
