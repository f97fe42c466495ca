use Rattle.std.proofs.Common.{ap, arith, length}
use Rattle.tree_rows.proofs.Stored.{length-rows, length-parents}
use Rattle.tree_rows.proofs.rows.Rows.len.Goals as goal

pub returns-clause-value : goal.returns-clause-value
returns-clause-value c =
    let a = c.self.inside in
    omega (arith, c.len.ensures, length-rows a.flat.items a.high.items, ap (λ k. length k.rows) c.self.view_is, a.flat.ok.0)

pub returns-clause-parents : goal.returns-clause-parents
returns-clause-parents c =
    let a = c.self.inside in
    omega (arith, c.len.ensures, length-parents a.flat.items a.high.items, ap (λ k. length k.parents) c.self.view_is, a.flat.ok.0)
