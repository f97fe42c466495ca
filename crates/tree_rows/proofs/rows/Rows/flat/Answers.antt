use Rattle.std.proofs.Common.{◌≡◌, ◌∙◌, [], ap, sym, arith}
use Rattle.tree_rows.specs.Stored.{rows_kept, flat_columns}
use Rattle.tree_rows.proofs.Stored.{none_there, flat_kept}
use Rattle.tree_rows.proofs.rows.Rows.flat.Goals as goal

pub returns-then-is_empty : goal.returns-then-is_empty
returns-then-is_empty c =
    let a = c.self.inside in
    let none : a.high.items ≡ [] = none_there a.high.items _ (omega (arith, a.high.ok.0)) c.if-is_empty.ensures in
    c.deref.ensures.value ∙ flat_kept a.flat.items c.self.invariant.numbered
    ∙ ap flat_columns (ap (rows_kept a.flat.items) (sym none) ∙ c.self.view_is)
