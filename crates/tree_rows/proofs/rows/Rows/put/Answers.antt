use Rattle.std.proofs.Common.{◌≡◌, ◌∙◌, [], ap, sym, arith, length}
use Rattle.std.proofs.Math.ListN.{set}
use Rattle.tree_rows.specs.Stored.{rows_kept, with_row, slot}
use Rattle.tree_rows.proofs.Stored.{length-rows, none_there, same_high, rows_kept-set_low}
use Rattle.tree_model.proofs.At.{cong₂}
use Rattle.tree_rows.proofs.rows.Rows.put.Goals as goal

pub index_mut-requires : goal.index_mut-requires
index_mut-requires c =
    let a = c.self.inside in
    omega (arith, c.requires.is_row, length-rows a.flat.items a.high.items, ap (λ k. length k.rows) c.self.view_is, a.flat.ok.0)

pub returns-then-high-eq0-2 : goal.returns-then-high-eq0-2
returns-then-high-eq0-2 c =
    let a = c.self.inside in
    let fs = a.flat.items in
    let n = c.args.n in
    let f = c.args.flat in
    let none : a.high.items ≡ [] = none_there a.high.items _ (omega (arith, a.high.ok.0)) c.if-is_empty.ensures in
    ap (rows_kept (set fs n f)) none ∙ rows_kept-set_low fs n f
    ∙ cong₂ (λ k h. with_row k n (slot f h)) (ap (rows_kept fs) (sym none) ∙ c.self.view_is) (sym (same_high c.args.high c.if-high-eq0.true c.if-high-eq0-2.true))
