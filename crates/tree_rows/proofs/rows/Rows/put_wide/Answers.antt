use Rattle.std.proofs.Common.{◌∙◌, ap, arith, length}
use Rattle.tree_rows.specs.Stored.{with_row, slot}
use Rattle.tree_rows.proofs.Stored.{length-rows, Widened, widened, set_kept, rows_kept-set}
use Rattle.tree_rows.proofs.rows.Rows.put_wide.Goals as goal
use Rattle.tree_rows.proofs.rows.Rows.put_wide.Goals.{In_ok-resize}

wide : (c : In_ok-resize) → Widened c.self.inside.flat.items c.self.inside.high.items c.resize.new.self.items
wide c =
    let a = c.self.inside in
    widened a.flat.items a.high.items c.resize.new.self.items _ _ c.in_ok-resize.ensures.items (omega (arith, c.len-count.ensures, a.flat.ok.0))
    (omega (arith, c.len-count.ensures, a.flat.ok.0, a.high.ok.0)) c.self.invariant.beside

pub index_mut-requires : goal.index_mut-requires
index_mut-requires c =
    let a = c.self.inside in
    omega (arith, c.in_ok-resize.ensures.len, c.len-count.ensures, c.requires.is_row, length-rows a.flat.items a.high.items, ap (λ k. length k.rows) c.self.view_is, a.flat.ok.0)

pub index_mut-requires-2 : goal.index_mut-requires-2
index_mut-requires-2 c =
    let a = c.self.inside in
    omega (arith, c.requires.is_row, length-rows a.flat.items a.high.items, ap (λ k. length k.rows) c.self.view_is, a.flat.ok.0)

pub invariant_of-self-2 : goal.invariant_of-self-2
invariant_of-self-2 c =
    let a = c.self.inside in
    set_kept a.flat.items a.high.items c.resize.new.self.items c.args.n c.args.flat c.args.high c.self.invariant (wide (goal.at.invariant_of-self-2 c).In_ok-resize).long c.requires.numbered

pub returns : goal.returns
returns c =
    let a = c.self.inside in
    let w = wide (goal.at.returns c).In_ok-resize in
    rows_kept-set a.flat.items c.resize.new.self.items c.args.n c.args.flat c.args.high w.long
    ∙ ap (λ k. with_row k c.args.n (slot c.args.flat c.args.high)) (w.same ∙ c.self.view_is)
