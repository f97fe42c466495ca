use Rattle.std.proofs.Common.{◌∙◌, ap, sym, arith, length, get_or}
use Rattle.tree_rows.specs.Stored.{no_high, parent_in, slot}
use Rattle.tree_rows.proofs.Stored.{parent_read, length-rows}
use Rattle.tree_model.proofs.At.{cong₂}
use Rattle.tree_rows.proofs.rows.Rows.parent.Goals as goal

pub index-requires : goal.index-requires
index-requires c =
    let a = c.self.inside in
    omega (arith, c.requires, length-rows a.flat.items a.high.items, ap (λ k. length k.rows) c.self.view_is, a.flat.ok.0)

pub returns : goal.returns
returns c =
    let a = c.self.inside in
    cong₂ (λ x y. parent_in (slot x y)) c.index.ensures (c.high_at-parent.ensures ∙ ap (λ l. get_or l c.args.n no_high) c.deref.ensures.value)
    ∙ sym (parent_read a.flat.items a.high.items c.args.n c.index.result.now (omega (arith, c.requires, length-rows a.flat.items a.high.items, ap (λ k. length k.rows) c.self.view_is)))
    ∙ ap (λ k. get_or k.parents c.args.n 0) c.self.view_is
