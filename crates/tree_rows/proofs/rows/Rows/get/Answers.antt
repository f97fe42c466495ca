use Rattle.std.proofs.Common.{◌∙◌, ap, sym, arith, length, get_or}
use Rattle.std.specs.Prelude.{nat_le, ◌^◌}
use Rattle.tree_rows.specs.Rows.{no_row}
use Rattle.tree_rows.specs.Stored.{no_high, row_in, slot, whole_end}
use Rattle.tree_rows.proofs.Stored.{row_read, length-rows}
use Rattle.tree_model.proofs.At.{cong₂}
use Rattle.tree_rows.proofs.rows.Rows.get.Goals as goal

pub returns-clause-value : goal.returns-clause-value
returns-clause-value c =
    let a = c.self.inside in
    let f = c.index-flat.result.now in
    let h = c.high_at-end.result in
    ap (λ k. record { kind = k; is_token = nat_le (2 ^ 31) f.kind; start = f.start; end = whole_end h.end f.subtree_end }) c.kind_of.ensures
    ∙ cong₂ (λ x y. row_in (slot x y)) c.index-flat.ensures (c.high_at-end.ensures ∙ ap (λ l. get_or l c.args.n no_high) c.deref.ensures.value)
    ∙ sym (row_read a.flat.items a.high.items c.args.n f (omega (arith, c.requires, length-rows a.flat.items a.high.items, ap (λ k. length k.rows) c.self.view_is)))
    ∙ ap (λ k. get_or k.rows c.args.n no_row) c.self.view_is

pub index-flat-requires : goal.index-flat-requires
index-flat-requires c =
    let a = c.self.inside in
    omega (arith, c.requires, length-rows a.flat.items a.high.items, ap (λ k. length k.rows) c.self.view_is, a.flat.ok.0)
