use Rattle.std.proofs.Common.{◌∙◌, ap, sym, subst, arith, length, get_or}
use Rattle.std.proofs.lemmas.List.Elements.{All-get_or}
use Rattle.tree_rows.specs.Stored.{IsNumbered, no_high}
use Rattle.tree_rows.proofs.Stored.{length-rows, end_put, ok_then}
use Rattle.tree_rows.proofs.rows.Rows.set_end.Goals as goal

pub index-flat-requires : goal.index-flat-requires
index-flat-requires c =
    let a = c.self.inside in
    omega (arith, c.requires.is_row, length-rows a.flat.items a.high.items, ap (λ k. length k.rows) c.self.view_is, a.flat.ok.0)

pub put-requires-clause-numbered : goal.put-requires-clause-numbered
put-requires-clause-numbered c =
    let a = c.self.inside in
    subst IsNumbered (sym c.index-flat.ensures)
    (All-get_or IsNumbered a.flat.items c.args.n c.index-flat.result.now (omega (arith, c.requires.is_row, length-rows a.flat.items a.high.items, ap (λ k. length k.rows) c.self.view_is)) c.self.invariant.numbered)

pub returns : goal.returns
returns c =
    let a = c.self.inside in
    ok_then c.put.result
    (λ e. e ∙ end_put c.args.self.now a.flat.items a.high.items c.args.n c.args.end c.high_half.result c.low_half.result c.high_at.result.parent c.index-flat.result.now c.self.view_is
    (omega (arith, c.requires.is_row, length-rows a.flat.items a.high.items, ap (λ k. length k.rows) c.self.view_is)) c.index-flat.ensures
    (ap (λ h. h.parent) (c.high_at.ensures ∙ ap (λ l. get_or l c.args.n no_high) c.deref.ensures.value)) c.high_half.ensures c.low_half.ensures c.requires.fits)
    c.put.ensures
