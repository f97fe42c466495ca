use Rattle.std.proofs.Common.{◌≡◌, ◌<◌, ◌^◌, ◌∙◌, inl, inr, ap, sym, subst, arith, length, get_or}
use Rattle.std.proofs.lemmas.List.Elements.{All-get_or}
use Rattle.tree_rows.specs.Rows.{no_row}
use Rattle.tree_rows.specs.MovedRows.{moved_number}
use Rattle.tree_rows.specs.Stored.{IsNumbered}
use Rattle.tree_rows.proofs.Stored.{length-rows, row_read, moved_put, ok_then}
use Rattle.tree_rows.proofs.MovedRows.{moved-above, moved-below}
use Rattle.tree_model.proofs.At.{below_or_after}
use Rattle.tree_rows.proofs.rows.Rows.move_row.Goals as goal

pub index-flat-requires : goal.index-flat-requires
index-flat-requires c =
    let a = c.self.inside in
    omega (arith, c.requires.is_row, length-rows a.flat.items a.high.items, ap (λ k. length k.rows) c.self.view_is, a.flat.ok.0)

pub start-requires : goal.start-requires
start-requires c =
    let a = c.self.inside in
    let f = c.index-flat.result.now in
    let old = get_or c.args.self.now.rows c.args.n no_row in
    let lt : c.args.n < length a.flat.items = omega (arith, c.requires.is_row, length-rows a.flat.items a.high.items, ap (λ k. length k.rows) c.self.view_is) in
    let same : old.start ≡ f.start =
    ap (λ k. (get_or k.rows c.args.n no_row).start) (sym c.self.view_is) ∙ ap (λ r. r.start) (row_read a.flat.items a.high.items c.args.n f lt) ∙ ap (λ x. x.start) (sym c.index-flat.ensures) in
    let fits = c.requires.row_fits (omega (arith, c.get.ensures.fits, ap (λ r. r.end) c.get.ensures.value)) in
    omega (arith, fits.byte_fits, same)

pub put-requires-clause-numbered : goal.put-requires-clause-numbered
put-requires-clause-numbered c =
    let a = c.self.inside in
    subst IsNumbered (sym c.index-flat.ensures)
    (All-get_or IsNumbered a.flat.items c.args.n c.index-flat.result.now (omega (arith, c.requires.is_row, length-rows a.flat.items a.high.items, ap (λ k. length k.rows) c.self.view_is)) c.self.invariant.numbered)

pub returns : goal.returns
returns c =
    let a = c.self.inside in
    let by = c.args.by in
    let now = c.args.self.now in
    let n = c.args.n in
    let old = get_or now.rows n no_row in
    let is_end : c.number-end.result ≡ moved_number by old.end = c.number-end.ensures ∙ ap (λ r. moved_number by r.end) c.get.ensures.value in
    let small : old.end < 2 ^ 63 = omega (arith, c.get.ensures.fits, ap (λ r. r.end) c.get.ensures.value) in
    let fits = c.requires.row_fits small in
    let moved_fits : moved_number by old.end < 2 ^ 63 =
    elim (below_or_after old.end by.from_row) [
      | inl less ↦ omega (arith, moved-below by old.end less, small)
      | inr more ↦ omega (arith, moved-above by old.end (omega (arith, more.1)), fits.end_fits)
    ] in
    ok_then c.put.result
    (λ e. e ∙ moved_put by now a.flat.items a.high.items n c.start.result c.high_half.result c.low_half.result c.high_half-2.result c.low_half-2.result c.number-end.result c.number-parent.result
    c.index-flat.result.now c.self.view_is (omega (arith, c.requires.is_row, length-rows a.flat.items a.high.items, ap (λ k. length k.rows) c.self.view_is)) c.index-flat.ensures
    c.start.ensures is_end (c.number-parent.ensures ∙ ap (moved_number by) c.parent.ensures) c.high_half.ensures c.low_half.ensures c.high_half-2.ensures c.low_half-2.ensures
    (omega (arith, is_end, moved_fits)))
    c.put.ensures
