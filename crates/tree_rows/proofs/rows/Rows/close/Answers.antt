use Rattle.std.proofs.Common.{◌≡◌, ◌∙◌, ◌<◌, ◌^◌, ◌/◌, ◌%◌, [], ap, sym, arith, length, get_or}
use Rattle.std.proofs.Math.ListN.{set}
use Rattle.std.proofs.lemmas.List.{get_or_past}
use Rattle.tree_rows.specs.declared.table.flat.FlatRow.{FlatRow}
use Rattle.tree_rows.specs.Stored.{rows_kept, with_row, slot, no_high, parent_in}
use Rattle.tree_rows.proofs.Stored.{length-rows, none_there, rows_kept-set_low, end_put, parent_read}
use Rattle.tree_model.proofs.At.{cong₂}
use Rattle.tree_rows.proofs.rows.Rows.close.Goals as goal

pub index-flat-requires : goal.index-flat-requires
index-flat-requires c =
    let a = c.self.inside in
    omega (arith, c.requires, length-rows a.flat.items a.high.items, ap (λ k. length k.rows) c.self.view_is, a.flat.ok.0)

pub index_mut-requires : goal.index_mut-requires
index_mut-requires c =
    let a = c.self.inside in
    omega (arith, c.requires, length-rows a.flat.items a.high.items, ap (λ k. length k.rows) c.self.view_is, a.flat.ok.0)

pub returns-then-end-lt-HALF-clause-ended : goal.returns-then-end-lt-HALF-clause-ended
returns-then-end-lt-HALF-clause-ended c =
    let a = c.self.inside in
    let fs = a.flat.items in
    let n = c.args.n in
    let now = c.args.self.now in
    let f = c.index-flat.result.now in
    let g : FlatRow = record { kind = f.kind; start = f.start; subtree_end = c.low_half.result; parent = f.parent } in
    let e = length now.rows in
    let long : length fs ≡ e = omega (arith, length-rows fs a.high.items, ap (λ k. length k.rows) c.self.view_is) in
    let is_end : c.len-end.result ≡ e = omega (arith, c.len-end.ensures, a.flat.ok.0, long) in
    let none : a.high.items ≡ [] = none_there a.high.items _ (omega (arith, a.high.ok.0)) c.if-is_empty.ensures in
    let up : 0 ≡ (get_or a.high.items n no_high).parent = sym (ap (λ l. (get_or l n no_high).parent) none ∙ ap (λ h. h.parent) (get_or_past [] n no_high (omega arith))) in
    let no_half : 0 ≡ e / 2 ^ 32 = omega (arith, is_end, c.if-end-lt-HALF.true) in
    let low : c.low_half.result ≡ e % 2 ^ 32 = c.low_half.ensures ∙ ap (λ x. x % 2 ^ 32) is_end in
    let small : e < 2 ^ 63 = omega (arith, is_end, c.if-end-lt-HALF.true) in
    let there : n < length fs = omega (arith, c.requires, long) in
    ap (rows_kept (set fs n g)) none ∙ rows_kept-set_low fs n g
    ∙ ap (λ k. with_row k n (slot g no_high)) (ap (rows_kept fs) (sym none) ∙ c.self.view_is)
    ∙ end_put now fs a.high.items n e 0 c.low_half.result 0 f c.self.view_is there c.index-flat.ensures up no_half low small

pub returns-then-end-lt-HALF-clause-parent : goal.returns-then-end-lt-HALF-clause-parent
returns-then-end-lt-HALF-clause-parent c =
    let a = c.self.inside in
    let fs = a.flat.items in
    let n = c.args.n in
    let f = c.index-flat.result.now in
    let there : n < length fs = omega (arith, c.requires, length-rows fs a.high.items, ap (λ k. length k.rows) c.self.view_is) in
    let none : a.high.items ≡ [] = none_there a.high.items _ (omega (arith, a.high.ok.0)) c.if-is_empty.ensures in
    let no_half : get_or a.high.items n no_high ≡ no_high = ap (λ l. get_or l n no_high) none ∙ get_or_past [] n no_high (omega arith) in
    let whole : f.parent ≡ parent_in (slot f no_high) = omega arith in
    whole ∙ cong₂ (λ x y. parent_in (slot x y)) c.index-flat.ensures (sym no_half) ∙ sym (parent_read fs a.high.items n f there)
    ∙ ap (λ k. get_or k.parents n 0) c.self.view_is
