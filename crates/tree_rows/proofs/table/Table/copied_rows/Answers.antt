use Rattle.std.proofs.Common.{◌≡◌, ◌∙◌, ◌++◌, ap, arith, length, take, drop}
use Rattle.std.proofs.Math.Seq.{take-length, take-append_seam}
use Rattle.tree_rows.specs.Flat.{flat_rows}
use Rattle.tree_rows.proofs.FlatLemmas.{length-flat_rows}
use Rattle.tree_rows.proofs.table.Table.copied_rows.Goals as goal

pub returns : goal.returns
returns c =
    let all = flat_rows c.args.self.now in
    let items = c.in_ok-rows.rows.items in
    let count : c.in_ok-rows.rows.len ≡ length all = omega (arith, c.in_ok-rows.ensures.len, c.len.ensures, length-flat_rows c.args.self.now) in
    let room : length c.deref_mut.result.now ≡ length all = omega (arith, c.deref_mut.ensures.len, c.in_ok-rows.ensures.len, c.len.ensures, length-flat_rows c.args.self.now) in
    let filled : c.fill_flat_rows.new.out ≡ all = c.fill_flat_rows.ensures ∙ ap (λ n. take n all) room ∙ take-length all in
    ap (λ out. take c.in_ok-rows.rows.len (out ++ drop (length out) items)) filled ∙ ap (λ n. take n (all ++ drop (length all) items)) count
    ∙ take-append_seam all (drop (length all) items)
