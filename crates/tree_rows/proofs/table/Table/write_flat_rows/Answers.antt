use Rattle.std.proofs.Common.{◌≡◌, ◌∙◌, ◌++◌, ap, sym, arith, length, take, drop}
use Rattle.std.proofs.lemmas.List.{length-take-le}
use Rattle.std.proofs.Math.Seq.{take-length}
use Rattle.tree_model.specs.Tree.{size}
use Rattle.tree_model.specs.Rows.{tree_at}
use Rattle.tree_model.proofs.EditLemmas.{within_rows}
use Rattle.tree_model.proofs.StepLemmas.{root_tree}
use Rattle.tree_rows.specs.Flat.{flat_rows, flat_row_at}
use Rattle.tree_rows.proofs.FlatLemmas.{filled_all, filled_more, flat_by, length-flat_rows}
use Rattle.tree_rows.proofs.table.Table.write_flat_rows.Goals as goal

pub overflow_add-n : goal.overflow_add-n
overflow_add-n c = omega (arith, within_rows c.args.self.now c.args.n c.requires.is_row, c.len-rows.ensures, c.loop-k-test.true, c.size_at-count.ensures)

pub loop-k-preserved : goal.loop-k-preserved
loop-k-preserved c =
    let tree = tree_at c.args.self.now c.args.n in
    filled_more (flat_rows tree) c.args.out.now c.loop-k.out c.loop-k.k c.flat_row.result (flat_by 0 0 0 0) c.loop-k.invariant
    (omega (arith, length-flat_rows tree, c.loop-k-test.true, c.size_at-count.ensures)) (omega (arith, c.loop-k-test.true, c.if-count-out.false))
    (c.flat_row.ensures ∙ ap (flat_row_at tree) (omega arith))

pub returns-clause-written : goal.returns-clause-written
returns-clause-written c =
    let tree = tree_at c.args.self.now c.args.n in
    λ room few. filled_all (flat_rows tree) c.args.out.now c.loop-k.out c.loop-k.k (size tree) c.loop-k.invariant
    (omega (arith, c.loop-k-test.false, c.loop-k.auto.k-end, c.size_at-count.ensures)) (omega (arith, length-flat_rows tree))

pub returns-then-n-eq0-clause-written : goal.returns-then-n-eq0-clause-written
returns-then-n-eq0-clause-written c =
    let tree = c.args.self.now in
    let count = c.size_at-count.result in
    let is : tree_at tree c.args.n ≡ tree = ap (tree_at tree) c.if-n-eq0.true ∙ root_tree tree in
    let front : length (take count c.args.out.now) ≡ count = length-take-le count c.args.out.now c.if-count-out.false in
    let all : count ≡ length (flat_rows tree) = omega (arith, c.size_at-count.ensures, ap size is, length-flat_rows tree) in
    λ room few. ap (λ l. l ++ drop count c.args.out.now)
    (c.fill_flat_rows.ensures ∙ ap (λ n. take n (flat_rows tree)) (front ∙ all) ∙ take-length (flat_rows tree) ∙ ap flat_rows (sym is))
    ∙ ap (λ n. flat_rows (tree_at tree c.args.n) ++ drop n c.args.out.now) c.size_at-count.ensures
