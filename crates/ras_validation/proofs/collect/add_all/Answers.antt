use Rattle.std.proofs.Common.{◌≡◌, ◌+◌, ◌++◌, ◌∙◌, ap, sym, arith, append_assoc, append-nil}
use Rattle.tree_model.specs.Tree.{size}
use Rattle.tree_model.specs.Rows.{tree_at}
use Rattle.tree_model.specs.Cursor.{cursor_at}
use Rattle.ras_validation.specs.Rows.{violations_from}
use Rattle.ras_validation.specs.Violations.{violations_at}
use Rattle.ras_validation.proofs.RowLemmas.{plain, fits, found_left, plain_left, none_left}
use Rattle.ras_validation.proofs.collect.add_all.Goals as goal

pub row_behind-next-requires : goal.row_behind-next-requires
row_behind-next-requires c =
    let tree = c.as_ref-table.result.now in
    let row = c.in-Some.row in
    let p = plain tree row (sym c.is_plain_segment.ensures ∙ c.if-is_plain_segment.true) in
    omega (arith, p.inside, fits tree row c.in-Some.ensures.node.0)

pub loop-row-preserved-then-is_plain_segment : goal.loop-row-preserved-then-is_plain_segment
loop-row-preserved-then-is_plain_segment c =
    let tree = c.as_ref-table.result.now in
    let whole = c.args.root.now.tree in
    let same_tree : tree ≡ whole = c.as_ref-table.ensures ∙ c.table.ensures in
    let row = c.in-Some.row in
    let next = c.loop-row.next in
    let to = c.args.to in
    let first = c.in-Some.ensures.found in
    record {
      same =
          ap (λ v. c.loop-row.found.items ++ v)
          (ap (λ n. violations_from whole n to) c.row_behind-next.ensures
          ∙ ap (λ t. violations_from t (row + 1 + size (tree_at tree (row + 1))) to) (sym same_tree)
          ∙ sym (plain_left tree next to row first.0 first.1 c.in-Some.ensures.node.0 first.2 first.3 (sym c.is_plain_segment.ensures ∙ c.if-is_plain_segment.true))
          ∙ ap (λ t. violations_from t next to) same_tree)
          ∙ c.loop-row.invariant.same;
    }

pub loop-row-preserved : goal.loop-row-preserved
loop-row-preserved c =
    let tree = c.as_ref-table.result.now in
    let whole = c.args.root.now.tree in
    let same_tree : tree ≡ whole = c.as_ref-table.ensures ∙ c.table.ensures in
    let row = c.in-Some.row in
    let next = c.loop-row.next in
    let to = c.args.to in
    let first = c.in-Some.ensures.found in
    let items = c.loop-row.found.items in
    record {
      same =
          ap (λ v. v ++ violations_from whole c.next_row-next.result to) c.in_ok-add_at_row.ensures
          ∙ append_assoc items (violations_at (cursor_at whole row)) (violations_from whole c.next_row-next.result to)
          ∙ ap (λ v. items ++ v)
          (ap (λ n. violations_at (cursor_at whole row) ++ violations_from whole n to) c.next_row-next.ensures
          ∙ ap (λ t. violations_at (cursor_at t row) ++ violations_from t (row + 1) to) (sym same_tree)
          ∙ sym (found_left tree next to row first.0 first.1 first.2 first.3)
          ∙ ap (λ t. violations_from t next to) same_tree)
          ∙ c.loop-row.invariant.same;
    }

pub returns : goal.returns
returns c =
    let tree = c.as_ref-table.result.now in
    let same_tree : tree ≡ c.args.root.now.tree = c.as_ref-table.ensures ∙ c.table.ensures in
    let items = c.loop-row.found.items in
    let next = c.loop-row.next in
    sym (append-nil items)
    ∙ ap (λ v. items ++ v) (sym (none_left tree next c.args.to c.in_default.ensures.found) ∙ ap (λ t. violations_from t next c.args.to) same_tree)
    ∙ c.loop-row.invariant.same
