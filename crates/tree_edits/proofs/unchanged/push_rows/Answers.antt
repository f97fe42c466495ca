use Rattle.std.proofs.Common.{◌++◌, ◌∙◌, ap, arith, sym, [], ◌∷◌}
use Rattle.tree_rows.specs.declared.builder_event.BuilderEvent.TheVariants.{Exit}
use Rattle.tree_model.specs.Rows.{tree_at}
use Rattle.tree_rows.proofs.WalkSteps.{open_row}
use Rattle.tree_edits.proofs.PieceLemmas.{token_end-some, token_end-none}
use Rattle.tree_edits.proofs.UnchangedLemmas.{row_within, run-begins, run-enter, run-token, run-leave}
use Rattle.tree_edits.proofs.unchanged.push_rows.Goals as goal

pub loop-row-init : goal.loop-row-init
loop-row-init g c = record {
  run = run-begins g.at c.args.table.now c.args.steps.now.items c.args.next c.args.innermost c.offset_of-end.result c.offset_of-end.ensures c.requires.1.0;
  behind_is = c.row_behind-behind.ensures;
  is_node = c.requires.1.1.0;
}

pub is_changed-requires : goal.is_changed-requires
is_changed-requires g c =
    omega (arith, c.requires.0.long, row_within c.args.table.now c.loop-row.row c.loop-row.inner c.loop-row.behind c.loop-row.invariant.run.walked_on.walks c.loop-row.invariant.behind_is c.if-row-behind.true)

pub push_row-requires : goal.push_row-requires
push_row-requires g c = row_within c.args.table.now c.loop-row.row c.loop-row.inner c.loop-row.behind c.loop-row.invariant.run.walked_on.walks c.loop-row.invariant.behind_is c.if-row-behind.true

pub loop-row-smaller-in-Some : goal.loop-row-smaller-in-Some
loop-row-smaller-in-Some g c =
    let row = row_within c.args.table.now c.loop-row.row c.loop-row.inner c.loop-row.behind c.loop-row.invariant.run.walked_on.walks c.loop-row.invariant.behind_is c.if-row-behind.true in
    let token = token_end-some c.args.table.now c.loop-row.row c.in-Some.token_end (tree_at c.args.table.now c.loop-row.row) (sym c.in-Some.is ∙ c.in_ok-token_end.ensures.end) in
    (run-token g.at c.args.table.now c.args.steps.now.items c.loop-row.steps.items c.push_row.new.steps.items c.args.next c.args.innermost c.loop-row.row c.loop-row.inner c.loop-row.end c.in-Some.token_end
    (omega (arith, c.if-row-behind.true, c.loop-row.invariant.behind_is)) row (c.requires.0.each c.loop-row.row row ∙ c.is_changed.ensures.0 c.if-is_changed.false) token.0 c.requires.1.1.1 token.1 c.in_ok-token_end.ensures.ok
    c.loop-row.invariant.run).1

pub loop-row-preserved-in-Some : goal.loop-row-preserved-in-Some
loop-row-preserved-in-Some g c =
    let row = row_within c.args.table.now c.loop-row.row c.loop-row.inner c.loop-row.behind c.loop-row.invariant.run.walked_on.walks c.loop-row.invariant.behind_is c.if-row-behind.true in
    let token = token_end-some c.args.table.now c.loop-row.row c.in-Some.token_end (tree_at c.args.table.now c.loop-row.row) (sym c.in-Some.is ∙ c.in_ok-token_end.ensures.end) in
    record {
      run =
          (run-token g.at c.args.table.now c.args.steps.now.items c.loop-row.steps.items c.push_row.new.steps.items c.args.next c.args.innermost c.loop-row.row c.loop-row.inner c.loop-row.end c.in-Some.token_end
          (omega (arith, c.if-row-behind.true, c.loop-row.invariant.behind_is)) row (c.requires.0.each c.loop-row.row row ∙ c.is_changed.ensures.0 c.if-is_changed.false) token.0 c.requires.1.1.1 token.1 c.in_ok-token_end.ensures.ok
          c.loop-row.invariant.run).0;
      behind_is = c.loop-row.invariant.behind_is;
      is_node = c.loop-row.invariant.is_node;
    }

pub row_behind-behind-requires-then-row-behind : goal.row_behind-behind-requires-then-row-behind
row_behind-behind-requires-then-row-behind g c =
    row_within c.args.table.now c.loop-row.row c.loop-row.inner c.loop-row.behind c.loop-row.invariant.run.walked_on.walks c.loop-row.invariant.behind_is c.if-row-behind.true

pub loop-row-smaller-then-row-behind : goal.loop-row-smaller-then-row-behind
loop-row-smaller-then-row-behind g c =
    let row = row_within c.args.table.now c.loop-row.row c.loop-row.inner c.loop-row.behind c.loop-row.invariant.run.walked_on.walks c.loop-row.invariant.behind_is c.if-row-behind.true in
    let node = token_end-none c.args.table.now c.loop-row.row (tree_at c.args.table.now c.loop-row.row) (sym c.in_default.is ∙ c.in_ok-token_end.ensures.end) in
    (run-enter g.at c.args.table.now c.args.steps.now.items c.loop-row.steps.items c.push_row.new.steps.items c.args.next c.args.innermost c.loop-row.row c.loop-row.inner c.loop-row.end
    (omega (arith, c.if-row-behind.true, c.loop-row.invariant.behind_is)) row (c.requires.0.each c.loop-row.row row ∙ c.is_changed.ensures.0 c.if-is_changed.false) node c.requires.1.1.1 c.in_ok-token_end.ensures.ok
    c.loop-row.invariant.run).1

pub loop-row-preserved-then-row-behind : goal.loop-row-preserved-then-row-behind
loop-row-preserved-then-row-behind g c =
    let row = row_within c.args.table.now c.loop-row.row c.loop-row.inner c.loop-row.behind c.loop-row.invariant.run.walked_on.walks c.loop-row.invariant.behind_is c.if-row-behind.true in
    let node = token_end-none c.args.table.now c.loop-row.row (tree_at c.args.table.now c.loop-row.row) (sym c.in_default.is ∙ c.in_ok-token_end.ensures.end) in
    record {
      run =
          (run-enter g.at c.args.table.now c.args.steps.now.items c.loop-row.steps.items c.push_row.new.steps.items c.args.next c.args.innermost c.loop-row.row c.loop-row.inner c.loop-row.end
          (omega (arith, c.if-row-behind.true, c.loop-row.invariant.behind_is)) row (c.requires.0.each c.loop-row.row row ∙ c.is_changed.ensures.0 c.if-is_changed.false) node c.requires.1.1.1 c.in_ok-token_end.ensures.ok
          c.loop-row.invariant.run).0;
      behind_is = c.row_behind-behind-then-row-behind.ensures;
      is_node = node;
    }

pub loop-row-smaller : goal.loop-row-smaller
loop-row-smaller g c =
    let inner = open_row c.args.table.now 0 c.loop-row.row c.loop-row.inner c.loop-row.invariant.run.walked_on.walks in
    (run-leave g.at c.args.table.now c.args.steps.now.items c.loop-row.steps.items c.push_reserved.new.self.items c.args.next c.args.innermost c.loop-row.row c.loop-row.inner c.in-Some-parent_row.parent c.loop-row.end
    (omega (arith, c.if-row-behind.false, c.loop-row.invariant.behind_is)) (omega (arith, c.in-Some-parent_row.ensures.earlier))
    (c.requires.0.each c.loop-row.inner inner ∙ c.is_changed-else-row-behind.ensures.0 c.if-is_changed-2.false) c.loop-row.invariant.is_node
    c.in-Some-parent_row.ensures.in_range c.in-Some-parent_row.ensures.place (c.push_reserved.ensures.items ∙ ap (λ l. l ++ Exit ∷ []) c.in_ok-reserve.ensures.items) c.loop-row.invariant.run).1

pub loop-row-preserved : goal.loop-row-preserved
loop-row-preserved g c =
    let inner = open_row c.args.table.now 0 c.loop-row.row c.loop-row.inner c.loop-row.invariant.run.walked_on.walks in
    record {
      run =
          (run-leave g.at c.args.table.now c.args.steps.now.items c.loop-row.steps.items c.push_reserved.new.self.items c.args.next c.args.innermost c.loop-row.row c.loop-row.inner c.in-Some-parent_row.parent c.loop-row.end
          (omega (arith, c.if-row-behind.false, c.loop-row.invariant.behind_is)) (omega (arith, c.in-Some-parent_row.ensures.earlier))
          (c.requires.0.each c.loop-row.inner inner ∙ c.is_changed-else-row-behind.ensures.0 c.if-is_changed-2.false) c.loop-row.invariant.is_node
          c.in-Some-parent_row.ensures.in_range c.in-Some-parent_row.ensures.place (c.push_reserved.ensures.items ∙ ap (λ l. l ++ Exit ∷ []) c.in_ok-reserve.ensures.items) c.loop-row.invariant.run).0;
      behind_is = c.row_behind-behind-else-row-behind.ensures;
      is_node = c.in-Some-parent_row.ensures.node;
    }
