use Rattle.std.proofs.Common.{◌≡◌, ℕ, ◌+◌, ◌<◌, ◌∙◌, ap, refl, arith}
use Rattle.std.specs.Prelude.{Option, None, Some, is_some, option_map}
use Rattle.tree_model.specs.Tree.{Tree, size}
use Rattle.tree_model.specs.Rows.{tree_at}
use Rattle.tree_model.specs.Cursor.{cursor_at, children_of}
use Rattle.tree_rows.specs.KindSearch.{first_token_among, has_token_in}
use Rattle.tree_rows.specs.Walks.{siblings_left, HaveParentEnd}
use Rattle.tree_rows.proofs.ChildLists.{children_begin}
use Rattle.tree_rows.proofs.StepLemmas.{end_is_behind}
use Rattle.tree_rows.proofs.table.Table.has_token_in_child.Goals as goal

-- the children of a row, by the rows below it
begun : (tree : Tree) (row first behind : ℕ) → row < size tree → first ≡ row + 1 → behind ≡ row + size (tree_at tree row)
    → (siblings_left tree first behind ≡ children_of (cursor_at tree row)) × HaveParentEnd tree first behind
begun tree row first behind is_row is_first is_behind =
    children_begin tree row first behind is_row (omega (arith, is_first)) (end_is_behind tree row behind is_row is_behind)

pub child_token_among-requires : goal.child_token_among-requires
child_token_among-requires g c =
    (begun c.args.self.now c.in-Some.child c.rows_below-first.result.0 c.rows_below-first.result.1 c.in-Some.ensures.node.0
    c.rows_below-first.ensures.first c.rows_below-first.ensures.behind).1

pub returns-in-Some : goal.returns-in-Some
returns-in-Some g c =
    c.is_some.ensures
    ∙ mapped (cursor_at c.args.self.now) c.child_token_among.result
    ∙ ap is_some c.child_token_among.ensures.found
    ∙ ap (λ l. is_some (first_token_among g.K.KindSet.kinds l)) (begun c.args.self.now c.in-Some.child c.rows_below-first.result.0 c.rows_below-first.result.1 c.in-Some.ensures.node.0
    c.rows_below-first.ensures.first c.rows_below-first.ensures.behind).0
    ∙ ap (λ o. has_token_in o g.K.KindSet.kinds) c.in-Some.ensures.found
  where
    mapped : {A B : Type 0} (f : A → B) (o : Option A) → is_some o ≡ is_some (option_map f o)
    mapped f None = refl
    mapped f (Some x) = refl
