use Rattle.std.proofs.Common.{◌≡◌, ◌∙◌, sym, ap}
use Rattle.std.proofs.lemmas.Bool.{eqb-true}
use Rattle.tree_model.specs.Cursor.{Cursor, cursor_at}
use Rattle.tree_model.specs.Equality.{is_same_cursor, is_same_tree}
use Rattle.tree_model.specs.EqualityLaws.{cursor_Decides, tree_Decides, same_test}
use Rattle.tree_model.proofs.At.{cong₂}
use Rattle.tree_model.proofs.EqualityLemmas.{same_rows, not_both}
use Rattle.lossless_tree.proofs.cursor.tree_cursor.TreeCursorPartialEq.eq.Goals as goal

pub returns-then-ptr_eq : goal.returns-then-ptr_eq
returns-then-ptr_eq c =
    let a = c.self.inside in
    let b = c.other.inside in
    let here : Cursor = cursor_at a.table.now.value a.row in
    let there : Cursor = cursor_at b.table.now.value b.row in
    rw (← c.self.view_is, ← c.other.view_is) (
    same_test c.ptr_eq.result (is_same_cursor here there) (cursor_Decides here there)
    (λ _. cong₂ cursor_at (c.ptr_eq.ensures.value c.if-ptr_eq.true) c.if-self-other.true) (λ differ _. not_both c.ptr_eq.result c.if-ptr_eq.true differ))

pub returns-else-ptr_eq : goal.returns-else-ptr_eq
returns-else-ptr_eq c =
    let a = c.self.inside in
    let b = c.other.inside in
    let here : Cursor = cursor_at a.table.now.value a.row in
    let there : Cursor = cursor_at b.table.now.value b.row in
    let trees = tree_Decides a.table.now.value b.table.now.value in
    let tested : c.eq.result ≡ is_same_tree a.table.now.value b.table.now.value = c.eq.ensures ∙ cong₂ is_same_tree c.deref.ensures c.deref-else-ptr_eq.ensures in
    rw (← c.self.view_is, ← c.other.view_is) (
    same_test c.eq.result (is_same_cursor here there) (cursor_Decides here there)
    (λ same. cong₂ cursor_at (trees.0 (sym tested ∙ same)) c.if-self-other.true)
    (λ differ e. not_both c.eq.result (tested ∙ trees.1 (ap (λ x. x.tree) e)) differ))

pub returns-else-self-other : goal.returns-else-self-other
returns-else-self-other c =
    let a = c.self.inside in
    let b = c.other.inside in
    let here : Cursor = cursor_at a.table.now.value a.row in
    let there : Cursor = cursor_at b.table.now.value b.row in
    rw (← c.self.view_is, ← c.other.view_is) (
    same_test _ (is_same_cursor here there) (cursor_Decides here there)
    (λ same. absurd (c.if-self-other.false (eqb-true _ _ same)))
    (λ _ e. c.if-self-other.false (same_rows a.table.now.value b.table.now.value a.row b.row c.self.invariant c.other.invariant e)))
