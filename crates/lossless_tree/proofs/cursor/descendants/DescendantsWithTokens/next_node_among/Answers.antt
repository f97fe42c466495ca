use Rattle.std.proofs.Common.{◌≡◌, ◌+◌, ◌-◌, ◌∙◌, ap, sym, arith}
use Rattle.std.specs.Prelude.{Some}
use Rattle.std.specs.List.{filter}
use Rattle.tree_model.specs.Cursor.{cursor_at, cursors_from, at_node}
use Rattle.tree_rows.specs.KindSearch.{is_among, first_node_among, after_first}
use Rattle.tree_rows.proofs.KindLemmas.{run_with, run_without}
use Rattle.lossless_tree.proofs.cursor.descendants.DescendantsWithTokens.next_node_among.Goals as goal

pub returns-in-Some-clause-found : goal.returns-in-Some-clause-found
returns-in-Some-clause-found g c =
    let a = c.self.inside in
    let found = c.in-Some.ensures.found in
    ap Some (c.at.ensures ∙ ap (λ t. cursor_at t c.in-Some.row) (c.share.ensures.value ∙ sym c.deref.ensures))
    ∙ (run_with g.K.KindSet.kinds c.deref.result.now a.next a.end c.in-Some.row found.0 found.1 found.2 found.3).0
    ∙ ap (λ t. first_node_among g.K.KindSet.kinds (cursors_from t a.next (a.end - a.next))) c.deref.ensures
    ∙ ap (first_node_among g.K.KindSet.kinds) c.self.view_is

pub returns-in-Some-clause-left : goal.returns-in-Some-clause-left
returns-in-Some-clause-left g c =
    let a = c.self.inside in
    let row = c.in-Some.row in
    let found = c.in-Some.ensures.found in
    ap (λ i. filter at_node (cursors_from a.table.value i (a.end - i))) c.next_row-self-inside.ensures
    ∙ ap (λ t. filter at_node (cursors_from t (row + 1) (a.end - (row + 1)))) (sym c.deref.ensures)
    ∙ (run_with g.K.KindSet.kinds c.deref.result.now a.next a.end row found.0 found.1 found.2 found.3).1
    ∙ ap (λ t. after_first (is_among g.K.KindSet.kinds) (filter at_node (cursors_from t a.next (a.end - a.next)))) c.deref.ensures
    ∙ ap (λ l. after_first (is_among g.K.KindSet.kinds) (filter at_node l)) c.self.view_is

pub returns-in-None-clause-found : goal.returns-in-None-clause-found
returns-in-None-clause-found g c =
    let a = c.self.inside in
    (run_without g.K.KindSet.kinds c.deref.result.now a.next a.end c.in-None.ensures.found).0
    ∙ ap (λ t. first_node_among g.K.KindSet.kinds (cursors_from t a.next (a.end - a.next))) c.deref.ensures
    ∙ ap (first_node_among g.K.KindSet.kinds) c.self.view_is

pub returns-in-None-clause-left : goal.returns-in-None-clause-left
returns-in-None-clause-left g c =
    let a = c.self.inside in
    let none : a.end - a.end ≡ 0 = omega arith in
    ap (λ n. filter at_node (cursors_from a.table.value a.end n)) none
    ∙ (run_without g.K.KindSet.kinds c.deref.result.now a.next a.end c.in-None.ensures.found).1
    ∙ ap (λ t. after_first (is_among g.K.KindSet.kinds) (filter at_node (cursors_from t a.next (a.end - a.next)))) c.deref.ensures
    ∙ ap (λ l. after_first (is_among g.K.KindSet.kinds) (filter at_node l)) c.self.view_is
