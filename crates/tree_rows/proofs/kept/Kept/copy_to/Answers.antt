use Rattle.std.proofs.Common.{◌≡◌, ◌≤◌, ◌∙◌, ◌+◌, ◌-◌, ap, sym, length, max, arith}
use Rattle.tree_rows.specs.Rows.{joined}
use Rattle.tree_rows.specs.MovedRows.{cut_of}
use Rattle.tree_rows.proofs.KeptLemmas.{copied, copied_fits, cut_stays, length-moved}
use Rattle.tree_rows.proofs.kept.Kept.copy_to.Goals as goal
use Rattle.tree_rows.proofs.kept.Kept.copy_to.Goals.{In_ok-extend_from, After-len}

fits : (c : In_ok-extend_from) → c.args.end ≤ length c.self.inside.rows.value.rows
fits c =
    let a = c.self.inside in
    omega (arith, c.requires.in_range, ap (λ k. length k.rows) c.self.view_is, length-moved a.at a.from a.to a.rows.value)

start : (c : After-len) → c.len.result - (c.args.end - c.max.result) ≡ length c.extend_from.new.self.rows - (c.args.end - max c.args.first (c.self.inside.at + 1))
start c = let a = ap (λ k. c.len.result - (c.args.end - k)) c.max.ensures in a ∙ ap (λ k. k - (c.args.end - max c.args.first (c.self.inside.at + 1))) c.len.ensures.value

pub move_from-requires-clause-rows_fit : goal.move_from-requires-clause-rows_fit
move_from-requires-clause-rows_fit c = λ k later there ends.
    let a = c.self.inside in
    copied_fits a.at a.from a.to c.args.first c.args.end _ k a.rows.value c.args.rows.now c.extend_from.new.self c.requires.ordered
    (fits (goal.at.move_from-requires-clause-rows_fit c).In_ok-extend_from) c.if-self-end.true
    (c.in_ok-extend_from.ensures.ok ∙ ap (λ k. joined c.args.rows.now (cut_of c.args.first c.args.end k)) c.as_ref.ensures)
    (start (goal.at.move_from-requires-clause-rows_fit c).After-len) later there c.self.invariant ends

pub returns-in_ok-move_from : goal.returns-in_ok-move_from
returns-in_ok-move_from c =
    let a = c.self.inside in
    copied a.at a.from a.to c.args.first c.args.end _ a.rows.value c.args.rows.now c.extend_from.new.self c.move_from.new.self c.requires.ordered
    (fits (goal.at.returns-in_ok-move_from c).In_ok-extend_from) c.if-self-end.true
    (omega (arith, c.len-count.ensures.value, c.len-count.ensures.parents))
    (c.in_ok-extend_from.ensures.ok ∙ ap (λ k. joined c.args.rows.now (cut_of c.args.first c.args.end k)) c.as_ref.ensures)
    (start (goal.at.returns-in_ok-move_from c).After-len) c.in_ok-move_from.ensures
    ∙ ap (λ k. joined c.args.rows.now (cut_of c.args.first c.args.end k)) c.self.view_is

pub returns-else-self-end : goal.returns-else-self-end
returns-else-self-end c =
    let a = c.self.inside in
    c.in_ok-extend_from.ensures.ok ∙ ap (λ k. joined c.args.rows.now (cut_of c.args.first c.args.end k)) c.as_ref.ensures
    ∙ ap (joined c.args.rows.now) (sym (cut_stays a.at a.from a.to c.args.first c.args.end a.rows.value c.requires.ordered (fits (goal.at.returns-else-self-end c).In_ok-extend_from) (omega (arith, c.if-self-end.false))))
    ∙ ap (λ k. joined c.args.rows.now (cut_of c.args.first c.args.end k)) c.self.view_is
