use Rattle.std.proofs.Common.{◌≡◌, ◌<◌, ◌≤◌, ◌∷◌, ◌∙◌, ap, subst, arith, false, Some, None}
use Rattle.tree_model.specs.Rows.{tree_at}
use Rattle.tree_rows.specs.Rows.{row_at}
use Rattle.tree_model.specs.Cursor.{cursor_at}
use Rattle.tree_rows.specs.Walks.{walk_left, IsWalk}
use Rattle.tree_model.proofs.At.{some_row}
use Rattle.tree_rows.proofs.StepLemmas.{end_of_row}
use Rattle.tree_rows.proofs.WalkSteps.{level_enter, level_leave, step_enter, step_last, step_leave_to, step_done, open_row, next_row_within}
use Rattle.tree_rows.proofs.table.Table.walk_step.Goals as goal
use Rattle.tree_rows.proofs.table.Table.walk_step.Goals.{In-None, In-Some, Then-inner-start, After-parent_row}

idle : (c : In-None) → IsWalk c.args.self.now c.args.start c.args.next None
idle c = subst (IsWalk c.args.self.now c.args.start c.args.next) c.in-None.is c.requires

busy : (c : In-Some) → IsWalk c.args.self.now c.args.start c.args.next (Some c.in-Some.inner)
busy c = subst (IsWalk c.args.self.now c.args.start c.args.next) c.in-Some.is c.requires

last : (c : Then-inner-start) → (walk_left c.args.self.now c.args.start c.args.next c.args.innermost ≡ (false, cursor_at c.args.self.now c.in-Some.inner) ∷ walk_left c.args.self.now c.args.start c.args.next None) × IsWalk c.args.self.now c.args.start c.args.next None
last c =
    let is : c.args.innermost ≡ Some c.args.start = c.in-Some.is ∙ ap Some c.if-inner-start.true in
    let w : IsWalk c.args.self.now c.args.start c.args.next (Some c.args.start) = subst (IsWalk c.args.self.now c.args.start c.args.next) is c.requires in
    let past : (row_at c.args.self.now c.args.start).end ≤ c.args.next = subst (λ o. (row_at c.args.self.now o).end ≤ c.args.next) c.if-inner-start.true (omega (arith, ap (λ r. r.end) c.row.ensures.value, c.if-next-row.false)) in
    let step = step_last c.args.self.now c.args.start c.args.next w past in
    (rw (is, c.if-inner-start.true) step.0, step.1)

leave : (c : After-parent_row) → (walk_left c.args.self.now c.args.start c.args.next (Some c.in-Some.inner) ≡ (false, cursor_at c.args.self.now c.in-Some.inner) ∷ walk_left c.args.self.now c.args.start c.args.next c.parent_row.result) × IsWalk c.args.self.now c.args.start c.args.next c.parent_row.result
leave c =
    let w : IsWalk c.args.self.now c.args.start c.args.next (Some c.in-Some.inner) = subst (IsWalk c.args.self.now c.args.start c.args.next) c.in-Some.is c.requires in
    step_leave_to c.args.self.now c.args.start c.args.next c.in-Some.inner c.parent_row.result w
    (omega (arith, ap (λ r. r.end) c.row.ensures.value, c.if-next-row.false))
    (omega (arith, w.open_at.0, c.if-inner-start.false))
    c.parent_row.ensures.in_range c.parent_row.ensures.place

pub returns-then-next-start-clause-rest : goal.returns-then-next-start-clause-rest
returns-then-next-start-clause-rest c =
    let w = idle (goal.at.returns-then-next-start-clause-rest c).In-None in
    rw c.in-None.is (step_done c.args.self.now c.args.start c.args.next w (omega (arith, c.requires.begun, c.if-next-start.true)))

pub overflow_add-next : goal.overflow_add-next
overflow_add-next c = omega (arith, ap (λ r. r.end) c.row-end.ensures.value, c.row-end.ensures.end_fits, end_of_row c.args.self.now c.args.start c.requires.start_is_row, some_row (tree_at c.args.self.now c.args.start))

pub row-requires : goal.row-requires
row-requires c = open_row c.args.self.now c.args.start c.args.next c.in-Some.inner (busy (goal.at.row-requires c).In-Some)

pub parent_row-requires : goal.parent_row-requires
parent_row-requires c = open_row c.args.self.now c.args.start c.args.next c.in-Some.inner (busy (goal.at.parent_row-requires c).In-Some)

pub returns-then-next-row-clause-rest : goal.returns-then-next-row-clause-rest
returns-then-next-row-clause-rest c = rw c.in-Some.is (step_enter c.args.self.now c.args.start c.args.next c.in-Some.inner (busy (goal.at.returns-then-next-row-clause-rest c).In-Some) (omega (arith, ap (λ r. r.end) c.row.ensures.value, c.if-next-row.true))).0

pub returns-then-next-row-clause-state : goal.returns-then-next-row-clause-state
returns-then-next-row-clause-state c =
    let lt : c.args.next < (row_at c.args.self.now c.in-Some.inner).end = omega (arith, ap (λ r. r.end) c.row.ensures.value, c.if-next-row.true) in
    let w = busy (goal.at.returns-then-next-row-clause-state c).In-Some in
    (next_row_within c.args.self.now c.args.start c.args.next c.in-Some.inner w lt, (step_enter c.args.self.now c.args.start c.args.next c.in-Some.inner w lt).1)

pub returns-then-inner-start-clause-rest : goal.returns-then-inner-start-clause-rest
returns-then-inner-start-clause-rest c = (last (goal.at.returns-then-inner-start-clause-rest c).Then-inner-start).0

pub returns-then-inner-start-clause-state : goal.returns-then-inner-start-clause-state
returns-then-inner-start-clause-state c =
    (open_row c.args.self.now c.args.start c.args.next c.in-Some.inner (busy (goal.at.returns-then-inner-start-clause-state c).In-Some), (last (goal.at.returns-then-inner-start-clause-state c).Then-inner-start).1)

pub returns-else-inner-start-clause-rest : goal.returns-else-inner-start-clause-rest
returns-else-inner-start-clause-rest c = rw c.in-Some.is (leave (goal.at.returns-else-inner-start-clause-rest c).After-parent_row).0

pub returns-else-inner-start-clause-state : goal.returns-else-inner-start-clause-state
returns-else-inner-start-clause-state c =
    (open_row c.args.self.now c.args.start c.args.next c.in-Some.inner (busy (goal.at.returns-else-inner-start-clause-state c).In-Some), (leave (goal.at.returns-else-inner-start-clause-state c).After-parent_row).1)

pub returns-then-next-row-clause-level : goal.returns-then-next-row-clause-level
returns-then-next-row-clause-level c =
    rw c.in-Some.is (level_enter c.args.self.now c.args.start c.args.next c.in-Some.inner (busy (goal.at.returns-then-next-row-clause-level c).In-Some) (omega (arith, ap (λ r. r.end) c.row.ensures.value, c.if-next-row.true)))

pub returns-else-inner-start-clause-level : goal.returns-else-inner-start-clause-level
returns-else-inner-start-clause-level c =
    let w : IsWalk c.args.self.now c.args.start c.args.next (Some c.in-Some.inner) = busy (goal.at.returns-else-inner-start-clause-level c).In-Some in
    rw c.in-Some.is
    (level_leave c.args.self.now c.args.start c.args.next c.in-Some.inner c.parent_row.result w
    (omega (arith, ap (λ r. r.end) c.row.ensures.value, c.if-next-row.false))
    (omega (arith, w.open_at.0, c.if-inner-start.false))
    c.parent_row.ensures.in_range c.parent_row.ensures.place)
