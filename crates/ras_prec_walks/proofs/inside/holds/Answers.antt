use Rattle.std.proofs.Common.{◌≡◌, ◌∙◌, ap, sym, true, false, ◌||◌, ◌∷◌, map, None}
use Rattle.tree_model.specs.Cursor.{parent_of}
use Rattle.tree_model.specs.Equality.{is_same_cursor}
use Rattle.lossless_tree.specs.WalkEvent.{node_event}
use Rattle.ras_prec_walks.specs.Inside.{is_step}
use Rattle.ras_prec_walks.proofs.PassedOver.{finds, found_so, comes, goes_over, is_come_to, by_first, by_second, by_neither}
use Rattle.ras_prec_walks.proofs.inside.holds.Goals as goal
use Rattle.ras_prec_walks.proofs.inside.holds.Goals.{else-ne-via-then-ne+else-not-is_step, else-ne-via-else-ne}

pub loop-event-init : goal.loop-event-init
loop-event-init c = record { same = ap (λ l. finds c.args.sought c.args.top.now None (map node_event l)) c.preorder-events.ensures ∙ found_so c.args.sought c.args.top.now }

pub loop-event-preserved-then-not-is_step : goal.loop-event-preserved-then-not-is_step
loop-event-preserved-then-not-is_step c =
    let over : is_come_to c.args.sought c.args.top.now c.in-Enter.node ≡ false = by_neither (is_same_cursor c.in-Enter.node c.args.top.now) (is_step c.args.sought c.in-Enter.node (parent_of c.in-Enter.node)) c.if-ne.ensures (sym c.if-not-is_step.ensures) in
    record {
      same =
          sym (goes_over c.args.sought c.args.top.now c.loop-event.past c.in-Enter.node (map node_event c.next.new.self) (map node_event c.loop-event.events) c.if-is_none.ensures over (c.in-Some.ensures.steps ∙ ap (λ x. x ∷ map node_event c.next.new.self) c.in-Enter.is))
          ∙ c.loop-event.invariant.same;
    }

pub returns-then-is_sought : goal.returns-then-is_sought
returns-then-is_sought c =
    let come : is_come_to c.args.sought c.args.top.now c.in-Enter.node ≡ true =
    elim c.else-ne.branch [
      | else-ne-via-then-ne+else-not-is_step w ↦ by_second (is_same_cursor c.in-Enter.node c.args.top.now) (is_step c.args.sought c.in-Enter.node (parent_of c.in-Enter.node)) (sym w.if-not-is_step.ensures)
      | else-ne-via-else-ne w ↦ by_first (is_same_cursor c.in-Enter.node c.args.top.now) (is_step c.args.sought c.in-Enter.node (parent_of c.in-Enter.node)) w.if-ne.ensures
    ]
    in
    ap (λ b. b || finds c.args.sought c.args.top.now c.loop-event.past (map node_event c.next.new.self)) c.if-is_sought.ensures
    ∙ sym (comes c.args.sought c.args.top.now c.loop-event.past c.in-Enter.node (map node_event c.next.new.self) (map node_event c.loop-event.events) c.if-is_none.ensures come (c.in-Some.ensures.steps ∙ ap (λ x. x ∷ map node_event c.next.new.self) c.in-Enter.is))
    ∙ c.loop-event.invariant.same

pub loop-event-preserved-else-ne : goal.loop-event-preserved-else-ne
loop-event-preserved-else-ne c =
    let come : is_come_to c.args.sought c.args.top.now c.in-Enter.node ≡ true =
    elim c.else-ne.branch [
      | else-ne-via-then-ne+else-not-is_step w ↦ by_second (is_same_cursor c.in-Enter.node c.args.top.now) (is_step c.args.sought c.in-Enter.node (parent_of c.in-Enter.node)) (sym w.if-not-is_step.ensures)
      | else-ne-via-else-ne w ↦ by_first (is_same_cursor c.in-Enter.node c.args.top.now) (is_step c.args.sought c.in-Enter.node (parent_of c.in-Enter.node)) w.if-ne.ensures
    ]
    in
    record {
      same =
          ap (λ b. b || finds c.args.sought c.args.top.now c.loop-event.past (map node_event c.next.new.self)) c.if-is_sought.ensures
          ∙ sym (comes c.args.sought c.args.top.now c.loop-event.past c.in-Enter.node (map node_event c.next.new.self) (map node_event c.loop-event.events) c.if-is_none.ensures come (c.in-Some.ensures.steps ∙ ap (λ x. x ∷ map node_event c.next.new.self) c.in-Enter.is))
          ∙ c.loop-event.invariant.same;
    }
