use Rattle.std.proofs.Common.{◌++◌, ◌∷◌, [], ◌∙◌, ap, arith, refl, sym, true}
use Rattle.std.proofs.Output.{has_written_append, writes_in_calls_nil}
use Rattle.tree_model.specs.Cursor.{cursor_at}
use Rattle.tree_rows.specs.Walks.{walk_left}
use Rattle.tree_rows.proofs.WalkSteps.{walk_begins}
use Rattle.lossless_tree.specs.Dump.{dump_line, dump_of}
use Rattle.lossless_tree.proofs.DumpLemmas.{after_enter, lines_at_start, open_fits}
use Rattle.lossless_tree.proofs.dump.write_lines.Goals as goal

pub loop-step-init : goal.loop-step-init
loop-step-init g c = record {
  walks = walk_begins c.args.table.now c.args.start c.requires;
  level_is = refl;
  whole = λ plain. ([], record { wrote = writes_in_calls_nil _ _; plain = plain }, lines_at_start c.args.table.now c.args.start [] refl);
}

pub overflow_add-level : goal.overflow_add-level
overflow_add-level g c =
    omega (
      arith,
      c.loop-step.invariant.level_is,
      (c.in-Some.ensures.level.0 c.if-step.true).0,
      c.len-count.ensures,
      c.len-count.type_inv,
      open_fits c.args.table.now c.args.start c.in-Some.step.next c.in-Some.step.innermost c.in-Some.ensures.state.1,
    )

pub loop-step-preserved-then-step : goal.loop-step-preserved-then-step
loop-step-preserved-then-step g c =
    let top = cursor_at c.args.table.now c.args.start in
    let here = cursor_at c.args.table.now c.in-Some.step.row in
    let rest = walk_left c.args.table.now c.args.start c.in-Some.step.next c.in-Some.step.innermost in
    let moved = c.in-Some.ensures.level.0 c.if-step.true in
    record {
      walks = c.in-Some.ensures.state.1;
      level_is = omega (arith, c.loop-step.invariant.level_is, moved.0);
      whole = λ plain.
          let now = c.loop-step.invariant.whole plain in (
            now.0 ++ dump_line c.loop-step.level here,
            has_written_append _ _ _ _ _ _ now.1 (c.in_ok-write_line.ensures now.1.plain (refl {a = true})),
            after_enter top here c.loop-step.level now.0 (now.0 ++ dump_line c.loop-step.level here) (dump_of top) (walk_left c.args.table.now c.args.start c.loop-step.next c.loop-step.innermost) rest (c.in-Some.ensures.rest ∙ ap (λ b. (b, here) ∷ rest) c.if-step.true)
                (c.loop-step.invariant.level_is ∙ sym moved.1) refl now.2,
          );
    }
