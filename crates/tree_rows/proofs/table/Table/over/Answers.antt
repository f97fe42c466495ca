use Rattle.std.proofs.Common.{sym, subst, arith, filter_map, string_bytes}
use Rattle.tree_model.specs.Events.{BuildsNode}
use Rattle.tree_rows.specs.Builder.{events_from}
use Rattle.tree_rows.proofs.FinishLemmas.{built_over, step_text_len}
use Rattle.tree_rows.proofs.table.Table.over.Goals as goal

pub build_rows-requires : goal.build_rows-requires
build_rows-requires g c = omega (arith, step_text_len (filter_map g.S.TreeStep.step_event c.args.steps.now) c.args.text.now c.requires.one_tree.fits, c.requires.short)

pub from_parts-requires : goal.from_parts-requires
from_parts-requires g c =
    (built_over (filter_map g.S.TreeStep.step_event c.args.steps.now) c.args.text.now (string_bytes c.in_ok-copy.copy) c.in_ok-rows.rows c.requires.one_tree c.in_ok-copy.ensures.ok c.requires.short c.in_ok-rows.ensures).0

pub returns : goal.returns
returns g c =
    subst (BuildsNode (events_from (filter_map g.S.TreeStep.step_event c.args.steps.now) c.args.text.now)) (sym c.from_parts.ensures)
    (built_over (filter_map g.S.TreeStep.step_event c.args.steps.now) c.args.text.now (string_bytes c.in_ok-copy.copy) c.in_ok-rows.rows c.requires.one_tree c.in_ok-copy.ensures.ok c.requires.short c.in_ok-rows.ensures).1
