use Rattle.std.proofs.Common.{sym, subst, ◌∙◌, string_bytes}
use Rattle.tree_model.specs.Events.{BuildsNode}
use Rattle.tree_rows.specs.Builder.{events_from}
use Rattle.tree_rows.proofs.Run.{made_rows}
use Rattle.tree_rows.proofs.FinishLemmas.{built_over}
use Rattle.tree_rows.proofs.row_builder.RowBuilder.table.Goals as goal

pub from_parts-requires : goal.from_parts-requires
from_parts-requires c =
    let m = c.requires.made in
    (built_over m.steps c.args.text.now (string_bytes c.in_ok-copy.copy) c.in_ok-rows.rows m.one_tree c.in_ok-copy.ensures.ok c.requires.short
    (λ f is. c.in_ok-rows.ensures ∙ made_rows f m.steps c.args.self is m.made)).0

pub returns : goal.returns
returns c = λ steps made one_tree.
    subst (BuildsNode (events_from steps c.args.text.now)) (sym c.from_parts.ensures)
    (built_over steps c.args.text.now (string_bytes c.in_ok-copy.copy) c.in_ok-rows.rows one_tree c.in_ok-copy.ensures.ok c.requires.short
    (λ f is. c.in_ok-rows.ensures ∙ made_rows f steps c.args.self is made)).1
