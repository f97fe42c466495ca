use Rattle.std.proofs.Common.{◌∙◌}
use Rattle.syntax_editor.proofs.SpotLemmas.{spot_is}
use Rattle.syntax_editor.proofs.position.Place.of_node.Goals as goal

pub returns-clause-spot : goal.returns-clause-spot
returns-clause-spot c = spot_is c.args.node.now c.share.result.value c.row.result (c.share.ensures.value ∙ c.table.ensures) c.row.ensures.is_row c.row.ensures.place
