use Rattle.std.proofs.Common.{sym, ap, ◌∙◌, subst, arith, length, refl}
use Rattle.std.specs.Prelude.{All}
use Rattle.tree_model.specs.Tree.{text}
use Rattle.ras_parsing.specs.Edit.{Edit}
use Rattle.ras_front_end.specs.ErrorModel.{LiesIn}
use Rattle.ras_parsing.specs.Reparse.{merged}
use Rattle.ras_parsing.proofs.Around.{spliced_length}
use Rattle.ras_parsing.proofs.MergedInText.{Fits, merged_in_text}
use Rattle.ras_parsing.proofs.reparse.spliced.Goals as goal

pub from_parts-requires-clause-errors : goal.from_parts-requires-clause-errors
from_parts-requires-clause-errors g c =
    let edit : Edit = record { delete = c.args.delete; insert = c.args.insert.now } in
    let n = length (text c.args.old.now.tree) in
    let m = length (text c.args.root.tree) in
    let fits : Fits c.args.replaced edit n m = record { begun = c.requires.around.0; forwards = omega (arith, c.start-start.ensures.ordered); ended = c.requires.around.1; within = c.requires.around.2; new_length = ap length c.requires.text ∙ spliced_length (text c.args.old.now.tree) edit (omega (arith, c.start-start.ensures.ordered)) (omega (arith, c.requires.around)) } in
    subst (All (LiesIn m)) (sym (c.in_ok-errors.ensures ∙ ap (λ l. merged l c.args.errors.items c.args.replaced edit) c.stored.ensures.errors))
    (merged_in_text c.args.replaced edit n _ m c.args.old.now.errors c.args.errors.items fits refl c.stored.ensures.in_text c.requires.errors)
