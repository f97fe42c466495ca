use Rattle.std.proofs.Common.{◌∙◌, ◌++◌, drop, ap, sym}
use Rattle.tree_model.specs.Cursor.{focus}
use Rattle.tree_rows.specs.Flat.{flat_rows}
use Rattle.tree_rows.proofs.FlatLemmas.{length-flat_rows}
use Rattle.ras_c.proofs.read.write_rows.Goals as goal

pub returns-clause-written : goal.returns-clause-written
returns-clause-written c = λ room few.
    let t = focus c.args.node.now in
    c.write_flat_rows.ensures.written room few
    ∙ ap (λ n. flat_rows t ++ drop n c.args.rows.now) (sym (length-flat_rows t))
