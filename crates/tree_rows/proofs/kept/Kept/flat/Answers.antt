use Rattle.std.proofs.Common.{◌∙◌, ap, sym, arith, length}
use Rattle.tree_rows.specs.Stored.{flat_columns}
use Rattle.tree_rows.proofs.KeptLemmas.{none_moved, length-moved}
use Rattle.tree_rows.proofs.Stored.{some_then}
use Rattle.tree_rows.proofs.kept.Kept.flat.Goals as goal

pub returns : goal.returns
returns c =
    let a = c.self.inside in
    let base = a.rows.value in
    let same = none_moved a.at a.from a.to base
    (omega (arith, c.if-self-len.false, c.len.ensures.value, ap (λ k. length k.rows) c.self.view_is, length-moved a.at a.from a.to base)) in
    some_then c.flat.result (λ rows e. e ∙ ap flat_columns (c.as_ref.ensures ∙ sym same ∙ c.self.view_is)) c.flat.ensures
