use Rattle.std.proofs.Common.{◌≡◌, ◌∙◌, ◌++◌, ◌∷◌, [], inl, ap, sym, arith}
use Rattle.std.proofs.lemmas.List.Elements.{All-same, All-push}
use Rattle.tree_rows.specs.Rows.{joined}
use Rattle.tree_rows.specs.Stored.{IsNumbered, rows_kept}
use Rattle.tree_rows.proofs.Stored.{none_there, high_of-none, one_low, rows_kept-append_low}
use Rattle.tree_model.proofs.At.{cong₂}
use Rattle.tree_rows.proofs.rows.Rows.push.Goals as goal

pub invariant_of-self-then-parent-lt-HALF : goal.invariant_of-self-then-parent-lt-HALF
invariant_of-self-then-parent-lt-HALF c =
    let a = c.self.inside in
    record {
      numbered = All-same IsNumbered _ (a.flat.items ++ c.flat_row.result ∷ []) c.in_ok-push.ensures.items (All-push IsNumbered a.flat.items c.flat_row.result c.self.invariant.numbered c.flat_row.ensures.numbered);
      beside = inl (none_there a.high.items _ (omega (arith, a.high.ok.0)) c.if-is_empty.ensures);
    }

pub returns-then-parent-lt-HALF-clause-ok : goal.returns-then-parent-lt-HALF-clause-ok
returns-then-parent-lt-HALF-clause-ok c =
    let a = c.self.inside in
    let f = c.flat_row.result in
    let row = c.args.row in
    let none : a.high.items ≡ [] = none_there a.high.items _ (omega (arith, a.high.ok.0)) c.if-is_empty.ensures in
    cong₂ rows_kept c.in_ok-push.ensures.items none ∙ rows_kept-append_low a.flat.items (f ∷ [])
    ∙ cong₂ joined (ap (rows_kept a.flat.items) (sym none) ∙ c.self.view_is)
    (one_low f _ row c.args.parent (high_of-none row.end c.args.parent c.if-row-lt-HALF.true c.if-parent-lt-HALF.true) (c.flat_row.ensures.row c.requires) c.flat_row.ensures.parent)
