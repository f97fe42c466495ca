use Rattle.std.proofs.Common.{◌≡◌, ◌∙◌, ◌++◌, ◌∷◌, [], inl, ap, sym, subst, refl, arith}
use Rattle.std.proofs.lemmas.List.Elements.{All-same, All-push}
use Rattle.tree_rows.specs.declared.table.flat.FlatRow.{FlatRow}
use Rattle.tree_rows.specs.Rows.{joined}
use Rattle.tree_rows.specs.Stored.{IsNumbered, rows_kept, no_high, row_in, parent_in, slot, whole_end}
use Rattle.tree_rows.proofs.Stored.{none_there, one_low, rows_kept-append_low}
use Rattle.tree_model.proofs.At.{cong₂}
use Rattle.tree_rows.proofs.rows.Rows.push_low.Goals as goal

pub invariant_of-self : goal.invariant_of-self
invariant_of-self c =
    let a = c.self.inside in
    let f : FlatRow = record { kind = c.kind.inside.number; start = c.args.start; subtree_end = c.args.end; parent = c.low_half.result } in
    record {
      numbered = All-same IsNumbered _ (a.flat.items ++ f ∷ []) c.push_reserved.ensures.items (All-push IsNumbered a.flat.items f c.self.invariant.numbered c.kind.invariant);
      beside = inl (none_there a.high.items _ (omega (arith, a.high.ok.0)) c.if-is_empty.ensures);
    }

pub returns-then-is_empty-clause-pushed : goal.returns-then-is_empty-clause-pushed
returns-then-is_empty-clause-pushed c = λ _.
    let a = c.self.inside in
    let f : FlatRow = record { kind = c.kind.inside.number; start = c.args.start; subtree_end = c.args.end; parent = c.low_half.result } in
    let none : a.high.items ≡ [] = none_there a.high.items _ (omega (arith, a.high.ok.0)) c.if-is_empty.ensures in
    let end : whole_end 0 c.args.end ≡ c.args.end = omega arith in
    let parent : parent_in (slot f no_high) ≡ c.args.parent = omega (arith, c.low_half.ensures, c.if-parent-lt-HALF.true) in
    cong₂ rows_kept c.push_reserved.ensures.items none ∙ rows_kept-append_low a.flat.items (f ∷ [])
    ∙ cong₂ joined (ap (rows_kept a.flat.items) (sym none) ∙ c.self.view_is)
    (one_low f no_high _ c.args.parent refl
    (cong₂ (λ k e. record { kind = k.kind; is_token = k.is_token; start = c.args.start; end = e }) c.kind.view_is end) parent)
