use Rattle.std.proofs.Common.{◌≡◌, ◌∙◌, ◌++◌, ◌∷◌, [], inr, ap, arith, length, take, length-append}
use Rattle.std.proofs.lemmas.List.Elements.{All-same, All-push}
use Rattle.std.proofs.Math.Seq.{take-append_seam}
use Rattle.tree_rows.specs.declared.rows.High.{High}
use Rattle.tree_rows.specs.Rows.{joined}
use Rattle.tree_rows.specs.Stored.{IsNumbered, rows_kept, row_in, parent_in, slot, high_of}
use Rattle.tree_rows.proofs.Stored.{Widened, widened, one_kept, rows_kept-append, on_err}
use Rattle.tree_model.proofs.At.{cong₂}
use Rattle.tree_rows.proofs.rows.Rows.push_wide.Goals as goal
use Rattle.tree_rows.proofs.rows.Rows.push_wide.Goals.{In_ok-resize}

wide : (c : In_ok-resize) → Widened c.self.inside.flat.items c.self.inside.high.items c.resize.new.self.items
wide c =
    let a = c.self.inside in
    widened a.flat.items a.high.items c.resize.new.self.items _ _ c.in_ok-resize.ensures.items (omega (arith, c.len-count.ensures, a.flat.ok.0))
    (omega (arith, c.len-count.ensures, a.flat.ok.0, a.high.ok.0)) c.self.invariant.beside

pub returns-in_err-push-clause-err : goal.returns-in_err-push-clause-err
returns-in_err-push-clause-err c =
    let w = wide (goal.at.returns-in_err-push-clause-err c).In_ok-resize in
    on_err _ (ap (rows_kept c.self.inside.flat.items) c.in_err-push.ensures.items ∙ w.same ∙ c.self.view_is)

pub invariant_of-self-in-Ok : goal.invariant_of-self-in-Ok
invariant_of-self-in-Ok c =
    let fs = c.self.inside.flat.items in
    let f = c.flat_row.result in
    let w = wide (goal.at.invariant_of-self-in-Ok c).In_ok-resize in
    record {
      numbered = All-same IsNumbered _ (fs ++ f ∷ []) c.in-Ok.ensures.items (All-push IsNumbered fs f c.self.invariant.numbered c.flat_row.ensures.numbered);
      beside = inr (omega (arith, ap length c.in-Ok.ensures.items, length-append fs (f ∷ []), ap length c.in_ok-push.ensures.items, simp length-append at (ap length c.in_ok-push.ensures.items), w.long));
    }

pub returns-in-Ok-clause-ok : goal.returns-in-Ok-clause-ok
returns-in-Ok-clause-ok c =
    let fs = c.self.inside.flat.items in
    let f = c.flat_row.result in
    let row = c.args.row in
    let w = wide (goal.at.returns-in-Ok-clause-ok c).In_ok-resize in
    let h : High = record { end = c.high_half.result; parent = c.high_half-2.result } in
    let halves : h ≡ high_of row.end c.args.parent = cong₂ (λ x y. record { end = x; parent = y }) c.high_half.ensures c.high_half-2.ensures in
    cong₂ rows_kept c.in-Ok.ensures.items c.in_ok-push.ensures.items ∙ rows_kept-append fs (f ∷ []) c.resize.new.self.items (h ∷ []) w.long
    ∙ cong₂ joined (w.same ∙ c.self.view_is)
    (one_kept f h row c.args.parent (ap (λ x. row_in (slot f x)) halves ∙ c.flat_row.ensures.row c.requires) (ap (λ x. parent_in (slot f x)) halves ∙ c.flat_row.ensures.parent))

pub returns-in-Err-clause-err : goal.returns-in-Err-clause-err
returns-in-Err-clause-err c =
    let w = wide (goal.at.returns-in-Err-clause-err c).In_ok-resize in
    let new = c.resize.new.self.items in
    let h : High = record { end = c.high_half.result; parent = c.high_half-2.result } in
    let left : c.pop.new.self.items ≡ new =
    c.pop.ensures.rest ∙ cong₂ take (omega (arith, c.push.new.self.ok.0, ap length c.in_ok-push.ensures.items, length-append new (h ∷ []))) c.in_ok-push.ensures.items ∙ take-append_seam new (h ∷ []) in
    cong₂ rows_kept c.in-Err.ensures.items left ∙ w.same ∙ c.self.view_is
