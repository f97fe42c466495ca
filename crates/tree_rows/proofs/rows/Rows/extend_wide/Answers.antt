use Rattle.std.proofs.Common.{◌≡◌, ◌≤◌, ◌∙◌, ◌++◌, ◌-◌, inr, refl, rules, ap, arith, length, take, drop, length-append, length-drop}
use Rattle.std.proofs.lemmas.List.{length-take}
use Rattle.std.proofs.lemmas.List.Elements.{All-same, All-append, All-take, All-drop}
use Rattle.std.proofs.Math.Seq.{take-append_seam}
use Rattle.tree_rows.specs.Rows.{joined}
use Rattle.tree_rows.specs.MovedRows.{cut_of}
use Rattle.tree_rows.specs.Stored.{IsNumbered, rows_kept, high_between}
use Rattle.tree_rows.proofs.Stored.{length-rows, Widened, widened, high_range, length-high_between, rows_kept-append, rows_kept-between, on_err}
use Rattle.tree_model.proofs.At.{cong₂}
use Rattle.tree_rows.proofs.rows.Rows.extend_wide.Goals as goal
use Rattle.tree_rows.proofs.rows.Rows.extend_wide.Goals.{In_ok-resize, In_ok-extend_high, After-truncate}

wide : (c : In_ok-resize) → Widened c.self.inside.flat.items c.self.inside.high.items c.resize.new.self.items
wide c =
    let a = c.self.inside in
    widened a.flat.items a.high.items c.resize.new.self.items _ _ c.in_ok-resize.ensures.items
    (omega (arith, c.len-count.ensures.value, length-rows a.flat.items a.high.items, ap (λ k. length k.rows) c.self.view_is))
    (omega (arith, c.len-count.ensures.value, length-rows a.flat.items a.high.items, ap (λ k. length k.rows) c.self.view_is, a.high.ok.0)) c.self.invariant.beside

pub extend_high-requires-clause-in_range : goal.extend_high-requires-clause-in_range
extend_high-requires-clause-in_range c =
    let b = c.other.inside in
    high_range b.flat.items b.high.items c.deref.result.now c.args.end c.deref.ensures.value c.other.invariant.beside
    (omega (arith, c.requires.in_range, length-rows b.flat.items b.high.items, ap (λ k. length k.rows) c.other.view_is))

pub extend_high-requires-clause-fits : goal.extend_high-requires-clause-fits
extend_high-requires-clause-fits c =
    let w = wide (goal.at.extend_high-requires-clause-fits c).In_ok-resize in
    let a = c.self.inside in
    omega (arith, w.long, c.len-count.ensures.value, c.len-count.ensures.small, length-rows a.flat.items a.high.items, ap (λ k. length k.rows) c.self.view_is, c.requires.in_range, c.len-more.ensures.value, c.len-more.ensures.small)

pub returns-in_err-extend_high-clause-err : goal.returns-in_err-extend_high-clause-err
returns-in_err-extend_high-clause-err c =
    let w = wide (goal.at.returns-in_err-extend_high-clause-err c).In_ok-resize in
    on_err _ (ap (rows_kept c.self.inside.flat.items) c.in_err-extend_high.ensures.err ∙ w.same ∙ c.self.view_is)

pub slice_bounds-extend_from_slice-end : goal.slice_bounds-extend_from_slice-end
slice_bounds-extend_from_slice-end c =
    let b = c.other.inside in
    let fits : c.args.end ≤ length c.deref-2.result.now = omega (arith, c.requires.in_range, length-rows b.flat.items b.high.items, ap (λ k. length k.rows) c.other.view_is, ap length c.deref-2.ensures.value) in
    search (rules, fits)

halves : (c : In_ok-extend_high) → c.extend_high.new.high.items ≡ c.resize.new.self.items ++ high_between c.other.inside.high.items c.args.first c.args.end
halves c = c.in_ok-extend_high.ensures.ok ∙ ap (λ l. c.resize.new.self.items ++ high_between l c.args.first c.args.end) c.deref.ensures.value

pub invariant_of-self-in-Ok : goal.invariant_of-self-in-Ok
invariant_of-self-in-Ok c =
    let w = wide (goal.at.invariant_of-self-in-Ok c).In_ok-resize in
    let high = halves (goal.at.invariant_of-self-in-Ok c).In_ok-extend_high in
    let a = c.self.inside in
    let b = c.other.inside in
    let first = c.args.first in
    let n = c.args.end - first in
    let part = take n (drop first b.flat.items) in
    let there : c.args.end ≤ length b.flat.items = omega (arith, c.requires.in_range, length-rows b.flat.items b.high.items, ap (λ k. length k.rows) c.other.view_is) in
    let copied : c.extend_from_slice.new.self.items ≡ a.flat.items ++ part = c.in-Ok.ensures.items ∙ ap (λ l. a.flat.items ++ take n (drop first l)) c.deref-2.ensures.value in
    let range = high_range b.flat.items b.high.items b.high.items c.args.end refl c.other.invariant.beside there in
    record {
      numbered = All-same IsNumbered _ (a.flat.items ++ part) copied
          (All-append IsNumbered a.flat.items part c.self.invariant.numbered (All-take IsNumbered n (drop first b.flat.items) (All-drop IsNumbered first b.flat.items c.other.invariant.numbered)));
      beside = inr (omega (
        arith,
        ap length copied,
        length-append a.flat.items part,
        length-take n (drop first b.flat.items),
        length-drop first b.flat.items,
        there,
        c.requires.ordered,
        w.long,
        ap length high,
        length-append c.resize.new.self.items (high_between b.high.items first c.args.end),
        length-high_between b.high.items first c.args.end range c.requires.ordered,
      ));
    }

pub returns-in-Ok-clause-ok : goal.returns-in-Ok-clause-ok
returns-in-Ok-clause-ok c =
    let w = wide (goal.at.returns-in-Ok-clause-ok c).In_ok-resize in
    let high = halves (goal.at.returns-in-Ok-clause-ok c).In_ok-extend_high in
    let a = c.self.inside in
    let b = c.other.inside in
    let first = c.args.first in
    let n = c.args.end - first in
    let part = take n (drop first b.flat.items) in
    let copied : c.extend_from_slice.new.self.items ≡ a.flat.items ++ part = c.in-Ok.ensures.items ∙ ap (λ l. a.flat.items ++ take n (drop first l)) c.deref-2.ensures.value in
    cong₂ rows_kept copied high ∙ rows_kept-append a.flat.items part c.resize.new.self.items (high_between b.high.items first c.args.end) w.long
    ∙ cong₂ joined (w.same ∙ c.self.view_is) (rows_kept-between b.flat.items b.high.items first c.args.end ∙ ap (cut_of first c.args.end) c.other.view_is)

left_over : (c : After-truncate) → c.truncate.new.self.items ≡ c.resize.new.self.items
left_over c =
    let w = wide (goal.at.After-truncate c).In_ok-resize in
    let high = halves (goal.at.After-truncate c).In_ok-extend_high in
    let a = c.self.inside in
    let new = c.resize.new.self.items in
    c.truncate.ensures.items
    ∙ cong₂ take (omega (arith, c.len-count.ensures.value, length-rows a.flat.items a.high.items, ap (λ k. length k.rows) c.self.view_is, w.long)) high
    ∙ take-append_seam new (high_between c.other.inside.high.items c.args.first c.args.end)

pub returns-in-Err-clause-err : goal.returns-in-Err-clause-err
returns-in-Err-clause-err c =
    let w = wide (goal.at.returns-in-Err-clause-err c).In_ok-resize in
    cong₂ rows_kept c.in-Err.ensures.items (left_over c) ∙ w.same ∙ c.self.view_is

pub offset_bounds-deref-first : goal.offset_bounds-deref-first
offset_bounds-deref-first c =
    let b = c.other.inside in
    let fits : c.args.first ≤ length b.flat.items = omega (arith, c.requires.ordered, c.requires.in_range, length-rows b.flat.items b.high.items, ap (λ k. length k.rows) c.other.view_is) in
    search (rules, fits, b.flat.ok)

pub invariant_of-self-in_err-extend_high : goal.invariant_of-self-in_err-extend_high
invariant_of-self-in_err-extend_high c =
    let w = wide (goal.at.invariant_of-self-in_err-extend_high c).In_ok-resize in
    record { numbered = c.self.invariant.numbered; beside = inr (omega (arith, ap length c.in_err-extend_high.ensures.err, w.long)) }

pub invariant_of-self-in-Err : goal.invariant_of-self-in-Err
invariant_of-self-in-Err c =
    let w = wide (goal.at.invariant_of-self-in-Err c).In_ok-resize in
    let left = left_over c in
    let fs = c.self.inside.flat.items in
    record {
      numbered = All-same IsNumbered _ fs c.in-Err.ensures.items c.self.invariant.numbered;
      beside = inr (omega (arith, ap length c.in-Err.ensures.items, ap length left, w.long));
    }
