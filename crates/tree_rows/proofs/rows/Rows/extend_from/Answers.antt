use Rattle.std.proofs.Common.{◌≡◌, ◌≤◌, ◌∙◌, ◌++◌, ◌-◌, [], inl, rules, ap, sym, arith, length, take, drop}
use Rattle.std.proofs.lemmas.List.Elements.{All-same, All-append, All-take, All-drop}
use Rattle.tree_rows.specs.Rows.{joined}
use Rattle.tree_rows.specs.MovedRows.{cut_of}
use Rattle.tree_rows.specs.Stored.{IsNumbered, rows_kept}
use Rattle.tree_rows.proofs.Stored.{length-rows, none_there, rows_kept-append_low, rows_kept-between_low}
use Rattle.tree_model.proofs.At.{cong₂}
use Rattle.tree_rows.proofs.rows.Rows.extend_from.Goals as goal

pub slice_bounds-extend_from_slice-end : goal.slice_bounds-extend_from_slice-end
slice_bounds-extend_from_slice-end c =
    let b = c.other.inside in
    let fits : c.args.end ≤ length c.deref.result.now = omega (arith, c.requires.in_range, length-rows b.flat.items b.high.items, ap (λ k. length k.rows) c.other.view_is, ap length c.deref.ensures.value) in
    search (rules, fits)

pub invariant_of-self-then-is_empty-2 : goal.invariant_of-self-then-is_empty-2
invariant_of-self-then-is_empty-2 c =
    let a = c.self.inside in
    let b = c.other.inside in
    let n = c.args.end - c.args.first in
    let first = c.args.first in
    let copied : c.extend_from_slice.new.self.items ≡ a.flat.items ++ take n (drop first b.flat.items) =
    c.in_ok-extend_from_slice.ensures.items ∙ ap (λ l. a.flat.items ++ take n (drop first l)) c.deref.ensures.value in
    record {
      numbered = All-same IsNumbered _ (a.flat.items ++ take n (drop first b.flat.items)) copied
          (All-append IsNumbered a.flat.items (take n (drop first b.flat.items)) c.self.invariant.numbered (All-take IsNumbered n (drop first b.flat.items) (All-drop IsNumbered first b.flat.items c.other.invariant.numbered)));
      beside = inl (none_there a.high.items _ (omega (arith, a.high.ok.0)) c.if-is_empty.ensures);
    }

pub returns-then-is_empty-2-clause-ok : goal.returns-then-is_empty-2-clause-ok
returns-then-is_empty-2-clause-ok c =
    let a = c.self.inside in
    let b = c.other.inside in
    let n = c.args.end - c.args.first in
    let first = c.args.first in
    let none : a.high.items ≡ [] = none_there a.high.items _ (omega (arith, a.high.ok.0)) c.if-is_empty.ensures in
    let none_there : b.high.items ≡ [] = none_there b.high.items _ (omega (arith, b.high.ok.0)) c.if-is_empty-2.ensures in
    let copied : c.extend_from_slice.new.self.items ≡ a.flat.items ++ take n (drop first b.flat.items) =
    c.in_ok-extend_from_slice.ensures.items ∙ ap (λ l. a.flat.items ++ take n (drop first l)) c.deref.ensures.value in
    cong₂ rows_kept copied none ∙ rows_kept-append_low a.flat.items (take n (drop first b.flat.items))
    ∙ cong₂ joined (ap (rows_kept a.flat.items) (sym none) ∙ c.self.view_is)
    (rows_kept-between_low b.flat.items first c.args.end ∙ ap (cut_of first c.args.end) (ap (rows_kept b.flat.items) (sym none_there) ∙ c.other.view_is))

pub offset_bounds-deref-first : goal.offset_bounds-deref-first
offset_bounds-deref-first c =
    let b = c.other.inside in
    let fits : c.args.first ≤ length b.flat.items = omega (arith, c.requires.ordered, c.requires.in_range, length-rows b.flat.items b.high.items, ap (λ k. length k.rows) c.other.view_is) in
    search (rules, fits, b.flat.ok)
