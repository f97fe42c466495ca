use Rattle.std.proofs.Common.{◌≡◌, inl, inr, List, true, false, Decides, get_or, sym, ap, ◌∙◌, arith}
use Rattle.std.proofs.lemmas.List.{ext_get_or}
use Rattle.std.specs.Cmp.Lexicographic.{pointwise, pointwise_decides}
use Rattle.tree_model.specs.EqualityLaws.{same_test}
use Rattle.tree_model.proofs.At.{below_or_after}
use Rattle.tree_rows.specs.declared.rows.Row.{Row}
use Rattle.tree_rows.specs.Rows.{no_row}
use Rattle.tree_rows.specs.RowEquality.{is_same_row}
use Rattle.tree_rows.specs.RowEqualityLaws.{row_Decides}
use Rattle.tree_rows.proofs.kept.Kept.has_same_rows.Goals as goal

tests : (xs ys : List Row) → Decides (pointwise is_same_row xs ys) (xs ≡ ys)
tests xs ys = pointwise_decides row_Decides xs ys

no_both : false ≡ true → ⊥
no_both e = cc

pub returns-else-eq : goal.returns-else-eq
returns-else-eq c =
    let xs = c.args.self.now.rows in
    let ys = c.args.other.now.rows in
    same_test false (pointwise is_same_row xs ys) (tests xs ys) (λ bad. absurd (no_both bad))
    (λ _ e. no_both (sym c.if-eq.false ∙ c.eq.ensures ∙ (row_Decides c.get.result c.get-in-loop-n.result).1 (c.get.ensures.value ∙ ap (λ l. get_or l c.loop-n.n no_row) e ∙ sym c.get-in-loop-n.ensures.value)))

pub loop-n-preserved : goal.loop-n-preserved
loop-n-preserved c = λ k lt. elim (below_or_after k c.loop-n.n) [
  | inl less ↦ c.loop-n.invariant k less
  | inr more ↦
      let e : k ≡ c.loop-n.n = omega (arith, lt, more.1) in
      ap (λ i. get_or c.args.self.now.rows i no_row) e ∙ sym c.get.ensures.value ∙ (row_Decides c.get.result c.get-in-loop-n.result).0 (sym c.eq.ensures ∙ c.if-eq.true)
      ∙ c.get-in-loop-n.ensures.value ∙ ap (λ i. get_or c.args.other.now.rows i no_row) (sym e)
]

pub returns : goal.returns
returns c =
    let xs = c.args.self.now.rows in
    let ys = c.args.other.now.rows in
    same_test true (pointwise is_same_row xs ys) (tests xs ys)
    (λ _. ext_get_or no_row xs ys (omega (arith, c.len-count.ensures.value, c.len.ensures.value, c.if-len-count.false)) (λ i lt. c.loop-n.invariant i (omega (arith, lt, c.len-count.ensures.value, c.loop-n-test.false))))
    (λ bad. absurd (no_both (sym bad)))
