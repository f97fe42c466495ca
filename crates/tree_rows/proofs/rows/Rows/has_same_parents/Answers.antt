use Rattle.std.proofs.Common.{◌≡◌, ℕ, ◌==◌, List, true, false, Decides, sym, arith}
use Rattle.std.proofs.lemmas.List.{ext_get_or}
use Rattle.std.specs.Cmp.{unsigned_Decides}
use Rattle.std.specs.Cmp.Lexicographic.{pointwise, pointwise_decides}
use Rattle.tree_model.specs.EqualityLaws.{same_test}
use Rattle.tree_rows.proofs.rows.Rows.has_same_parents.Goals as goal

tests : (xs ys : List ℕ) → Decides (pointwise ◌==◌ xs ys) (xs ≡ ys)
tests xs ys = pointwise_decides unsigned_Decides xs ys

no_both : false ≡ true → ⊥
no_both e = cc

pub returns : goal.returns
returns c =
    let xs = c.args.self.now.parents in
    let ys = c.args.other.now.parents in
    same_test true (pointwise ◌==◌ xs ys) (tests xs ys)
    (λ _. ext_get_or 0 xs ys (omega (arith, c.len-count.ensures.parents, c.len.ensures.parents, c.if-len-count.false)) (λ i lt. c.loop-n.invariant i (omega (arith, lt, c.len-count.ensures.parents, c.loop-n-test.false))))
    (λ bad. absurd (no_both (sym bad)))
