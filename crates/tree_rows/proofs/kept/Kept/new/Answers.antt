use Rattle.std.proofs.Common.{◌∙◌, ap, arith, length}
use Rattle.tree_rows.proofs.KeptLemmas.{none_moved}
use Rattle.tree_rows.proofs.kept.Kept.new.Goals as goal

pub returns : goal.returns
returns c =
    none_moved 18446744073709551615 0 0 c.in_ok-rows.rows.value (omega (arith, ap (λ k. length k.rows) c.in_ok-rows.ensures.ok, c.len-count.ensures.value, c.len-count.ensures.small))
    ∙ c.in_ok-rows.ensures.ok
