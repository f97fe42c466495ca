use Rattle.std.proofs.Common.{◌≡◌, ◌∙◌, ◌+◌, ◌%◌, ap, arith}
use Rattle.tree_rows.specs.Stored.{kind_numbered}
use Rattle.tree_rows.proofs.rows.kind_number.Goals as goal

pub returns-then-is_token-clause-kind : goal.returns-then-is_token-clause-kind
returns-then-is_token-clause-kind c =
    let n = c.raw_number-number.result in
    let e : (n + 2147483648) % 2147483648 ≡ n = omega (arith, c.raw_number-number.ensures.small) in
    ap kind_numbered e ∙ c.raw_number-number.ensures.kind

pub returns-else-is_token-clause-kind : goal.returns-else-is_token-clause-kind
returns-else-is_token-clause-kind c =
    let n = c.raw_number-number.result in
    let e : n % 2147483648 ≡ n = omega (arith, c.raw_number-number.ensures.small) in
    ap kind_numbered e ∙ c.raw_number-number.ensures.kind
