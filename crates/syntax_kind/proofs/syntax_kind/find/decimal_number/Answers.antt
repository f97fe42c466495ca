use Rattle.std.proofs.Common.{◌≡◌, ◌↔◌, Some, true, false, sym, subst, decimal}
use Rattle.syntax_kind.specs.KindText.{has_plain_start}
use Rattle.syntax_kind.proofs.Decimals.{reads, not_decimal}
use Rattle.syntax_kind.proofs.Names.{none_is_some}
use Rattle.syntax_kind.proofs.syntax_kind.find.decimal_number.Goals as goal

pub returns-then-has_plain_start : goal.returns-then-has_plain_start
returns-then-has_plain_start c = λ n small.
    let plain : has_plain_start c.args.text.now ≡ true = cc in
    let read = reads c.args.text.now c.parse.result c.parse.ensures.value.0 plain n small in
    subst (λ o. (o ≡ Some n) ↔ (decimal n ≡ c.args.text.now)) (sym c.ok.ensures.value) read

pub returns-else-has_plain_start : goal.returns-else-has_plain_start
returns-else-has_plain_start c = λ n small.
    let other : has_plain_start c.args.text.now ≡ false = cc in
    (λ q. absurd (none_is_some n q), λ e. absurd (not_decimal c.args.text.now n small other e))
