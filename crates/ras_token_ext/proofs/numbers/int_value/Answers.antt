use Rattle.std.proofs.Common.{sym, ap, ◌∙◌}
use Rattle.ras_token_ext.specs.Numbers.{base_of}
use Rattle.ras_token_ext.proofs.IntValues.{answered}
use Rattle.ras_token_ext.proofs.numbers.int_value.Goals as goal

pub returns-in-Some : goal.returns-in-Some
returns-in-Some c =
    answered c.base-base.result c.split_int.result.1.now c.args.text.now _ c.base-base.ensures.least c.split_int.ensures.digits (c.base-base.ensures.value ∙ ap base_of c.of.ensures.value)
    (sym c.has_digits.ensures ∙ c.if-not-has_digits.false) (sym c.are_digits.ensures ∙ c.if-not-are_digits.false) (sym c.in-Some.is ∙ c.number.ensures)

pub returns-in-None : goal.returns-in-None
returns-in-None c =
    answered c.base-base.result c.split_int.result.1.now c.args.text.now _ c.base-base.ensures.least c.split_int.ensures.digits (c.base-base.ensures.value ∙ ap base_of c.of.ensures.value)
    (sym c.has_digits.ensures ∙ c.if-not-has_digits.false) (sym c.are_digits.ensures ∙ c.if-not-are_digits.false) (sym c.in-None.is ∙ c.number.ensures)
