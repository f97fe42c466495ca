use Rattle.std.proofs.Common.{◌≡◌, drop}
use Rattle.ras_token_ext.specs.Numbers.{are_digits, without_underscores}
use Rattle.ras_token_ext.proofs.numbers.are_digits.Given as goal

abbrev pub invariant-loop-i : goal.invariant-loop-i
invariant-loop-i l = record { same : are_digits l.base (without_underscores (drop l.i l.fn.text)) ≡ are_digits l.base (without_underscores l.fn.text) }
