use Rattle.std.proofs.Common.{◌≡◌, drop}
use Rattle.ras_token_ext.specs.Numbers.{number_after}
use Rattle.ras_token_ext.proofs.numbers.number.Given as goal

abbrev pub invariant-loop-i : goal.invariant-loop-i
invariant-loop-i l = record { same : number_after l.base l.number (drop l.i l.fn.text) ≡ number_after l.base 0 l.fn.text }
