use Rattle.std.proofs.Common.{◌≡◌, ◌+◌, drop}
use Rattle.std.specs.List.{position_or_len}
use Rattle.ras_token_ext.specs.Numbers.{starts_suffix}
use Rattle.ras_token_ext.proofs.numbers.suffix_place.Given as goal

abbrev pub invariant-loop-i : goal.invariant-loop-i
invariant-loop-i l = record { same : l.i + position_or_len (starts_suffix l.radix) (drop l.i l.fn.text) ≡ position_or_len (starts_suffix l.radix) l.fn.text }
