use Rattle.std.proofs.Common.{◌≡◌, ◌++◌}
use Rattle.std.specs.List.{filter}
use Rattle.rust_print.specs.Readings.{is_wanted}
use Rattle.rust_print.proofs.parens.wanted_pairs.Given as goal

abbrev pub invariant-loop-pair : goal.invariant-loop-pair
invariant-loop-pair l =
    l.found.items ++ filter (is_wanted l.wanted) l.pair-iterator.rest.items
    ≡ filter (is_wanted l.wanted) l.initial.pair-iterator.rest.items
