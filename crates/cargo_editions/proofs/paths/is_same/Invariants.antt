use Rattle.std.proofs.Common.{◌≡◌}
use Rattle.std.specs.Cmp.Lexicographic.{pointwise}
use Rattle.std.specs.Path.{components_remaining}
use Rattle.cargo_editions.specs.Manifest.{is_text}
use Rattle.cargo_editions.specs.Paths.{is_same}
use Rattle.cargo_editions.proofs.paths.is_same.Given as goal

abbrev pub invariant-loop-part : goal.invariant-loop-part
invariant-loop-part l =
    pointwise is_text (components_remaining l.part-iterator) (components_remaining l.others) ≡ is_same l.path l.other
