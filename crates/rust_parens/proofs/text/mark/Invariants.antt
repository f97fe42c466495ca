use Rattle.std.proofs.Common.{◌≡◌, drop}
use Rattle.rust_parens.specs.Texts.{marked}
use Rattle.rust_parens.proofs.text.mark.Given as goal

abbrev pub invariant-loop-pair : goal.invariant-loop-pair
invariant-loop-pair l = marked l.marks (drop l.pair-index l.pairs) ≡ marked l.fn.marks l.pairs
