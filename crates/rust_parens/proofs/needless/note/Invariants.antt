use Rattle.std.proofs.Common.{◌≡◌, ◌++◌, drop, map}
use Rattle.rust_parens.specs.Runs.{as_tried}
use Rattle.rust_parens.proofs.needless.note.Given as goal

abbrev pub invariant-loop-pair : goal.invariant-loop-pair
invariant-loop-pair l = l.tried.items ++ map (as_tried l.goes) (drop l.pair-index l.run) ≡ l.fn.tried.items ++ map (as_tried l.goes) l.run
