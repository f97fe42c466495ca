use Rattle.std.proofs.Common.{◌≡◌, ◌++◌, drop}
use Rattle.rust_parens.proofs.needless.add_tried.Given as goal

abbrev pub invariant-loop-one : goal.invariant-loop-one
invariant-loop-one l = l.tried.items ++ drop l.one-index l.more ≡ l.fn.tried.items ++ l.more
