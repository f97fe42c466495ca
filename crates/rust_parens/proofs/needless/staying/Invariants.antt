use Rattle.std.proofs.Common.{◌≡◌, ◌+◌, ◌≤◌, drop, length}
use Rattle.rust_parens.specs.Needless.{refused_of}
use Rattle.rust_parens.proofs.needless.staying.Given as goal

abbrev pub invariant-loop-one : goal.invariant-loop-one
invariant-loop-one l =
    (l.count + length (refused_of (drop l.one-index l.tried)) ≡ length (refused_of l.tried))
    × (l.count ≤ l.one-index)
