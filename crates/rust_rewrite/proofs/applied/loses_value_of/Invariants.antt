use Rattle.std.proofs.Common.{◌≡◌, drop}
use Rattle.rust_rewrite.specs.Rewrites.{loses_from}
use Rattle.rust_rewrite.proofs.applied.loses_value_of.Given as goal

abbrev pub invariant-loop-number : goal.invariant-loop-number
invariant-loop-number l = loses_from l.starts l.rule l.form l.number (drop l.number l.values) ≡ loses_from l.starts l.rule l.form 0 l.values
