use Rattle.std.proofs.Common.{◌≡◌, ◌++◌, map}
use Rattle.rust_rules.specs.Macros.{replacement_of}
use Rattle.rust_rules.proofs.within.changes_of.Given as goal

abbrev pub invariant-loop-indel : goal.invariant-loop-indel
invariant-loop-indel l = map replacement_of l.changes.items ++ l.indel-iterator.rest.now ≡ l.done.edit
