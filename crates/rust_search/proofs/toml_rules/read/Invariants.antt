use Rattle.std.proofs.Common.{◌≡◌, length}
use Rattle.rust_search.proofs.toml_rules.read.Given as goal

abbrev pub invariant-loop-table : goal.invariant-loop-table
invariant-loop-table l = length l.set.notes.items ≡ length l.set.rules.items
