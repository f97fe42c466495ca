use Rattle.std.proofs.Common.{◌≡◌, ◌++◌, filter_map}
use Rattle.rust_rules.specs.Macros.{change_outward}
use Rattle.rust_rules.proofs.within.push_moved.Given as goal

abbrev pub invariant-loop-change : goal.invariant-loop-change
invariant-loop-change l = l.all.items ≡ l.fn.all.items ++ filter_map (change_outward l.list) l.yielded
