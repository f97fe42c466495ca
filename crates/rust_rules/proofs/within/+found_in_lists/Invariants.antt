use Rattle.std.proofs.Common.{◌<◌, ◌-◌, drop}
use Rattle.rust_rules.specs.Macros.{AreFoundOf, AreFoundInLists, found_outward}
use Rattle.rust_rules.proofs.EachLemmas.{LeftEach}
use Rattle.rust_rules.proofs.within.+found_in_lists.Given as goal

abbrev pub decreases-found_in_lists : goal.decreases-found_in_lists
decreases-found_in_lists l = l.depth

abbrev pub invariant-loop-list : goal.invariant-loop-list
invariant-loop-list l = record {
  some : 0 < l.depth;
  done : LeftEach l.reading (AreFoundOf l.rules (AreFoundInLists l.reading l.rules (l.depth - 1))) found_outward l.text (drop l.list-index l.list-items) l.found.items l.list-items;
}
