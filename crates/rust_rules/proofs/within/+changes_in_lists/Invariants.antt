use Rattle.std.proofs.Common.{◌<◌, ◌-◌, drop}
use Rattle.rust_rules.specs.Macros.{AreChangesOf, AreChangesInLists, change_outward}
use Rattle.rust_rules.proofs.EachLemmas.{LeftEach}
use Rattle.rust_rules.proofs.within.+changes_in_lists.Given as goal

abbrev pub decreases-changes_in_lists : goal.decreases-changes_in_lists
decreases-changes_in_lists l = l.depth

abbrev pub invariant-loop-list : goal.invariant-loop-list
invariant-loop-list l = record {
  some : 0 < l.depth;
  done : LeftEach l.reading (AreChangesOf l.reading l.rules (AreChangesInLists l.reading l.rules (l.depth - 1))) change_outward l.text (drop l.list-index l.list-items) l.changes.items l.list-items;
}
