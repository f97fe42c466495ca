use Rattle.std.proofs.Common.{◌≡◌, ◌≤◌, ◌++◌, length}
use Rattle.std.specs.Prelude.{vec_capacity}
use Rattle.text_edit.specs.Replacements.{InOrder, with_all}
use Rattle.text_edit.proofs.merge.merge.Given as goal

abbrev pub invariant-loop-indel : goal.invariant-loop-indel
invariant-loop-indel l = record {
  order : InOrder 0 l.theirs.items;
  whole : l.out.items ++ with_all l.mine.items l.theirs.items ≡ with_all l.fn.mine.items l.fn.theirs.items;
  room : length (with_all l.fn.mine.items l.fn.theirs.items) ≤ vec_capacity l.out;
}

abbrev pub decreases-loop-indel : goal.decreases-loop-indel
decreases-loop-indel l = length (with_all l.mine.items l.theirs.items)
