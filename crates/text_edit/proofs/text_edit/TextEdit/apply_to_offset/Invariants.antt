use Rattle.std.proofs.Common.{◌≡◌, ◌≤◌, drop}
use Rattle.text_edit.specs.Replacements.{InOrder, moved_from}
use Rattle.text_edit.proofs.text_edit.TextEdit.apply_to_offset.Given as goal

abbrev pub invariant-loop-indel : goal.invariant-loop-indel
invariant-loop-indel l = record {
  within : l.at ≤ l.offset;
  order : InOrder l.at (drop l.indel-index l.indel-items);
  moved : moved_from l.at l.new (drop l.indel-index l.indel-items) l.offset ≡ moved_from 0 0 l.indel-items l.offset;
}
