use Rattle.std.proofs.Common.{◌≡◌, ◌≤◌, ◌++◌, length, drop, string_bytes}
use Rattle.std.specs.Prelude.{IsCharBoundary}
use Rattle.text_edit.specs.Replacements.{InOrder}
use Rattle.text_edit.proofs.Pass.{passed}
use Rattle.text_edit.proofs.text_edit.TextEdit.apply.Given as goal

abbrev pub invariant-loop-indel : goal.invariant-loop-indel
invariant-loop-indel l = record {
  within : l.at ≤ length l.text;
  boundary : IsCharBoundary l.text l.at;
  order : InOrder l.at (drop l.indel-index l.indel-items);
  whole : string_bytes l.out ++ passed l.text l.at (drop l.indel-index l.indel-items) ≡ passed l.text 0 l.indel-items;
}
