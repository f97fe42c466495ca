use Rattle.std.proofs.Common.{◌≡◌, take}
use Rattle.ras_c.specs.declared.lines.Columns.TheVariants as columns
use Rattle.ras_c.specs.Lines.{ArePlaces}
use Rattle.ras_c.proofs.lines.wide_places.Given as goal

abbrev pub invariant-loop-offset : goal.invariant-loop-offset
invariant-loop-offset l = record {
  same : l.text ≡ l.fn.text;
  are : ArePlaces (columns.Wide l.fn.text.0) l.fn.text.1 (take l.offset-index l.offsets) l.places.items;
}
