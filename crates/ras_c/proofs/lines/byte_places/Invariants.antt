use Rattle.std.proofs.Common.{take}
use Rattle.ras_c.specs.declared.lines.Columns.TheVariants as columns
use Rattle.ras_c.specs.Lines.{ArePlaces}
use Rattle.ras_c.proofs.lines.byte_places.Given as goal

abbrev pub invariant-loop-offset : goal.invariant-loop-offset
invariant-loop-offset l = ArePlaces columns.Bytes l.fn.index (take l.offset-index l.offsets) l.places.items
