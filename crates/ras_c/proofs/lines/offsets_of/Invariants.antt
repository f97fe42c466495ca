use Rattle.std.proofs.Common.{take}
use Rattle.ras_c.specs.Lines.{ArePlaces}
use Rattle.ras_c.proofs.lines.offsets_of.Given as goal

abbrev pub invariant-loop-place : goal.invariant-loop-place
invariant-loop-place l = ArePlaces l.fn.columns l.fn.text l.offsets.items (take l.place-index l.places)
