use Rattle.std.proofs.Common.{◌≡◌, drop}
use Rattle.ras_token_ext.specs.Texts.{first_place}
use Rattle.ras_token_ext.proofs.places.first_place.Given as goal

abbrev pub invariant-loop-i : goal.invariant-loop-i
invariant-loop-i l = record { same : first_place l.byte l.i (drop l.i l.fn.text) ≡ first_place l.byte 0 l.fn.text }
