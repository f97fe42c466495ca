use Rattle.std.proofs.Common.{◌≡◌, ◌<◌, length, drop}
use Rattle.std.specs.Prelude.{None, IfSome}
use Rattle.ras_token_ext.specs.Texts.{last_place}
use Rattle.ras_token_ext.proofs.places.last_place.Given as goal

abbrev pub invariant-loop-i : goal.invariant-loop-i
invariant-loop-i l = record {
  same : last_place l.byte l.i l.found (drop l.i l.fn.text) ≡ last_place l.byte 0 None l.fn.text;
  within : IfSome l.found (λ place. place < length l.fn.text);
}
