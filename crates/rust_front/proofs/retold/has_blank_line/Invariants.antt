use Rattle.std.proofs.Common.{◌≡◌, take}
use Rattle.std.specs.Prelude.{fold}
use Rattle.event_layout.specs.Trivia.{newlines_after}
use Rattle.rust_front.proofs.retold.has_blank_line.Given as goal

abbrev pub invariant-loop-byte : goal.invariant-loop-byte
invariant-loop-byte l = l.newlines ≡ fold newlines_after 0 (take l.byte-index l.text)
