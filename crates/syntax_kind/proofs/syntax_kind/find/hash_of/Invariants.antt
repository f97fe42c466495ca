use Rattle.std.specs.Prelude.{◌≡◌, ◌<◌, take}
use Rattle.syntax_kind.specs.KindText.{hash_of}
use Rattle.syntax_kind.proofs.syntax_kind.find.hash_of.Given as goal

abbrev pub invariant-loop-byte : goal.invariant-loop-byte
invariant-loop-byte l = (l.hash < 65536) × (l.hash ≡ hash_of (take l.byte-index l.name))
