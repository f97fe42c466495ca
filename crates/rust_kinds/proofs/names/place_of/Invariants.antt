use Rattle.std.specs.Prelude.{◌≡◌, ◌<◌, take, fold}
use Rattle.rust_kinds.specs.Names.{next_hash}
use Rattle.rust_kinds.proofs.names.place_of.Given as goal

abbrev pub invariant-loop-byte : goal.invariant-loop-byte
invariant-loop-byte l = (l.hash < 65536) × (l.hash ≡ fold next_hash 0 (take l.byte-index l.name))
