use Rattle.std.proofs.Common.{◌≡◌, List, ℕ, ◌++◌}
use Rattle.std.specs.Prelude.{IsUtf8}
use Rattle.std.specs.Fmt.{HasWritten, IsPlainFormatter}
use Rattle.std.specs.List.{flat_map}
use Rattle.std.specs.Str.{chars}
use Rattle.std.specs.Str.Iter.{chars_rest}
use Rattle.lossless_tree.specs.Dump.{escaped, shortest_front}
use Rattle.lossless_tree.proofs.quoted.write_front.Given as goal

-- what is written so far, and what the rest then adds, is the whole front
abbrev pub invariant-loop-c : goal.invariant-loop-c
invariant-loop-c g l = record {
  utf8 : IsUtf8 (chars_rest l.c-iterator);
  whole : IsPlainFormatter l.fn.f
      → (done : List ℕ) × HasWritten g.W.Write.write_str_gives l.fn.f done l.f
      × (done ++ flat_map escaped (shortest_front l.missing (chars (chars_rest l.c-iterator))) ≡ flat_map escaped (shortest_front l.fn.bytes (chars l.fn.text)));
}
