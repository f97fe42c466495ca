use Rattle.std.proofs.Common.{◌≡◌, ◌++◌, length}
use Rattle.std.specs.Prelude.{string_bytes}
use Rattle.std.specs.Str.{IsUtf8}
use Rattle.std.specs.Str.Iter.{chars_rest}
use Rattle.ras_token_ext.specs.Numbers.{value_text}
use Rattle.ras_token_ext.proofs.numbers.without_underscores.Given as goal

abbrev pub invariant-loop-c : goal.invariant-loop-c
invariant-loop-c l = record {
  same : string_bytes l.value ++ value_text (chars_rest l.rest) ≡ value_text l.fn.text;
  text : IsUtf8 (chars_rest l.rest);
}

abbrev pub decreases-loop-c : goal.decreases-loop-c
decreases-loop-c l = length (chars_rest l.rest)
