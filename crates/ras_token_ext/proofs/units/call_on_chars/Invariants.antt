use Rattle.std.proofs.Common.{◌≡◌, ◌+◌, length}
use Rattle.std.specs.List.{FoldsTo}
use Rattle.std.specs.Str.{IsUtf8, chars}
use Rattle.std.specs.Str.Iter.{chars_rest}
use Rattle.ras_token_ext.specs.Units.{char_calls}
use Rattle.ras_token_ext.proofs.units.call_on_chars.Given as goal

-- calls at the characters that are left end what the calls so far began
abbrev pub invariant-loop-c : goal.invariant-loop-c
invariant-loop-c g l = record {
  callable : goal.F-IsAlwaysCallable g l.callback;
  text : IsUtf8 (chars_rest l.left);
  end : l.at + length (chars_rest l.left) ≡ l.fn.offset + length l.fn.content;
  called : (last : _) → FoldsTo (λ f call h. goal.F-step g f call.0 call.1 tt h) l.callback (char_calls l.at (chars (chars_rest l.left))) last
      → FoldsTo (λ f call h. goal.F-step g f call.0 call.1 tt h) l.fn.callback (char_calls l.fn.offset (chars l.fn.content)) last;
}

abbrev pub decreases-loop-c : goal.decreases-loop-c
decreases-loop-c g l = length (chars_rest l.left)
