use Rattle.std.proofs.Common.{◌≡◌}
use Rattle.std.specs.Str.{IsUtf8}
use Rattle.std.specs.Str.Iter.{chars_rest}
use Rattle.literal_escape.specs.Reading.{to_come}
use Rattle.literal_escape.proofs.units.Units.next.Given as goal

abbrev pub invariant-loop-c : goal.invariant-loop-c
invariant-loop-c l = record {
  can_next : (goal.iterator-loop-c).can_next l.rest;
  is_finite : (goal.iterator-loop-c).is_finite l.rest;
  same : to_come l.self ≡ to_come l.fn.self;
  rest : chars_rest l.rest ≡ l.self.rest.now;
  text : IsUtf8 l.self.rest.now;
}
