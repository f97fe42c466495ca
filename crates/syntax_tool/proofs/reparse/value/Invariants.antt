use Rattle.std.proofs.Common.{◌≡◌, ◌≤◌, ◌-◌, ◌^◌, drop}
use Rattle.syntax_tool.specs.Requests.{value_from}
use Rattle.syntax_tool.proofs.reparse.value.Given as goal

abbrev pub invariant-loop-digit : goal.invariant-loop-digit
invariant-loop-digit l = (l.value ≤ 2 ^ 64 - 1) × (value_from l.value (drop l.digit-index l.digits) ≡ value_from 0 l.digits)
