use Rattle.std.proofs.Common.{◌≡◌, ◌++◌, take, map}
use Rattle.std.specs.Prelude.{flat_map}
use Rattle.ras_parsing.specs.Reparse.{moved}
use Rattle.ras_parsing.specs.Document.{earlier_fault, later_fault}
use Rattle.ras_parsing.proofs.ordered.push_in_order.Given as goal

abbrev pub invariant-loop-error : goal.invariant-loop-error
invariant-loop-error l = l.all.items ≡ l.initial.all.items ++ flat_map (earlier_fault l.replaced) (take l.error-index l.old)

abbrev pub invariant-loop-error-2 : goal.invariant-loop-error-2
invariant-loop-error-2 l = l.all.items ≡ l.initial.all.items ++ map (moved l.replaced.start) (take l.error-index l.new)

abbrev pub invariant-loop-error-3 : goal.invariant-loop-error-3
invariant-loop-error-3 l = l.all.items ≡ l.initial.all.items ++ flat_map (later_fault l.replaced (record { delete = l.delete; insert = l.insert })) (take l.error-index l.old)
