use Rattle.std.proofs.Common.{◌≡◌, ◌++◌, take, map}
use Rattle.std.specs.Vec.Iter.{into_iter_items}
use Rattle.ras_parsing.specs.Reparse.{kept_faults, moved, merged}
use Rattle.ras_parsing.proofs.merge.merge.Given as goal

abbrev pub invariant-loop-error : goal.invariant-loop-error
invariant-loop-error l = l.errors.items ≡ kept_faults l.replaced (record { delete = l.delete; insert = l.insert }) (take l.error-index l.old)

abbrev pub invariant-loop-error-2 : goal.invariant-loop-error-2
invariant-loop-error-2 l =
    l.errors.items ++ map (moved l.fn.replaced.start) (into_iter_items l.error-iterator) ≡ merged l.fn.old l.fn.new.items l.fn.replaced (record { delete = l.fn.delete; insert = l.fn.insert })
