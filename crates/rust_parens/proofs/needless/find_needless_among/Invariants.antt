use Rattle.std.proofs.Common.{◌≡◌, ◌≤◌, ◌-◌, length, option_map}
use Rattle.std.specs.Prelude.{string_bytes}
use Rattle.rust_parens.specs.Needless.{AreTriedAmong}
use Rattle.rust_parens.proofs.needless.find_needless_among.Given as goal

abbrev pub invariant-loop-trial : goal.invariant-loop-trial
invariant-loop-trial g l =
    AreTriedAmong (g.F.FrontEnd.answers l.fn.front) l.fn.entry l.fn.edition l.fn.old l.fn.candidates.items l.found.items l.tried.items (option_map string_bytes l.text)
    × (l.candidates.items ≡ l.fn.candidates.items)
    × (length l.tried.items ≤ length l.candidates.items)

abbrev pub decreases-loop-trial : goal.decreases-loop-trial
decreases-loop-trial g l = length l.candidates.items - length l.tried.items
