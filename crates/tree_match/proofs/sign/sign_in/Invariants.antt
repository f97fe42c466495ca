use Rattle.std.proofs.Common.{◌≡◌, ◌+◌, ◌≤◌, length}
use Rattle.tree_match.specs.Signs.{sign_in}
use Rattle.tree_match.proofs.sign.sign_in.Given as goal

abbrev pub invariant-loop-part : goal.invariant-loop-part
invariant-loop-part l =
    (sign_in l.depth l.rest ≡ sign_in 0 l.parts) × (l.depth + length l.rest ≤ length l.parts)

abbrev pub decreases-loop-part : goal.decreases-loop-part
decreases-loop-part l = length l.rest
