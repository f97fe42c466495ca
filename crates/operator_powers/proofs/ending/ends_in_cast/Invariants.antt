use Rattle.std.proofs.Common.{◌≡◌, find}
use Rattle.tree_model.specs.Cursor.{at_token, descendants_of}
use Rattle.operator_powers.proofs.LastTokens.{Unread, to_read}
use Rattle.operator_powers.proofs.ending.ends_in_cast.Given as goal

abbrev pub invariant-loop-next : goal.invariant-loop-next
invariant-loop-next l = record { first : l.first ≡ find at_token (descendants_of l.node); unread : Unread l.node l.next l.named }

abbrev pub decreases-loop-next : goal.decreases-loop-next
decreases-loop-next l = to_read l.next
