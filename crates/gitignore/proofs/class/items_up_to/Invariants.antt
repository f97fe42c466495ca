use Rattle.std.proofs.Common.{◌≡◌, ◌≤◌, length, true, None}
use Rattle.gitignore.specs.Classes.{ItemsAt, last_among}
use Rattle.gitignore.proofs.class.items_up_to.Given as goal

abbrev pub invariant-loop-last : goal.invariant-loop-last
invariant-loop-last l =
    ItemsAt true None l.text l.items.items l.rest × (l.last ≡ last_among None l.items.items) × (length l.rest ≤ length l.text)

abbrev pub decreases-loop-last : goal.decreases-loop-last
decreases-loop-last l = length l.rest
