use Rattle.std.proofs.Common.{◌≡◌, ◌-◌, take, fold, length, replicate, []}
use Rattle.event_layout.specs.Starts.{links_of, linked, with_room}
use Rattle.event_layout.proofs.starts.find_starts.Given as goal

abbrev pub invariant-loop-number : goal.invariant-loop-number
invariant-loop-number l = links_of l.starts
    ≡ with_room (length l.events - l.number) (fold (λ s e. linked l.fn.root e s) (record { last = replicate (length l.events) 0; before = [] }) (take l.number l.events))
