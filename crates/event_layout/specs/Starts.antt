-- Which nodes begin with an event.
use Rattle.std.specs.Prelude.{ℕ, ◌+◌, ◌-◌, ◌^◌, min, nat_lt, nat_eq, if◌then◌else◌, Option, Some, None, List, [], ◌∷◌, ◌++◌, length, fold, slice_get, slice_set, replicate}
use Rattle.grammar_machine.specs.declared.event.Event.{Event}
use Rattle.grammar_machine.specs.declared.event.Event.TheVariants.{Token, Piece, Node, Error}
use Rattle.event_layout.specs.declared.starts.Starts.{Starts}

-- the number of a node is that of its event plus 1; 0 stands for no node
pub record Links : Type 0 where
  -- for each event, the last node so far that begins with it
  pub last : List ℕ
  -- for each event of a node, the node before it that begins with the same event
  pub before : List ℕ

abbrev pub links_of : Starts → Links
links_of s = record { last = s.last.items; before = s.before.items }

abbrev pub number_on : Option ℕ → ℕ
number_on None = 0
number_on (Some n) = n

abbrev pub number_at : List ℕ → ℕ → ℕ
number_at ns i = number_on (slice_get ns i)

abbrev pub number_of : ℕ → ℕ
number_of event = if nat_lt event (2 ^ 32 - 1) then event + 1 else 0

-- the next event is not that of a node
abbrev pub passed_by : Links → Links
passed_by l = record l { before = l.before ++ 0 ∷ [] }

-- the next event is that of a node that begins with the event `from`
abbrev pub begun_at : ℕ → Links → Links
begun_at from l = record { last = slice_set l.last from (number_of (length l.before)); before = l.before ++ number_at l.last from ∷ [] }

-- a node begins with its own event at the latest
abbrev pub begun : ℕ → Links → Links
begun from l = begun_at (min from (length l.before)) l

abbrev pub linked : ℕ → Event → Links → Links
linked root (Node kind from) l = if nat_eq (length l.before) root then passed_by l else begun from l
linked root (Token kind signs) l = passed_by l
linked root (Piece part last) l = passed_by l
linked root (Error message) l = passed_by l

-- all nodes but that of the event `root`
unfoldable pub starts_of : ℕ → List Event → Links
starts_of root events = fold (λ l e. linked root e l) (record { last = replicate (length events) 0; before = [] }) events

-- in lists that are full from the start: the node of an event begins with the event `at`
abbrev pub set_at : ℕ → ℕ → Links → Links
set_at at event l = record { last = slice_set l.last at (number_of event); before = slice_set l.before event (number_at l.last at) }

-- the same: with the event `from`, or with its own if that is earlier
abbrev pub begun_from : ℕ → ℕ → Links → Links
begun_from from event l = set_at (min from event) event l

-- the event of this number, in such lists
abbrev pub noted : ℕ → ℕ → Event → Links → Links
noted root number (Node kind from) l = if nat_eq number root then l else begun_from from number l
noted root number (Token kind signs) l = l
noted root number (Piece part last) l = l
noted root number (Error message) l = l

-- links with room for n more events
abbrev pub with_room : ℕ → Links → Links
with_room n l = record l { before = l.before ++ replicate n 0 }
