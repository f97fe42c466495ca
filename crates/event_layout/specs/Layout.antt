-- The walk over the events.
use Rattle.std.specs.Prelude.{ℕ, zero, suc, ◌≡◌, ◌≤◌, ◌<◌, ◌+◌, ◌-◌, ◌*◌, ◌^◌, min, nat_lt, nat_eq, if◌then◌else◌, Bool, true, false, Option, Some, None, List, [], ◌∷◌, ◌++◌, length, slice_get, position, fold, take, drop}
use Rattle.syntax_kind.specs.declared.syntax_kind.SyntaxKind.{SyntaxKind}
use Rattle.syntax_kind.specs.declared.syntax_kind.SyntaxKind.TheVariants as family
use Rattle.syntax_kind.specs.declared.syntax_kind.token_kind.TokenKind.TheVariants as kind
use Rattle.ras_front_end.specs.Reading.{FrontStep, begins, takes, ends}
use Rattle.token_layout.specs.declared.span.Token.{Token as RawToken}
use Rattle.grammar_machine.specs.declared.event.Event.{Event}
use Rattle.grammar_machine.specs.declared.event.Event.TheVariants.{Token, Piece, Node, Error}
use Rattle.grammar_machine.specs.declared.event.Part.{Part}
use Rattle.grammar_machine.specs.declared.event.Part.TheVariants.{Whole, Dot, Fraction}
use Rattle.event_layout.specs.declared.layout.ParserError.{ParserError}
use Rattle.event_layout.specs.declared.layout.Layout.{Layout}
use Rattle.event_layout.specs.declared.layout.Plan.{Plan}
use Rattle.event_layout.specs.Starts.{Links, links_of, number_at, starts_of}
use Rattle.event_layout.specs.Trivia.{lead, later_of, part_of, outside_of}

-- what stays the same: the text, the events, the kinds of nodes that comments go into, the event of
-- the root's node, and where nodes begin
pub record Given : Type 0 where
  pub bytes : List ℕ
  pub events : List Event
  pub attaching : List SyntaxKind
  pub root : ℕ
  pub links : Links

pub record Laying : Type 0 where
  -- the number of the next event, and the node that is entered before it
  pub next : ℕ
  pub entering : ℕ
  -- the tokens that are left, and how many bytes of the first of them are in the tree
  pub rest : List RawToken
  pub cut : ℕ
  -- how many bytes are in the tree
  pub position : ℕ
  -- how many nodes are open in the root
  pub depth : ℕ
  pub steps : List FrontStep
  pub faults : List ParserError

abbrev pub given_of : Plan → Given
given_of p = record { bytes = p.bytes.now; events = p.events.now; attaching = p.attaching.now; root = p.root; links = links_of p.starts }

-- the state of a layout that gave these steps to its sink
abbrev pub laying_of : {S : Type 0} → Layout S → List FrontStep → Laying
laying_of l steps = record { next = l.next; entering = l.entering; rest = l.rest.now; cut = l.cut; position = l.position; depth = l.depth; steps = steps; faults = l.faults.items }

abbrev pub added : FrontStep → Laying → Laying
added x s = record s { steps = s.steps ++ x ∷ [] }

abbrev pub leaf_of : SyntaxKind → ℕ → Laying → Laying
leaf_of k n s = record s { steps = s.steps ++ takes k n ∷ []; position = later_of s.position n }

abbrev pub pass_on : List RawToken → Laying → Laying
pass_on [] s = s
pass_on (t ∷ ts) s = leaf_of t.kind (t.len - s.cut) (record s { rest = ts; cut = 0 })

-- one token of the lexer's, or what is left of it
abbrev pub pass_of : Laying → Laying
pass_of s = pass_on s.rest s

unfoldable pub pass_all_of : ℕ → Laying → Laying
pass_all_of zero s = s
pass_all_of (suc n) s = pass_of (pass_all_of n s)

abbrev pub pass_trivia_of : Laying → Laying
pass_trivia_of s = pass_all_of (lead s.rest) s

-- the length of a token whose first part has `first` bytes and whose other parts are these tokens
unfoldable pub joined_len : ℕ → List RawToken → ℕ
joined_len first ts = fold (λ n t. later_of n t.len) first ts

abbrev pub join_on : SyntaxKind → ℕ → List RawToken → Laying → Laying
join_on k more [] s = s
join_on k more (t ∷ ts) s = leaf_of k (joined_len (t.len - s.cut) (take more ts)) (record s { rest = drop more ts; cut = 0 })

-- a token that is made of the first and `more` further ones
abbrev pub join_of : SyntaxKind → ℕ → Laying → Laying
join_of k more s = join_on k more s.rest s

abbrev pub kind_of_part : Part → SyntaxKind
kind_of_part Whole = family.Token kind.INT_NUMBER
kind_of_part Dot = family.Token kind.DOT
kind_of_part Fraction = family.Token kind.INT_NUMBER

-- the length of a part of a number with `dot` bytes before its dot
abbrev pub len_of_part : Part → ℕ → ℕ
len_of_part Whole dot = min dot (2 ^ 32 - 1)
len_of_part Dot dot = later_of (min dot (2 ^ 32 - 1)) 1
len_of_part Fraction dot = 0

abbrev pub cut_at : Part → Option ℕ → Laying → Laying
cut_at p None s = s
cut_at p (Some dot) s = leaf_of (kind_of_part p) (len_of_part p dot) (record s { cut = later_of s.cut (len_of_part p dot) })

-- where the dot of a number is; no other token is cut
abbrev pub is_number : SyntaxKind → Bool
is_number (family.Token kind.FLOAT_NUMBER) = true
is_number _ = false

abbrev pub dot_of : SyntaxKind → List ℕ → Option ℕ
dot_of k text = if is_number k then position (λ b. nat_eq b 46) text else None

abbrev pub piece_on : List ℕ → Part → List RawToken → Laying → Laying
piece_on bytes p [] s = s
piece_on bytes p (t ∷ ts) s = cut_at p (dot_of t.kind (part_of bytes s.position (t.len - s.cut))) s

-- the digits before the dot, or the dot
abbrev pub piece_of : List ℕ → Part → Laying → Laying
piece_of bytes p s = piece_on bytes p s.rest s

abbrev pub enter_of : SyntaxKind → Laying → Laying
enter_of k s = if nat_lt s.depth (2 ^ 64 - 1) then record s { depth = s.depth + 1; steps = s.steps ++ begins k ∷ [] } else s

abbrev pub exit_of : Laying → Laying
exit_of s = if nat_lt 0 s.depth then record s { depth = s.depth - 1; steps = s.steps ++ ends ∷ [] } else s

unfoldable pub exit_all_of : ℕ → Laying → Laying
exit_all_of zero s = s
exit_all_of (suc n) s = exit_of (exit_all_of n s)

-- a node: of the trivia before the next token some stay outside, the others are the first in it
abbrev pub begin_on : SyntaxKind → ℕ → ℕ → Laying → Laying
begin_on k outside inside s = pass_all_of inside (enter_of k (pass_all_of outside s))

abbrev pub begin_with : SyntaxKind → ℕ → ℕ → Laying → Laying
begin_with k count outside s = begin_on k outside (count - outside) s

abbrev pub begin_of : Given → SyntaxKind → Laying → Laying
begin_of g k s = begin_with k (lead s.rest) (outside_of g.bytes g.attaching k s.position s.rest (lead s.rest)) s

abbrev pub begin_at_of : Given → Option Event → Laying → Laying
begin_at_of g None s = s
begin_at_of g (Some (Node k from)) s = begin_of g k s
begin_at_of g (Some (Token k signs)) s = s
begin_at_of g (Some (Piece p last)) s = s
begin_at_of g (Some (Error m)) s = s

abbrev pub fault_of : ℕ → Laying → Laying
fault_of m s = record s { faults = s.faults ++ (record { message = m; position = s.position; left = length s.rest }) ∷ [] }

abbrev pub obey_of : Given → Event → ℕ → Laying → Laying
obey_of g (Token k signs) number s = join_of k (signs - 1) (pass_trivia_of s)
obey_of g (Piece p last) number s = if last then join_of (kind_of_part p) 0 (pass_trivia_of s) else piece_of g.bytes p (pass_trivia_of s)
obey_of g (Node k from) number s = if nat_eq number g.root then s else exit_of s
obey_of g (Error m) number s = fault_of m s

abbrev pub obey_at_of : Given → Option Event → ℕ → Laying → Laying
obey_at_of g None number s = s
obey_at_of g (Some e) number s = obey_of g e number s

abbrev pub plus_of : ℕ → ℕ
plus_of n = min (n + 1) (2 ^ 64 - 1)

-- the node that is entered next, and then the one before it that begins with the same event
abbrev pub entering_of : Given → ℕ → Laying → Laying
entering_of g number s = begin_at_of g (slice_get g.events number) (record s { entering = number_at g.links.before number })

-- the next event
abbrev pub going_of : Given → ℕ → Laying → Laying
going_of g number s = obey_at_of g (slice_get g.events number) number (record s { next = plus_of number; entering = number_at g.links.last (plus_of number) })

unfoldable pub advance_of : Given → Laying → Laying
advance_of g s = if nat_lt 0 s.entering then entering_of g (s.entering - 1) s else going_of g s.next s

-- behind the last event, with no node left to enter: further moves change nothing but the number of
-- the next event
pub record IsOver (g : Given) (s : Laying) : Type 0 where
  pub no_node : s.entering ≡ 0
  pub no_event : length g.events ≤ s.next
  pub no_start : length g.links.last ≤ s.next
  pub fits : s.next < 2 ^ 64

-- the same, whatever event is the next
abbrev pub anywhere : Laying → Laying
anywhere s = record s { next = 0; entering = 0 }

-- n moves
unfoldable pub moves : ℕ → Given → Laying → Laying
moves zero g s = s
moves (suc n) g s = advance_of g (moves n g s)

abbrev pub closed_of : Laying → Laying
closed_of s = exit_all_of s.depth s

-- what is left after the last event
abbrev pub finish_of : Laying → Laying
finish_of s = added ends (closed_of (pass_all_of (length s.rest) s))

abbrev pub root_on : ℕ → Option ℕ → ℕ
root_on n None = n
root_on n (Some i) = i

abbrev pub is_node_of : Event → Bool
is_node_of (Node k from) = true
is_node_of (Token k signs) = false
is_node_of (Piece p last) = false
is_node_of (Error m) = false

abbrev pub is_node_at : Option Event → Bool
is_node_at None = false
is_node_at (Some e) = is_node_of e

-- the number of the last node's event among the first n; the number of events if there is none
unfoldable pub root_from : List Event → ℕ → ℕ
root_from es zero = length es
root_from es (suc n) = if is_node_at (slice_get es n) then n else root_from es n

abbrev pub root_of : List Event → ℕ
root_of es = root_from es (length es)

abbrev pub kind_on : Option Event → Option SyntaxKind
kind_on None = None
kind_on (Some (Node k from)) = Some k
kind_on (Some (Token k signs)) = None
kind_on (Some (Piece p last)) = None
kind_on (Some (Error m)) = None

-- the kind of the node that ends last
abbrev pub outermost_of : List Event → Option SyntaxKind
outermost_of es = kind_on (slice_get es (root_of es))

abbrev pub start_of : SyntaxKind → Given → List RawToken → Laying
start_of root g ts = record { next = 0; entering = number_at g.links.last 0; rest = ts; cut = 0; position = 0; depth = 0; steps = begins root ∷ []; faults = [] }

abbrev pub given : List SyntaxKind → List ℕ → List Event → Given
given attaching bytes es = record { bytes = bytes; events = es; attaching = attaching; root = root_of es; links = starts_of (root_of es) es }

abbrev pub moves_of : ℕ → ℕ
moves_of n = min (n * 2) (2 ^ 64 - 1)

-- one node over all tokens, and in it what the events make of them
abbrev pub laid_with : SyntaxKind → Given → List RawToken → Laying
laid_with root g ts = finish_of (moves (moves_of (length g.events)) g (start_of root g ts))

abbrev pub laid_of : SyntaxKind → List SyntaxKind → List ℕ → List RawToken → List Event → Laying
laid_of root attaching bytes ts es = laid_with root (given attaching bytes es) ts
