-- What events tell the layout to do, one order after the other. Orders have no numbers of events.
use Rattle.std.specs.Prelude.{◌≡◌, ℕ, suc, ◌-◌, ◌<◌, ◌^◌, nat_eq, if◌then◌else◌, Option, Some, None, List, [], ◌∷◌, ◌++◌, map, length}
use Rattle.syntax_kind.specs.declared.syntax_kind.SyntaxKind.{SyntaxKind}
use Rattle.ras_front_end.specs.Reading.{begins}
use Rattle.token_layout.specs.declared.span.Token.{Token as RawToken}
use Rattle.grammar_machine.specs.declared.event.Event.{Event}
use Rattle.grammar_machine.specs.declared.event.Event.TheVariants.{Token, Piece, Node, Error}
use Rattle.grammar_machine.specs.declared.event.Part.{Part}
use Rattle.event_layout.specs.Trivia.{lead, outside_of}
use Rattle.event_layout.specs.Layout.{Laying, pass_trivia_of, join_of, kind_of_part, piece_of, exit_of, begin_with, fault_of, finish_of, root_of, laid_of}
use Rattle.event_layout.specs.Made.{Span, node_of}

pub data Order : Type 0 where
  -- a node begins
  begin_node : SyntaxKind → Order
  -- the next token, and so many more, are one token
  take_joined : SyntaxKind → ℕ → Order
  -- the next token's digits before its dot are a token, or its dot is
  take_part : Part → Order
  -- the node that is open ends
  end_node : Order
  say : ℕ → Order
  nothing : Order

abbrev pub ordered : List ℕ → List SyntaxKind → Order → Laying → Laying
ordered text attaching (begin_node k) s =
    begin_with k (lead s.rest) (outside_of text attaching k s.position s.rest (lead s.rest)) s
ordered text attaching (take_joined k more) s = join_of k more (pass_trivia_of s)
ordered text attaching (take_part p) s = piece_of text p (pass_trivia_of s)
ordered text attaching end_node s = exit_of s
ordered text attaching (say m) s = fault_of m s
ordered text attaching nothing s = s

abbrev pub walked : List ℕ → List SyntaxKind → List Order → Laying → Laying
walked text attaching [] s = s
walked text attaching (o ∷ os) s = walked text attaching os (ordered text attaching o s)

-- an event: the node that it ends, if any, and what it orders
pub record Turn : Type 0 where
  pub node : Option Span
  pub order : Order

abbrev pub order_of : ℕ → ℕ → Event → Order
order_of root n (Node k from) = if nat_eq n root then nothing else end_node
order_of root n (Token k signs) = take_joined k (signs - 1)
order_of root n (Piece p last) = if last then take_joined (kind_of_part p) 0 else take_part p
order_of root n (Error m) = say m

abbrev pub turn : ℕ → ℕ → Event → Turn
turn root n e = record { node = node_of root n (Some e); order = order_of root n e }

-- the first of the events has the number n
abbrev pub turns : ℕ → ℕ → List Event → List Turn
turns root n [] = []
turns root n (e ∷ es) = turn root n e ∷ turns root (suc n) es

abbrev pub kind_if : ℕ → Option Span → List SyntaxKind
kind_if i None = []
kind_if i (Some s) = if nat_eq s.from i then s.kind ∷ [] else []

-- the nodes that begin with event i: the one that ends last begins first
abbrev pub kinds_at : ℕ → List Turn → List SyntaxKind
kinds_at i [] = []
kinds_at i (t ∷ ts) = kinds_at i ts ++ kind_if i t.node

-- what all events order from event i on
abbrev pub orders_from : List Turn → ℕ → List Turn → List Order
orders_from all i [] = []
orders_from all i (t ∷ ts) = map begin_node (kinds_at i all) ++ t.order ∷ orders_from all (suc i) ts

abbrev pub orders_of : List Event → List Order
orders_of es = orders_from (turns (root_of es) 0 es) 0 (turns (root_of es) 0 es)

-- the root has begun
abbrev pub begun_at : SyntaxKind → List RawToken → Laying
begun_at root ts = record {
  next = 0;
  entering = 0;
  rest = ts;
  cut = 0;
  position = 0;
  depth = 0;
  steps = begins root ∷ [];
  faults = [];
}

-- one node over all tokens, and in it what the orders make of them
abbrev pub ordered_of : SyntaxKind → List SyntaxKind → List ℕ → List RawToken → List Order → Laying
ordered_of root attaching text ts os = finish_of (walked text attaching os (begun_at root ts))

-- the same steps and errors
pub record LaidAlike (s t : Laying) : Type 0 where
  pub steps : s.steps ≡ t.steps
  pub faults : s.faults ≡ t.faults

-- what is laid of events is what their orders make
abbrev pub LayoutsObeyOrders : Type 0
LayoutsObeyOrders =
    (root : SyntaxKind) (attaching : List SyntaxKind)
    (text : List ℕ) (ts : List RawToken) (es : List Event)
    → length es < 2 ^ 32
    → LaidAlike (laid_of root attaching text ts es)
    (ordered_of root attaching text ts (orders_of es))
