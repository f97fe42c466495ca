-- The nodes and tokens that the events of a parser make of a text, in order. White space and
-- comments stand directly before the next token here. In the layout, nodes may begin between them
-- and that token.
use Rattle.std.specs.Prelude.{ℕ, zero, suc, ◌+◌, ◌-◌, min, nat_eq, Bool, true, false, not, if◌then◌else◌, Option, Some, None, List, [], ◌∷◌, ◌++◌, length, take, drop, map, filter, sum_by, slice_get}
use Rattle.syntax_kind.specs.declared.syntax_kind.SyntaxKind.{SyntaxKind}
use Rattle.syntax_kind.specs.Kinds.{is_trivia}
use Rattle.ras_front_end.specs.Reading.{FrontStep, begins, takes, ends, reports}
use Rattle.token_layout.specs.declared.span.Token.{Token as RawToken}
use Rattle.grammar_machine.specs.declared.event.Event.{Event}
use Rattle.grammar_machine.specs.declared.event.Event.TheVariants.{Token, Piece, Node, Error}
use Rattle.grammar_machine.specs.declared.event.Part.{Part}
use Rattle.grammar_machine.specs.declared.event.Part.TheVariants.{Whole, Dot, Fraction}
use Rattle.event_layout.specs.Layout.{kind_of_part, root_of, dot_of}

-- whether the step is no token of white space or a comment
abbrev pub is_seen : FrontStep → Bool
is_seen (begins k) = true
is_seen (takes k n) = not (is_trivia k)
is_seen ends = true
is_seen (reports m p) = true

-- the steps without the tokens that are white space or comments
unfoldable pub without_trivia : List FrontStep → List FrontStep
without_trivia steps = filter is_seen steps

abbrev pub is_token : FrontStep → Bool
is_token (begins k) = false
is_token (takes k n) = true
is_token ends = false
is_token (reports m p) = false

-- the tokens of the steps
unfoldable pub only_tokens : List FrontStep → List FrontStep
only_tokens steps = filter is_token steps

-- a node other than the root: its kind, and the number of the event that it begins with
pub record Span : Type 0 where
  pub kind : SyntaxKind
  pub from : ℕ

-- the node that event n ends, if any; one with no event in it begins with event n
abbrev pub node_of : ℕ → ℕ → Option Event → Option Span
node_of root n None = None
node_of root n (Some (Node k from)) = if nat_eq n root then None else Some (record { kind = k; from = min from n })
node_of root n (Some (Token k signs)) = None
node_of root n (Some (Piece p last)) = None
node_of root n (Some (Error m)) = None

abbrev pub begin_at : ℕ → Option Span → List FrontStep
begin_at i None = []
begin_at i (Some s) = if nat_eq s.from i then begins s.kind ∷ [] else []

-- of the nodes that the first n events end, those that begin with event i: the one that ends last
-- begins first
unfoldable pub begins_at : ℕ → List Event → ℕ → ℕ → List FrontStep
begins_at root es i zero = []
begins_at root es i (suc n) = begin_at i (node_of root n (slice_get es n)) ++ begins_at root es i n

-- the tokens of the lexer that are left, and their text
pub record Left : Type 0 where
  pub tokens : List RawToken
  pub text : List ℕ

-- what an event makes, and what it leaves
pub record Made : Type 0 where
  pub steps : List FrontStep
  pub left : Left

-- the white space and comments that come next, as they are
abbrev pub trivia_of : List RawToken → List FrontStep
trivia_of [] = []
trivia_of (t ∷ ts) = if is_trivia t.kind then takes t.kind t.len ∷ trivia_of ts else []

-- what is left without the white space and comments that come next
abbrev pub past_trivia : List RawToken → List ℕ → Left
past_trivia [] text = record { tokens = []; text = text }
past_trivia (t ∷ ts) text = if is_trivia t.kind then past_trivia ts (drop t.len text) else record { tokens = t ∷ ts; text = text }

abbrev pub past : Left → Left
past l = past_trivia l.tokens l.text

abbrev pub nothing : Left → Made
nothing l = record { steps = []; left = l }

-- a token of the kind k and of n bytes; the tokens ts are left
abbrev pub token_of : SyntaxKind → ℕ → List RawToken → List ℕ → Made
token_of k n ts text = record { steps = takes k n ∷ []; left = record { tokens = ts; text = drop n text } }

abbrev pub joined_on : SyntaxKind → ℕ → List RawToken → List ℕ → Made
joined_on k more [] text = nothing (record { tokens = []; text = text })
joined_on k more (t ∷ ts) text = token_of k (t.len + sum_by (λ u. u.len) (take more ts)) (drop more ts) text

-- the next token and `more` after it are one token of the kind k; without a next token, nothing is
-- made
abbrev pub joined : SyntaxKind → ℕ → Left → Made
joined k more l = joined_on k more l.tokens l.text

-- the length of a part of a number with `dot` bytes before its dot
abbrev pub part_len : Part → ℕ → ℕ
part_len Whole dot = dot
part_len Dot dot = dot + 1
part_len Fraction dot = 0

-- a token without its first n bytes
abbrev pub shorter : ℕ → RawToken → RawToken
shorter n t = record t { len = t.len - n }

abbrev pub parted_at : Part → Option ℕ → RawToken → List RawToken → List ℕ → Made
parted_at p None t ts text = nothing (record { tokens = t ∷ ts; text = text })
parted_at p (Some dot) t ts text = token_of (kind_of_part p) (part_len p dot) (shorter (part_len p dot) t ∷ ts) text

abbrev pub parted_on : Part → List RawToken → List ℕ → Made
parted_on p [] text = nothing (record { tokens = []; text = text })
parted_on p (t ∷ ts) text = parted_at p (dot_of t.kind (take t.len text)) t ts text

-- a part of the next token, which is a number, is a token, and the rest of the number is left;
-- without a dot, nothing is made
abbrev pub parted : Part → Left → Made
parted p l = parted_on p l.tokens l.text

abbrev pub after : List FrontStep → Made → Made
after trivia m = record m { steps = trivia ++ m.steps }

-- what event n makes of what is left
abbrev pub made_by : ℕ → ℕ → Event → Left → Made
made_by root n (Token k signs) l = after (trivia_of l.tokens) (joined k (signs - 1) (past l))
made_by root n (Piece p last) l = after (trivia_of l.tokens) (if last then joined (kind_of_part p) 0 (past l) else parted p (past l))
made_by root n (Node k from) l = record { steps = if nat_eq n root then [] else ends ∷ []; left = l }
made_by root n (Error m) l = nothing l

abbrev pub tokens_as_they_are : List RawToken → List FrontStep
tokens_as_they_are ts = map (λ t. takes t.kind t.len) ts

-- what is made from event n on, of the events es: before each event, the nodes begin that begin
-- with it; at the end, the tokens that are left
unfoldable pub made_from : ℕ → List Event → ℕ → List Event → Left → List FrontStep
made_from root all n [] l = tokens_as_they_are l.tokens
made_from root all n (e ∷ es) l = begins_at root all n (length all) ++ ((made_by root n e l).steps ++ made_from root all (n + 1) es (made_by root n e l).left)

-- the node that ends last is the root, of the kind `root`, over everything
unfoldable pub made_of : SyntaxKind → List RawToken → List ℕ → List Event → List FrontStep
made_of root ts text es = begins root ∷ (made_from (root_of es) es 0 es (record { tokens = ts; text = text }) ++ ends ∷ [])
