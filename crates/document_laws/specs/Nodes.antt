-- Which event a node of a laid tree is of.
use Rattle.std.specs.Prelude.{◌≡◌, ℕ, ◌+◌, ◌<◌, ◌^◌, min, false, nat_eq, Some, List, [], ◌∷◌, ◌++◌, length, take, slice_get}
use Rattle.syntax_kind.specs.declared.syntax_kind.SyntaxKind.{SyntaxKind}
use Rattle.syntax_kind.specs.Kinds.{is_trivia}
use Rattle.tree_model.specs.Tree.{Tree, node, token, Forest, cons, Place, IsPlace, subtree, start}
use Rattle.tree_model.specs.Events.{BuildsNode}
use Rattle.ras_front_end.specs.Reading.{FrontStep, begins, events_from}
use Rattle.token_layout.specs.declared.span.Token.{Token as RawToken}
use Rattle.token_layout.specs.Laid.{IsCut}
use Rattle.grammar_machine.specs.declared.event.Event.{Event}
use Rattle.grammar_machine.specs.declared.event.Event.TheVariants.{Token, Node}
use Rattle.event_layout.specs.Amid.{sum_len}
use Rattle.event_layout.specs.Layout.{laid_of, root_of}
use Rattle.event_layout.specs.Made.{without_trivia, only_tokens, Left, trivia_of, past, made_by}
use Rattle.event_layout.specs.Filled.{bytes_taken}

-- the tokens of steps that are neither white space nor comments
abbrev pub seen_of : List FrontStep → List FrontStep
seen_of steps = only_tokens (without_trivia steps)

-- what the events from number n on make, one after the other, of the lexer's tokens that are left
abbrev pub made_steps : ℕ → ℕ → List Event → Left → List FrontStep
made_steps root n [] l = []
made_steps root n (e ∷ es) l = (made_by root n e l).steps ++ made_steps root (n + 1) es (made_by root n e l).left

-- the node at a place of what is laid of events is that of an event, and before it are the tokens
-- of the events before its first one
pub record IsOfEvent
    (root : SyntaxKind) (attaching : List SyntaxKind) (text : List ℕ) (ts : List RawToken) (es : List Event)
    (t : Tree) (p : Place) (k : SyntaxKind) : Type 0 where
  pub number : ℕ
  pub from : ℕ
  pub event : slice_get es number ≡ Some (Node k from)
  pub inner : nat_eq number (root_of es) ≡ false
  pub before : List FrontStep
  pub behind : List FrontStep
  pub steps : (laid_of root attaching text ts es).steps ≡ before ++ begins k ∷ behind
  pub starts : start t p ≡ bytes_taken before
  pub seen : seen_of before ≡ seen_of (made_steps (root_of es) 0 (take (min from number) es) (record { tokens = ts; text = text }))

abbrev pub NodesAreOfEvents : Type 0
NodesAreOfEvents =
    (root : SyntaxKind) (attaching : List SyntaxKind) (text : List ℕ) (ts : List RawToken) (es : List Event)
    (t : Tree) (i : ℕ) (p : Place) (k : SyntaxKind) (f : Forest)
    → length text < 2 ^ 32 → IsCut ts text → length es < 2 ^ 32
    → BuildsNode (events_from (laid_of root attaching text ts es).steps text) t
    → IsPlace t (i ∷ p) → subtree t (i ∷ p) ≡ node k f
    → IsOfEvent root attaching text ts es t (i ∷ p) k

-- what they leave
abbrev pub made_left : ℕ → ℕ → List Event → Left → Left
made_left root n [] l = l
made_left root n (e ∷ es) l = made_left root (n + 1) es (made_by root n e l).left

-- no event makes a token of the kinds of white space and comments
abbrev pub MakesPlainTokens : List Event → Type 0
MakesPlainTokens es = (i : ℕ) (k : SyntaxKind) (signs : ℕ) → slice_get es i ≡ Some (Token k signs) → is_trivia k ≡ false

-- a node whose first child is a token starts behind the tokens of the events before its first one,
-- and what is white space or comment behind these
pub record StartsBehind
    (root : SyntaxKind) (attaching : List SyntaxKind) (text : List ℕ) (ts : List RawToken) (es : List Event)
    (t : Tree) (p : Place) (k : SyntaxKind) : Type 0 where
  pub is_of : IsOfEvent root attaching text ts es t p k
  pub start_is :
      start t p
      ≡ bytes_taken (made_steps (root_of es) 0 (take (min is_of.from is_of.number) es) (record { tokens = ts; text = text }))
      + bytes_taken (trivia_of (made_left (root_of es) 0 (take (min is_of.from is_of.number) es) (record { tokens = ts; text = text })).tokens)
  -- what is left of the tokens behind these is the rest of the text
  pub rest :
      start t p + sum_len (past (made_left (root_of es) 0 (take (min is_of.from is_of.number) es) (record { tokens = ts; text = text }))).tokens
      ≡ length text

abbrev pub NodesStartBehindTokens : Type 0
NodesStartBehindTokens =
    (root : SyntaxKind) (attaching : List SyntaxKind) (text : List ℕ) (ts : List RawToken) (es : List Event)
    (t : Tree) (i : ℕ) (p : Place) (k l : SyntaxKind) (w : List ℕ) (f : Forest)
    → length text < 2 ^ 32 → IsCut ts text → length es < 2 ^ 32 → MakesPlainTokens es
    → BuildsNode (events_from (laid_of root attaching text ts es).steps text) t
    → IsPlace t (i ∷ p) → subtree t (i ∷ p) ≡ node k (cons (token l w) f) → is_trivia l ≡ false
    → StartsBehind root attaching text ts es t (i ∷ p) k
