-- How the events of a piece end: in a token, and the piece's own node.
use Rattle.std.specs.Prelude.{◌≡◌, ℕ, Bool, true, false, List, [], ◌∷◌, ◌++◌, reverse}
use Rattle.syntax_kind.specs.declared.syntax_kind.SyntaxKind.{SyntaxKind}
use Rattle.grammar_machine.specs.declared.event.Event.{Event}
use Rattle.grammar_machine.specs.declared.event.Event.TheVariants.{Token, Piece, Node, Error}

-- of events, last first, the first is a token
abbrev pub says_last : List Event → Bool
says_last [] = false
says_last (Token k signs ∷ es) = true
says_last (Piece p last ∷ es) = false
says_last (Node k from ∷ es) = false
says_last (Error m ∷ es) = false

-- the first is a node, and behind it comes a token
abbrev pub closes_last : List Event → Bool
closes_last [] = false
closes_last (Token k signs ∷ es) = false
closes_last (Piece p last ∷ es) = false
closes_last (Node k from ∷ es) = says_last es
closes_last (Error m ∷ es) = false

-- events that end in a token
pub record EndsInToken (es : List Event) : Type 0 where
  pub body : List Event
  pub kind : SyntaxKind
  pub signs : ℕ
  pub is : es ≡ body ++ Token kind signs ∷ []

-- a law of the definitions
abbrev pub EndsAreFound : Type 0
EndsAreFound =
    (k : SyntaxKind) (from : ℕ) (es : List Event)
    → closes_last (reverse (es ++ Node k from ∷ [])) ≡ true → EndsInToken es
