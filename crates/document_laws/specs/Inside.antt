-- Where the errors are that the parser finds in an exact piece of Rust.
use Rattle.std.specs.Prelude.{◌≡◌, ℕ, ◌-◌, ◌≤◌, ◌<◌, ◌^◌, Some, List, [], ◌∷◌, ◌++◌, length, All}
use Rattle.syntax_kind.specs.declared.syntax_kind.SyntaxKind.{SyntaxKind}
use Rattle.ras_front_end.specs.declared.edition.Edition.{Edition}
use Rattle.ras_front_end.specs.declared.edition.Reparser.{Reparser}
use Rattle.ras_front_end.specs.Reading.{Reading}
use Rattle.token_layout.specs.declared.span.Token.{Token}
use Rattle.grammar_machine.specs.declared.event.Event.TheVariants as event
use Rattle.event_layout.specs.declared.layout.ParserError.{ParserError}
use Rattle.event_layout.specs.Layout.{laid_of}
use Rattle.rust_lexer.specs.Lexing.{tokens_of}
use Rattle.rust_front.specs.Front.{made_of}
use Rattle.rust_front.specs.Pieces.{exact_chosen_of, rule_by_number}
use Rattle.rust_front.specs.Roots.{attaching_kinds}
use Rattle.document_laws.specs.Alone.{IsExactPiece}
use Rattle.document_laws.specs.Parts.{IsInParts}

-- an error behind the first of n bytes and before the last one, where some of m tokens are left
pub record IsInside (n m : ℕ) (f : ParserError) : Type 0 where
  pub low : 0 < f.position
  pub high : f.position < n
  pub few : 0 < f.left
  pub many : f.left ≤ m

-- the errors that are laid of a piece by itself are so
abbrev pub PiecesErrInside : Type 0
PiecesErrInside =
    (e : Edition) (a text c : List ℕ) (ts us : List Token) (k : SyntaxKind) (r : Reparser) (reading : Reading)
    → IsInParts e a text c ts us → (x : IsExactPiece e text k r reading) → exact_chosen_of k ≡ Some r
    → length (made_of (rule_by_number r.number) e text) < 2 ^ 32 - 1
    → All (IsInside (length text) (length (tokens_of e text)))
    (laid_of k attaching_kinds text (tokens_of e text) (x.own ++ event.Node k 0 ∷ [])).faults
