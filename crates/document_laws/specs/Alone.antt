-- A piece that the front end reads by itself is one that the laws of the machine and of the layout
-- are about.
use Rattle.std.specs.Prelude.{◌≡◌, ℕ, ◌-◌, ◌<◌, ◌^◌, false, IsUtf8, Some, List, [], ◌∷◌, ◌++◌, length}
use Rattle.syntax_kind.specs.declared.syntax_kind.SyntaxKind.{SyntaxKind}
use Rattle.ras_front_end.specs.declared.edition.Edition.{Edition}
use Rattle.ras_front_end.specs.declared.edition.Reparser.{Reparser}
use Rattle.ras_front_end.specs.Reading.{Reading}
use Rattle.grammar_machine.specs.declared.event.Event.{Event}
use Rattle.grammar_machine.specs.declared.event.Event.TheVariants as event
use Rattle.event_layout.specs.Replaced.{Part, IsReadAlone}
use Rattle.lexer_laws.specs.Heads.{may_have_head}
use Rattle.lexer_laws.specs.Pieces.{IsBraced}
use Rattle.rust_grammar.specs.Rules.{first_op}
use Rattle.rust_grammar.specs.Seeing.{sights_of}
use Rattle.rust_grammar.specs.Tables.{rust_tables}
use Rattle.rust_lexer.specs.Lexing.{tokens_of, errors_of}
use Rattle.rust_front.specs.Exact.{errs_early, exact_piece_of}
use Rattle.rust_front.specs.Heads.{has_head_of}
use Rattle.rust_front.specs.Front.{made_of, reading_with}
use Rattle.rust_front.specs.Pieces.{exact_chosen_of, rule_by_number}

-- a text by itself, as the lexer and the machine see it
abbrev pub part_of : Edition → List ℕ → Part
part_of e text = record { text = text; tokens = tokens_of e text; sights = sights_of e text (tokens_of e text) }

-- the text of an exact piece is from `{` to `}`, the rule reads its tokens alone, and the reading
-- is what is laid of that
pub record IsExactPiece (e : Edition) (text : List ℕ) (k : SyntaxKind) (r : Reparser) (reading : Reading) : Type 0 where
  pub own : List Event
  pub alone : IsReadAlone rust_tables (first_op (rule_by_number r.number)) k (part_of e text) own
  pub events : made_of (rule_by_number r.number) e text ≡ own ++ event.Node k 0 ∷ []
  pub braced : IsBraced (tokens_of e text)
  pub late : errs_early (tokens_of e text) (errors_of e text) ≡ false
  pub reading_is : reading ≡ reading_with k text (tokens_of e text) (errors_of e text) (own ++ event.Node k 0 ∷ [])

abbrev pub ExactPiecesAreReadAlone : Type 0
ExactPiecesAreReadAlone =
    (e : Edition) (text : List ℕ) (k : SyntaxKind) (r : Reparser) (reading : Reading)
    → IsUtf8 text → length text < 2 ^ 32 → length (made_of (rule_by_number r.number) e text) < 2 ^ 32 - 1
    → exact_chosen_of k ≡ Some r → exact_piece_of r e text ≡ Some reading
    → IsExactPiece e text k r reading

-- the test for what may stand at the head of a text is that of the lexer's laws
abbrev pub HeadsAreTested : Type 0
HeadsAreTested = (text : List ℕ) → has_head_of text ≡ may_have_head text
