-- The kinds of the tokens that a run makes.
use Rattle.std.specs.Prelude.{◌≡◌, ℕ, false, Some, List, slice_get}
use Rattle.syntax_kind.specs.declared.syntax_kind.SyntaxKind.{SyntaxKind}
use Rattle.syntax_kind.specs.Kinds.{is_trivia}
use Rattle.grammar_machine.specs.declared.grammar.Sight.{Sight}
use Rattle.grammar_machine.specs.Running.{Tables, events_of}
use Rattle.rust_grammar.specs.Tables.{rust_tables}
use Rattle.document_laws.specs.Nodes.{MakesPlainTokens}

-- no kind of the tables is that of white space or of a comment
abbrev pub HasPlainKinds : Tables → Type 0
HasPlainKinds g = (i : ℕ) (k : SyntaxKind) → slice_get g.kinds i ≡ Some k → is_trivia k ≡ false

abbrev pub RunsMakePlainTokens : Type 0
RunsMakePlainTokens = (g : Tables) (rule : ℕ) (ts : List Sight) → HasPlainKinds g → MakesPlainTokens (events_of g rule ts)

abbrev pub RustHasPlainKinds : Type 0
RustHasPlainKinds = HasPlainKinds rust_tables
