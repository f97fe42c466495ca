-- The front end of a lexer and a language, as functions of its arguments.
use Rattle.std.specs.Prelude.{ℕ, ◌-◌, ◌^◌, min, nat_lt, if◌then◌else◌, List, [], ◌∷◌, ◌++◌, map, length, Option, Some, None, option_map}
use Rattle.syntax_kind.specs.declared.syntax_kind.SyntaxKind.{SyntaxKind}
use Rattle.syntax_kind.specs.declared.syntax_kind.SyntaxKind.TheVariants.{Token, Node}
use Rattle.syntax_kind.specs.declared.syntax_kind.token_kind.TokenKind.TheVariants as token
use Rattle.syntax_kind.specs.declared.syntax_kind.node_kind.NodeKind.TheVariants as node
use Rattle.ras_node.specs.Sets.{is_expr}
use Rattle.ras_front_end.specs.declared.edition.Entry.TheVariants.{SourceFile, Expr}
use Rattle.ras_front_end.specs.declared.edition.Edition.{Edition}
use Rattle.ras_front_end.specs.declared.edition.Reparser.{Reparser}
use Rattle.ras_front_end.specs.ErrorModel.{ErrorModel}
use Rattle.ras_front_end.specs.Reading.{Reading}
use Rattle.ras_front_end.specs.Front.{Front}
use Rattle.token_layout.specs.declared.span.Token.{Token as LexedToken}
use Rattle.token_layout.specs.Answers.{LexerAnswers}
use Rattle.token_layout.specs.Report.{report_by}
use Rattle.grammar_machine.specs.declared.event.Event.{Event}
use Rattle.grammar_machine.specs.Running.{events_of}
use Rattle.event_layout.specs.Layout.{Laying, laid_of, outermost_of}
use Rattle.grammar_front.specs.declared.language.Target.{Target}
use Rattle.grammar_front.specs.declared.language.Target.TheVariants.{Whole, Piece}
use Rattle.grammar_front.specs.Answers.{LanguageAnswers}
use Rattle.grammar_front.specs.Reports.{say_of}

-- the length of a text, where that has 32 bits
abbrev pub size_of : List ℕ → ℕ
size_of s = min (length s) (2 ^ 32 - 1)

abbrev pub expr_or_error_of : Option SyntaxKind → SyntaxKind
expr_or_error_of None = Token token.ERROR
expr_or_error_of (Some k) = if is_expr k then k else Token token.ERROR

-- the root of an expression is its outermost node, where that is an expression
abbrev pub root_of : Target → Option SyntaxKind → SyntaxKind
root_of (Whole SourceFile) top = Node node.SOURCE_FILE
root_of (Whole Expr) top = expr_or_error_of top
root_of (Piece r) top = r.kind

-- what the grammar makes of a text's tokens
abbrev pub made_of : LanguageAnswers → Target → Edition → List ℕ → List LexedToken → List Event
made_of language target e text ts = events_of language.tables (language.rule target) (language.sights e text ts)

-- the steps of one tree, after them the grammar's errors, and the lexer's errors
abbrev pub reading_on : LanguageAnswers → List ℕ → List LexedToken → List ErrorModel → Laying → Reading
reading_on language text ts errors s = record { steps = s.steps ++ map (report_by (say_of language (size_of text) ts)) s.faults; errors = errors }

unfoldable pub reading_with : LanguageAnswers → Target → List ℕ → List LexedToken → List ErrorModel → List Event → Reading
reading_with language target text ts errors events =
    reading_on language text ts errors (laid_of (root_of target (outermost_of events)) language.attaching text ts events)

abbrev pub reading_by : LanguageAnswers → Target → Edition → List ℕ → List LexedToken → List ErrorModel → Reading
reading_by language target e text ts errors = reading_with language target text ts errors (made_of language target e text ts)

abbrev pub whole_of : LexerAnswers → LanguageAnswers → Target → Edition → List ℕ → Reading
whole_of lexer language target e text = reading_by language target e text (lexer.tokens e text) (lexer.errors e text)

abbrev pub nothing_read : Reading
nothing_read = record { steps = []; errors = [] }

-- a text that is too long is not read
unfoldable pub read_of : LexerAnswers → LanguageAnswers → Target → Edition → List ℕ → Reading
read_of lexer language target e text = if nat_lt (length text) (2 ^ 32) then whole_of lexer language target e text else nothing_read

abbrev pub kinds_of : List LexedToken → List SyntaxKind
kinds_of ts = map (λ t. t.kind) ts

abbrev pub message_with : List ErrorModel → Option (List ℕ)
message_with [] = None
message_with (f ∷ fs) = Some f.message

-- one token, and the first error
abbrev pub single_with : List LexedToken → List ErrorModel → Option (SyntaxKind × Option (List ℕ))
single_with (t ∷ []) errors = Some (t.kind, message_with errors)
single_with _ errors = None

abbrev pub reparser_of : SyntaxKind → Option ℕ → Option Reparser
reparser_of k number = option_map (λ n. record { kind = k; number = n }) number

abbrev pub grammar_front : LexerAnswers → LanguageAnswers → Front
grammar_front lexer language = record {
  lexed = λ edition text. kinds_of (lexer.tokens edition text);
  parsed = λ entry edition text. read_of lexer language (Whole entry) edition text;
  single = λ edition text. single_with (lexer.tokens edition text) (lexer.errors edition text);
  chosen = λ kind first_child parent. reparser_of kind (language.reparser kind first_child parent);
  piece = λ reparser edition text. read_of lexer language (Piece reparser) edition text;
  word = λ edition text. lexer.word edition text;
  is_strict = λ edition kind. lexer.is_strict edition kind;
}
