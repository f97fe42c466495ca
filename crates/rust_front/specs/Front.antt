-- The whole front end as functions of its arguments.
use Rattle.std.specs.Prelude.{ℕ, ◌^◌, nat_lt, if◌then◌else◌, List, [], ◌++◌, map, length, Option, option_map}
use Rattle.syntax_kind.specs.declared.syntax_kind.SyntaxKind.{SyntaxKind}
use Rattle.ras_front_end.specs.declared.edition.Entry.{Entry}
use Rattle.ras_front_end.specs.declared.edition.Edition.{Edition}
use Rattle.ras_front_end.specs.declared.edition.Reparser.{Reparser}
use Rattle.ras_front_end.specs.Reading.{Reading}
use Rattle.ras_front_end.specs.Front.{Front}
use Rattle.token_layout.specs.declared.span.Token.{Token}
use Rattle.token_layout.specs.Report.{report_by}
use Rattle.grammar_machine.specs.declared.event.Event.{Event}
use Rattle.grammar_machine.specs.declared.grammar.Sight.{Sight}
use Rattle.grammar_machine.specs.Running.{events_of}
use Rattle.rust_grammar.specs.Tables.{rust_tables}
use Rattle.rust_grammar.specs.declared.tables.rules.Rule.{Rule}
use Rattle.rust_grammar.specs.Rules.{first_op}
use Rattle.rust_grammar.specs.Seeing.{sights_of}
use Rattle.rust_lexer.specs.declared.problem.Problem.{Problem}
use Rattle.rust_lexer.specs.declared.lexer.LexError.{LexError}
use Rattle.rust_lexer.specs.Lexing.{tokens_of, errors_of}
use Rattle.rust_lexer.specs.Single.{single_token_of}
use Rattle.rust_kinds.specs.Keywords.{keyword_of}
use Rattle.rust_kinds.specs.Strict.{is_strict_kind_of}
use Rattle.event_layout.specs.Layout.{Laying, laid_of, outermost_of}
use Rattle.rust_front.specs.Pieces.{chosen_of, rule_by_number}
use Rattle.rust_front.specs.Roots.{attaching_kinds, entry_rule_of, root_kind_of}
use Rattle.rust_front.specs.Messages.{say_of, lexer_message_of, lexer_error_of}

abbrev pub kinds_of : List Token → List SyntaxKind
kinds_of ts = map (λ t. t.kind) ts

-- what the grammar makes of what the machine sees
abbrev pub made_with : Rule → List Sight → List Event
made_with rule sights = events_of rust_tables (first_op rule) sights

abbrev pub made_of : Rule → Edition → List ℕ → List Event
made_of rule e text = made_with rule (sights_of e text (tokens_of e text))

abbrev pub reading_on : List Token → List ℕ → List LexError → Laying → Reading
reading_on ts text errors s = record { steps = s.steps ++ map (report_by (say_of ts)) s.faults; errors = map (lexer_error_of text) errors }

unfoldable pub reading_with : SyntaxKind → List ℕ → List Token → List LexError → List Event → Reading
reading_with root text ts errors events = reading_on ts text errors (laid_of root attaching_kinds text ts events)

abbrev pub nothing_read : Reading
nothing_read = record { steps = []; errors = [] }

abbrev pub entry_reading : Entry → Edition → List ℕ → List Event → Reading
entry_reading entry e text events = reading_with (root_kind_of entry (outermost_of events)) text (tokens_of e text) (errors_of e text) events

abbrev pub whole_of : Entry → Edition → List ℕ → Reading
whole_of entry e text = entry_reading entry e text (made_of (entry_rule_of entry) e text)

abbrev pub whole_piece_of : Reparser → Edition → List ℕ → Reading
whole_piece_of r e text = reading_with r.kind text (tokens_of e text) (errors_of e text) (made_of (rule_by_number r.number) e text)

-- a text that is too long is not read
unfoldable pub parsed_of : Entry → Edition → List ℕ → Reading
parsed_of entry e text = if nat_lt (length text) (2 ^ 32) then whole_of entry e text else nothing_read

unfoldable pub piece_of : Reparser → Edition → List ℕ → Reading
piece_of r e text = if nat_lt (length text) (2 ^ 32) then whole_piece_of r e text else nothing_read

abbrev pub single_on : List ℕ → SyntaxKind × Option Problem → SyntaxKind × Option (List ℕ)
single_on text t = (t.0, option_map (λ p. lexer_message_of p text) t.1)

abbrev pub single_of_text : Edition → List ℕ → Option (SyntaxKind × Option (List ℕ))
single_of_text e text = option_map (single_on text) (single_token_of e text)

abbrev pub rust_front : Front
rust_front = record {
  lexed = λ edition text. kinds_of (tokens_of edition text);
  parsed = λ entry edition text. parsed_of entry edition text;
  single = λ edition text. single_of_text edition text;
  chosen = λ kind first_child parent. chosen_of kind first_child parent;
  piece = λ reparser edition text. piece_of reparser edition text;
  word = λ edition text. keyword_of edition text;
  is_strict = λ edition kind. is_strict_kind_of edition kind;
}
