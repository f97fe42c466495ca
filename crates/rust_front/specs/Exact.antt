-- The pieces of a text that are read by themselves as they are in the text.
use Rattle.std.specs.Prelude.{ℕ, ◌-◌, ◌^◌, nat_lt, Bool, true, false, not, ◌||◌, ◌&&◌, if◌then◌else◌, Option, Some, None, option_map, option_and_then, List, [], ◌∷◌, length, reverse, take, slice_get}
use Rattle.syntax_kind.specs.declared.syntax_kind.SyntaxKind.{SyntaxKind}
use Rattle.syntax_kind.specs.declared.syntax_kind.SyntaxKind.TheVariants.{Token}
use Rattle.syntax_kind.specs.declared.syntax_kind.token_kind.TokenKind.TheVariants as token
use Rattle.ras_front_end.specs.declared.edition.Edition.{Edition}
use Rattle.ras_front_end.specs.declared.edition.Reparser.{Reparser}
use Rattle.ras_front_end.specs.Reading.{Reading}
use Rattle.token_layout.specs.declared.span.Token as span
use Rattle.exact_front.specs.Exact.{Exact}
use Rattle.grammar_machine.specs.declared.event.Event.{Event}
use Rattle.grammar_machine.specs.declared.grammar.Sight.{Sight}
use Rattle.grammar_machine.specs.Alone.{alone_of}
use Rattle.event_layout.specs.Ending.{closes_last}
use Rattle.rust_grammar.specs.declared.tables.rules.Rule.{Rule}
use Rattle.rust_grammar.specs.Seeing.{sights_of}
use Rattle.rust_grammar.specs.Tables.{rust_tables}
use Rattle.rust_grammar.specs.Rules.{first_op}
use Rattle.rust_lexer.specs.declared.lexer.LexError.{LexError}
use Rattle.rust_lexer.specs.Lexing.{tokens_of, errors_of}
use Rattle.rust_front.specs.Front.{reading_with}
use Rattle.rust_front.specs.Heads.{has_head_of}
use Rattle.rust_front.specs.Pieces.{exact_chosen_of, rule_by_number}
use Rattle.rust_front.specs.Retold.{is_retold_of}

-- ---- pieces

abbrev pub is_open : SyntaxKind → Bool
is_open (Token token.L_CURLY) = true
is_open _ = false

abbrev pub is_close : SyntaxKind → Bool
is_close (Token token.R_CURLY) = true
is_close _ = false

abbrev pub opens_with : Option span.Token → Bool
opens_with None = false
opens_with (Some t) = is_open t.kind

abbrev pub closes_with : Option span.Token → Bool
closes_with None = false
closes_with (Some t) = is_close t.kind

-- the first token is `{` and the last one `}`
abbrev pub is_braced_by : List span.Token → Bool
is_braced_by ts = opens_with (slice_get ts 0) && closes_with (slice_get ts (length ts - 1))

-- a byte is in one of the tokens
abbrev pub is_in : ℕ → List span.Token → Bool
is_in byte [] = false
is_in byte (t ∷ ts) = if nat_lt byte t.len then true else is_in (byte - t.len) ts

-- the first error is in one of the first five tokens, whose messages may depend on what stands
-- before the text
abbrev pub errs_early : List span.Token → List LexError → Bool
errs_early ts [] = false
errs_early ts (e ∷ es) = is_in e.range.start (take 5 ts)

-- the node of the piece comes directly after the last token
abbrev pub if_closed : List Event → Option (List Event)
if_closed es = if closes_last (reverse es) then Some es else None

-- what the grammar makes of tokens alone
abbrev pub alone_with : Rule → List Sight → Option (List Event)
alone_with rule sights = option_and_then if_closed (alone_of rust_tables (first_op rule) sights)

abbrev pub exact_on : Reparser → Edition → List ℕ → List span.Token → List LexError → Option Reading
exact_on r e text ts es =
    if not (is_braced_by ts) || errs_early ts es then None
    else option_map (reading_with r.kind text ts es) (alone_with (rule_by_number r.number) (sights_of e text ts))

abbrev pub whole_exact_of : Reparser → Edition → List ℕ → Option Reading
whole_exact_of r e text = exact_on r e text (tokens_of e text) (errors_of e text)

-- the reading of a piece that does not depend on what stands around it
unfoldable pub exact_piece_of : Reparser → Edition → List ℕ → Option Reading
exact_piece_of r e text = if nat_lt (length text) (2 ^ 32) then whole_exact_of r e text else None

-- the machine makes fewer than 2^32 - 1 events of a text of so many bytes
abbrev pub longest_exact : ℕ
longest_exact = 1700000

abbrev pub rust_exact : Exact
rust_exact = record {
  longest = longest_exact;
  has_head = λ text. has_head_of text;
  chosen = λ kind. exact_chosen_of kind;
  piece = λ reparser edition text. exact_piece_of reparser edition text;
  is_retold = λ edition before old new behind token. is_retold_of edition before old new behind token;
}
