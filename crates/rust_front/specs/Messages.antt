-- The messages of errors.
use Rattle.std.specs.Prelude.{ℕ, ◌-◌, Bool, nat_lt, nat_le, ◌==◌, ◌&&◌, ◌||◌, if◌then◌else◌, Option, Some, None, List, [], ◌∷◌, ◌++◌, length, take, drop, codes, chars, flat_map, encode_utf8, slice_index}
use Rattle.syntax_kind.specs.declared.syntax_kind.SyntaxKind.{SyntaxKind}
use Rattle.syntax_kind.specs.Kinds.{is_trivia}
use Rattle.ras_front_end.specs.ErrorModel.{ErrorModel}
use Rattle.token_layout.specs.declared.span.Token.{Token}
use Rattle.event_layout.specs.declared.layout.ParserError.{ParserError}
use Rattle.rust_kinds.specs.Names.{rust_name}
use Rattle.rust_grammar.specs.Messages.{message_of}
use Rattle.rust_lexer.specs.declared.problem.Problem.{Problem}
use Rattle.rust_lexer.specs.declared.lexer.LexError.{LexError}
use Rattle.rust_lexer.specs.Messages.{message_front_of, message_back_of}

-- the kind of the next token that is no trivia
abbrev pub next_kind_of : List Token → Option SyntaxKind
next_kind_of [] = None
next_kind_of (t ∷ ts) = if is_trivia t.kind then next_kind_of ts else Some t.kind

abbrev pub kind_name_of : Option SyntaxKind → List ℕ
kind_name_of None = codes "EOF"
kind_name_of (Some k) = rust_name k

-- `%` stands for a name
abbrev pub filled_char : List ℕ → ℕ → List ℕ
filled_char name c = if c == 37 then name else encode_utf8 c

unfoldable pub filled : List ℕ → List ℕ → List ℕ
filled name text = flat_map (filled_char name) (chars text)

abbrev pub parser_message_of : ℕ → List Token → List ℕ
parser_message_of number ts = filled (kind_name_of (next_kind_of ts)) (message_of number)

-- what is left of the tokens
abbrev pub last_of : List Token → ℕ → List Token
last_of ts n = drop (length ts - n) ts

abbrev pub say_of : List Token → ParserError → List ℕ × ℕ
say_of ts f = (parser_message_of f.message (last_of ts f.left), f.position)

-- a character begins at the position, or the text ends there
abbrev pub is_boundary_of : ℕ → List ℕ → Bool
is_boundary_of i s = length s == i || (nat_lt i (length s) && (nat_lt (slice_index s i) 128 || nat_le 192 (slice_index s i)))

abbrev pub front_of : ℕ → List ℕ → List ℕ
front_of n s = if is_boundary_of n s then take n s else []

abbrev pub back_of : ℕ → List ℕ → List ℕ
back_of n s = if is_boundary_of n s then drop n s else []

-- a token's text is between the two parts of a message, where the second is not empty
abbrev pub quoted_on : List ℕ → List ℕ → List ℕ → List ℕ
quoted_on first [] token = first
quoted_on first (b ∷ bs) token = first ++ (token ++ (b ∷ bs))

abbrev pub lexer_message_of : Problem → List ℕ → List ℕ
lexer_message_of p token = quoted_on (message_front_of p) (message_back_of p) token

abbrev pub lexer_error_of : List ℕ → LexError → ErrorModel
lexer_error_of text e = record { message = lexer_message_of e.problem (back_of e.range.start (front_of e.range.end text)); range = e.range }
