-- Tokens of characters, by longest match: a token goes on for as long as its scan does.
use Rattle.std.specs.Prelude.{ℕ, ◌+◌, ◌-◌, ◌^◌, nat_lt, if◌then◌else◌, min, Option, Some, None, List, [], ◌∷◌, ◌++◌, length}
use Rattle.std.specs.Char.{encode_utf8}
use Rattle.std.specs.Str.{chars}
use Rattle.std.specs.Prelude.{string_bytes}
use Rattle.syntax_kind.specs.declared.syntax_kind.SyntaxKind.{SyntaxKind}
use Rattle.ras_front_end.specs.declared.edition.Edition.{Edition}
use Rattle.token_layout.specs.declared.span.Token.{Token}
use Rattle.tiny_lexer.specs.declared.scan.Scan.{Scan}
use Rattle.tiny_lexer.specs.declared.scan.Problem.{Problem}
use Rattle.tiny_lexer.specs.declared.lexer.Complaint.{Complaint}
use Rattle.tiny_lexer.specs.declared.lexer.Lexer.{Lexer}
use Rattle.tiny_lexer.specs.Scans.{begin_of, goes_on_of, scan_kind_of, problem_of}

-- the length of a text, where that has 32 bits
abbrev pub size_of : List ℕ → ℕ
size_of w = if nat_lt (length w) (2 ^ 32) then length w else 0

-- the position after n more bytes, where that has 32 bits
abbrev pub later_of : ℕ → ℕ → ℕ
later_of a n = min (a + n) (2 ^ 32 - 1)

-- what the lexer holds: what it has read, and of the token that it reads the scan, the text and the
-- start
pub record Lexing : Type 0 where
  pub tokens : List Token
  pub complaints : List Complaint
  pub scan : Option Scan
  pub word : List ℕ
  pub start : ℕ

abbrev pub lexing_of : Lexer → Lexing
lexing_of l = record { tokens = l.tokens.items; complaints = l.complaints.items; scan = l.scan; word = string_bytes l.word; start = l.start }

abbrev pub report_of : Option Problem → ℕ → Lexing → Lexing
report_of None n s = s
report_of (Some p) n s = record s { complaints = s.complaints ++ (record { problem = p; range = record { start = s.start; end = later_of s.start n } }) ∷ [] }

abbrev pub emit_of : SyntaxKind → ℕ → Lexing → Lexing
emit_of k n s = record s { tokens = s.tokens ++ (record { kind = k; len = n }) ∷ []; start = later_of s.start n }

abbrev pub end_with : Edition → Option Scan → Lexing → Lexing
end_with e None s = s
end_with e (Some q) s = emit_of (scan_kind_of e s.word q) (size_of s.word) (report_of (problem_of q) (size_of s.word) s)

abbrev pub end_of : Edition → Lexing → Lexing
end_of e s = end_with e s.scan s

abbrev pub next_on : Option Scan → ℕ → Option Scan
next_on None c = None
next_on (Some q) c = goes_on_of q c

abbrev pub next_of : Lexing → ℕ → Option Scan
next_of s c = next_on s.scan c

abbrev pub begun_of : ℕ → Lexing → Lexing
begun_of c s = record s { scan = Some (begin_of c); word = encode_utf8 c }

abbrev pub more_of : Scan → ℕ → Lexing → Lexing
more_of q c s = record s { scan = Some q; word = s.word ++ encode_utf8 c }

abbrev pub feed_on : Edition → Option Scan → Lexing → ℕ → Lexing
feed_on e (Some q) s c = more_of q c s
feed_on e None s c = begun_of c (end_of e s)

unfoldable pub feed_of : Edition → Lexing → ℕ → Lexing
feed_of e s c = feed_on e (next_of s c) s c

unfoldable pub feeds : Edition → List ℕ → Lexing → Lexing
feeds e [] s = s
feeds e (c ∷ cs) s = feeds e cs (feed_of e s c)

abbrev pub fresh : Lexing
fresh = record { tokens = []; complaints = []; scan = None; word = []; start = 0 }

abbrev pub last_of : Edition → List ℕ → Lexing
last_of e text = end_of e (feeds e (chars text) fresh)

-- the tokens of a text, and the complaints
abbrev pub tokens_of : Edition → List ℕ → List Token
tokens_of e text = (last_of e text).tokens

abbrev pub complaints_of : Edition → List ℕ → List Complaint
complaints_of e text = (last_of e text).complaints
