-- What the characters of a token so far make of it.
use Rattle.std.specs.Prelude.{ℕ, List, Bool, nat_le, nat_eq, ◌&&◌, ◌||◌, if◌then◌else◌, Option, Some, None, codes}
use Rattle.std.specs.Str.{bytes_eq}
use Rattle.unicode_ident.specs.Ident.{is_xid_start, is_xid_continue}
use Rattle.syntax_kind.specs.declared.syntax_kind.SyntaxKind.{SyntaxKind}
use Rattle.syntax_kind.specs.declared.syntax_kind.SyntaxKind.TheVariants.{Token}
use Rattle.syntax_kind.specs.declared.syntax_kind.token_kind.TokenKind.TheVariants as token
use Rattle.ras_front_end.specs.declared.edition.Edition.{Edition}
use Rattle.tiny_lexer.specs.Keywords.{keyword_of}
use Rattle.tiny_lexer.specs.declared.scan.Scan.{Scan}
use Rattle.tiny_lexer.specs.declared.scan.Scan.TheVariants.{Space, Name, Number, LineComment, BlockComment, BlockStar, Text, TextEscape, Unknown, Single, Colon, Minus, Equals, Bang, Dot, DotDot, Less, LessLess, Greater, GreaterGreater, Amp, Pipe, Plus, Star, Slash, Caret, Percent}
use Rattle.tiny_lexer.specs.declared.scan.Problem.{Problem}
use Rattle.tiny_lexer.specs.declared.scan.Problem.TheVariants.{UnterminatedComment, UnterminatedString, UnexpectedCharacter}

abbrev pub is_space_of : ℕ → Bool
is_space_of c = nat_eq c 32 || nat_eq c 10 || nat_eq c 9 || nat_eq c 13

abbrev pub is_digit_of : ℕ → Bool
is_digit_of c = nat_le 48 c && nat_le c 57

abbrev pub begin_mark_of : ℕ → Scan
begin_mark_of c =
    if nat_eq c 34 then Text else (
    if nat_eq c 59 then Single (Token token.SEMICOLON) else (
    if nat_eq c 44 then Single (Token token.COMMA) else (
    if nat_eq c 40 then Single (Token token.L_PAREN) else (
    if nat_eq c 41 then Single (Token token.R_PAREN) else (
    if nat_eq c 123 then Single (Token token.L_CURLY) else (
    if nat_eq c 125 then Single (Token token.R_CURLY) else (
    if nat_eq c 91 then Single (Token token.L_BRACK) else (
    if nat_eq c 93 then Single (Token token.R_BRACK) else (
    if nat_eq c 64 then Single (Token token.AT) else (
    if nat_eq c 35 then Single (Token token.POUND) else (
    if nat_eq c 36 then Single (Token token.DOLLAR) else (
    if nat_eq c 126 then Single (Token token.TILDE) else (
    if nat_eq c 63 then Single (Token token.QUESTION) else (
    if nat_eq c 58 then Colon else (
    if nat_eq c 45 then Minus else (
    if nat_eq c 61 then Equals else (
    if nat_eq c 33 then Bang else (
    if nat_eq c 46 then Dot else (
    if nat_eq c 60 then Less else (
    if nat_eq c 62 then Greater else (
    if nat_eq c 38 then Amp else (
    if nat_eq c 124 then Pipe else (
    if nat_eq c 43 then Plus else (
    if nat_eq c 42 then Star else (
    if nat_eq c 47 then Slash else (
    if nat_eq c 94 then Caret else (
    if nat_eq c 37 then Percent else (
    Unknown))))))))))))))))))))))))))))

abbrev pub begin_of : ℕ → Scan
begin_of c = if is_space_of c then Space else (if nat_eq c 95 || is_xid_start c then Name else (if is_digit_of c then Number else begin_mark_of c))

abbrev pub goes_on_of : Scan → ℕ → Option Scan
goes_on_of Space c = if is_space_of c then Some Space else None
goes_on_of Name c = if is_xid_continue c then Some Name else None
goes_on_of Number c = if is_xid_continue c then Some Number else None
goes_on_of LineComment c = if nat_eq c 10 then None else Some LineComment
goes_on_of BlockComment c = if nat_eq c 42 then Some BlockStar else Some BlockComment
goes_on_of BlockStar c = if nat_eq c 47 then Some (Single (Token token.COMMENT)) else (if nat_eq c 42 then Some BlockStar else Some BlockComment)
goes_on_of Text c = if nat_eq c 34 then Some (Single (Token token.STRING)) else (if nat_eq c 92 then Some TextEscape else Some Text)
goes_on_of TextEscape c = Some Text
goes_on_of Unknown c = None
goes_on_of Colon c = if nat_eq c 58 then Some (Single (Token token.COLON2)) else (None)
goes_on_of Minus c = if nat_eq c 62 then Some (Single (Token token.THIN_ARROW)) else (if nat_eq c 61 then Some (Single (Token token.MINUSEQ)) else (None))
goes_on_of Equals c = if nat_eq c 61 then Some (Single (Token token.EQ2)) else (if nat_eq c 62 then Some (Single (Token token.FAT_ARROW)) else (None))
goes_on_of Bang c = if nat_eq c 61 then Some (Single (Token token.NEQ)) else (None)
goes_on_of Dot c = if nat_eq c 46 then Some DotDot else (None)
goes_on_of DotDot c = if nat_eq c 46 then Some (Single (Token token.DOT3)) else (if nat_eq c 61 then Some (Single (Token token.DOT2EQ)) else (None))
goes_on_of Less c = if nat_eq c 61 then Some (Single (Token token.LTEQ)) else (if nat_eq c 60 then Some LessLess else (None))
goes_on_of LessLess c = if nat_eq c 61 then Some (Single (Token token.SHLEQ)) else (None)
goes_on_of Greater c = if nat_eq c 61 then Some (Single (Token token.GTEQ)) else (if nat_eq c 62 then Some GreaterGreater else (None))
goes_on_of GreaterGreater c = if nat_eq c 61 then Some (Single (Token token.SHREQ)) else (None)
goes_on_of Amp c = if nat_eq c 38 then Some (Single (Token token.AMP2)) else (if nat_eq c 61 then Some (Single (Token token.AMPEQ)) else (None))
goes_on_of Pipe c = if nat_eq c 124 then Some (Single (Token token.PIPE2)) else (if nat_eq c 61 then Some (Single (Token token.PIPEEQ)) else (None))
goes_on_of Plus c = if nat_eq c 61 then Some (Single (Token token.PLUSEQ)) else (None)
goes_on_of Star c = if nat_eq c 61 then Some (Single (Token token.STAREQ)) else (None)
goes_on_of Slash c = if nat_eq c 47 then Some LineComment else (if nat_eq c 42 then Some BlockComment else (if nat_eq c 61 then Some (Single (Token token.SLASHEQ)) else (None)))
goes_on_of Caret c = if nat_eq c 61 then Some (Single (Token token.CARETEQ)) else (None)
goes_on_of Percent c = if nat_eq c 61 then Some (Single (Token token.PERCENTEQ)) else (None)
goes_on_of (Single k) c = None

abbrev pub word_on : Option SyntaxKind → SyntaxKind
word_on None = Token token.IDENT
word_on (Some k) = k

abbrev pub word_kind_of : Edition → List ℕ → SyntaxKind
word_kind_of e w = if bytes_eq w (codes "_") then Token token.UNDERSCORE else word_on (keyword_of e w)

abbrev pub scan_kind_of : Edition → List ℕ → Scan → SyntaxKind
scan_kind_of e w Space = Token token.WHITESPACE
scan_kind_of e w Name = word_kind_of e w
scan_kind_of e w Number = Token token.INT_NUMBER
scan_kind_of e w LineComment = Token token.COMMENT
scan_kind_of e w BlockComment = Token token.COMMENT
scan_kind_of e w BlockStar = Token token.COMMENT
scan_kind_of e w Text = Token token.STRING
scan_kind_of e w TextEscape = Token token.STRING
scan_kind_of e w Unknown = Token token.ERROR
scan_kind_of e w Colon = Token token.COLON
scan_kind_of e w Minus = Token token.MINUS
scan_kind_of e w Equals = Token token.EQ
scan_kind_of e w Bang = Token token.BANG
scan_kind_of e w Dot = Token token.DOT
scan_kind_of e w DotDot = Token token.DOT2
scan_kind_of e w Less = Token token.L_ANGLE
scan_kind_of e w LessLess = Token token.SHL
scan_kind_of e w Greater = Token token.R_ANGLE
scan_kind_of e w GreaterGreater = Token token.SHR
scan_kind_of e w Amp = Token token.AMP
scan_kind_of e w Pipe = Token token.PIPE
scan_kind_of e w Plus = Token token.PLUS
scan_kind_of e w Star = Token token.STAR
scan_kind_of e w Slash = Token token.SLASH
scan_kind_of e w Caret = Token token.CARET
scan_kind_of e w Percent = Token token.PERCENT
scan_kind_of e w (Single k) = k

abbrev pub problem_of : Scan → Option Problem
problem_of BlockComment = Some UnterminatedComment
problem_of BlockStar = Some UnterminatedComment
problem_of Text = Some UnterminatedString
problem_of TextEscape = Some UnterminatedString
problem_of Unknown = Some UnexpectedCharacter
problem_of _ = None
