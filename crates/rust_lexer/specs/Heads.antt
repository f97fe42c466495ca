-- A shebang and a front matter at a file's start. Source: the Rust Reference, "Input format", on
-- the shebang, and RFC 3503.
use Rattle.std.specs.Prelude.{ℕ, zero, suc, ◌-◌, Bool, true, false, not, nat_lt, ◌==◌, ◌&&◌, if◌then◌else◌, Option, Some, None, List, length, drop}
use Rattle.std.specs.Str.{trim_start}
use Rattle.syntax_kind.specs.declared.syntax_kind.SyntaxKind.{SyntaxKind}
use Rattle.syntax_kind.specs.declared.syntax_kind.SyntaxKind.TheVariants.{Token}
use Rattle.syntax_kind.specs.declared.syntax_kind.token_kind.TokenKind.TheVariants as token
use Rattle.ras_front_end.specs.declared.edition.Edition.{Edition}
use Rattle.rust_lexer.specs.declared.class.Class.TheVariants as classes
use Rattle.rust_lexer.specs.declared.class.Wide.TheVariants as wides
use Rattle.rust_lexer.specs.declared.front_matter.Prelude.{Prelude}
use Rattle.rust_lexer.specs.declared.scan.Scan.{Scan}
use Rattle.rust_lexer.specs.declared.scan.Scan.TheVariants.{Matter, Closed}
use Rattle.rust_lexer.specs.Classes.{begins_of, begins_wide_of, skip_of, after_char_of}
use Rattle.rust_lexer.specs.Cuts.{back_of}
use Rattle.rust_lexer.specs.Quotes.{one_more}
use Rattle.rust_lexer.specs.Scans.{run_of}
use Rattle.rust_lexer.specs.Tokens.{token_of}

abbrev pub begins_shebang_of : List ℕ → Bool
begins_shebang_of s = begins_of 35 s && begins_of 33 (drop 1 s)

abbrev pub is_passed_over_of : SyntaxKind → Bool
is_passed_over_of (Token token.WHITESPACE) = true
is_passed_over_of (Token token.COMMENT) = true
is_passed_over_of _ = false

abbrev pub is_bracket_of : SyntaxKind → Bool
is_bracket_of (Token token.L_BRACK) = true
is_bracket_of _ = false

-- among at most n tokens, the first one that is neither white space nor a comment is a `[`
unfoldable pub begins_bracket_of : ℕ → Edition → List ℕ → Bool
begins_bracket_of zero e s = false
begins_bracket_of (suc n) e s =
    if not (is_passed_over_of (token_of e s).kind) then is_bracket_of (token_of e s).kind
    else begins_bracket_of n e (back_of (token_of e s).left s)

abbrev pub behind_two_of : List ℕ → List ℕ
behind_two_of s = back_of (length s - 2) s

-- the number of bytes after the line, including its newline and a carriage return before that
abbrev pub line_left_of : List ℕ → ℕ
line_left_of s =
    let r = skip_of classes.InLine s in
    if not (length r == 0) && begins_of 13 (drop (length s - length r - 1) s) then one_more (length r) else length r

-- if a front matter is faulty, a shebang is recognized by tokens
abbrev pub shebang_of : Edition → List ℕ → Option ℕ
shebang_of e s =
    if begins_shebang_of s && not (begins_bracket_of (length (behind_two_of s)) e (behind_two_of s)) then Some (line_left_of s) else None

abbrev pub skip_line_of : List ℕ → List ℕ
skip_line_of s = drop 1 (skip_of classes.InLine s)

-- the rest after the newline, if one is first, otherwise p
abbrev pub last_line_of : List ℕ → List ℕ → List ℕ
last_line_of p s = if begins_of 10 s then after_char_of s else p

-- the rest after the last newline among at most n characters of white space; p is the rest after
-- the last newline before
unfoldable pub empty_lines : ℕ → List ℕ → List ℕ → List ℕ
empty_lines zero p s = p
empty_lines (suc n) p s = if begins_wide_of wides.Space s then empty_lines n (last_line_of p s) (after_char_of s) else p

abbrev pub skip_empty_lines_of : List ℕ → List ℕ
skip_empty_lines_of s = empty_lines (length s) s s

abbrev pub has_shebang_of : List ℕ → Bool
has_shebang_of s = begins_shebang_of s && not (begins_of 91 (trim_start (behind_two_of s)))

-- only blanks may follow the closing fence
abbrev pub closing_of : List ℕ → Option ℕ
closing_of s =
    let r = skip_of classes.Blank s in
    if length r == 0 then Some 0
    else (if begins_of 10 r then Some (length (drop 1 r))
    else (if begins_of 13 r && begins_of 10 (drop 1 r) then Some (length (drop 2 r))
    else None))

-- no second front matter may follow
abbrev pub behind_closing : List ℕ → Option ℕ → Option ℕ
behind_closing r None = None
behind_closing r (Some n) = if begins_of 45 (skip_empty_lines_of (drop (length r - n) r)) then None else Some n

abbrev pub body_on : Scan → List ℕ → Option ℕ
body_on Closed r = behind_closing r (closing_of r)
body_on _ r = None

-- the bytes after the front matter, given the text after its opening fence of d dashes
abbrev pub body_of : ℕ → List ℕ → Option ℕ
body_of d s = let r = skip_of classes.InLine s in body_on (run_of (Matter d) r).0 (run_of (Matter d) r).1

abbrev pub behind_shebang_of : List ℕ → List ℕ
behind_shebang_of s = if has_shebang_of s then skip_line_of s else s

abbrev pub with_matter : Option ℕ → Option ℕ → Option Prelude
with_matter b None = None
with_matter b (Some n) = Some (record { shebang = b; front_matter = Some n })

abbrev pub prelude_of : List ℕ → Option Prelude
prelude_of s =
    let t = behind_shebang_of s in
    let b : Option ℕ = if has_shebang_of s then Some (length t) else None in
    let f = skip_empty_lines_of t in
    let r = skip_of classes.Dash f in
    let d = length f - length r in
    if d == 0 then Some (record { shebang = b; front_matter = None })
    else (if nat_lt d 3 then None
    else with_matter b (body_of d r))
