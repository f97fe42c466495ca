-- Whether a string that precedes a token perhaps ends too late, since the quote that should close
-- it is missing.
use Rattle.std.specs.Prelude.{ℕ, zero, suc, ◌-◌, Bool, true, false, not, ◌==◌, ◌&&◌, ◌||◌, List, [], ◌∷◌, length, take, drop}
use Rattle.syntax_kind.specs.declared.syntax_kind.SyntaxKind.{SyntaxKind}
use Rattle.syntax_kind.specs.declared.syntax_kind.SyntaxKind.TheVariants.{Token}
use Rattle.syntax_kind.specs.declared.syntax_kind.token_kind.TokenKind.TheVariants as token
use Rattle.token_layout.specs.declared.span.Token as span
use Rattle.rust_lexer.specs.declared.class.Class.TheVariants as classes
use Rattle.rust_lexer.specs.declared.scan.Scan.{Scan}
use Rattle.rust_lexer.specs.declared.scan.Scan.TheVariants.{Seek, Closed}
use Rattle.rust_lexer.specs.Classes.{skip_of}
use Rattle.rust_lexer.specs.Scans.{run_of}

abbrev pub is_closed_of : Scan → Bool
is_closed_of Closed = true
is_closed_of _ = false

-- the byte x is directly followed by y somewhere
abbrev pub holds_pair_of : ℕ → ℕ → List ℕ → Bool
holds_pair_of x y s = is_closed_of (run_of (Seek x y) s).0

-- a `(`, and `//` or `;` before a newline
abbrev pub holds_code_of : List ℕ → Bool
holds_code_of s = not (length (skip_of classes.NoParen s) == 0) && (holds_pair_of 47 47 s || holds_pair_of 59 10 s)

abbrev pub is_string_of : SyntaxKind → Bool
is_string_of (Token token.STRING) = true
is_string_of _ = false

abbrev pub is_code_of : SyntaxKind → List ℕ → Bool
is_code_of k w = is_string_of k && holds_code_of w

-- one of the last n tokens is a string with code; ts has the last token first, and s is the text of
-- all of them
unfoldable pub is_behind_code_of : ℕ → List span.Token → List ℕ → Bool
is_behind_code_of zero ts s = false
is_behind_code_of (suc n) [] s = false
is_behind_code_of (suc n) (t ∷ ts) s = is_code_of t.kind (drop (length s - t.len) s) || is_behind_code_of n ts (take (length s - t.len) s)
