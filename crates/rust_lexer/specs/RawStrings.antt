-- Raw strings, by what follows their letters. Source: the Rust Reference, "Tokens", on raw string
-- literals.
use Rattle.std.specs.Prelude.{ℕ, ◌-◌, nat_lt, if◌then◌else◌, List, length, drop}
use Rattle.syntax_kind.specs.declared.syntax_kind.SyntaxKind.{SyntaxKind}
use Rattle.rust_lexer.specs.declared.class.Class.TheVariants as classes
use Rattle.rust_lexer.specs.declared.problem.Problem.TheVariants.{InvalidRawString}
use Rattle.rust_lexer.specs.declared.scan.Scan.{Scan}
use Rattle.rust_lexer.specs.declared.scan.Scan.TheVariants.{Raw, Closed}
use Rattle.rust_lexer.specs.declared.shape.Shape.{Shape}
use Rattle.rust_lexer.specs.Classes.{begins_of, skip_of, after_char_of}
use Rattle.rust_lexer.specs.Names.{skip_suffix_of}
use Rattle.rust_lexer.specs.Scans.{run_of}
use Rattle.rust_lexer.specs.Shapes.{plain_of, with_of}

abbrev pub invalid_of : SyntaxKind → ℕ → Shape
invalid_of k n = with_of k n InvalidRawString

-- at most 255 # may precede the opening quote
abbrev pub body_on : SyntaxKind → ℕ → Scan → List ℕ → Shape
body_on k h Closed r = if nat_lt h 256 then plain_of k (length (skip_suffix_of r)) else invalid_of k (length r)
body_on k h _ r = invalid_of k (length r)

-- after the opening quote
abbrev pub body_of : SyntaxKind → ℕ → List ℕ → Shape
body_of k h s = body_on k h (run_of (Raw h) s).0 (run_of (Raw h) s).1

abbrev pub raw_string_of : SyntaxKind → List ℕ → Shape
raw_string_of k s =
    let o = skip_of classes.Hash s in
    if begins_of 34 o then body_of k (length s - length o) (drop 1 o) else invalid_of k (length (after_char_of o))
