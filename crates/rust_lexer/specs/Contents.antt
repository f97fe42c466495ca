-- What is wrong with the content of a literal that is not raw. Source: the Rust Reference,
-- "Tokens", on escapes.
use Rattle.std.specs.Prelude.{ℕ, Bool, true, false, ◌==◌, if◌then◌else◌, Option, Some, None, Result, Ok, Err, List, [], ◌∷◌, ◌++◌, length}
use Rattle.std.specs.Str.{chars}
use Rattle.literal_escape.specs.declared.error.EscapeError.{EscapeError}
use Rattle.literal_escape.specs.declared.error.EscapeError.TheVariants.{LoneSlash, BareCarriageReturn, BareCarriageReturnInRawString, UnskippedWhitespaceWarning, MultipleSkippedLinesWarning}
use Rattle.literal_escape.specs.declared.mode.Mode.{Mode}
use Rattle.literal_escape.specs.declared.mode.Mode.TheVariants as modes
use Rattle.literal_escape.specs.declared.mode.MixedUnit.{MixedUnit}
use Rattle.literal_escape.specs.declared.reader.Report.{Report}
use Rattle.literal_escape.specs.Pieces.{single}
use Rattle.literal_escape.specs.Reading.{reports_in}
use Rattle.rust_lexer.specs.declared.class.Class.TheVariants as classes
use Rattle.rust_lexer.specs.declared.problem.Problem.{Problem}
use Rattle.rust_lexer.specs.declared.problem.Problem.TheVariants.{Content}
use Rattle.rust_lexer.specs.Classes.{skip_of}

-- each character of the content stands for itself
abbrev pub is_plain_of : Mode → List ℕ → Bool
is_plain_of modes.Char s = false
is_plain_of modes.Byte s = false
is_plain_of modes.Str s = length (skip_of classes.InString s) == 0
is_plain_of modes.ByteStr s = length (skip_of classes.InBytes s) == 0
is_plain_of modes.CStr s = length (skip_of classes.InBytes s) == 0

abbrev pub is_unit_of : Mode → Bool
is_unit_of modes.Char = true
is_unit_of modes.Byte = true
is_unit_of _ = false

-- the lexer does not report a backslash at the end, a carriage return, or a warning
abbrev pub problem_of : Mode → EscapeError → Option Problem
problem_of m LoneSlash = None
problem_of m BareCarriageReturn = None
problem_of m BareCarriageReturnInRawString = None
problem_of m UnskippedWhitespaceWarning = None
problem_of m MultipleSkippedLinesWarning = None
problem_of m e = Some (Content m e)

abbrev pub result_problem_of : Mode → Result MixedUnit EscapeError → Option Problem
result_problem_of m (Ok u) = None
result_problem_of m (Err e) = problem_of m e

-- what is wrong with a character or a byte
abbrev pub unit_problem_of : Mode → List ℕ → Option Problem
unit_problem_of m s = result_problem_of m (single (reports_in m (chars s)))

abbrev pub one_problem : Option Problem → List Problem
one_problem None = []
one_problem (Some p) = p ∷ []

-- what is wrong with the units of a string
abbrev pub report_problems : Mode → List Report → List Problem
report_problems m [] = []
report_problems m (r ∷ rs) = one_problem (result_problem_of m r.unit) ++ report_problems m rs

-- what is wrong with a content
abbrev pub content_problems : Mode → List ℕ → List Problem
content_problems m s =
    if is_plain_of m s then []
    else (if is_unit_of m then one_problem (unit_problem_of m s)
    else report_problems m (reports_in m (chars s)))
