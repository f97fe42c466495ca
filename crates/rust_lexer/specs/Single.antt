-- A text that is one token, and the last error in it.
use Rattle.std.specs.Prelude.{ℕ, ◌==◌, if◌then◌else◌, Option, Some, None, List, [], ◌∷◌, length}
use Rattle.std.specs.Str.{chars}
use Rattle.syntax_kind.specs.declared.syntax_kind.SyntaxKind.{SyntaxKind}
use Rattle.literal_escape.specs.declared.mode.Mode.{Mode}
use Rattle.literal_escape.specs.declared.reader.Report.{Report}
use Rattle.literal_escape.specs.Reading.{reports_in}
use Rattle.ras_front_end.specs.declared.edition.Edition.{Edition}
use Rattle.rust_lexer.specs.declared.problem.Problem.{Problem}
use Rattle.rust_lexer.specs.declared.problem.Problem.TheVariants.{UnknownPrefix}
use Rattle.rust_lexer.specs.declared.shape.Check.{Check}
use Rattle.rust_lexer.specs.declared.shape.Check.TheVariants.{No, Is, Prefix, Content}
use Rattle.rust_lexer.specs.Contents.{is_plain_of, is_unit_of, result_problem_of, unit_problem_of}
use Rattle.rust_lexer.specs.Lexing.{content_of}
use Rattle.rust_lexer.specs.Tokens.{token_of}

abbrev pub later_of : Option Problem → Option Problem → Option Problem
later_of o None = o
later_of o (Some p) = Some p

-- the last problem of some reports, otherwise o
abbrev pub last_from : Mode → Option Problem → List Report → Option Problem
last_from m o [] = o
last_from m o (r ∷ rs) = last_from m (later_of o (result_problem_of m r.unit)) rs

-- the last of `content_problems`
abbrev pub last_content_problem : Mode → List ℕ → Option Problem
last_content_problem m s =
    if is_plain_of m s then None
    else (if is_unit_of m then unit_problem_of m s
    else last_from m None (reports_in m (chars s)))

abbrev pub last_problem_of : List ℕ → Check → Option Problem
last_problem_of s No = None
last_problem_of s (Is p) = Some p
last_problem_of s Prefix = Some UnknownPrefix
last_problem_of s (Content m before behind) = last_content_problem m (content_of before behind s)

-- nothing follows the first token
abbrev pub single_token_of : Edition → List ℕ → Option (SyntaxKind × Option Problem)
single_token_of e s =
    if length s == 0 then None
    else (if (token_of e s).left == 0 then Some ((token_of e s).kind, last_problem_of s (token_of e s).check)
    else None)
