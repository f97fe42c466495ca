-- The tokens of a text, in order, and the errors in them.
use Rattle.std.specs.Prelude.{ℕ, zero, suc, ◌-◌, ◌^◌, min, ◌==◌, if◌then◌else◌, Option, Some, None, List, [], ◌∷◌, ◌++◌, length, reverse}
use Rattle.text_size.specs.declared.range.TextRange.{TextRange}
use Rattle.syntax_kind.specs.declared.syntax_kind.SyntaxKind.{SyntaxKind}
use Rattle.syntax_kind.specs.declared.syntax_kind.SyntaxKind.TheVariants.{OTHER}
use Rattle.ras_front_end.specs.declared.edition.Edition.{Edition}
use Rattle.token_layout.specs.declared.span.Token.{Token}
use Rattle.rust_lexer.specs.declared.front_matter.Prelude.{Prelude}
use Rattle.rust_lexer.specs.declared.lexer.Lexed.{Lexed}
use Rattle.rust_lexer.specs.declared.lexer.LexError.{LexError}
use Rattle.rust_lexer.specs.declared.problem.Problem.{Problem}
use Rattle.rust_lexer.specs.declared.problem.Problem.TheVariants.{UnknownPrefix, UnknownPrefixBehindString}
use Rattle.rust_lexer.specs.declared.shape.Check.{Check}
use Rattle.rust_lexer.specs.declared.shape.Check.TheVariants.{No, Is, Prefix, Content}
use Rattle.rust_lexer.specs.declared.shape.Shape.{Shape}
use Rattle.rust_lexer.specs.Contents.{content_problems}
use Rattle.rust_lexer.specs.Cuts.{front_of, back_of}
use Rattle.rust_lexer.specs.Heads.{prelude_of, shebang_of}
use Rattle.rust_lexer.specs.History.{is_behind_code_of}
use Rattle.rust_lexer.specs.Shapes.{plain_of}
use Rattle.rust_lexer.specs.Tokens.{token_of}

-- a size, saturating at 32 bits
abbrev pub size_of : ℕ → ℕ
size_of n = min n (2 ^ 32 - 1)

-- in a text of n bytes, the range between what r bytes follow and what t bytes follow
abbrev pub range_of : ℕ → ℕ → ℕ → TextRange
range_of n r t = record { start = size_of (n - r); end = size_of (n - t) }

-- problems at a range, after other errors
abbrev pub faults_at : TextRange → List Problem → List LexError → List LexError
faults_at r [] es = es
faults_at r (p ∷ ps) es = faults_at r ps (es ++ (record { problem = p; range = r }) ∷ [])

abbrev pub faults_with : TextRange → Option Problem → List LexError → List LexError
faults_with r None es = es
faults_with r (Some p) es = es ++ (record { problem = p; range = r }) ∷ []

-- the text without its first `before` and its last `behind` bytes
abbrev pub content_of : ℕ → ℕ → List ℕ → List ℕ
content_of before behind s = back_of (length (front_of behind s) - before) (front_of behind s)

-- the problem with a prefix after these tokens, n bytes before the end of the text
abbrev pub prefix_problem_of : List Token → List ℕ → ℕ → Problem
prefix_problem_of ts text n = if is_behind_code_of 5 (reverse ts) (front_of n text) then UnknownPrefixBehindString else UnknownPrefix

-- what is wrong with a token at the front of s
abbrev pub problems_of : List Token → List ℕ → List ℕ → Check → List Problem
problems_of ts text s No = []
problems_of ts text s (Is p) = p ∷ []
problems_of ts text s Prefix = prefix_problem_of ts text (length s) ∷ []
problems_of ts text s (Content m before behind) = content_problems m (content_of before behind s)

-- what the lexer holds, and the rest of the text
pub record Lexing : Type 0 where
  pub tokens : List Token
  pub errors : List LexError
  pub rest : List ℕ

abbrev pub lexing_of : Lexed → List ℕ → Lexing
lexing_of l r = record { tokens = l.tokens.items; errors = l.errors.items; rest = r }

-- one token is taken from the front of the rest
abbrev pub taken : List ℕ → Shape → Lexing → Lexing
taken text t s = record {
  tokens = s.tokens ++ (record { kind = t.kind; len = size_of (length (front_of t.left s.rest)) }) ∷ [];
  errors = faults_at (range_of (length text) (length s.rest) (length (back_of t.left s.rest))) (problems_of s.tokens text s.rest t.check) s.errors;
  rest = back_of t.left s.rest;
}

abbrev pub taken_some : List ℕ → SyntaxKind → Option ℕ → Lexing → Lexing
taken_some text k None s = s
taken_some text k (Some n) s = if length s.rest == 0 then s else taken text (plain_of k n) s

-- the shebang is of kind OTHER 1, the front matter of kind OTHER 0
abbrev pub taken_prelude : List ℕ → Prelude → Lexing → Lexing
taken_prelude text p s = taken_some text (OTHER 0) p.front_matter (taken_some text (OTHER 1) p.shebang s)

abbrev pub taken_head_on : Edition → List ℕ → Lexing → Option Prelude → Lexing
taken_head_on e text s (Some p) = taken_prelude text p s
taken_head_on e text s None = taken_some text (OTHER 1) (shebang_of e text) s

unfoldable pub taken_head : Edition → List ℕ → Lexing → Lexing
taken_head e text s = taken_head_on e text s (prelude_of text)

-- at most n tokens are taken
unfoldable pub steps_of : ℕ → Edition → List ℕ → Lexing → Lexing
steps_of zero e text s = s
steps_of (suc n) e text s = if length s.rest == 0 then s else steps_of n e text (taken text (token_of e s.rest) s)

abbrev pub fresh : List ℕ → Lexing
fresh text = record { tokens = []; errors = []; rest = text }

abbrev pub last_of : Edition → List ℕ → Lexing
last_of e text = steps_of (length text) e text (taken_head e text (fresh text))

-- the tokens of a text, and the errors
abbrev pub tokens_of : Edition → List ℕ → List Token
tokens_of e text = (last_of e text).tokens

abbrev pub errors_of : Edition → List ℕ → List LexError
errors_of e text = (last_of e text).errors
