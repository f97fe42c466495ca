-- How the machine sees tokens whose kinds are those of the grammar.
use Rattle.std.specs.Prelude.{ℕ, ◌==◌, if◌then◌else◌, Option, Some, None, List, [], ◌∷◌, ◌++◌, slice_get}
use Rattle.syntax_kind.specs.declared.syntax_kind.SyntaxKind.{SyntaxKind}
use Rattle.syntax_kind.specs.declared.syntax_kind.SyntaxKind.TheVariants.{Token}
use Rattle.syntax_kind.specs.declared.syntax_kind.token_kind.TokenKind.TheVariants as token
use Rattle.syntax_kind.specs.Kinds.{kind_raw, is_trivia}
use Rattle.token_layout.specs.declared.span.Token.{Token as LexedToken}
use Rattle.grammar_machine.specs.declared.grammar.Sight.{Sight}

abbrev pub number_or_0 : Option ℕ → ℕ
number_or_0 None = 0
number_or_0 (Some n) = n

abbrev pub number_in : List ℕ → SyntaxKind → ℕ
number_in numbers k = number_or_0 (slice_get numbers (kind_raw k))

-- a kind that the grammar does not know is seen as an error
abbrev pub number_of : List ℕ → SyntaxKind → ℕ
number_of numbers k = if number_in numbers k == 0 then number_in numbers (Token token.ERROR) else number_in numbers k

abbrev pub sight_of : List ℕ → SyntaxKind → Sight
sight_of numbers k = record { one = number_of numbers k; two = 0; three = 0; word = 0 }

-- trivia are not seen
abbrev pub seen_of : List ℕ → SyntaxKind → List Sight
seen_of numbers k = if is_trivia k then [] else sight_of numbers k ∷ []

abbrev pub sights_by : List ℕ → List LexedToken → List Sight
sights_by numbers [] = []
sights_by numbers (t ∷ ts) = seen_of numbers t.kind ++ sights_by numbers ts
