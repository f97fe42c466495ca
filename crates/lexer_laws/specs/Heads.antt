-- Texts at whose head there is neither a shebang nor a front matter.
use Rattle.std.specs.Prelude.{◌≡◌, ℕ, nat_lt, nat_eq, Bool, false, not, ◌||◌, ◌&&◌, if◌then◌else◌, IsUtf8, Option, Some, None, List, [], ◌∷◌, ◌++◌, slice_get}
use Rattle.ras_front_end.specs.declared.edition.Edition.{Edition}
use Rattle.rust_lexer.specs.Lexing.{taken_head, fresh}
use Rattle.lexer_laws.specs.Behind.{IsBrace}

-- neither a shebang nor a front matter is at the head of the text
abbrev pub HasNoHead : Edition → List ℕ → Type 0
HasNoHead e text = taken_head e text (fresh text) ≡ fresh text

abbrev pub is_byte : ℕ → Option ℕ → Bool
is_byte b None = false
is_byte b (Some c) = nat_eq c b

-- `#!` and no `[`
abbrev pub may_be_shebang : List ℕ → Bool
may_be_shebang s = is_byte 35 (slice_get s 0) && (is_byte 33 (slice_get s 1) && not (is_byte 91 (slice_get s 2)))

abbrev pub is_visible : ℕ → Bool
is_visible b = nat_lt 32 b && nat_lt b 127

-- a dash is the first visible character of ASCII
abbrev pub may_be_fence : List ℕ → Bool
may_be_fence [] = false
may_be_fence (b ∷ s) = if is_visible b then nat_eq b 45 else may_be_fence s

abbrev pub may_have_head : List ℕ → Bool
may_have_head s = may_be_shebang s || may_be_fence s

-- a text that passes this test has no head
abbrev pub PlainTextsHaveNoHead : Type 0
PlainTextsHaveNoHead = (e : Edition) (text : List ℕ) → IsUtf8 text → may_have_head text ≡ false → HasNoHead e text

-- the test does not depend on what follows a brace
abbrev pub HeadsEndBeforeBraces : Type 0
HeadsEndBeforeBraces = (a u v : List ℕ) (b : ℕ) → IsBrace b → may_have_head (a ++ b ∷ u) ≡ may_have_head (a ++ b ∷ v)
