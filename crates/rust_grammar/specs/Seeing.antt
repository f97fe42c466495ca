-- How the machine sees tokens. Sources: the Rust Reference, "Tokens", on punctuation; "Keywords",
-- on weak keywords; "Tuple indexing expressions".
use Rattle.std.specs.Prelude.{ℕ, ◌+◌, ◌*◌, ◌-◌, ◌==◌, Bool, false, ◌||◌, nat_lt, nat_le, if◌then◌else◌, Option, Some, None, List, [], ◌∷◌, ◌++◌, reverse, take, drop, slice_get}
use Rattle.std.specs.List.{list_any}
use Rattle.syntax_kind.specs.declared.syntax_kind.SyntaxKind.{SyntaxKind}
use Rattle.syntax_kind.specs.Kinds.{kind_raw}
use Rattle.ras_front_end.specs.declared.edition.Edition.{Edition}
use Rattle.token_layout.specs.declared.span.Token.{Token}
use Rattle.rust_kinds.specs.Contextual.{contextual_keyword_of}
use Rattle.grammar_machine.specs.declared.grammar.Sight.{Sight}
use Rattle.rust_grammar.specs.declared.tables.kind_table.TheConstants.{TOKENS, OTHERS, WORD_TOKENS, WORD_OTHERS, IDENT, FLOAT_NUMBER, FLOAT_PAIR, FLOAT_DOT}
use Rattle.rust_grammar.specs.declared.tables.joint_table.TheConstants.{FIRST_SIGN, SIGNS, JOINTS}

abbrev pub byte_or_0 : Option ℕ → ℕ
byte_or_0 None = 0
byte_or_0 (Some b) = b

-- what a pair of tables has for a kind: one is by the kinds with a name, one by n of OTHER(n)
abbrev pub in_tables : List ℕ → List ℕ → SyntaxKind → ℕ
in_tables named others k =
    if nat_lt (kind_raw k) 65536 then byte_or_0 (slice_get named (kind_raw k)) else byte_or_0 (slice_get others (kind_raw k - 65536))

-- the small number of a token's kind; 0 for trivia
abbrev pub number_of : SyntaxKind → ℕ
number_of k = in_tables TOKENS OTHERS k

abbrev pub number_on : Option Token → ℕ
number_on None = 0
number_on (Some t) = number_of t.kind

-- what a token and a sign right after it make together, or 0
abbrev pub joined_of : ℕ → ℕ → ℕ
joined_of left sign =
    if nat_lt sign FIRST_SIGN || nat_le SIGNS (sign - FIRST_SIGN) then 0 else byte_or_0 (slice_get JOINTS (left * SIGNS + (sign - FIRST_SIGN)))

abbrev pub is_dot : Option ℕ → Bool
is_dot None = false
is_dot (Some b) = b == 46

abbrev pub first_of : List ℕ → Option ℕ
first_of [] = None
first_of (b ∷ bs) = Some b

-- a number with a dot: what may be `1.2`, and `1.`
abbrev pub shape_of : List ℕ → ℕ
shape_of number = if is_dot (first_of (reverse number)) then FLOAT_DOT else (if list_any (λ b. b == 46) number then FLOAT_PAIR else 0)

abbrev pub word_on : Option SyntaxKind → ℕ
word_on None = 0
word_on (Some k) = in_tables WORD_TOKENS WORD_OTHERS k

-- what a token is besides, by its kind's number and its text
abbrev pub finer_of : Edition → ℕ → List ℕ → ℕ
finer_of e one text =
    if one == IDENT then word_on (contextual_keyword_of e text) else (
    if one == FLOAT_NUMBER then shape_of text else 0)

-- a token with the two after it, by their numbers
abbrev pub sight_of : Edition → List ℕ → ℕ → ℕ → ℕ → Sight
sight_of e text one second third = record { one = one; two = joined_of one second; three = joined_of (joined_of one second) third; word = finer_of e one text }

abbrev pub seen_of : Edition → List ℕ → ℕ → ℕ → ℕ → List Sight
seen_of e text one second third = if one == 0 then [] else sight_of e text one second third ∷ []

-- the tokens of a text that are no trivia
abbrev pub sights_of : Edition → List ℕ → List Token → List Sight
sights_of e text [] = []
sights_of e text (t ∷ ts) =
    seen_of e (take t.len text) (number_of t.kind) (number_on (slice_get ts 0)) (number_on (slice_get ts 1)) ++ sights_of e (drop t.len text) ts
