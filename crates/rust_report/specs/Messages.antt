-- Messages of the parser in the signs and words of the language.
use Rattle.std.specs.Prelude.{ℕ, ◌==◌, List, [], ◌∷◌, Option, Some, None, codes, if◌then◌else◌}
use Rattle.std.specs.Cmp.Lexicographic.{pointwise}

-- the second text of the first row that begins with this message
abbrev pub said_in : List (List ℕ × List ℕ) → List ℕ → Option (List ℕ)
said_in [] m = None
said_in (r ∷ rs) m = if pointwise ◌==◌ m r.0 then Some r.1 else said_in rs m

abbrev pub first_signs : List (List ℕ × List ℕ)
first_signs =
    (codes "expected R_BRACK", codes "expected `]`")
    ∷ (codes "expected L_BRACK", codes "expected `[`")
    ∷ (codes "expected L_PAREN", codes "expected `(`")
    ∷ (codes "expected R_PAREN", codes "expected `)`")
    ∷ (codes "expected COMMA", codes "expected `,`")
    ∷ (codes "expected R_CURLY", codes "expected `}`")
    ∷ (codes "expected BANG", codes "expected `!`")
    ∷ (codes "expected R_ANGLE", codes "expected `>`")
    ∷ []

abbrev pub other_signs : List (List ℕ × List ℕ)
other_signs =
    (codes "expected COLON", codes "expected `:`")
    ∷ (codes "expected CONST_KW", codes "expected `const`")
    ∷ (codes "expected PIPE", codes "expected `|`")
    ∷ (codes "expected EQ", codes "expected `=`")
    ∷ (codes "expected DOT2", codes "expected `..`")
    ∷ (codes "expected IN_KW", codes "expected `in`")
    ∷ (codes "expected FAT_ARROW", codes "expected `=>`")
    ∷ (codes "expected DOT", codes "expected `.`")
    ∷ (codes "expected STRING", codes "expected a string")
    ∷ []

abbrev pub first_words : List (List ℕ × List ℕ)
first_words =
    (codes "expected SEMICOLON", codes "expected `;`")
    ∷ (codes "expected COMMA, got %", codes "expected `,`, got `%`")
    ∷ (codes "expected colon", codes "expected `:`")
    ∷ (codes "expected comma", codes "expected `,`")
    ∷ (codes "expected expression", codes "expected an expression")
    ∷ (codes "expected expression, item or let statement", codes "expected an expression, an item or a `let` statement")
    ∷ (codes "expected type", codes "expected a type")
    ∷ (codes "expected pattern", codes "expected a pattern")
    ∷ []

abbrev pub other_words : List (List ℕ × List ℕ)
other_words =
    (codes "expected identifier", codes "expected an identifier")
    ∷ (codes "expected ident", codes "expected an identifier")
    ∷ (codes "expected lifetime", codes "expected a lifetime")
    ∷ (codes "expected match arm", codes "expected an arm of `match`")
    ∷ (codes "expected field name or number", codes "expected the name or number of a field")
    ∷ (codes "expected fn, trait or impl", codes "expected `fn`, `trait` or `impl`")
    ∷ []

abbrev pub or_else : Option (List ℕ) → Option (List ℕ) → Option (List ℕ)
or_else (Some s) o = Some s
or_else None o = o

abbrev pub or_same : Option (List ℕ) → List ℕ → List ℕ
or_same (Some s) m = s
or_same None m = m

-- the text for a message, if there is one, else the message
abbrev pub plain_message : List ℕ → List ℕ
plain_message m = or_same (or_else (said_in first_signs m) (or_else (said_in other_signs m) (or_else (said_in first_words m) (said_in other_words m)))) m
