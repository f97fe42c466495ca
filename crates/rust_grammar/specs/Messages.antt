-- The parser's messages. Written by tools/grammar from rust.grammar.
use Rattle.std.specs.Prelude.{ℕ, ◌==◌, nat_lt, if◌then◌else◌, List, [], ◌∷◌, ◌++◌, codes}

abbrev pub part_0_of : ℕ → List ℕ
part_0_of n =
    if n == 0 then codes "expected a name" else (
    if n == 1 then codes "expected R_BRACK" else (
    if n == 2 then codes "expected L_BRACK" else (
    if n == 3 then codes "expected L_PAREN" else (
    if n == 4 then codes "expected R_PAREN" else (
    if n == 5 then codes "expected a predicate" else (
    if n == 6 then codes "expected COMMA" else (
    if n == 7 then codes "expected a string" else (
    if n == 8 then codes "expected expression" else (
    if n == 9 then codes "unmatched brace" else (
    if n == 10 then codes "unmatched `}`" else (
    if n == 11 then codes "expected R_CURLY" else (
    if n == 12 then codes "expected BANG" else (
    if n == 13 then codes "expected `{`, `[`, `(`" else (
    if n == 14 then codes "expected a trait" else (
    if n == 15 then codes "expected R_ANGLE" else (
    if n == 16 then codes "expected `::`" else (
    if n == 17 then codes "expected identifier, `self`, `super`, `crate`, or `Self`" else (
    if n == 18 then codes "expected type" else (
    if n == 19 then codes "expected generic argument" else (
    if n == 20 then codes "missing associated item binding" else (
    if n == 21 then codes "expected a generic const argument" else (
    if n == 22 then codes "expected generic parameter" else (
    if n == 23 then codes "missing type for const parameter" else (
    if n == 24 then codes "expected lifetime" else (
    [])))))))))))))))))))))))))

abbrev pub part_1_of : ℕ → List ℕ
part_1_of n =
    if n == 25 then codes "expected COLON" else (
    if n == 26 then codes "expected identifier or lifetime" else (
    if n == 27 then codes "expected identifier or `Self`" else (
    if n == 28 then codes "expected CONST_KW" else (
    if n == 29 then codes "unexpected `!` in type path, macro calls are not allowed here" else (
    if n == 30 then codes "expected `<`" else (
    if n == 31 then codes "expected comma" else (
    if n == 32 then codes "expected colon" else (
    if n == 33 then codes "expected mut or const in raw pointer type (use `*mut T` or `*const T` as appropriate)" else (
    if n == 34 then codes "expected a function pointer or path" else (
    if n == 35 then codes "expected type, found `{`" else (
    if n == 36 then codes "missing type" else (
    if n == 37 then codes "expected `;` or `]`" else (
    if n == 38 then codes "expected `fn`" else (
    if n == 39 then codes "expected parameters" else (
    if n == 40 then codes "expected PIPE" else (
    if n == 41 then codes "expected value parameter" else (
    if n == 42 then codes "expected `,`" else (
    if n == 43 then codes "missing type for function parameter" else (
    if n == 44 then codes "expected pattern" else (
    if n == 45 then codes "expected COMMA, got %" else (
    if n == 46 then codes "expected a pattern" else (
    if n == 47 then codes "expected ident" else (
    if n == 48 then codes "expected `:`" else (
    if n == 49 then codes "expected identifier" else (
    [])))))))))))))))))))))))))

abbrev pub part_2_of : ℕ → List ℕ
part_2_of n =
    if n == 50 then codes "expected method name, field name or number" else (
    if n == 51 then codes "expected argument list" else (
    if n == 52 then codes "illegal float literal" else (
    if n == 53 then codes "expected field name or number" else (
    if n == 54 then codes "expected EQ" else (
    if n == 55 then codes "expected DOT2" else (
    if n == 56 then codes "cannot use a comma after the base struct" else (
    if n == 57 then codes "expected a field" else (
    if n == 58 then codes "expected a curly brace" else (
    if n == 59 then codes "expected `|`" else (
    if n == 60 then codes "expected a block" else (
    if n == 61 then codes "expected IN_KW" else (
    if n == 62 then codes "expected a loop or block" else (
    if n == 63 then codes "expected `{`" else (
    if n == 64 then codes "expected match arm" else (
    if n == 65 then codes "expected FAT_ARROW" else (
    if n == 66 then codes "expected integer, identifier, `self`, `super`, `crate`, or `Self`" else (
    if n == 67 then codes "expected DOT" else (
    if n == 68 then codes "expected asm template" else (
    if n == 69 then codes "expected register name" else (
    if n == 70 then codes "expected asm operand" else (
    if n == 71 then codes "expected asm option" else (
    if n == 72 then codes "expected STRING" else (
    if n == 73 then codes "expected expression, item or let statement" else (
    if n == 74 then codes "expected SEMICOLON" else (
    [])))))))))))))))))))))))))

abbrev pub part_3_of : ℕ → List ℕ
part_3_of n =
    if n == 75 then codes "right curly brace `}` before `else` in a `let...else` statement not allowed" else (
    if n == 76 then codes "expected item, found `;`" ++ (10 ∷ []) ++ codes "consider removing this semicolon" else (
    if n == 77 then codes "expected an item" else (
    if n == 78 then codes "expected fn, trait or impl" else (
    if n == 79 then codes "expected `{` or `*`" else (
    if n == 80 then codes "expected one of `*`, `::`, `{`, `self`, `super` or an identifier" else (
    if n == 81 then codes "expected use tree" else (
    if n == 82 then codes "expected identifier or `self`" else (
    if n == 83 then codes "expected `;` or `{`" else (
    if n == 84 then codes "expected function arguments" else (
    if n == 85 then codes "missing thin-arrow `->`" else (
    if n == 86 then codes "expected `;`, `{`, or `(`" else (
    if n == 87 then codes "expected field" else (
    if n == 88 then codes "expected field declaration" else (
    if n == 89 then codes "expected tuple field" else (
    if n == 90 then codes "expected a type" else (
    if n == 91 then codes "expected enum variant" else (
    if n == 92 then codes "`static` may not have generic parameters" else (
    if n == 93 then codes "missing type for `static`" else (
    if n == 94 then codes "missing type for `const`" else (
    if n == 95 then codes "expected trait or type" else (
    if n == 96 then codes "unmatched `(`" else (
    []))))))))))))))))))))))

-- the message of an error by its number; no text where no error has it
abbrev pub message_of : ℕ → List ℕ
message_of n =
    if nat_lt n 25 then part_0_of n else (
    if nat_lt n 50 then part_1_of n else (
    if nat_lt n 75 then part_2_of n else (
    part_3_of n)))
