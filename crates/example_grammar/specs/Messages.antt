-- The parser's messages. Written by tools/grammar from arithmetic.grammar.
use Rattle.std.specs.Prelude.{ℕ, ◌==◌, if◌then◌else◌, List, [], codes}

-- the message of an error by its number; no text where no error has it
abbrev pub message_of : ℕ → List ℕ
message_of n =
    if n == 0 then codes "expected EQ" else (
    if n == 1 then codes "expected SEMICOLON" else (
    if n == 2 then codes "expected a statement" else (
    if n == 3 then codes "expected a name" else (
    if n == 4 then codes "expected R_PAREN" else (
    if n == 5 then codes "expected an expression" else (
    if n == 6 then codes "expected an argument" else (
    if n == 7 then codes "expected COMMA" else (
    if n == 8 then codes "expected the end" else (
    [])))))))))
