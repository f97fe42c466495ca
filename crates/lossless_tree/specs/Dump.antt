-- How a tree prints: a line for each node and token, in preorder. (Upstream: the text that `{:#?}`
-- gives of a `rowan` `SyntaxNode`, with this crate's format for the tokens' texts.)
use Rattle.std.specs.Prelude.{ℕ, ◌-◌, ◌*◌, List, [], ◌∷◌, ◌++◌, length, codes, encode_utf8, replicate, ◌==◌, ◌||◌, ◌&&◌, Bool, not, nat_le, nat_lt, if◌then◌else◌}
use Rattle.std.specs.Char.{len_utf8}
use Rattle.std.specs.Fmt.{digits}
use Rattle.std.proofs.Common.{false}
use Rattle.std.specs.List.{flat_map}
use Rattle.std.specs.Str.{chars}
use Rattle.syntax_kind.specs.Kinds.{kind_name}
use Rattle.text_size.specs.TextRange.{range_text}
use Rattle.tree_model.specs.Tree.{Tree, node, token, kind_of, text}
use Rattle.tree_model.specs.Cursor.{Cursor, focus, range_of, level_below, descendants_of}

-- a character as it is between the quotes: `"` and `\` after a backslash, newline, carriage return,
-- tab and NUL by their letters, every other control byte as `\u{h}` with its number h in
-- hexadecimal, all else as it is
abbrev pub escaped : ℕ → List ℕ
escaped c =
    if c == 34 then codes "\\\""
    else (if c == 92 then codes "\\\\"
    else (if c == 10 then codes "\\n"
    else (if c == 13 then codes "\\r"
    else (if c == 9 then codes "\\t"
    else (if c == 0 then codes "\\0"
    else (if nat_lt c 32 || (c == 127) then codes "\\u{" ++ digits 16 false c ++ codes "}"
    else encode_utf8 c))))))

-- a character that needs no escape between the quotes
abbrev pub is_plain : ℕ → Bool
is_plain c = nat_le 32 c && not (c == 34) && not (c == 92) && not (c == 127)

-- the shortest prefix of some characters that has at least n bytes
abbrev pub shortest_front : ℕ → List ℕ → List ℕ
shortest_front n [] = []
shortest_front n (c ∷ cs) = if n == 0 then [] else (c ∷ shortest_front (n - len_utf8 c) cs)

-- the part of a text that is shown: all of one of fewer than 25 bytes; of a longer one the prefix
-- that ends at the first character boundary from byte 21 on, and three dots
abbrev pub shown : List ℕ → List ℕ
shown t =
    if nat_lt (length t) 25 then flat_map escaped (chars t)
    else (flat_map escaped (shortest_front 21 (chars t)) ++ codes " ...")

abbrev pub quoted : List ℕ → List ℕ
quoted t = codes "\"" ++ shown t ++ codes "\""

-- a token's line ends with its text
abbrev pub shown_text : Tree → List ℕ
shown_text (node k c) = []
shown_text (token k t) = codes " " ++ quoted t

-- `KIND@start..end`: the node or token at a cursor, its text aside. So a node prints for
-- programmers
abbrev pub span_text : Cursor → List ℕ
span_text c = kind_name (kind_of (focus c)) ++ codes "@" ++ range_text (range_of c)

-- the same with the text between quotes. So a token prints for programmers
abbrev pub token_line : Cursor → List ℕ
token_line c = span_text c ++ codes " " ++ quoted (text (focus c))

-- the line of a node or token at a level below the one that is dumped
abbrev pub dump_line : ℕ → Cursor → List ℕ
dump_line level c = replicate (2 * level) 32 ++ span_text c ++ shown_text (focus c) ++ codes "\n"

-- the dump of the subtree at a cursor: the lines of its places in preorder
abbrev pub dump_of : Cursor → List ℕ
dump_of c = flat_map (λ d. dump_line (level_below c d) d) (descendants_of c)
