-- The level of a line: how many steps of 4 characters its white space has.
-- (Upstream: rust-analyzer's `ast::edit::IndentLevel`.)
use Rattle.std.specs.Prelude.{ℕ, suc, ◌/◌, ◌==◌, Bool, if◌then◌else◌, List, [], ◌∷◌, Option, None, Some, nat_lt, codes}
use Rattle.std.specs.List.{list_any, find, repeat}
use Rattle.std.specs.Str.{chars}
use Rattle.syntax_kind.specs.declared.syntax_kind.SyntaxKind.{SyntaxKind}
use Rattle.syntax_kind.specs.Kinds.{is_same_kind}
use Rattle.syntax_kind.specs.declared.syntax_kind.TheConstants.SyntaxKind.{WHITESPACE}
use Rattle.lossless_tree.specs.declared.cursor.element.NodeOrToken.{NodeOrToken}
use Rattle.lossless_tree.specs.declared.cursor.element.NodeOrToken.TheVariants.{Node, Token}
use Rattle.tree_model.specs.declared.direction.Direction.TheVariants.{Prev}
use Rattle.tree_model.specs.Tree.{Tree, node, token}
use Rattle.tree_model.specs.Cursor.{Cursor, focus, at_token, descendants_of}
use Rattle.tree_model.specs.NearestToken.{tokens_beyond}

-- there are no levels past 255
abbrev pub capped : ℕ → ℕ
capped n = if nat_lt n 255 then n else 255

-- 4 blanks for each level
abbrev pub blanks : ℕ → List ℕ
blanks levels = repeat levels (codes "    ")

-- the character `\n`
abbrev pub is_newline : ℕ → Bool
is_newline c = c == 10

-- how many characters are behind the last newline of a text, if n are before it on its first line
abbrev pub column : ℕ → List ℕ → ℕ
column n [] = n
column n (c ∷ cs) = column (if is_newline c then 0 else suc n) cs

-- the level that a token tells: white space with a newline
abbrev pub space_level : List ℕ → Option ℕ
space_level cs = if list_any is_newline cs then Some (capped (column 0 cs / 4)) else None

abbrev pub level_by : SyntaxKind → List ℕ → Option ℕ
level_by k t = if is_same_kind k WHITESPACE then space_level (chars t) else None

abbrev pub line_level : Tree → Option ℕ
line_level (node k c) = None
line_level (token k t) = level_by k t

-- the first that is told, and 0 if none is
abbrev pub told_or : Option ℕ → ℕ → ℕ
told_or None n = n
told_or (Some l) n = l

abbrev pub first_level : List Cursor → ℕ
first_level [] = 0
first_level (c ∷ cs) = told_or (line_level (focus c)) (first_level cs)

-- a token and the tokens before it, the nearest first
abbrev pub tokens_back : Option Cursor → List Cursor
tokens_back None = []
tokens_back (Some c) = c ∷ tokens_beyond Prev c

-- the level of the line that a token begins in; a node, at its first token
abbrev pub level_at : Cursor → ℕ
level_at c = first_level (tokens_back (Some c))

abbrev pub level_in : Cursor → ℕ
level_in c = first_level (tokens_back (find at_token (descendants_of c)))

abbrev pub level_of : NodeOrToken Cursor Cursor → ℕ
level_of (Node c) = level_in c
level_of (Token c) = level_at c
