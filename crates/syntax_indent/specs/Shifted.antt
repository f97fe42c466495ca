-- A tree with more or fewer blanks behind the newlines of its white space.
-- (Upstream: rust-analyzer's `AstNodeEdit::indent` and `dedent`.)
use Rattle.std.specs.Prelude.{◌≤◌, ◌<◌, ◌^◌, ◌*◌, ◌-◌, ℕ, ◌==◌, ◌&&◌, Bool, if◌then◌else◌, List, [], ◌∷◌, ◌++◌, length, nat_lt, codes, encode_utf8_all, ⊤}
use Rattle.std.specs.List.{list_any}
use Rattle.std.specs.Str.{chars}
use Rattle.syntax_kind.specs.declared.syntax_kind.SyntaxKind.{SyntaxKind}
use Rattle.syntax_kind.specs.Kinds.{is_same_kind}
use Rattle.syntax_kind.specs.declared.syntax_kind.TheConstants.SyntaxKind.{WHITESPACE}
use Rattle.tree_model.specs.Tree.{Tree, node, token, Forest, nil, cons, text}
use Rattle.tree_model.specs.Events.{Event, enter, leaf, exit}
use Rattle.tree_model.specs.declared.error.FinishError.{FinishError}
use Rattle.tree_model.specs.declared.error.FinishError.TheVariants.{TooLong, OverClosed, Unclosed, Empty, ManyRoots, TokenRoot, ErrorPastText, Memory}
use Rattle.syntax_indent.specs.declared.shift.Shift.{Shift}
use Rattle.syntax_indent.specs.declared.shift.Shift.TheVariants.{More, Fewer}
use Rattle.syntax_indent.specs.Level.{is_newline, blanks}

-- the character of one blank
abbrev pub is_blank : ℕ → Bool
is_blank c = c == 32

-- what stays of a character where `left` blanks may be left out, and how many may be left out
-- behind it: `count` behind a newline
abbrev pub kept : ℕ → ℕ → List ℕ
kept left c = if is_blank c && nat_lt 0 left then [] else (c ∷ [])

abbrev pub left_after : ℕ → ℕ → ℕ → ℕ
left_after count left c = if is_newline c then count else (if is_blank c then left - 1 else 0)

-- the characters without the first `count` blanks behind each newline
abbrev pub without_blanks : ℕ → ℕ → List ℕ → List ℕ
without_blanks count left [] = []
without_blanks count left (c ∷ cs) = kept left c ++ without_blanks count (left_after count left c) cs

-- the text of white space: with blanks at its end, if it has a newline; and without blanks behind
-- its newlines
abbrev pub shifted_space : Shift → List ℕ → List ℕ
shifted_space (More levels) t = if list_any is_newline (chars t) then t ++ blanks levels else t
shifted_space (Fewer levels) t = encode_utf8_all (without_blanks (levels * 4) 0 (chars t))

-- the text of a token: other tokens stay
abbrev pub shifted_text : Shift → SyntaxKind → List ℕ → List ℕ
shifted_text s k t = if is_same_kind k WHITESPACE then shifted_space s t else t

-- the trees with each token's text shifted
abbrev pub shifted_forest : Shift → Forest → Forest
shifted_forest s nil = nil
shifted_forest s (cons (token k t) r) = cons (token k (shifted_text s k t)) (shifted_forest s r)
shifted_forest s (cons (node k c) r) = cons (node k (shifted_forest s c)) (shifted_forest s r)

abbrev pub shifted : Shift → Tree → Tree
shifted s (token k t) = token k (shifted_text s k t)
shifted s (node k c) = node k (shifted_forest s c)

-- the tree with this many levels more, and fewer
abbrev pub indented : ℕ → Tree → Tree
indented levels t = shifted (More levels) t

abbrev pub dedented : ℕ → Tree → Tree
dedented levels t = shifted (Fewer levels) t

-- the events that build it
abbrev pub shifted_event : Shift → Event → Event
shifted_event s (enter k) = enter k
shifted_event s (leaf k t) = leaf k (shifted_text s k t)
shifted_event s exit = exit

-- its text is not too long
abbrev pub IsShort : Tree → Type 0
IsShort t = length (text t) < 2 ^ 32

-- why a tree is not made: its text is too long, or memory ran out
abbrev pub IsNotMade : Tree → FinishError → Type 0
IsNotMade t TooLong = 2 ^ 32 ≤ length (text t)
IsNotMade t OverClosed = ⊥
IsNotMade t Unclosed = ⊥
IsNotMade t Empty = ⊥
IsNotMade t ManyRoots = ⊥
IsNotMade t TokenRoot = ⊥
IsNotMade t ErrorPastText = ⊥
IsNotMade t Memory = ⊤
