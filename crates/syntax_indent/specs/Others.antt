-- What stays of a tree whose lines are shifted.
use Rattle.std.specs.Prelude.{◌≡◌, ◌+◌, ℕ, Bool, true, not, if◌then◌else◌, List, [], ◌∷◌, ◌++◌, filter, replicate}
use Rattle.std.specs.List.{list_all}
use Rattle.syntax_kind.specs.declared.syntax_kind.SyntaxKind.{SyntaxKind}
use Rattle.syntax_kind.specs.Kinds.{is_same_kind}
use Rattle.syntax_kind.specs.declared.syntax_kind.TheConstants.SyntaxKind.{WHITESPACE}
use Rattle.tree_model.specs.Tree.{node, token, Forest, nil, cons}
use Rattle.syntax_indent.specs.declared.shift.Shift.{Shift}
use Rattle.syntax_indent.specs.Shifted.{is_blank, shifted_forest, without_blanks}

-- the tokens that are not white space, in order: each kind with its text
abbrev pub other_tokens : Forest → List (SyntaxKind × List ℕ)
other_tokens nil = []
other_tokens (cons (token k t) r) = if is_same_kind k WHITESPACE then other_tokens r else ((k, t) ∷ other_tokens r)
other_tokens (cons (node k c) r) = other_tokens c ++ other_tokens r

-- they are the same after every shift
abbrev pub OtherTokensStay : Type 0
OtherTokensStay = (s : Shift) (f : Forest) → other_tokens (shifted_forest s f) ≡ other_tokens f

-- a character other than a blank
abbrev pub is_no_blank : ℕ → Bool
is_no_blank c = not (is_blank c)

-- what is left out of white space are blanks: its other characters are the same, in order
abbrev pub OnlyBlanksGo : Type 0
OnlyBlanksGo = (count left : ℕ) (cs : List ℕ) → filter is_no_blank (without_blanks count left cs) ≡ filter is_no_blank cs

-- the characters of n blanks behind a newline
abbrev pub line_of_blanks : ℕ → List ℕ
line_of_blanks n = 10 ∷ replicate n 32

-- blanks that were put at the end of white space are left out again, and no others: the lines
-- before its last one have none
abbrev pub DedentUndoesIndent : Type 0
DedentUndoesIndent = (more own : ℕ) (lines : List ℕ) → list_all is_no_blank lines ≡ true
    → without_blanks more 0 (lines ++ line_of_blanks (more + own)) ≡ lines ++ line_of_blanks own
