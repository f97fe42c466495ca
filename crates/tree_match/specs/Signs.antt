-- What tells most nodes from a pattern at once: the word of a method, a field or a path, or the
-- first token.
use Rattle.std.specs.Prelude.{ℕ, suc, ◌-◌, ◌==◌, Bool, true, false, not, ◌&&◌, ◌||◌, if◌then◌else◌, List, [], ◌∷◌, Option, Some, None}
use Rattle.syntax_kind.specs.declared.syntax_kind.SyntaxKind.{SyntaxKind}
use Rattle.syntax_kind.specs.declared.syntax_kind.TheConstants.SyntaxKind.{NAME_REF, PAREN_EXPR, COMMA, DOT}
use Rattle.syntax_kind.specs.Kinds.{is_trivia, is_same_kind}
use Rattle.tree_model.specs.Tree.{Tree, Forest, nil, cons, kind_of, text, is_token, forest_of_children}
use Rattle.tree_match.specs.declared.part.Part.{Part}
use Rattle.tree_match.specs.declared.part.Part.TheVariants as part
use Rattle.tree_match.specs.declared.part.Sort.{Sort}
use Rattle.tree_match.specs.declared.part.Sort.TheVariants as sort
use Rattle.tree_match.specs.Bare.{Step, leave, leaf, end, is_end}
use Rattle.tree_match.specs.Walks.{is_part}

-- a token of this kind tells nothing: it is passed over, or each call of a method has it
abbrev pub is_plain : SyntaxKind → Bool
is_plain k = (is_trivia k || is_same_kind k COMMA) || is_same_kind k DOT

-- ---- of a node

-- the first of some trees that is no white space or comment, if it is a token
abbrev pub word_at : Tree → Step → Step
word_at t rest = if is_token t then (if is_trivia (kind_of t) then rest else leaf (kind_of t) (text t)) else end

abbrev pub word_of : Forest → Step
word_of nil = end
word_of (cons t r) = word_at t (word_of r)

-- a tree may be the sign, or is the node of a name, whose word is; a pair of parentheses may be
-- round a name
abbrev pub is_sign : Tree → Bool
is_sign t =
    if is_token t then not (is_plain (kind_of t))
    else is_same_kind (kind_of t) PAREN_EXPR || is_same_kind (kind_of t) NAME_REF

-- the sign that such a tree is; the end if that is not known
abbrev pub sign_here : Tree → Step
sign_here t =
    if is_token t then leaf (kind_of t) (text t)
    else (if is_same_kind (kind_of t) NAME_REF then word_of (forest_of_children t) else end)

-- the first token of some trees that tells something, or the word of a name, whichever is first;
-- the end of the node if there is none
abbrev pub sign_of : Forest → Step
sign_of nil = leave
sign_of (cons t r) = if is_sign t then sign_here t else sign_of r

-- ---- of a pattern

-- the token that is first among some parts
abbrev pub word_part : Part → Option Part
word_part (part.Token k s) = if is_trivia k then None else Some (part.Token k s)
word_part (part.Enter k) = None
word_part part.Leave = None
word_part (part.Hole n o) = None
word_part (part.List n c behind) = None

abbrev pub word_in : List Part → Option Part
word_in [] = None
word_in (p ∷ ps) = word_part p

-- a placeholder for a word stands for a token
abbrev pub is_word_sort : Sort → Bool
is_word_sort sort.Word = true
is_word_sort sort.Expr = false
is_word_sort sort.Ty = false
is_word_sort sort.Pat = false
is_word_sort sort.Path = false
is_word_sort sort.List = false

-- How many nodes a part is in, and the next one.
abbrev pub depth_behind : Part → ℕ → ℕ
depth_behind (part.Enter k) d = suc d
depth_behind part.Leave d = d - 1
depth_behind (part.Token k s) d = d
depth_behind (part.Hole n o) d = d
depth_behind (part.List n c behind) d = d

-- a part in no node tells the sign, or may have any
abbrev pub is_told : Part → Bool
is_told (part.Enter k) = is_same_kind k NAME_REF
is_told (part.Token k s) = not (is_plain k)
is_told (part.Hole n o) = is_word_sort o
is_told part.Leave = true
is_told (part.List n c behind) = true

-- the sign that such a part tells, by the parts behind it
abbrev pub told : Part → List Part → Option Part
told (part.Enter k) ps = word_in ps
told (part.Token k s) ps = Some (part.Token k s)
told (part.Hole n o) ps = None
told part.Leave ps = None
told (part.List n c behind) ps = None

-- the sign of parts that are in d nodes
abbrev pub sign_in : ℕ → List Part → Option Part
sign_in d [] = None
sign_in d (p ∷ ps) = if d == 0 && is_told p then told p ps else sign_in (depth_behind p d) ps

-- the signs do not differ, or one is not known
abbrev pub fits : Option Part → Step → Bool
fits None x = true
fits (Some p) x = is_end x || is_part p x
