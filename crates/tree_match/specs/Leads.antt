-- What tells most calls from a pattern at once: the token with which they begin.
use Rattle.std.specs.Prelude.{Bool, not, ◌&&◌, if◌then◌else◌, List, [], ◌∷◌, Option, None}
use Rattle.syntax_kind.specs.declared.syntax_kind.TheConstants.SyntaxKind.{PAREN_EXPR}
use Rattle.syntax_kind.specs.Kinds.{is_trivia, is_same_kind}
use Rattle.tree_model.specs.Tree.{Forest, node, token, nil, cons, kind_of, text, is_token}
use Rattle.lossless_tree.specs.Trees.{is_done, first_of}
use Rattle.tree_match.specs.declared.part.Part.{Part}
use Rattle.tree_match.specs.declared.part.Part.TheVariants as part
use Rattle.tree_match.specs.Bare.{Step, leaf, end}
use Rattle.tree_match.specs.Signs.{word_part}

-- the first of some trees is a node, and no pair of parentheses
abbrev pub is_leading : Forest → Bool
is_leading f = (not (is_done f) && not (is_token (first_of f))) && not (is_same_kind (kind_of (first_of f)) PAREN_EXPR)

-- the first of some trees if it is a token, but for white space and comments; else the end, since
-- it is not known
abbrev pub lead_here : Forest → Step
lead_here f =
    if is_token (first_of f) && not (is_trivia (kind_of (first_of f))) then leaf (kind_of (first_of f)) (text (first_of f)) else end

-- the token with which the first of some trees begins
abbrev pub lead_of : Forest → Step
lead_of nil = end
lead_of (cons (token k t) r) = if is_trivia k then end else leaf k t
lead_of (cons (node k c) r) = if is_same_kind k PAREN_EXPR then end else lead_of c

-- the token with which a pattern begins
abbrev pub lead_in : List Part → Option Part
lead_in [] = None
lead_in (part.Enter k ∷ ps) = lead_in ps
lead_in (part.Leave ∷ ps) = None
lead_in (part.Token k s ∷ ps) = word_part (part.Token k s)
lead_in (part.Hole n o ∷ ps) = None
lead_in (part.List n c behind ∷ ps) = None
