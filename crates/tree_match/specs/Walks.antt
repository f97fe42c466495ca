-- A walk of a tree that can pass over a node at once: the siblings that are left on each level, the
-- innermost first.
use Rattle.std.specs.Prelude.{◌==◌, Bool, true, false, ◌&&◌, ◌||◌, if◌then◌else◌, List, [], ◌∷◌, Option, Some, None, string_bytes}
use Rattle.std.specs.Cmp.Lexicographic.{pointwise}
use Rattle.syntax_kind.specs.declared.syntax_kind.SyntaxKind.{SyntaxKind}
use Rattle.syntax_kind.specs.declared.syntax_kind.TheConstants.SyntaxKind.{IDENT, INT_NUMBER, SELF_KW, SELF_TYPE_KW, SUPER_KW, CRATE_KW, PATH}
use Rattle.syntax_kind.specs.Kinds.{is_same_kind}
use Rattle.ras_node.specs.Sets.{is_expr, is_ty, is_pat}
use Rattle.tree_model.specs.Tree.{Forest, text, kind_of, is_token}
use Rattle.lossless_tree.specs.Trees.{Siblings, is_done, first_of, behind_first, inside_first}
use Rattle.tree_match.specs.declared.bare.Comments.{Comments}
use Rattle.tree_match.specs.declared.part.Sort.{Sort}
use Rattle.tree_match.specs.declared.part.Sort.TheVariants as sort
use Rattle.tree_match.specs.declared.part.Part.{Part}
use Rattle.tree_match.specs.declared.part.Part.TheVariants as part
use Rattle.tree_match.specs.declared.walk.Walk.{Walk}
use Rattle.tree_match.specs.declared.walk.Seen.{Seen}
use Rattle.tree_match.specs.declared.walk.Seen.TheVariants as shown
use Rattle.tree_match.specs.Runs.{run_of}
use Rattle.tree_match.specs.Bare.{Step, enter, leave, leaf, end, past, bare, is_node_there, behind_one}

-- the kinds of the tokens of names
abbrev pub is_word : SyntaxKind → Bool
is_word k =
    ((((is_same_kind k IDENT || is_same_kind k INT_NUMBER) || is_same_kind k SELF_KW) || is_same_kind k SELF_TYPE_KW)
    || is_same_kind k SUPER_KW) || is_same_kind k CRATE_KW

-- the kinds of nodes, or of tokens, that a placeholder stands for
abbrev pub sort_has : Sort → SyntaxKind → Bool
sort_has sort.Expr k = is_expr k
sort_has sort.Ty k = is_ty k
sort_has sort.Pat k = is_pat k
sort_has sort.Path k = is_same_kind k PATH
sort_has sort.Word k = is_word k
sort_has sort.List k = false

-- the first of some siblings is a token, if a word is asked for, and else a node
abbrev pub is_there : Sort → Forest → Bool
is_there sort.Word f = is_token (first_of f)
is_there sort.Expr f = is_node_there f
is_there sort.Ty f = is_node_there f
is_there sort.Pat f = is_node_there f
is_there sort.Path f = is_node_there f
is_there sort.List f = is_node_there f

-- the levels of a walk, the innermost first; none are left without an innermost one
abbrev pub from_level : Option Siblings → List Siblings → List Siblings
from_level None around = []
from_level (Some s) around = s ∷ around

abbrev pub levels_of : Walk → List Siblings
levels_of w = from_level w.level w.around.items

-- the step at the first sibling that counts, and the levels behind it
abbrev pub step_at : Comments → Siblings → List Siblings → Step × List Siblings
step_at cs here below =
    if is_done here.trees then (leave, below)
    else (if is_token (first_of here.trees) then (leaf (kind_of (first_of here.trees)) (text (first_of here.trees)), behind_first here ∷ below)
    else (enter (kind_of (first_of (bare cs here).trees)), inside_first (bare cs here) ∷ (behind_one cs here ∷ below)))

abbrev pub advance : Comments → List Siblings → Step × List Siblings
advance cs [] = (end, [])
advance cs (s ∷ below) = step_at cs (past cs s) below

-- the next node, or token for a word, if that is of the sort, and the levels behind it
abbrev pub taken_at : Comments → Sort → Siblings → List Siblings → Option (Siblings × List Siblings)
taken_at cs sort here below =
    if is_there sort here.trees && sort_has sort (kind_of (first_of here.trees))
    then Some (run_of (Some 1) here, behind_one cs here ∷ below) else None

abbrev pub taken : Comments → Sort → List Siblings → Option (Siblings × List Siblings)
taken cs sort [] = None
taken cs sort (s ∷ below) = taken_at cs sort (past cs s) below

-- a step of the code
abbrev pub step_of : Seen → Step
step_of (shown.Enter k) = enter k
step_of shown.Leave = leave
step_of (shown.Token k s) = leaf k s.now
step_of shown.End = end

-- a step is that of a pattern
abbrev pub is_part : Part → Step → Bool
is_part (part.Enter k) (enter l) = is_same_kind k l
is_part part.Leave leave = true
is_part (part.Token k s) (leaf l t) = is_same_kind k l && pointwise ◌==◌ (string_bytes s) t
is_part _ _ = false
