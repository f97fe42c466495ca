-- How many siblings a placeholder for a list takes.
use Rattle.std.specs.Prelude.{ℕ, zero, suc, Bool, true, false, not, ◌||◌, if◌then◌else◌, List, [], ◌∷◌, Option, Some, None, option_map}
use Rattle.std.specs.Option.{option_and_then}
use Rattle.syntax_kind.specs.declared.syntax_kind.TheConstants.SyntaxKind.{COMMA}
use Rattle.syntax_kind.specs.Kinds.{is_trivia, is_same_kind}
use Rattle.tree_model.specs.Tree.{Tree, node, token, Forest, nil, cons, kind_of, is_token}
use Rattle.lossless_tree.specs.Trees.{Siblings, behind_first}
use Rattle.tree_match.specs.declared.bare.Comments.{Comments}
use Rattle.tree_match.specs.declared.part.Comma.{Comma}
use Rattle.tree_match.specs.declared.part.Comma.TheVariants as comma
use Rattle.tree_match.specs.Bare.{past, is_token_of, without_comma}
use Rattle.tree_match.specs.Runs.{run_of, behind_run}

-- more than so many of some trees are nodes
abbrev pub has_more : ℕ → Forest → Bool
has_more n nil = false
has_more n (cons (token k t) r) = has_more n r
has_more zero (cons (node k c) r) = true
has_more (suc n) (cons (node k c) r) = has_more n r

-- a node is an element of a list; between elements are commas, white space and comments, which are
-- part of the run
abbrev pub is_listed : Tree → Bool
is_listed t = not (is_token t) || (is_trivia (kind_of t) || is_same_kind (kind_of t) COMMA)

-- How many trees there are up to the last node but so many; none where something else is between
-- the elements.
abbrev pub extent : ℕ → Forest → Option ℕ
extent behind nil = Some 0
extent behind (cons t r) =
    if has_more behind (cons t r)
    then (if is_listed t then option_map suc (extent behind r) else None)
    else Some 0

-- the siblings behind a comma, which has to be there
abbrev pub behind_comma : Comments → Siblings → Option Siblings
behind_comma cs s =
    if is_token_of COMMA (past cs s).trees then Some (past cs (behind_first (past cs s))) else None

-- the siblings from a list on that is not empty, and those behind it: without the comma that goes
-- with it
abbrev pub opened : Comments → Comma → Siblings → Option Siblings
opened cs comma.Before s = behind_comma cs s
opened cs comma.Behind s = Some s
opened cs comma.Nowhere s = Some s

abbrev pub closed : Comments → Comma → Siblings → Option Siblings
closed cs comma.Before s = Some s
closed cs comma.Behind s = behind_comma cs s
closed cs comma.Nowhere s = Some s

-- the first siblings, and those behind them; a comma at the end of a list does not count
abbrev pub cut : Comments → Comma → Siblings → ℕ → Option (Siblings × Siblings)
cut cs c s n =
    option_map (λ rest. (run_of (Some n) s, rest)) (closed cs c (without_comma cs (behind_run n s)))

abbrev pub listed : Comments → Comma → ℕ → Siblings → Option (Siblings × Siblings)
listed cs c behind s = option_and_then (cut cs c s) (extent behind s.trees)

-- the elements of a list that leave so many nodes, and what is behind them; none, if there are no
-- more nodes
abbrev pub list_at : Comments → Comma → ℕ → Siblings → Option (Siblings × Siblings)
list_at cs c behind here =
    if has_more behind here.trees
    then option_and_then (listed cs c behind) (opened cs c here)
    else Some (run_of (Some 0) here, here)

-- what a list takes on the innermost level, and the levels behind it
abbrev pub taken_list : Comments → Comma → ℕ → List Siblings → Option (Siblings × List Siblings)
taken_list cs c behind [] = None
taken_list cs c behind (s ∷ below) =
    option_map (λ p. (p.0, p.1 ∷ below)) (list_at cs c behind (past cs s))
