-- Trees that are the same but for what does not count.
use Rattle.std.specs.Prelude.{◌≡◌, ◌<◌, ◌==◌, length, Option, Some, None, Bool, true, false, not, ◌&&◌, ◌||◌, if◌then◌else◌, List, [], ◌∷◌, ◌++◌}
use Rattle.std.specs.Cmp.Lexicographic.{pointwise}
use Rattle.syntax_kind.specs.Kinds.{is_same_kind}
use Rattle.tree_model.specs.Tree.{node, token, Forest, nil, cons, kind_of, text, is_token}
use Rattle.lossless_tree.specs.Trees.{Siblings, first_of, inside_first}
use Rattle.tree_match.specs.declared.bare.Comments.{Comments}
use Rattle.tree_match.specs.declared.bare.Comments.TheVariants.{Passed}
use Rattle.tree_match.specs.Bare.{Step, enter, leave, leaf, is_passed, is_pair, is_last_comma, is_element, bare, is_same_step}

-- the steps of the walk of some siblings, behind an element of a list or not; or, in a pair, of its
-- first node alone
abbrev pub steps : Comments → Bool → Bool → Forest → List Step
steps cs in_pair behind nil = []
steps cs true behind (cons (token k t) r) = steps cs true behind r
steps cs false behind (cons (token k t) r) =
    (if is_passed cs k || (behind && is_last_comma cs (cons (token k t) r)) then [] else leaf k t ∷ [])
    ++ steps cs false (behind && is_passed cs k) r
steps cs true behind (cons (node k c) r) =
    if is_pair cs (record { trees = cons (node k c) r; start = 0 }) then steps cs true false c else enter k ∷ (steps cs false false c ++ leave ∷ [])
steps cs false behind (cons (node k c) r) =
    (if is_pair cs (record { trees = cons (node k c) r; start = 0 }) then steps cs true false c else enter k ∷ (steps cs false false c ++ leave ∷ []))
    ++ steps cs false (is_element (cons (node k c) r)) r

-- the steps of some siblings, and then the end of the node around them; and so on outwards
abbrev pub steps_left : Comments → List Siblings → List Step
steps_left cs [] = []
steps_left cs (s ∷ below) = steps cs false false s.trees ++ leave ∷ steps_left cs below

-- whether all steps of two walks are the same is decided; or it is what is left of them, which is
-- less
abbrev pub IsDecided : List Siblings → List Siblings → List Siblings → List Siblings → Option Bool → Type 0
IsDecided st su st' su' (Some same) = same ≡ pointwise is_same_step (steps_left Passed st) (steps_left Passed su)
IsDecided st su st' su' None =
    (pointwise is_same_step (steps_left Passed st') (steps_left Passed su') ≡ pointwise is_same_step (steps_left Passed st) (steps_left Passed su))
    × (length (steps_left Passed st') < length (steps_left Passed st))

-- the first of some siblings and the first of others are the same token
abbrev pub is_same_token : Siblings → Siblings → Bool
is_same_token a b =
    ((is_token (first_of a.trees) && is_token (first_of b.trees)) && is_same_kind (kind_of (first_of a.trees)) (kind_of (first_of b.trees)))
    && pointwise ◌==◌ (text (first_of a.trees)) (text (first_of b.trees))

-- they are nodes of one kind with the same steps inside
abbrev pub is_same_node : Siblings → Siblings → Bool
is_same_node a b =
    not ((is_token (first_of a.trees) || is_token (first_of b.trees))
    || not (is_same_kind (kind_of (first_of a.trees)) (kind_of (first_of b.trees))))
    && pointwise is_same_step (steps_left Passed (inside_first a ∷ [])) (steps_left Passed (inside_first b ∷ []))

-- they are the same tree
abbrev pub is_same : Siblings → Siblings → Bool
is_same a b = is_same_token (bare Passed a) (bare Passed b) || is_same_node (bare Passed a) (bare Passed b)
