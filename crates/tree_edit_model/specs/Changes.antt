-- A tree with many changes made at once: nodes and tokens put before, in the place of, after and
-- inside its nodes and tokens. (Upstream: the changes of rust-analyzer's `SyntaxEditor`.)
use Rattle.std.specs.Prelude.{ℕ, zero, suc, ◌<◌, ◌≤◌, length, get_or, List, [], ◌∷◌, Bool, false, if◌then◌else◌, Option, None, Some, refl}
use Rattle.std.specs.Coded.{Coded, code_by, coded×, coded_bool, coded_list}
use Rattle.tree_model.specs.Tree.{Tree, node, token, Forest, nil, cons, Place}
use Rattle.tree_model.specs.Events.{append_forest}
use Rattle.tree_model.specs.TreeCode.{tree_code}

-- what is done at one node or token: elements stand before it, in its place if it is replaced, and
-- after it; and inside a node that is not replaced, before its first child and after its last
pub record Change : Type 0 where
  pub before : List Tree
  pub replaced : Bool
  pub instead : List Tree
  pub first : List Tree
  pub last : List Tree
  pub after : List Tree

abbrev change_parts : Change → List Tree × (Bool × (List Tree × (List Tree × (List Tree × List Tree))))
change_parts c = (c.before, (c.replaced, (c.instead, (c.first, (c.last, c.after)))))

abbrev change_from : List Tree × (Bool × (List Tree × (List Tree × (List Tree × List Tree)))) → Change
change_from p = record { before = p.0; replaced = p.1.0; instead = p.1.1.0; first = p.1.1.1.0; last = p.1.1.1.1.0; after = p.1.1.1.1.1 }

abbrev pub change_code : Coded Change
change_code =
    code_by (List Tree × (Bool × (List Tree × (List Tree × (List Tree × List Tree))))) (coded× (coded_list tree_code) (coded× coded_bool (coded× (coded_list tree_code) (coded× (coded_list tree_code) (coded× (coded_list tree_code) (coded_list tree_code)))))) change_parts change_from (λ _. refl)

-- nothing is done
abbrev pub no_change : Change
no_change = record { before = []; replaced = false; instead = []; first = []; last = []; after = [] }

abbrev pub change_or_none : Option Change → Change
change_or_none None = no_change
change_or_none (Some c) = c

-- the change with a number, counted from 1
abbrev pub numbered : List Change → ℕ → Change
numbered changes zero = no_change
numbered changes (suc m) = get_or changes m no_change

-- the change of row n
abbrev pub change_at : List ℕ → List Change → ℕ → Change
change_at marks changes n = numbered changes (get_or marks n 0)

-- each number is one of a change
abbrev pub MarksFit : List ℕ → ℕ → Type 0
MarksFit marks count = (k : ℕ) → k < length marks → get_or marks k 0 ≤ count

-- the trees as a forest
abbrev pub forest_from : List Tree → Forest
forest_from [] = nil
forest_from (t ∷ ts) = cons t (forest_from ts)

-- what stands at a place after its change, if `itself` is what would be kept there
abbrev pub around : Change → Tree → Forest
around c itself = append_forest (forest_from c.before) (append_forest (if c.replaced then forest_from c.instead else cons itself nil) (forest_from c.after))

-- the children of a node after the change at the node, from its children after theirs
abbrev pub inside : Change → Forest → Forest
inside c f = append_forest (forest_from c.first) (append_forest f (forest_from c.last))

-- the changes below child number i
abbrev pub below : ℕ → (Place → Change) → Place → Change
below i at p = at (i ∷ p)

-- a forest, whose first tree is child number i, with the change at each place made
abbrev pub changed_from : (Place → Change) → ℕ → Forest → Forest
changed_from at i nil = nil
changed_from at i (cons (token k t) r) = append_forest (around (at (i ∷ [])) (token k t)) (changed_from at (suc i) r)
changed_from at i (cons (node k c) r) =
    append_forest (around (at (i ∷ [])) (node k (inside (at (i ∷ [])) (changed_from (below i at) 0 c)))) (changed_from at (suc i) r)

-- the tree with the change at each place made; at the root, only inside it
abbrev pub changed : (Place → Change) → Tree → Tree
changed at (node k c) = node k (inside (at []) (changed_from at 0 c))
changed at (token k t) = token k t

-- what comes of a tree with the change at its place; for the walk that makes it
abbrev pub changed_whole : (Place → Change) → Tree → Forest
changed_whole at (node k c) = around (at []) (node k (inside (at []) (changed_from at 0 c)))
changed_whole at (token k t) = around (at []) (token k t)
