-- Siblings that are left to read, as a forest.
-- (Own: what a rest of `rowan`'s children with tokens shows, as plain data.)
use Rattle.std.specs.Prelude.{ℕ, ◌+◌, List, Bool, true, false, length, if◌then◌else◌, Option, None, Some, refl}
use Rattle.std.specs.Coded.{Coded, code_by, coded×, coded_ℕ}
use Rattle.tree_model.specs.Tree.{Tree, node, token, Forest, nil, cons, no_tree, text, forest_of_children, child_at}
use Rattle.tree_model.specs.TreeCode.{forest_code}
use Rattle.tree_model.specs.NearestToken.{is_trivia_token}

-- the siblings that are left, and the byte where the first of them starts in the whole text
pub record Siblings : Type 0 where
  pub trees : Forest
  pub start : ℕ

abbrev pub siblings_code : Coded Siblings
siblings_code = code_by (Forest × ℕ) (coded× forest_code coded_ℕ) (λ s. (s.trees, s.start)) (λ p. record { trees = p.0; start = p.1 }) (λ _. refl)

abbrev pub is_done : Forest → Bool
is_done nil = true
is_done (cons t r) = false

-- the first tree, a node of kind `OTHER(0)` without children where there is none
abbrev pub first_of : Forest → Tree
first_of nil = no_tree
first_of (cons t r) = t

abbrev pub rest_of : Forest → Forest
rest_of nil = nil
rest_of (cons t r) = r

-- the siblings after the first, and the children of the first
abbrev pub behind_first : Siblings → Siblings
behind_first s = record { trees = rest_of s.trees; start = s.start + length (text (first_of s.trees)) }

abbrev pub inside_first : Siblings → Siblings
inside_first s = record { trees = forest_of_children (first_of s.trees); start = s.start }

-- the siblings left, from the first on that is not trivia
abbrev pub past_trivia : Forest → ℕ → Siblings
past_trivia nil b = record { trees = nil; start = b }
past_trivia (cons t r) b = if is_trivia_token t then past_trivia r (b + length (text t)) else record { trees = cons t r; start = b }

abbrev pub without_trivia : Siblings → Siblings
without_trivia s = past_trivia s.trees s.start

-- the text of a tree that is a token, and of child number n if that is one
abbrev pub token_text : Tree → Option (List ℕ)
token_text (node k c) = None
token_text (token k t) = Some t

abbrev pub child_text : Tree → ℕ → Option (List ℕ)
child_text t n = token_text (child_at (forest_of_children t) n)
