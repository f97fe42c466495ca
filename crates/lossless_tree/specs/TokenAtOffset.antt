-- What was found at an offset: no token, one, or two. (Upstream: `rowan`'s `TokenAtOffset`.)
use Rattle.std.specs.Prelude.{◌≡◌, List, [], ◌∷◌, Option, Some, None, ⊤}
use Rattle.lossless_tree.specs.declared.cursor.token_at_offset.TokenAtOffset.{TokenAtOffset}
use Rattle.lossless_tree.specs.declared.cursor.token_at_offset.TokenAtOffset.TheVariants as at

-- the tokens that were found, in order
abbrev pub found_tokens : {T : Type 0} → TokenAtOffset T → List T
found_tokens at.None = []
found_tokens (at.Single t) = t ∷ []
found_tokens (at.Between l r) = l ∷ (r ∷ [])

-- the one that was found, and of two the first or the second
abbrev pub leftmost : {T : Type 0} → TokenAtOffset T → Option T
leftmost at.None = None
leftmost (at.Single t) = Some t
leftmost (at.Between l r) = Some l

abbrev pub rightmost : {T : Type 0} → TokenAtOffset T → Option T
rightmost at.None = None
rightmost (at.Single t) = Some t
rightmost (at.Between l r) = Some r

-- P holds of each token
abbrev pub Each : {T : Type 0} → (T → Type 0) → TokenAtOffset T → Type 0
Each P at.None = ⊤
Each P (at.Single t) = P t
Each P (at.Between l r) = P l × P r

-- both have the same number of tokens, and R relates them one by one
abbrev pub EachBecomes : {T U : Type 0} → (T → U → Type 0) → TokenAtOffset T → TokenAtOffset U → Type 0
EachBecomes {U} R at.None found = found ≡ at.None
EachBecomes {U} R (at.Single t) found = (u : U) × (found ≡ at.Single u) × R t u
EachBecomes {U} R (at.Between l r) found = (u : U) × (v : U) × (found ≡ at.Between u v) × R l u × R r v
