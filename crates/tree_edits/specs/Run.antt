-- Runs of siblings: one is replaced, and those after it are deleted.
-- (Upstream: `replace_all` of rust-analyzer's `SyntaxEditor`.)
use Rattle.std.specs.Prelude.{◌≡◌, ◌<◌, ℕ, List, [], ◌∷◌, Some, ⊤, ◌⊎◌, get_or}
use Rattle.std.proofs.Math.ListN.{set}
use Rattle.tree_model.specs.Tree.{Tree, size, next_sibling_place}
use Rattle.tree_model.specs.Rows.{place_at}
use Rattle.tree_edit_model.specs.Changes.{Change, no_change}
use Rattle.tree_edits.specs.declared.change.Slot.TheVariants.{Instead}
use Rattle.tree_edits.specs.declared.error.ChangeError.{ChangeError}
use Rattle.tree_edits.specs.declared.error.ChangeError.TheVariants.{NotSiblings, Memory}
use Rattle.tree_edits.specs.Added.{with_elements}
use Rattle.tree_edits.specs.Stored.{IsMarked}
use Rattle.tree_edits.specs.Session.{Session}
use Rattle.tree_edits.specs.Refused.{IsTaken, IsRefused}

-- row m is that of the next sibling of the element at row n
abbrev pub IsNextSibling : Tree → ℕ → ℕ → Type 0
IsNextSibling tree n m = (m < size tree) × (next_sibling_place tree (place_at tree n) ≡ Some (place_at tree m))

-- the rows are those of the siblings after row n, up to row m
abbrev pub IsRun : Tree → ℕ → ℕ → List ℕ → Type 0
IsRun tree n m [] = n ≡ m
IsRun tree n m (k ∷ ks) = IsNextSibling tree n k × IsRun tree k m ks

-- the elements at these rows are deleted
abbrev pub deleted : List Change → List ℕ → List Change
deleted cs [] = cs
deleted cs (k ∷ ks) = deleted (set cs k (with_elements (get_or cs k no_change) Instead [])) ks

-- trees stand in the place of the element at row n, and those at some other rows are deleted
abbrev pub run_replaced : List Change → ℕ → List ℕ → List Tree → List Change
run_replaced cs n ks ts = deleted (set cs n (with_elements (get_or cs n no_change) Instead ts)) ks

abbrev pub with_run : Session → ℕ → List ℕ → List Tree → Session
with_run s n ks ts = record s { rows = run_replaced s.rows n ks ts }

-- each element may be replaced
abbrev pub AreTaken : Session → List ℕ → Type 0
AreTaken s [] = ⊤
AreTaken s (k ∷ ks) = IsTaken s k Instead × AreTaken s ks

-- why they may not: the reason of the first of them that may not
abbrev pub IsFirstRefused : Session → List ℕ → ChangeError → Type 0
IsFirstRefused s [] e = ⊥
IsFirstRefused s (k ∷ ks) e = IsRefused s k Instead e ⊎ (IsTaken s k Instead × IsFirstRefused s ks e)

-- the elements of the run from row n to row m are replaced by trees
pub record IsRunReplaced (s : Session) (n m : ℕ) (ts : List Tree) (s' : Session) : Type 0 where
  pub others : List ℕ
  pub is_run : IsRun s.tree n m others
  pub taken : AreTaken s (n ∷ others)
  pub is : s' ≡ with_run s n others ts

-- why the run is not replaced: there is none, or one of its elements may not be replaced
abbrev pub IsRunRefused : Session → ℕ → ℕ → ChangeError → Type 0
IsRunRefused s n m NotSiblings = (ks : List ℕ) → IsRun s.tree n m ks → ⊥
IsRunRefused s n m Memory = ⊤
IsRunRefused s n m e = (ks : List ℕ) × IsRun s.tree n m ks × IsFirstRefused s (n ∷ ks) e

-- why no run is found
abbrev pub IsNoRun : Tree → ℕ → ℕ → ChangeError → Type 0
IsNoRun tree n m NotSiblings = (ks : List ℕ) → IsRun tree n m ks → ⊥
IsNoRun tree n m e = e ≡ Memory

-- each row is one of so many; each has a number
abbrev pub AreBelow : ℕ → List ℕ → Type 0
AreBelow count [] = ⊤
AreBelow count (k ∷ ks) = (k < count) × AreBelow count ks

abbrev pub AreMarked : List ℕ → List ℕ → Type 0
AreMarked marks [] = ⊤
AreMarked marks (k ∷ ks) = IsMarked marks k × AreMarked marks ks
