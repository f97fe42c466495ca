-- Which changes are refused, and why.
use Rattle.std.specs.Prelude.{◌≡◌, ℕ, ◌+◌, ◌<◌, ◌≤◌, ◌^◌, ◌⊎◌, [], true, ⊤, length}
use Rattle.tree_model.specs.Tree.{Tree, IsToken, size, text}
use Rattle.tree_model.specs.Rows.{tree_at}
use Rattle.tree_edit_model.specs.Changes.{Change, no_change}
use Rattle.tree_edits.specs.declared.change.Slot.{Slot}
use Rattle.tree_edits.specs.declared.change.Slot.TheVariants.{Before, Instead, First, Last, After}
use Rattle.tree_edits.specs.declared.error.ChangeError.{ChangeError}
use Rattle.tree_edits.specs.declared.error.ChangeError.TheVariants.{OtherTree, NotSiblings, Root, Token, Replaced, InReplaced, ChangedInside, TooLong, Memory}
use Rattle.tree_edits.specs.Session.{Session, change_of, result_of}

-- row n is inside the subtree at row k
abbrev pub IsInside : Tree → ℕ → ℕ → Type 0
IsInside tree k n = (k < n) × (n < k + size (tree_at tree k))

-- the element at a row is replaced
abbrev pub IsReplacedAt : Session → ℕ → Type 0
IsReplacedAt s n = (change_of s n).replaced ≡ true

-- the change would be before, after or in the place of the root
abbrev pub IsBesideRoot : ℕ → Slot → Type 0
IsBesideRoot n First = ⊥
IsBesideRoot n Last = ⊥
IsBesideRoot n Before = n ≡ 0
IsBesideRoot n Instead = n ≡ 0
IsBesideRoot n After = n ≡ 0

-- the slots of a node's children
abbrev pub IsInner : Slot → Type 0
IsInner First = ⊤
IsInner Last = ⊤
IsInner Before = ⊥
IsInner Instead = ⊥
IsInner After = ⊥

-- a child would be put into a token
abbrev pub IsIntoToken : Session → ℕ → Slot → Type 0
IsIntoToken s n slot = IsInner slot × IsToken (tree_at s.tree n)

-- an element that is replaced would be replaced again, or get a child
abbrev pub IsAtReplaced : Session → ℕ → Slot → Type 0
IsAtReplaced s n First = IsReplacedAt s n
IsAtReplaced s n Last = IsReplacedAt s n
IsAtReplaced s n Instead = IsReplacedAt s n
IsAtReplaced s n Before = ⊥
IsAtReplaced s n After = ⊥

-- the row is inside an element that is replaced
abbrev pub IsInReplaced : Session → ℕ → Type 0
IsInReplaced s n = (k : ℕ) × IsInside s.tree k n × IsReplacedAt s k

-- something inside the row's element is changed
abbrev pub HasChangeInside : Session → ℕ → Type 0
HasChangeInside s n = (k : ℕ) × IsInside s.tree n k × (change_of s k ≡ no_change → ⊥)

-- no child is put into the element
abbrev pub HasNoNewChild : Change → Type 0
HasNoNewChild c = (c.first ≡ []) × (c.last ≡ [])

-- the element would be replaced, with the changes inside it
abbrev pub IsOverChange : Session → ℕ → Slot → Type 0
IsOverChange s n First = ⊥
IsOverChange s n Last = ⊥
IsOverChange s n Instead = (HasNoNewChild (change_of s n) → ⊥) ⊎ HasChangeInside s n
IsOverChange s n Before = ⊥
IsOverChange s n After = ⊥

-- a change at a row is taken
pub record IsTaken (s : Session) (n : ℕ) (slot : Slot) : Type 0 where
  pub root : IsBesideRoot n slot → ⊥
  pub token : IsIntoToken s n slot → ⊥
  pub replaced : IsAtReplaced s n slot → ⊥
  pub in_replaced : IsInReplaced s n → ⊥
  pub changed_inside : IsOverChange s n slot → ⊥

-- why it is not: the first reason that holds. Each case excludes the others; memory is named only
-- where no reason holds
abbrev pub IsRefused : Session → ℕ → Slot → ChangeError → Type 0
IsRefused s n slot Root = IsBesideRoot n slot
IsRefused s n slot Token = (IsBesideRoot n slot → ⊥) × IsIntoToken s n slot
IsRefused s n slot Replaced = (IsBesideRoot n slot → ⊥) × (IsIntoToken s n slot → ⊥) × IsAtReplaced s n slot
IsRefused s n slot InReplaced =
    (IsBesideRoot n slot → ⊥) × (IsIntoToken s n slot → ⊥) × (IsAtReplaced s n slot → ⊥) × IsInReplaced s n
IsRefused s n slot ChangedInside =
    (IsBesideRoot n slot → ⊥) × (IsIntoToken s n slot → ⊥) × (IsAtReplaced s n slot → ⊥) × (IsInReplaced s n → ⊥) × IsOverChange s n slot
IsRefused s n slot TooLong = ⊥
IsRefused s n slot OtherTree = ⊥
IsRefused s n slot NotSiblings = ⊥
IsRefused s n slot Memory = IsTaken s n slot

-- the new text is shorter than 4 GiB
abbrev pub IsShort : Session → Type 0
IsShort s = length (text (result_of s)) < 2 ^ 32

-- why the new tree is not made
abbrev pub IsNotMade : Session → ChangeError → Type 0
IsNotMade s TooLong = 2 ^ 32 ≤ length (text (result_of s))
IsNotMade s Memory = ⊤
IsNotMade s OtherTree = ⊥
IsNotMade s NotSiblings = ⊥
IsNotMade s Root = ⊥
IsNotMade s Token = ⊥
IsNotMade s Replaced = ⊥
IsNotMade s InReplaced = ⊥
IsNotMade s ChangedInside = ⊥
