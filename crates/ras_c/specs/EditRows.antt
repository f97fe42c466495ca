-- Several replacements of a text: rows, whose inserted texts lie one behind the other, as an edit.
use Rattle.std.specs.Prelude.{◌≡◌, ◌⊎◌, ℕ, ◌<◌, ◌≤◌, List, [], ◌∷◌, take, drop, IsCharBoundary}
use Rattle.std.specs.List.{Any}
use Rattle.text_edit.specs.Replacements.{Replacement, Overlaps, with_one}
use Rattle.ras_c.specs.declared.edit_rows.EditRow.{EditRow}

-- the replacement of a row by a text
abbrev pub replacing : EditRow → List ℕ → Replacement
replacing r insert = record { insert = insert; delete = record { start = r.start; end = r.end } }

-- its range overlaps one of an edit
abbrev pub IsInTheWay : List Replacement → EditRow → List ℕ → Type 0
IsInTheWay es r insert = Any (λ d. Overlaps d (replacing r insert)) es

-- it can be added to an edit
pub record IsAddable (es : List Replacement) (r : EditRow) (insert : List ℕ) : Type 0 where
  pub forwards : r.start ≤ r.end
  pub apart : IsInTheWay es r insert → ⊥

-- it cannot, and the status says why: the range is backwards (6), or overlaps another (19)
abbrev pub IsNotAdded : List Replacement → EditRow → List ℕ → ℕ → Type 0
IsNotAdded es r insert status =
    (status ≡ 6) × (r.end < r.start) ⊎ (status ≡ 19) × (r.start ≤ r.end) × IsInTheWay es r insert

-- all rows are added to an edit one after another, and their texts are all of the bytes
abbrev pub AreAdded : List Replacement → List EditRow → List ℕ → List Replacement → Type 0
AreAdded es [] bytes new = (bytes ≡ []) × (new ≡ es)
AreAdded es (r ∷ rs) bytes new =
    IsCharBoundary bytes r.insert × IsAddable es r (take r.insert bytes)
    × AreAdded (with_one es (replacing r (take r.insert bytes))) rs (drop r.insert bytes) new

-- a row is not added after those before it: its text ends after the bytes, or inside a character
-- (20), or it cannot be; or bytes are left behind the last text (20)
abbrev pub AreNotAdded : List Replacement → List EditRow → List ℕ → ℕ → Type 0
AreNotAdded es [] bytes status = (status ≡ 20) × (bytes ≡ [] → ⊥)
AreNotAdded es (r ∷ rs) bytes status =
    ((status ≡ 20) × (IsCharBoundary bytes r.insert → ⊥))
    ⊎ ((IsCharBoundary bytes r.insert × IsNotAdded es r (take r.insert bytes) status)
    ⊎ (IsCharBoundary bytes r.insert × IsAddable es r (take r.insert bytes)
    × AreNotAdded (with_one es (replacing r (take r.insert bytes))) rs (drop r.insert bytes) status))
