-- The starts of rows: they don't decrease with the row number, and a subtree's rows lie within its
-- text.
use Rattle.std.proofs.Common.{◌≡◌, inl, inr, ℕ, suc, ◌+◌, ◌<◌, ◌≤◌, ◌∷◌, ◌++◌, refl, sym, ◌∙◌, arith, []}
use Rattle.tree_rows.specs.RowSearch.{SplitsAt, IsNarrowed}
use Rattle.tree_rows.specs.declared.table.narrow.Stretch.{Stretch}
use Rattle.tree_model.specs.Tree.{Tree, node, token, nil, cons, size}
use Rattle.tree_model.specs.Rows.{tree_at, start_at, end_at, place_at}
use Rattle.tree_rows.specs.Rows.{row_at}
use Rattle.tree_model.proofs.At.{At, here, lift, At-fits, some_row, forest_size-cons, below_or_after}
use Rattle.tree_model.proofs.TableLemmas.{at_row}
use Rattle.tree_rows.proofs.TableLemmas.{next_start_at}
use Rattle.tree_rows.proofs.StepLemmas.{end_of_row, row_start}
use Rattle.tree_model.proofs.Starts.{At-nested, At-ordered, starts_rise}

-- what a row in the subtree of row n has there
pub record Nested (whole : Tree) (n m : ℕ) : Type 0 where
  pub is_row : m < size whole
  pub rows : (row_at whole m).end ≤ (row_at whole n).end
  pub starts : start_at whole n ≤ start_at whole m
  pub ends : end_at whole m ≤ end_at whole n

pub nested : (whole : Tree) (n m : ℕ) → n < size whole → n ≤ m → m < (row_at whole n).end → Nested whole n m
nested whole n m h from lt =
    let is_row : m < size whole = omega (arith, lt, end_of_row whole n h, At-fits (at_row whole n h), forest_size-cons whole nil) in
    let w = At-nested (at_row whole n h) (at_row whole m is_row) from (omega (arith, lt, end_of_row whole n h)) in
    record {
      is_row = is_row;
      rows = omega (arith, w.0, end_of_row whole n h, end_of_row whole m is_row);
      starts = starts_rise whole n m from is_row;
      ends = w.1;
    }

-- the row after a subtree starts where its text ends
pub behind_starts : (whole : Tree) (n e : ℕ) → n < size whole → e ≡ (row_at whole n).end → e < size whole → start_at whole e ≡ end_at whole n
behind_starts whole n e h is_e lt = sym (row_start whole e lt) ∙ next_start_at whole n e h (is_e ∙ end_of_row whole n h) lt

-- rows after a subtree start where its text ends, or after that
pub later_starts : (whole : Tree) (n m : ℕ) → n < size whole → (row_at whole n).end ≤ m → m < size whole → end_at whole n ≤ start_at whole m
later_starts whole n m h past lt = omega (arith, behind_starts whole n (row_at whole n).end h refl (omega arith), starts_rise whole (row_at whole n).end m past lt)

-- the first child starts with its parent
pub first_starts : (whole : Tree) (n m : ℕ) → n < size whole → m ≡ suc n → m < (row_at whole n).end → start_at whole m ≡ start_at whole n
first_starts whole n m h is_m lt = in_tree (tree_at whole n) (at_row whole n h) (omega (arith, is_m, lt, end_of_row whole n h))
  where
    in_tree : (t : Tree) → At (cons whole nil) n (0 ∷ place_at whole n) t (start_at whole n) → 1 < size t → start_at whole m ≡ start_at whole n
    in_tree (token k x) a long = absurd (omega arith)
    in_tree (node k nil) a long = absurd (omega arith)
    in_tree (node k (cons u r)) a long =
        let a' : At (cons whole nil) m ((0 ∷ place_at whole n) ++ 0 ∷ []) u (start_at whole n + 0) = lift a (here {u = u} {r = r}) (omega (arith, is_m)) refl in
        let is_row : m < size whole = omega (arith, At-fits a', some_row u, forest_size-cons whole nil) in
        omega (arith, At-ordered a' (at_row whole m is_row) (omega arith), At-ordered (at_row whole m is_row) a' (omega arith))

-- ---- guesses

-- row k, in the stretch, starts before the offset, so do those before it
pub starts_before : (whole : Tree) (s : Stretch) (offset k : ℕ) → s.low ≤ k → k < s.high → s.high ≤ size whole → start_at whole k < offset
    → (i : ℕ) → s.low ≤ i → i < k + 1 → start_at whole i < offset
starts_before whole s offset k low high fits lt i from to = omega (arith, lt, starts_rise whole i k (omega (arith, to)) (omega (arith, high, fits)))

pub starts_behind : (whole : Tree) (s : Stretch) (offset k : ℕ) → s.low ≤ k → k < s.high → s.high ≤ size whole → offset ≤ start_at whole k
    → (i : ℕ) → k ≤ i → i < s.high → offset ≤ start_at whole i
starts_behind whole s offset k low high fits le i from to = omega (arith, le, starts_rise whole k i from (omega (arith, to, fits)))

pub kept_before : (whole : Tree) (s : Stretch) (offset k : ℕ) → s.low ≤ k → k < s.high → s.high ≤ size whole → offset ≤ start_at whole k
    → IsNarrowed whole s offset (record { low = s.low; high = k })
kept_before whole s offset k low high fits le = record {
  begun = omega arith;
  ordered = low;
  within = omega (arith, high);
  before = λ i a b. absurd (omega (arith, a, b));
  behind = starts_behind whole s offset k low high fits le;
}

pub kept_behind : (whole : Tree) (s : Stretch) (offset k : ℕ) → s.low ≤ k → k < s.high → s.high ≤ size whole → start_at whole k < offset
    → IsNarrowed whole s offset (record { low = k + 1; high = s.high })
kept_behind whole s offset k low high fits lt = record {
  begun = omega (arith, low);
  ordered = omega (arith, high);
  within = omega arith;
  before = starts_before whole s offset k low high fits lt;
  behind = λ i a b. absurd (omega (arith, a, b));
}

pub kept_between : (whole : Tree) (s : Stretch) (offset j k : ℕ) → s.low ≤ j → j ≤ k → k < s.high → s.high ≤ size whole → start_at whole j < offset → offset ≤ start_at whole k
    → IsNarrowed whole s offset (record { low = j + 1; high = k })
kept_between whole s offset j k low order high fits lt le =
    let apart : j + 1 ≤ k = elim (below_or_after j k) [
      | inl less ↦ omega (arith, less)
      | inr same ↦ omega (arith, lt, le, starts_rise whole k j (omega (arith, same.1)) (omega (arith, order, high, fits)))
    ] in
    record {
      begun = omega (arith, low);
      ordered = apart;
      within = omega (arith, high);
      before = starts_before whole s offset j low (omega (arith, order, high)) fits lt;
      behind = starts_behind whole s offset k (omega (arith, low, order)) high fits le;
    }

-- where nothing is left of the stretch
pub split_there : (whole : Tree) (s t : Stretch) (offset : ℕ) → IsNarrowed whole s offset t → t.high ≤ t.low → SplitsAt whole s.low s.high offset t.low
split_there whole s t offset a h = record {
  begun = a.begun;
  within = omega (arith, a.ordered, a.within);
  before = a.before;
  behind = λ k from lt. a.behind k (omega (arith, from, h)) lt;
}
