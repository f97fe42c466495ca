-- The tokens at an offset, by rows: at most one that starts before it, and at most one that starts
-- at it.
use Rattle.std.proofs.Common.{◌≡◌, ℕ, suc, ◌+◌, ◌-◌, ◌<◌, ◌≤◌, ◌⊎◌, inl, inr, ◌++◌, map, refl, sym, ap, ◌∙◌, arith, append-nil, Bool, false, []}
use Rattle.std.specs.Prelude.{Option, Some, None, IfSome, ◌&&◌}
use Rattle.std.specs.List.{filter}
use Rattle.std.specs.Option.{option_to_list}
use Rattle.std.proofs.lemmas.List.{map-append}
use Rattle.std.proofs.lemmas.List.Elements.{filter-append}
use Rattle.tree_model.specs.Tree.{Tree, size, IsToken}
use Rattle.tree_model.specs.Rows.{tree_at, start_at, end_at}
use Rattle.tree_rows.specs.Rows.{row_at}
use Rattle.tree_rows.specs.RowSearch.{SplitsAt, Reaching, IsTokenRow}
use Rattle.tree_model.specs.Cursor.{Cursor, focus, cursor_at, cursors_from}
use Rattle.tree_model.specs.TokenSearch.{is_token_with_text, touches, tokens_at}
use Rattle.tree_model.proofs.At.{below_or_after}
use Rattle.tree_rows.proofs.StepLemmas.{end_of_row}
use Rattle.tree_rows.proofs.WalkLemmas.{descendants-cursors_from}
use Rattle.tree_rows.proofs.Starts.{Nested, nested, behind_starts, first_starts}
use Rattle.tree_model.proofs.TokenSearch.{LastPasses, cursors_from-append, last_passes, no_pass, none_pass, one_row_with_text, pass, passes, token_has_one_row}

-- the rows `from..to` of a subtree start at or before the offset, and those after them do not reach
-- it
record Window (whole : Tree) (n e offset from to reach : ℕ) : Type 0 where
  is_row : n < size whole
  is_end : e ≡ (row_at whole n).end
  first : n ≤ from
  split : SplitsAt whole from e reach to
  lower : offset ≤ reach
  upper : reach ≤ offset + 1
  tight : (reach ≡ offset) ⊎ ((k : ℕ) → from ≤ k → k < to → offset ≤ start_at whole k)

in_window : (whole : Tree) (n e offset from to reach k : ℕ) → Window whole n e offset from to reach → from ≤ k → k < to → Nested whole n k
in_window whole n e offset from to reach k w le lt = nested whole n k w.is_row (omega (arith, w.first)) (omega (arith, w.is_end, w.split.within))

ends_short : (whole : Tree) (n e offset from to reach k : ℕ) → Window whole n e offset from to reach → from ≤ k → k < to → (IsToken (tree_at whole k) → end_at whole k < reach) → passes (tree_at whole k) (start_at whole k) offset ≡ false
ends_short whole n e offset from to reach k w le lt short =
    no_pass (tree_at whole k) (start_at whole k) offset (λ is long from_start to_end.
    elim w.tight [
      | inl same ↦ omega (arith, short is, same, to_end)
      | inr starts ↦ omega (arith, short is, w.upper, starts k le lt, long)
    ])

inner_fails : (whole : Tree) (n e offset from to reach k : ℕ) → Window whole n e offset from to reach → from ≤ k → suc k < to → passes (tree_at whole k) (start_at whole k) offset ≡ false
inner_fails whole n e offset from to reach k w le lt =
    let inside = in_window whole n e offset from to reach k w le (omega (arith, lt)) in
    let next = in_window whole n e offset from to reach (suc k) w (omega (arith, le)) lt in
    ends_short whole n e offset from to reach k w le (omega (arith, lt)) (λ is.
    let row_end : suc k ≡ (row_at whole k).end = omega (arith, end_of_row whole k inside.is_row, token_has_one_row (tree_at whole k) is) in
    omega (arith, behind_starts whole k (suc k) inside.is_row row_end next.is_row, w.split.before (suc k) (omega (arith, le)) lt))

last_token : (whole : Tree) (n e offset from to reach k : ℕ) → Window whole n e offset from to reach → from ≤ k → suc k ≡ to → reach ≤ end_at whole k → IsToken (tree_at whole k)
last_token whole n e offset from to reach k w le is_to far =
    let lt : k < to = omega (arith, is_to) in
    let inside = in_window whole n e offset from to reach k w le lt in
    let starts = w.split.before k le lt in
    elim (below_or_after (suc k) (row_at whole k).end) [
      | inl child ↦
          let next : suc k < e = omega (arith, child, inside.rows, w.is_end) in
          absurd (omega (arith, first_starts whole k (suc k) inside.is_row refl child, starts, w.split.behind (suc k) (omega (arith, is_to)) next))
      | inr leaf ↦ one_row_with_text (tree_at whole k) (omega (arith, leaf.1, end_of_row whole k inside.is_row)) (omega (arith, starts, far))
    ]

last_row_passes : (whole : Tree) (n e offset from to reach : ℕ) (r : Option ℕ) → Window whole n e offset from to reach → Reaching whole from to reach r → LastPasses (λ d. is_token_with_text (focus d) && touches offset d) whole from to r
last_row_passes whole n e offset from to reach None w h = λ k le is_to.
    ends_short whole n e offset from to reach k w le (omega (arith, is_to)) (λ is. h (omega (arith, le, is_to)) k is_to)
last_row_passes whole n e offset from to reach (Some k) w h =
    let le : from ≤ k = omega (arith, h.0, h.1) in
    let starts = w.split.before k le (omega (arith, h.1)) in (
      le,
      h.1,
      pass (tree_at whole k) (start_at whole k) offset (last_token whole n e offset from to reach k w le h.1 h.2) (omega (arith, starts, h.2)) (omega (arith, starts, w.upper)) (omega (arith, w.lower, h.2)),
    )

window_rows : (whole : Tree) (n e offset from to reach : ℕ) (r : Option ℕ) → Window whole n e offset from to reach → Reaching whole from to reach r
    → filter (λ d. is_token_with_text (focus d) && touches offset d) (cursors_from whole from (to - from)) ≡ map (cursor_at whole) (option_to_list r)
window_rows whole n e offset from to reach r w h =
    last_passes (λ d. is_token_with_text (focus d) && touches offset d) whole from to r
    (λ k le lt. inner_fails whole n e offset from to reach k w le lt)
    (last_row_passes whole n e offset from to reach r w h)

window_token : (whole : Tree) (n e offset from to reach : ℕ) (r : Option ℕ) → Window whole n e offset from to reach → Reaching whole from to reach r → IfSome r (IsTokenRow whole)
window_token whole n e offset from to reach None w h = tt
window_token whole n e offset from to reach (Some k) w h =
    let le : from ≤ k = omega (arith, h.0, h.1) in
    ((in_window whole n e offset from to reach k w le (omega (arith, h.1))).is_row, last_token whole n e offset from to reach k w le h.1 h.2)

-- what is found of the tokens at an offset
pub record FoundTokens (whole : Tree) (n offset : ℕ) (l r : Option ℕ) : Type 0 where
  pub tokens : map (cursor_at whole) (option_to_list l ++ option_to_list r) ≡ tokens_at (cursor_at whole n) offset
  pub left : IfSome l (IsTokenRow whole)
  pub right : IfSome r (IsTokenRow whole)

pub tokens_found : (whole : Tree) (n e offset at past : ℕ) (l r : Option ℕ) → n < size whole → e ≡ (row_at whole n).end → SplitsAt whole n e offset at → SplitsAt whole at e (offset + 1) past
    → Reaching whole n at offset l → Reaching whole at past (offset + 1) r → FoundTokens whole n offset l r
tokens_found whole n e offset at past l r h is_e first second left right =
    let p : Cursor → Bool = λ d. is_token_with_text (focus d) && touches offset d in
    let w : Window whole n e offset n at offset = record {
      is_row = h;
      is_end = is_e;
      first = omega arith;
      split = first;
      lower = omega arith;
      upper = omega arith;
      tight = inl refl;
    } in
    let v : Window whole n e offset at past (offset + 1) = record {
      is_row = h;
      is_end = is_e;
      first = first.begun;
      split = second;
      lower = omega arith;
      upper = omega arith;
      tight = inr (λ k le lt. first.behind k le (omega (arith, lt, second.within)));
    } in
    let behind : filter p (cursors_from whole past (e - past)) ≡ [] = none_pass p whole past (e - past) (λ k le lt.
    no_pass (tree_at whole k) (start_at whole k) offset (λ is long from_start to_end. omega (arith, from_start, second.behind k le (omega (arith, lt, second.within))))) in
    let rows : cursors_from whole n (e - n) ≡ cursors_from whole n (at - n) ++ (cursors_from whole at (past - at) ++ cursors_from whole past (e - past)) =
    cursors_from-append whole n (at - n) (e - at) (e - n) at (omega (arith, first.begun, first.within)) (omega (arith, first.begun))
    ∙ ap (λ x. cursors_from whole n (at - n) ++ x) (cursors_from-append whole at (past - at) (e - past) (e - at) past (omega (arith, second.begun, second.within)) (omega (arith, second.begun))) in
    record {
      tokens = map-append (cursor_at whole) (option_to_list l) (option_to_list r)
          ∙ sym (ap (filter p) (sym (descendants-cursors_from whole n e h is_e) ∙ rows)
          ∙ filter-append p (cursors_from whole n (at - n)) (cursors_from whole at (past - at) ++ cursors_from whole past (e - past))
          ∙ ap (λ x. filter p (cursors_from whole n (at - n)) ++ x) (filter-append p (cursors_from whole at (past - at)) (cursors_from whole past (e - past)) ∙ ap (λ x. filter p (cursors_from whole at (past - at)) ++ x) behind ∙ append-nil (filter p (cursors_from whole at (past - at))))
          ∙ ap (λ x. x ++ filter p (cursors_from whole at (past - at))) (window_rows whole n e offset n at offset l w left)
          ∙ ap (λ x. map (cursor_at whole) (option_to_list l) ++ x) (window_rows whole n e offset at past (offset + 1) r v right));
      left = window_token whole n e offset n at offset l w left;
      right = window_token whole n e offset at past (offset + 1) r v right;
    }
