-- What is around a place, by rows.
use Rattle.std.proofs.Common.{◌≡◌, inl, inr, ℕ, ◌-◌, ◌<◌, ◌≤◌, List, ◌++◌, refl, sym, ap, ◌∙◌, subst, arith}
use Rattle.std.specs.Prelude.{[], Option, None, Some, option_map}
use Rattle.std.specs.List.{filter}
use Rattle.std.proofs.lemmas.List.Elements.{filter-append}
use Rattle.tree_model.specs.Tree.{Tree, Place, size, parent_place}
use Rattle.tree_model.specs.Rows.{place_at, tree_at}
use Rattle.tree_model.specs.Cursor.{Cursor, cursor_at, cursors_from, at_place, at_token, descendants_of, all_tokens, parent_of}
use Rattle.tree_model.specs.Neighbours.{TokensStandTogether, ParentsStandAround, SiblingsStandBehind, behind_at}
use Rattle.tree_model.proofs.At.{some_row, below_or_after}
use Rattle.tree_model.proofs.StepLemmas.{if_above, if_not_above}
use Rattle.tree_model.proofs.TokenSearch.{cursors_from-append}
use Rattle.tree_model.proofs.PointerLemmas.{all_rows}
use Rattle.tree_model.proofs.WalkLemmas.{root_place}
use Rattle.tree_rows.specs.Rows.{row_at}
use Rattle.tree_rows.proofs.TableLemmas.{row_end_fits}
use Rattle.tree_rows.proofs.StepLemmas.{end_of_row, hangs, parent_found, same_parent, next_sibling_found, no_next_sibling_found}
use Rattle.tree_rows.proofs.WalkLemmas.{descendants-cursors_from}
use Rattle.tree_rows.proofs.PointerLaws.{row_of_place}

-- ---- tokens

together_at : (tree : Tree) (n : ℕ) → n < size tree
    → (front : List Cursor) × (back : List Cursor) × (all_tokens (cursor_at tree n) ≡ front ++ (filter at_token (descendants_of (cursor_at tree n)) ++ back))
together_at tree n h =
    let e = (row_at tree n).end in
    let fits : e ≤ size tree = row_end_fits tree n h in
    let past : n < e = omega (arith, end_of_row tree n h, some_row (tree_at tree n)) in
    let rest = cursors_from tree e (size tree - e) in
    let own = cursors_from tree n (e - n) in
    let all : descendants_of (at_place (cursor_at tree n) []) ≡ cursors_from tree 0 n ++ (own ++ rest) =
    ap (λ p. descendants_of (at_place (cursor_at tree n) p)) (sym (root_place tree))
    ∙ sym (all_rows tree)
    ∙ cursors_from-append tree 0 n (size tree - n) (size tree) n (omega (arith, h)) (omega arith)
    ∙ ap (λ l. cursors_from tree 0 n ++ l) (cursors_from-append tree n (e - n) (size tree - e) (size tree - n) e (omega (arith, fits, past)) (omega (arith, past))) in (
      filter at_token (cursors_from tree 0 n),
      filter at_token rest,
      ap (filter at_token) all
          ∙ filter-append at_token (cursors_from tree 0 n) (own ++ rest)
          ∙ ap (λ l. filter at_token (cursors_from tree 0 n) ++ l)
          (filter-append at_token own rest ∙ ap (λ l. filter at_token l ++ filter at_token rest) (descendants-cursors_from tree n e h refl)),
    )

pub tokens_stand_together : TokensStandTogether
tokens_stand_together c is =
    let w = row_of_place c.tree c.place is in
    subst (λ p. (front : List Cursor) × (back : List Cursor) × (all_tokens (at_place c p) ≡ front ++ (filter at_token (descendants_of (at_place c p)) ++ back))) w.2
    (together_at c.tree w.0 w.1)

-- ---- parents and siblings

-- the place of a parent that is one of the tree's rows
place_of_parent : (tree : Tree) (n q : ℕ) → parent_of (cursor_at tree n) ≡ Some (cursor_at tree q) → Some (place_at tree q) ≡ parent_place (place_at tree n)
place_of_parent tree n q e = of (parent_place (place_at tree n)) e
  where
    of : (p : Option Place) → option_map (at_place (cursor_at tree n)) p ≡ Some (cursor_at tree q) → Some (place_at tree q) ≡ p
    of None e = (let off : None ≡ Some (cursor_at tree q) = e in cc)
    of (Some p) e = (let kept : Some (at_place (cursor_at tree n) p) ≡ Some (cursor_at tree q) = e in let same : at_place (cursor_at tree n) p ≡ cursor_at tree q = cc in ap Some (sym (ap (λ c. c.place) same)))

pub parents_stand_around : ParentsStandAround
parents_stand_around tree n q h k = (
  (λ e.
      let parent = place_of_parent tree n q e in
      elim (hangs tree n h) [
        | inl root ↦ (let off : Some (place_at tree q) ≡ None = parent ∙ ap parent_place root.0 in cc)
        | inr v ↦
            let same = same_parent tree n q k parent v in
            record {
              earlier = omega (arith, same, v.earlier);
              reaches = omega (arith, end_of_row tree q k, ap (λ i. (row_at tree i).end) same, v.reaches, some_row (tree_at tree n));
              between = λ i later before. omega (arith, end_of_row tree i (omega (arith, before, h)), v.between i (omega (arith, same, later)) before);
            }
      ]),
  (λ v. sym (ap (option_map (at_place (cursor_at tree n)))
      (parent_found tree n q h v.earlier (omega (arith, end_of_row tree q k, v.reaches)) (λ i later before. omega (arith, end_of_row tree i (omega (arith, before, h)), v.between i later before))))),
)

pub siblings_stand_behind : SiblingsStandBehind
siblings_stand_behind tree n q h k e =
    let parent = place_of_parent tree n q e in
    let is : behind_at tree n ≡ (row_at tree n).end = sym (end_of_row tree n h) in
    elim (below_or_after (behind_at tree n) (behind_at tree q)) [
      | inl less ↦
          sym (ap (option_map (at_place (cursor_at tree n))) (next_sibling_found tree n q (behind_at tree n) h k parent is (omega (arith, end_of_row tree q k, less))).1)
          ∙ sym (if_above (behind_at tree n) (behind_at tree q) (Some (cursor_at tree (behind_at tree n))) None less)
      | inr more ↦
          sym (ap (option_map (at_place (cursor_at tree n))) (no_next_sibling_found tree n q (behind_at tree n) h k parent is (omega (arith, end_of_row tree q k, more.1))))
          ∙ sym (if_not_above (behind_at tree n) (behind_at tree q) (Some (cursor_at tree (behind_at tree n))) None (omega (arith, more.1)))
    ]
