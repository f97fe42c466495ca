-- A walk of nodes alone: it is inside of no token, so it skips what the walk with tokens skips.
use Rattle.std.proofs.Common.{◌≡◌, ℕ, zero, suc, ◌+◌, ◌<◌, ◌≤◌, inl, inr, [], ◌∷◌, List, length, map, refl, sym, ap, subst, ◌∙◌, arith, Bool, true, false, not, ◌&&◌, cond}
use Rattle.std.specs.Prelude.{Option, None, Some, MatchOption}
use Rattle.std.specs.List.{filter}
use Rattle.std.specs.Iterator.{YieldsFirst, Yields, ActsAs, FindsMapped}
use Rattle.std.proofs.lemmas.Bool.{cases_Bool}
use denote.Param.Members.{Mut, Called}
use Rattle.tree_model.specs.Tree.{Tree, node, token, size, is_node, parent_place}
use Rattle.tree_model.specs.Rows.{place_at, tree_at}
use Rattle.tree_model.specs.Cursor.{Cursor, focus, cursor_at, walk_of, moves_at_node}
use Rattle.tree_model.proofs.At.{below_or_after}
use Rattle.tree_model.proofs.StepLemmas.{parent_place-append}
use Rattle.tree_rows.specs.Rows.{row_at}
use Rattle.tree_rows.specs.Walks.{walk_left, IsWalk}
use Rattle.tree_rows.proofs.StepLemmas.{end_of_row, hangs}
use Rattle.tree_rows.proofs.WalkSteps.{step_first, step_enter, step_leave, step_last, step_done, open_row, walk_left-whole}
use Rattle.lossless_tree.specs.declared.cursor.element.NodeOrToken.{NodeOrToken}
use Rattle.lossless_tree.specs.declared.cursor.preorder.WalkEvent.{WalkEvent}
use Rattle.lossless_tree.specs.declared.cursor.preorder.WalkEvent.TheVariants.{Enter, Leave}
use Rattle.lossless_tree.specs.Element.{element_by}
use Rattle.lossless_tree.specs.WalkEvent.{walk_event, node_event, event_of_node}
use Rattle.lossless_tree.specs.Skip.{from_leave, LeavesTokens, IsAtNode}
use Rattle.lossless_tree.proofs.NodeLists.{head_of, tail_of}
use Rattle.lossless_tree.proofs.WalkEvents.{same_steps}

true_is_not_false : {X : Type 0} (b : Bool) → b ≡ true → b ≡ false → X
true_is_not_false b yes' no' = (let no : true ≡ false = sym yes' ∙ no' in cc)

-- ---- what is skipped

kept_node : (w : Bool × Cursor) (ws : List (Bool × Cursor)) → moves_at_node w ≡ true → filter moves_at_node (w ∷ ws) ≡ w ∷ filter moves_at_node ws
kept_node w ws e = ap (λ b. cond b (w ∷ filter moves_at_node ws) (filter moves_at_node ws)) e

kept_token : (w : Bool × Cursor) (ws : List (Bool × Cursor)) → moves_at_node w ≡ false → filter moves_at_node (w ∷ ws) ≡ filter moves_at_node ws
kept_token w ws e = ap (λ b. cond b (w ∷ filter moves_at_node ws) (filter moves_at_node ws)) e

-- how many elements are entered and not left, with the token
inner : Bool → ℕ → ℕ
inner false n = n
inner true n = suc n

-- among the nodes alone the same is skipped, outside of tokens and inside
commute : (ws : List (Bool × Cursor)) (inside : Bool) (n : ℕ) → LeavesTokens inside ws → from_leave n (filter moves_at_node ws) ≡ filter moves_at_node (from_leave (inner inside n) ws)
unfolding inner
commute [] inside n h = refl
commute ((true, c) ∷ ws) false n h = elim (cases_Bool (moves_at_node (true, c))) [
  | inl yes' ↦ ap (from_leave n) (kept_node (true, c) ws yes') ∙ commute ws false (suc n) (subst (λ b. LeavesTokens (true && not b) ws) yes' h.1)
  | inr no' ↦ ap (from_leave n) (kept_token (true, c) ws no') ∙ commute ws true n (subst (λ b. LeavesTokens (true && not b) ws) no' h.1)
]
commute ((false, c) ∷ ws) false zero h = elim (cases_Bool (moves_at_node (false, c))) [
  | inl yes' ↦ ap (from_leave zero) (kept_node (false, c) ws yes') ∙ sym (kept_node (false, c) ws yes')
  | inr no' ↦ absurd (let no : false ≡ true = h.0 no' in cc)
]
commute ((false, c) ∷ ws) false (suc n) h = elim (cases_Bool (moves_at_node (false, c))) [
  | inl yes' ↦ ap (from_leave (suc n)) (kept_node (false, c) ws yes') ∙ commute ws false n h.1
  | inr no' ↦ absurd (let no : false ≡ true = h.0 no' in cc)
]
commute ((true, c) ∷ ws) true n h = absurd (let no : true ≡ false = h.1 in cc)
commute ((false, c) ∷ ws) true n h = ap (from_leave n) (kept_token (false, c) ws h.0) ∙ commute ws false n h.2

-- a walk without nodes has none behind what it skips
no_nodes : (ws : List (Bool × Cursor)) (n : ℕ) → filter moves_at_node ws ≡ [] → filter moves_at_node (from_leave n ws) ≡ []
no_nodes [] n h = refl
no_nodes ((b, c) ∷ ws) n h = elim (cases_Bool (moves_at_node (b, c))) [
  | inl yes' ↦ absurd (let no : (b, c) ∷ filter moves_at_node ws ≡ [] = sym (kept_node (b, c) ws yes') ∙ h in cc)
  | inr no' ↦ skip b n (sym (kept_token (b, c) ws no') ∙ h) h (λ m. no_nodes ws m (sym (kept_token (b, c) ws no') ∙ h))
]
  where
    skip : (b : Bool) (n : ℕ) → filter moves_at_node ws ≡ [] → filter moves_at_node ((b, c) ∷ ws) ≡ [] → ((m : ℕ) → filter moves_at_node (from_leave m ws) ≡ []) → filter moves_at_node (from_leave n ((b, c) ∷ ws)) ≡ []
    skip true n e h again = again (suc n)
    skip false zero e h again = h
    skip false (suc n) e h again = again n

pub skips_nodes : (ws vs : List (Bool × Cursor)) → IsAtNode ws → vs ≡ from_leave 0 ws → filter moves_at_node vs ≡ from_leave 0 (filter moves_at_node ws)
unfolding inner
skips_nodes ws vs (inl h) e = ap (filter moves_at_node) e ∙ sym (commute ws false 0 h)
skips_nodes ws vs (inr h) e = ap (filter moves_at_node) e ∙ no_nodes ws 0 h ∙ sym (ap (from_leave 0) h)

-- what a skip leaves is inside of no token
still : (ws : List (Bool × Cursor)) (inside : Bool) (n : ℕ) → LeavesTokens inside ws → LeavesTokens false (from_leave (inner inside n) ws)
unfolding inner
still [] inside n h = tt
still ((true, c) ∷ ws) false n h = elim (cases_Bool (moves_at_node (true, c))) [
  | inl yes' ↦ still ws false (suc n) (subst (λ b. LeavesTokens (true && not b) ws) yes' h.1)
  | inr no' ↦ still ws true n (subst (λ b. LeavesTokens (true && not b) ws) no' h.1)
]
still ((false, c) ∷ ws) false zero h = h
still ((false, c) ∷ ws) false (suc n) h = still ws false n h.1
still ((true, c) ∷ ws) true n h = absurd (let no : true ≡ false = h.1 in cc)
still ((false, c) ∷ ws) true n h = still ws false n h.2

pub skip_is_at_node : (ws vs : List (Bool × Cursor)) → IsAtNode ws → vs ≡ from_leave 0 ws → IsAtNode vs
unfolding inner
skip_is_at_node ws vs (inl h) e = inl (subst (LeavesTokens false) (sym e) (still ws false 0 h))
skip_is_at_node ws vs (inr h) e = inr (ap (filter moves_at_node) e ∙ no_nodes ws 0 h)

-- ---- what a search for the next step at a node leaves

-- an event of a node is a step at a node
at_node_event : (w : Bool × Cursor) (y : WalkEvent Cursor) → Some y ≡ event_of_node (walk_event w) → moves_at_node w ≡ true
at_node_event (true, c) y is = entered (focus c) is
  where
    entered : (t : Tree) → Some y ≡ event_of_node (Enter (element_by t c)) → is_node t ≡ true
    entered (node k f) is = refl
    entered (token k s) is = (let no : Some y ≡ None = is in cc)
at_node_event (false, c) y is = left (focus c) is
  where
    left : (t : Tree) → Some y ≡ event_of_node (Leave (element_by t c)) → is_node t ≡ true
    left (node k f) is = refl
    left (token k s) is = (let no : Some y ≡ None = is in cc)

-- behind a step the tokens are left too
tail_leaves : (inside : Bool) (w : Bool × Cursor) (l : List (Bool × Cursor)) → LeavesTokens inside (w ∷ l) → (b : Bool) × LeavesTokens b l
tail_leaves false w l h = (w.0 && not (moves_at_node w), h.1)
tail_leaves true w l h = (false, h.2)

step : (x : WalkEvent (NodeOrToken Cursor Cursor)) (s j : List (Bool × Cursor)) (inside : Bool) → map walk_event s ≡ x ∷ map walk_event j → LeavesTokens inside s → (b : Bool) × LeavesTokens b j
unfolding tail_of
step x [] j inside e h = absurd (let no : [] ≡ x ∷ map walk_event j = e in cc)
step x (w ∷ l) j inside e h = let t = tail_leaves inside w l h in (t.0, subst (LeavesTokens t.0) (same_steps l j (ap tail_of e)) t.1)

-- behind a step at a node the walk is inside of no token
node_step : (x : WalkEvent (NodeOrToken Cursor Cursor)) (s j : List (Bool × Cursor)) (inside : Bool) (y : WalkEvent Cursor) → Some y ≡ event_of_node x → map walk_event s ≡ x ∷ map walk_event j → LeavesTokens inside s → LeavesTokens false j
unfolding head_of tail_of
node_step x [] j inside y is e h = absurd (let no : [] ≡ x ∷ map walk_event j = e in cc)
node_step x (w ∷ l) j inside y is e h =
    let at : moves_at_node w ≡ true = at_node_event w y (is ∙ ap event_of_node (sym (ap (head_of x) e))) in
    subst (LeavesTokens false) (same_steps l j (ap tail_of e)) (behind inside w at h)
  where
    no_token : (b : Bool) → LeavesTokens (b && not true) l → LeavesTokens false l
    no_token true h = h
    no_token false h = h

    behind : (inside : Bool) (w : Bool × Cursor) → moves_at_node w ≡ true → LeavesTokens inside (w ∷ l) → LeavesTokens false l
    behind true w at h = h.2
    behind false w at h = no_token w.0 (subst (λ b. LeavesTokens (w.0 && not b) l) at h.1)

module _ {F : Type 0} (g : Mut F (WalkEvent (NodeOrToken Cursor Cursor) × Unit {0}) (Option (WalkEvent Cursor))) (acts : (f : F) → ActsAs g f event_of_node) where
  along : (xs : List (WalkEvent (NodeOrToken Cursor Cursor))) (s t : List (Bool × Cursor)) (inside : Bool) → LeavesTokens inside s → Yields (YieldsFirst (map walk_event)) s xs t → (b : Bool) × LeavesTokens b t
  along [] s t inside h y = (inside, subst (LeavesTokens inside) y h)
  along (x ∷ xs) s t inside h y = let n = step x s y.0 inside y.1 h in along xs y.0 t n.0 n.1 y.2

  reached : (y : WalkEvent Cursor) (o : Option (WalkEvent (NodeOrToken Cursor Cursor))) (t u : List (Bool × Cursor)) (f' : F) (inside : Bool) → LeavesTokens inside t → YieldsFirst (map walk_event) t o u
      → MatchOption o (Some y ≡ None) (λ x. (h : F) × Called g f' (x, tt) (Some y) h) → LeavesTokens false u
  reached y None t u f' inside h e last = absurd (let no : Some y ≡ None = last in cc)
  reached y (Some x) t u f' inside h e last = node_step x t u inside y (acts f' x (Some y) last.0 last.1).1 e h

  no_map : (ws : List (Bool × Cursor)) → map node_event ws ≡ [] → ws ≡ []
  no_map [] e = refl
  no_map (w ∷ ws) e = absurd (let no : node_event w ∷ map node_event ws ≡ [] = e in cc)

  -- the search is at a node again, or at the end
  pub search_is_at_node : (s u : List (Bool × Cursor)) (f : F) (r : Option (WalkEvent Cursor)) → IsAtNode s → FindsMapped (YieldsFirst (map walk_event)) g s f r u
      → YieldsFirst (map node_event) (filter moves_at_node s) r (filter moves_at_node u) → IsAtNode u
  search_is_at_node s u f None at finds told = inr (no_map (filter moves_at_node u) told.1)
  search_is_at_node s u f (Some y) (inr e) finds told = absurd (let no : [] ≡ y ∷ map node_event (filter moves_at_node u) = sym (ap (map node_event) e) ∙ told in cc)
  search_is_at_node s u f (Some y) (inl h) (xs, o, f', yields, folds, last) told =
      let on = along xs s yields.0 false h yields.1 in
      inl (reached y o yields.0 u f' on.0 on.1 yields.2 last)

-- ---- the walk of a row

-- what is left of a walk is inside of a token where its innermost row is one
tokens_left : (whole : Tree) (start next p k : ℕ) → length (walk_left whole start next (Some p)) < k → IsWalk whole start next (Some p) → LeavesTokens (not (is_node (tree_at whole p))) (walk_left whole start next (Some p))
tokens_left whole start next p zero fits w = absurd (omega (arith, fits))
tokens_left whole start next p (suc k) fits w =
    elim (below_or_after next (row_at whole p).end) [
      | inl inside ↦
          let s = step_enter whole start next p w inside in
          let some : 1 < size (tree_at whole p) = omega (arith, inside, end_of_row whole p (open_row whole start next p w), w.open_at.1) in
          let rest = tokens_left whole start (next + 1) next k (omega (arith, ap length s.0, fits)) s.1 in
          subst (λ b. LeavesTokens (not b) (walk_left whole start next (Some p))) (sym (has_rows (tree_at whole p) some))
          (subst (LeavesTokens false) (sym s.0) (λ _. refl, rest))
      | inr past ↦ elim (below_or_after start p) [
        | inl later ↦ elim (hangs whole p (open_row whole start next p w)) [
          | inl root ↦ absurd (omega (arith, root.1 start later, end_of_row whole start w.start_is_row, w.within, w.open_at.1))
          | inr u ↦
              let parent : Some (place_at whole u.q) ≡ parent_place (place_at whole p) = sym (ap parent_place u.place_is ∙ parent_place-append (place_at whole u.q) u.w.position) in
              let s = step_leave whole start next p u.q w (omega (arith, past.1)) later u.in_range parent in
              let rest = tokens_left whole start next u.q k (omega (arith, ap length s.0, fits)) s.1 in
              subst (LeavesTokens (not (is_node (tree_at whole p)))) (sym s.0) (left p (walk_left whole start next (Some u.q)) (subst (λ t. LeavesTokens (not (is_node t)) (walk_left whole start next (Some u.q))) u.parent_is rest))
        ]
        | inr same ↦
            let is : start ≡ p = omega (arith, same.1, w.open_at.0) in
            let s = step_last whole start next (subst (λ x. IsWalk whole start next (Some x)) (sym is) w) (subst (λ x. (row_at whole x).end ≤ next) (sym is) (omega (arith, past.1))) in
            let done = step_done whole start next s.1 (omega (arith, is, w.open_at.1)) in
            subst (λ x. LeavesTokens (not (is_node (tree_at whole x))) (walk_left whole start next (Some x))) is
            (subst (LeavesTokens (not (is_node (tree_at whole start)))) (sym s.0) (left start (walk_left whole start next None) (subst (LeavesTokens false) (sym done) tt)))
      ]
    ]
  where
    has_rows : (t : Tree) → 1 < size t → is_node t ≡ true
    has_rows (node k c) h = refl
    has_rows (token k t) h = absurd (omega (arith, h))

    left : (p : ℕ) (ws : List (Bool × Cursor)) → LeavesTokens false ws → LeavesTokens (not (is_node (tree_at whole p))) ((false, cursor_at whole p) ∷ ws)
    left p ws h = elim (cases_Bool (is_node (tree_at whole p))) [
      | inl yes' ↦ subst (λ b. LeavesTokens (not b) ((false, cursor_at whole p) ∷ ws)) (sym yes') (λ no'. true_is_not_false (is_node (tree_at whole p)) yes' no', h)
      | inr no' ↦ subst (λ b. LeavesTokens (not b) ((false, cursor_at whole p) ∷ ws)) (sym no') (no', refl, h)
    ]

-- a walk that has not begun is inside of no token
pub walk_is_at_node : (whole : Tree) (start : ℕ) → start < size whole → IsAtNode (walk_of (cursor_at whole start))
walk_is_at_node whole start h =
    let s = step_first whole start h in
    let rest = tokens_left whole start (start + 1) start (length (walk_left whole start (start + 1) (Some start)) + 1) (omega arith) s.1 in
    inl (subst (LeavesTokens false) (sym s.0 ∙ walk_left-whole whole start) (λ _. refl, rest))
