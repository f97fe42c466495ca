-- The steps of a walk are those of the trees that are left.
use Rattle.std.proofs.Common.{◌≡◌, ℕ, suc, ◌+◌, ◌<◌, Bool, true, false, ◌&&◌, ◌||◌, List, [], ◌∷◌, ◌++◌, length, refl, sym, subst, ◌∙◌, ap, inl, inr, arith}
use Rattle.std.specs.Prelude.{if◌then◌else◌, ◌⊎◌, Some, None}
use Rattle.std.specs.Cmp.Lexicographic.{pointwise}
use Rattle.syntax_kind.specs.declared.syntax_kind.SyntaxKind.{SyntaxKind}
use Rattle.syntax_kind.specs.declared.syntax_kind.TheConstants.SyntaxKind.{PAREN_EXPR, L_PAREN}
use Rattle.tree_model.specs.Tree.{node, token, Forest, nil, cons, kind_of, forest_of_children}
use Rattle.lossless_tree.specs.Trees.{Siblings, first_of, rest_of, behind_first}
use Rattle.tree_match.specs.declared.bare.Comments.{Comments}
use Rattle.tree_match.specs.declared.bare.Comments.TheVariants.{Passed}
use Rattle.tree_match.specs.Bare.{Step, enter, leave, leaf, end, is_passed, is_passed_tree, past_trees, past_start, is_token_of, is_node_there, is_node_of, opening, held, opens, closes, is_pair, inner, is_last_comma, without_comma, is_element, behind_one, is_same_step, is_end}
use Rattle.tree_match.specs.Walks.{step_at, advance}
use Rattle.tree_match.specs.Same.{steps, steps_left, IsDecided}
use Rattle.tree_match.proofs.BareLemmas.{at, and_left, and_right}

append_three : {A : Type 0} (l m n : List A) → (l ++ m) ++ n ≡ l ++ (m ++ n)
append_three [] m n = refl
append_three (x ∷ l) m n = ap (λ k. x ∷ k) (append_three l m n)

-- ---- what is passed over is no step

steps_past : (cs : Comments) (f : Forest) → steps cs false false f ≡ steps cs false false (past_trees cs f)
steps_past cs nil = refl
steps_past cs (cons (node k c) r) = refl
steps_past cs (cons (token k t) r) = by (is_passed cs k) (steps_past cs r) refl
  where
    by : (x : Bool) → steps cs false false r ≡ steps cs false false (past_trees cs r) → is_passed cs k ≡ x
        → (if x || false then [] else leaf k t ∷ []) ++ steps cs false false r ≡ steps cs false false (if x then past_trees cs r else cons (token k t) r)
    by true h e = h
    by false h e = ap (λ y. (if y || false then [] else leaf k t ∷ []) ++ steps cs false false r) (sym e)

past_counts : (cs : Comments) (f : Forest) → is_passed_tree cs (first_of (past_trees cs f)) ≡ false
past_counts cs nil = refl
past_counts cs (cons (node k c) r) = refl
past_counts cs (cons (token k t) r) = by (is_passed cs k) (past_counts cs r) refl
  where
    by : (x : Bool) → is_passed_tree cs (first_of (past_trees cs r)) ≡ false → is_passed cs k ≡ x
        → is_passed_tree cs (first_of (if x then past_trees cs r else cons (token k t) r)) ≡ false
    by true h e = h
    by false h e = e

-- ---- a comma at the end of a list is no step behind an element

-- the siblings from the first on that counts, if a token in front of them is passed over or not
abbrev past_by : Comments → SyntaxKind → List ℕ → Forest → ℕ → Bool → Siblings
past_by cs k t r b x = at (if x then past_trees cs r else cons (token k t) r) (if x then past_start cs r (b + length t) else b)

abbrev comma_by : Bool → Siblings → Siblings → Siblings
comma_by y next s = if y then behind_first next else s

steps_comma : (cs : Comments) (f : Forest) (b : ℕ) → steps cs false true f ≡ steps cs false false (without_comma cs (at f b)).trees
steps_comma cs nil b = refl
steps_comma cs (cons (node k c) r) b = refl
steps_comma cs (cons (token k t) r) b = by (is_passed cs k) (steps_comma cs r (b + length t)) refl
  where
    passed : (y : Bool) → is_passed cs k ≡ true
        → steps cs false true r ≡ steps cs false false (comma_by y (past_by cs k t r b true) (at r (b + length t))).trees
        → steps cs false true r ≡ steps cs false false (comma_by y (past_by cs k t r b true) (at (cons (token k t) r) b)).trees
    passed true e i = i
    passed false e i = i ∙ ap (λ z. (if z || false then [] else leaf k t ∷ []) ++ steps cs false false r) (sym e)

    counts : (y : Bool) → is_passed cs k ≡ false
        → (if y then [] else leaf k t ∷ []) ++ steps cs false false r
        ≡ steps cs false false (comma_by y (past_by cs k t r b false) (at (cons (token k t) r) b)).trees
    counts true e = refl
    counts false e = ap (λ z. (if z || false then [] else leaf k t ∷ []) ++ steps cs false false r) (sym e)

    by : (x : Bool) → steps cs false true r ≡ steps cs false false (without_comma cs (at r (b + length t))).trees → is_passed cs k ≡ x
        → (if x || is_last_comma cs (cons (token k t) r) then [] else leaf k t ∷ []) ++ steps cs false x r
        ≡ steps cs false false (comma_by (is_last_comma cs (past_by cs k t r b x).trees) (past_by cs k t r b x) (at (cons (token k t) r) b)).trees
    by true h e = passed (is_last_comma cs (past_trees cs r)) e h
    by false h e = counts (is_last_comma cs (cons (token k t) r)) e

-- the siblings behind a node
steps_behind : (cs : Comments) (k : SyntaxKind) (c r : Forest) (b : ℕ)
    → steps cs false (is_element (cons (node k c) r)) r ≡ steps cs false false (behind_one cs (at (cons (node k c) r) b)).trees
steps_behind cs k c r b = by (is_element (cons (node k c) r))
  where
    by : (x : Bool) → steps cs false x r ≡ steps cs false false (if x then without_comma cs (behind_first (at (cons (node k c) r) b)) else behind_first (at (cons (node k c) r) b)).trees
    by true = steps_comma cs r (behind_first (at (cons (node k c) r) b)).start
    by false = refl

-- ---- a pair has a node in it

has_node : Forest → Bool
has_node nil = false
has_node (cons (node k c) r) = true
has_node (cons (token k t) r) = has_node r

past_has : (cs : Comments) (f : Forest) → has_node (past_trees cs f) ≡ true → has_node f ≡ true
unfolding has_node
past_has cs nil h = h
past_has cs (cons (node k c) r) h = refl
past_has cs (cons (token k t) r) h = by (is_passed cs k) (past_has cs r) h
  where
    by : (x : Bool) → (has_node (past_trees cs r) ≡ true → has_node r ≡ true)
        → has_node (if x then past_trees cs r else cons (token k t) r) ≡ true → has_node r ≡ true
    by true i h = i h
    by false i h = h

rest_has : (f : Forest) → has_node (rest_of f) ≡ true → has_node f ≡ true
unfolding has_node
rest_has nil h = h
rest_has (cons (node k c) r) h = refl
rest_has (cons (token k t) r) h = h

there_has : (f : Forest) → is_node_there f ≡ true → has_node f ≡ true
unfolding has_node
there_has nil h = h
there_has (cons (node k c) r) h = refl
there_has (cons (token k t) r) h = absurd (let bad : false ≡ true = h in cc)

pair_has : (cs : Comments) (k : SyntaxKind) (c r : Forest) (b : ℕ) → is_pair cs (at (cons (node k c) r) b) ≡ true → has_node c ≡ true
pair_has cs k c r b h =
    let s : Siblings = at (cons (node k c) r) b in
    let there : is_node_there (held cs s).trees ≡ true =
    and_right (is_token_of L_PAREN (opening cs s).trees) _ (and_left (opens cs s) (closes cs s) (and_right (is_node_of PAREN_EXPR s.trees) _ h)) in
    past_has cs c (rest_has (past_trees cs c) (past_has cs (rest_of (past_trees cs c)) (there_has (held cs s).trees there)))

-- ---- the steps of a node, in whatever pairs it is

abbrev node_steps : Comments → Siblings → List Step
node_steps cs s = enter (kind_of (first_of s.trees)) ∷ (steps cs false false (forest_of_children (first_of s.trees)) ++ leave ∷ [])

held_steps : (cs : Comments) (f : Forest) (b : ℕ) → has_node f ≡ true → steps cs true false f ≡ node_steps cs (inner cs f b)
unfolding has_node
held_steps cs nil b h = absurd (let bad : false ≡ true = h in cc)
held_steps cs (cons (token k t) r) b h = held_steps cs r (b + length t) h
held_steps cs (cons (node k c) r) b h = by (is_pair cs (at (cons (node k c) r) b)) (held_steps cs c b) (pair_has cs k c r b)
  where
    by : (x : Bool) → (has_node c ≡ true → steps cs true false c ≡ node_steps cs (inner cs c b)) → (x ≡ true → has_node c ≡ true)
        → (if x then steps cs true false c else enter k ∷ (steps cs false false c ++ leave ∷ []))
        ≡ node_steps cs (if x then inner cs c b else at (cons (node k c) r) b)
    by true i e = i (e refl)
    by false i e = refl

-- ---- the next step

step_view : (cs : Comments) (g : Forest) (b : ℕ) (below : List Siblings) → is_passed_tree cs (first_of g) ≡ false
    → steps cs false false g ++ leave ∷ steps_left cs below ≡ (step_at cs (at g b) below).0 ∷ steps_left cs (step_at cs (at g b) below).1
step_view cs nil b below h = refl
step_view cs (cons (token k t) r) b below h =
    ap (λ x. ((if x || false then [] else leaf k t ∷ []) ++ steps cs false false r) ++ leave ∷ steps_left cs below) h
step_view cs (cons (node k c) r) b below h =
    let s : Siblings = inner cs (cons (node k c) r) b in
    let f : Forest = cons (node k c) r in
    let m : List Step = steps cs false false (behind_one cs (at f b)).trees in
    let l : List Step = m ++ leave ∷ steps_left cs below in
    ap (λ x. (steps cs true false f ++ x) ++ leave ∷ steps_left cs below) (steps_behind cs k c r b)
    ∙ append_three (steps cs true false f) m (leave ∷ steps_left cs below)
    ∙ ap (λ x. x ++ l) (held_steps cs f b (there_has f refl))
    ∙ ap (λ x. enter (kind_of (first_of s.trees)) ∷ x) (append_three (steps cs false false (forest_of_children (first_of s.trees))) (leave ∷ []) l)

step_goes : (cs : Comments) (g : Forest) (b : ℕ) (below : List Siblings) → is_end (step_at cs (at g b) below).0 ≡ false
step_goes cs nil b below = refl
step_goes cs (cons (token k t) r) b below = refl
step_goes cs (cons (node k c) r) b below = refl

-- the walk has ended and no steps are left, or the step is the first of those that were left
abbrev IsNextStep : List Step → Step → List Step → Type 0
IsNextStep old x new = ((old ≡ []) × (x ≡ end)) ⊎ ((old ≡ x ∷ new) × (is_end x ≡ false))

next_step : (cs : Comments) (st : List Siblings) → IsNextStep (steps_left cs st) (advance cs st).0 (steps_left cs (advance cs st).1)
next_step cs [] = inl (refl, refl)
next_step cs (s ∷ below) =
    inr (
      ap (λ x. x ++ leave ∷ steps_left cs below) (steps_past cs s.trees)
          ∙ step_view cs (past_trees cs s.trees) (past_start cs s.trees s.start) below (past_counts cs s.trees),
      step_goes cs (past_trees cs s.trees) (past_start cs s.trees s.start) below,
    )

-- ---- two walks side by side

not_end : (x : Step) → is_end x ≡ false → is_same_step x end ≡ false
not_end (enter k) h = refl
not_end leave h = refl
not_end (leaf k t) h = refl
not_end end h = absurd (let bad : true ≡ false = h in cc)

end_not : (x : Step) → is_end x ≡ false → is_same_step end x ≡ false
end_not (enter k) h = refl
end_not leave h = refl
end_not (leaf k t) h = refl
end_not end h = absurd (let bad : true ≡ false = h in cc)

-- what two steps say of the steps that are left
pub record IsCompared (old other new new_other : List Step) (x y : Step) : Type 0 where
  pub differ : is_same_step x y ≡ false → false ≡ pointwise is_same_step old other
  pub ended : is_same_step x y ≡ true → is_end x ≡ true → true ≡ pointwise is_same_step old other
  pub goes_on : is_same_step x y ≡ true → is_end x ≡ false → pointwise is_same_step new new_other ≡ pointwise is_same_step old other
  pub shorter : is_end x ≡ false → length new < length old

both_next : (old other new new_other : List Step) (x y : Step) → IsNextStep old x new → IsNextStep other y new_other
    → IsCompared old other new new_other x y
both_next old other new new_other x y (inl a) (inl b) = record {
  differ = λ h. absurd (let bad : true ≡ false = sym (ap (λ z. is_same_step z y) a.1 ∙ ap (is_same_step end) b.1) ∙ h in cc);
  ended = λ h e. sym (ap (λ z. pointwise is_same_step z other) a.0 ∙ ap (pointwise is_same_step []) b.0);
  goes_on = λ h e. absurd (let bad : true ≡ false = sym (ap is_end a.1) ∙ e in cc);
  shorter = λ e. absurd (let bad : true ≡ false = sym (ap is_end a.1) ∙ e in cc);
}
both_next old other new new_other x y (inl a) (inr b) = record {
  differ = λ h. sym (ap (λ z. pointwise is_same_step z other) a.0 ∙ ap (pointwise is_same_step []) b.0);
  ended = λ h e. absurd (let bad : false ≡ true = sym (ap (λ z. is_same_step z y) a.1 ∙ end_not y b.1) ∙ h in cc);
  goes_on = λ h e. absurd (let bad : true ≡ false = sym (ap is_end a.1) ∙ e in cc);
  shorter = λ e. absurd (let bad : true ≡ false = sym (ap is_end a.1) ∙ e in cc);
}
both_next old other new new_other x y (inr a) (inl b) = record {
  differ = λ h. sym (ap (λ z. pointwise is_same_step z other) a.0 ∙ ap (pointwise is_same_step (x ∷ new)) b.0);
  ended = λ h e. absurd (let bad : false ≡ true = sym a.1 ∙ e in cc);
  goes_on = λ h e. absurd (let bad : false ≡ true = sym (ap (is_same_step x) b.1 ∙ not_end x a.1) ∙ h in cc);
  shorter = λ e. (let l : length old ≡ suc (length new) = ap length a.0 in omega (arith, l));
}
both_next old other new new_other x y (inr a) (inr b) = record {
  differ = λ h. sym (ap (λ z. pointwise is_same_step z other) a.0 ∙ ap (pointwise is_same_step (x ∷ new)) b.0 ∙ ap (λ z. z && pointwise is_same_step new new_other) h);
  ended = λ h e. absurd (let bad : false ≡ true = sym a.1 ∙ e in cc);
  goes_on = λ h e. sym (ap (λ z. pointwise is_same_step z other) a.0 ∙ ap (pointwise is_same_step (x ∷ new)) b.0 ∙ ap (λ z. z && pointwise is_same_step new new_other) h);
  shorter = λ e. (let l : length old ≡ suc (length new) = ap length a.0 in omega (arith, l));
}

compared : (c d : Comments) (st su st' su' : List Siblings) (x y : Step) → c ≡ Passed → d ≡ Passed
    → (x, st') ≡ advance c st → (y, su') ≡ advance d su
    → IsCompared (steps_left Passed st) (steps_left Passed su) (steps_left Passed st') (steps_left Passed su') x y
compared c d st su st' su' x y p q e f =
    let a : (x, st') ≡ advance Passed st = e ∙ ap (λ k. advance k st) p in
    let b : (y, su') ≡ advance Passed su = f ∙ ap (λ k. advance k su) q in
    let n : IsNextStep (steps_left Passed st) x (steps_left Passed st') =
    subst (λ (t : Step × List Siblings). IsNextStep (steps_left Passed st) t.0 (steps_left Passed t.1)) (sym a) (next_step Passed st) in
    let m : IsNextStep (steps_left Passed su) y (steps_left Passed su') =
    subst (λ (t : Step × List Siblings). IsNextStep (steps_left Passed su) t.0 (steps_left Passed t.1)) (sym b) (next_step Passed su) in
    both_next (steps_left Passed st) (steps_left Passed su) (steps_left Passed st') (steps_left Passed su') x y n m

pub differ : (c d : Comments) (st su st' su' : List Siblings) (x y : Step) → c ≡ Passed → d ≡ Passed
    → (x, st') ≡ advance c st → (y, su') ≡ advance d su → is_same_step x y ≡ false → IsDecided st su st' su' (Some false)
differ c d st su st' su' x y p q e f h = (compared c d st su st' su' x y p q e f).differ h

pub ended : (c d : Comments) (st su st' su' : List Siblings) (x y : Step) → c ≡ Passed → d ≡ Passed
    → (x, st') ≡ advance c st → (y, su') ≡ advance d su → is_same_step x y ≡ true → is_end x ≡ true → IsDecided st su st' su' (Some true)
ended c d st su st' su' x y p q e f h g = (compared c d st su st' su' x y p q e f).ended h g

pub goes_on : (c d : Comments) (st su st' su' : List Siblings) (x y : Step) → c ≡ Passed → d ≡ Passed
    → (x, st') ≡ advance c st → (y, su') ≡ advance d su → is_same_step x y ≡ true → is_end x ≡ false → IsDecided st su st' su' None
goes_on c d st su st' su' x y p q e f h g =
    let all = compared c d st su st' su' x y p q e f in
    (all.goes_on h g, all.shorter g)
