-- Runs of siblings, and the siblings that they are made of.
use Rattle.std.proofs.Common.{◌≡◌, ℕ, zero, suc, ◌+◌, ◌-◌, ◌<◌, ◌≤◌, List, [], ◌∷◌, ◌++◌, length, refl, sym, ◌∙◌, ap, arith}
use Rattle.std.specs.Prelude.{Option, Some}
use Rattle.tree_model.specs.Tree.{node, token, Forest, nil, cons, text, forest_text}
use Rattle.lossless_tree.specs.Trees.{Siblings, first_of, rest_of, behind_first}
use Rattle.tree_match.specs.Runs.{first_trees, run_of}

first_some : (n : ℕ) (f : Forest) → (n ≡ 0 → ⊥) → first_of f ≡ first_of (first_trees n f)
first_some zero f h = absurd (h refl)
first_some (suc n) nil h = refl
first_some (suc n) (cons t r) h = refl

none_first : (n : ℕ) → first_trees n nil ≡ nil
none_first zero = refl
none_first (suc n) = refl

rest_some : (n : ℕ) (f : Forest) → (n ≡ 0 → ⊥) → first_trees (n - 1) (rest_of f) ≡ rest_of (first_trees n f)
rest_some zero f h = absurd (h refl)
rest_some (suc n) nil h = none_first (suc n - 1)
rest_some (suc n) (cons t r) h = ap (λ m. first_trees m r) (let e : suc n - 1 ≡ n = omega arith in e)

-- what a run that has siblings begins with
pub first_seen : (now s : Siblings) (o : Option ℕ) (n : ℕ) → run_of o s ≡ now → o ≡ Some n → (n ≡ 0 → ⊥) → first_of s.trees ≡ first_of now.trees
first_seen now s o n view e h = first_some n s.trees h ∙ ap (λ x. first_of (run_of x s).trees) (sym e) ∙ ap (λ r. first_of r.trees) view

-- a run behind its first sibling
pub rest_seen : (now s r : Siblings) (o : Option ℕ) (n : ℕ) → run_of o s ≡ now → o ≡ Some n → (n ≡ 0 → ⊥) → r ≡ behind_first s
    → run_of (Some (n - 1)) r ≡ behind_first now
rest_seen now s r o n view e h b =
    ap (run_of (Some (n - 1))) b
    ∙ ap (λ f. record { trees = f; start = s.start + length (text (first_of s.trees)) }) (rest_some n s.trees h)
    ∙ ap (λ t. record { trees = rest_of (first_trees n s.trees); start = s.start + length (text t) }) (first_some n s.trees h)
    ∙ ap (λ x. behind_first (run_of x s)) (sym e) ∙ ap behind_first view

-- ---- the first few of the first few

first_less : (n m : ℕ) (f : Forest) → m < n → first_trees m f ≡ first_trees n (first_trees m f)
first_less zero m f h = absurd (omega (arith, h))
first_less (suc n) zero f h = refl
first_less (suc n) (suc m) nil h = refl
first_less (suc n) (suc m) (cons t r) h = ap (cons t) (first_less n m r (omega (arith, h)))

first_more : (n m : ℕ) (f : Forest) → n ≤ m → first_trees n f ≡ first_trees n (first_trees m f)
first_more zero m f h = refl
first_more (suc n) zero f h = absurd (omega (arith, h))
first_more (suc n) (suc m) nil h = refl
first_more (suc n) (suc m) (cons t r) h = ap (cons t) (first_more n m r (omega (arith, h)))

pub less_seen : (now s : Siblings) (o : Option ℕ) (n m : ℕ) → run_of o s ≡ now → o ≡ Some m → m < n → now ≡ run_of (Some n) now
less_seen now s o n m view e h =
    let is : run_of (Some m) s ≡ now = ap (λ x. run_of x s) (sym e) ∙ view in
    sym is ∙ ap (λ f. record { trees = f; start = s.start }) (first_less n m s.trees h) ∙ ap (run_of (Some n)) is

pub more_seen : (now s : Siblings) (o : Option ℕ) (n m : ℕ) → run_of o s ≡ now → o ≡ Some m → n ≤ m → run_of (Some n) s ≡ run_of (Some n) now
more_seen now s o n m view e h =
    ap (λ f. record { trees = f; start = s.start }) (first_more n m s.trees h) ∙ ap (λ x. run_of (Some n) (run_of x s)) (sym e) ∙ ap (run_of (Some n)) view

-- ---- the text of a run

length_of_two : (l m : List ℕ) → length (l ++ m) ≡ length l + length m
length_of_two [] m = omega arith
length_of_two (x ∷ l) m = ap suc (length_of_two l m) ∙ (let e : suc (length l + length m) ≡ suc (length l) + length m = omega arith in e)

text_step : (f : Forest) → length (forest_text f) ≡ length (text (first_of f)) + length (forest_text (rest_of f))
text_step nil = omega arith
text_step (cons (node k c) r) = length_of_two (forest_text c) (forest_text r)
text_step (cons (token k t) r) = length_of_two t (forest_text r)

pub text_left : (s : Siblings) → (behind_first s).start + length (forest_text (behind_first s).trees) ≡ s.start + length (forest_text s.trees)
text_left s = omega (arith, text_step s.trees)
