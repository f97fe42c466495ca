-- Two chains merged by length: one step of either.
use Rattle.std.proofs.Common.{◌≡◌, suc, ◌+◌, List, [], ◌∷◌, ◌++◌, take, drop, true, false, cond, refl, sym, ap, ◌∙◌, arith}
use Rattle.std.specs.Prelude.{Some, None, Option}
use Rattle.tree_model.specs.Cursor.{Cursor, ancestors_of, ancestors_from, parent_of}
use Rattle.tree_model.proofs.AncestorLemmas.{ancestors_of-step}
use Rattle.ras_algo.specs.Algo.{merged, is_shorter, shorter_count, takes_right}

-- the right one is shorter, and comes first
right_first : (c n : Cursor) (left right : List Cursor) → is_shorter n c ≡ true → merged (c ∷ left) (n ∷ right) ≡ n ∷ merged (c ∷ left) right
right_first c n left right e =
    let count : shorter_count c (n ∷ right) ≡ suc (shorter_count c right) = ap (λ b. cond b (1 + shorter_count c right) 0) e ∙ omega arith in
    ap (λ k. take k (n ∷ right) ++ c ∷ merged left (drop k (n ∷ right))) count

-- it is not, and the left one comes first
left_first : (c n : Cursor) (left right : List Cursor) → is_shorter n c ≡ false → merged (c ∷ left) (n ∷ right) ≡ c ∷ merged left (n ∷ right)
left_first c n left right e =
    let count : shorter_count c (n ∷ right) ≡ 0 = ap (λ b. cond b (1 + shorter_count c right) 0) e in
    ap (λ k. take k (n ∷ right) ++ c ∷ merged left (drop k (n ∷ right))) count

-- one step of the merged chains, by which of them gives the next
pub right-step : (left right : Option Cursor) (all : List Cursor) (n : Cursor) (up : Option Cursor) → merged (ancestors_from left) (ancestors_from right) ≡ all → takes_right left right ≡ true → right ≡ Some n → up ≡ parent_of n → all ≡ n ∷ merged (ancestors_from left) (ancestors_from up)
right-step left right all n up view test is above = sym view ∙ ap (λ r. merged (ancestors_from left) (ancestors_from r)) is ∙ step left (sym (ap (takes_right left) is) ∙ test)
  where
    chain : ancestors_of n ≡ n ∷ ancestors_from up
    chain = ancestors_of-step n ∙ ap (λ u. n ∷ ancestors_from u) (sym above)

    step : (l : Option Cursor) → takes_right l (Some n) ≡ true → merged (ancestors_from l) (ancestors_of n) ≡ n ∷ merged (ancestors_from l) (ancestors_from up)
    step None e = chain
    step (Some c) e =
        ap (λ l. merged l (ancestors_of n)) (ancestors_of-step c) ∙ ap (merged (c ∷ ancestors_from (parent_of c))) chain
        ∙ right_first c n (ancestors_from (parent_of c)) (ancestors_from up) e
        ∙ ap (λ l. n ∷ merged l (ancestors_from up)) (sym (ancestors_of-step c))

pub left-step : (left right : Option Cursor) (all : List Cursor) (c : Cursor) (up : Option Cursor) → merged (ancestors_from left) (ancestors_from right) ≡ all → takes_right left right ≡ false → left ≡ Some c → up ≡ parent_of c → all ≡ c ∷ merged (ancestors_from up) (ancestors_from right)
left-step left right all c up view test is above = sym view ∙ ap (λ l. merged (ancestors_from l) (ancestors_from right)) is ∙ step right (sym (ap (λ l. takes_right l right) is) ∙ test)
  where
    chain : ancestors_of c ≡ c ∷ ancestors_from up
    chain = ancestors_of-step c ∙ ap (λ u. c ∷ ancestors_from u) (sym above)

    step : (r : Option Cursor) → takes_right (Some c) r ≡ false → merged (ancestors_of c) (ancestors_from r) ≡ c ∷ merged (ancestors_from up) (ancestors_from r)
    step None e = ap (λ l. merged l []) chain
    step (Some n) e =
        ap (merged (ancestors_of c)) (ancestors_of-step n) ∙ ap (λ l. merged l (n ∷ ancestors_from (parent_of n))) chain
        ∙ left_first c n (ancestors_from up) (ancestors_from (parent_of n)) e
        ∙ ap (λ r. c ∷ merged (ancestors_from up) r) (sym (ancestors_of-step n))

-- a chain merged with an empty one
pub merged-nothing : (left : List Cursor) → merged left [] ≡ left
merged-nothing [] = refl
merged-nothing (c ∷ left) = ap (λ l. c ∷ l) (merged-nothing left)
