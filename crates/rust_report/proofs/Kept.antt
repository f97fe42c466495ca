-- A list that is gathered of what passes a test, one after the other.
use Rattle.std.proofs.Common.{◌≡◌, Bool, true, false, List, [], ◌∷◌, ◌++◌, map, cond, refl, sym, ap, ◌∙◌}
use Rattle.std.specs.List.{filter}

put_behind : {A : Type 0} (before : List A) (x : A) (l : List A) → (before ++ x ∷ []) ++ l ≡ before ++ (x ∷ l)
put_behind [] x l = refl
put_behind (y ∷ ys) x l = ap (λ k. y ∷ k) (put_behind ys x l)

-- the first of what is left passes, and is put after; it does not pass
pub taken : {A B : Type 0} (f : A → B) (test : A → Bool) (before now : List B) (view : B) (x : A) (left rest : List A) (all : List B)
    → now ≡ before ++ view ∷ [] → left ≡ x ∷ rest → view ≡ f x → test x ≡ true → before ++ map f (filter test left) ≡ all
    → now ++ map f (filter test rest) ≡ all
taken f test before now view x left rest all n l v t h =
    ap (λ k. k ++ map f (filter test rest)) n
    ∙ put_behind before view (map f (filter test rest))
    ∙ ap (λ w. before ++ (w ∷ map f (filter test rest))) v
    ∙ ap (λ b. before ++ map f (cond b (x ∷ filter test rest) (filter test rest))) (sym t)
    ∙ ap (λ k. before ++ map f (filter test k)) (sym l)
    ∙ h

pub passed : {A B : Type 0} (f : A → B) (test : A → Bool) (before : List B) (x : A) (left rest : List A) (all : List B)
    → left ≡ x ∷ rest → test x ≡ false → before ++ map f (filter test left) ≡ all → before ++ map f (filter test rest) ≡ all
passed f test before x left rest all l t h =
    ap (λ b. before ++ map f (cond b (x ∷ filter test rest) (filter test rest))) (sym t)
    ∙ ap (λ k. before ++ map f (filter test k)) (sym l)
    ∙ h

-- the same without a view
pub taken_so : {A : Type 0} (test : A → Bool) (before now : List A) (x : A) (left rest all : List A)
    → now ≡ before ++ x ∷ [] → left ≡ x ∷ rest → test x ≡ true → before ++ filter test left ≡ all → now ++ filter test rest ≡ all
taken_so test before now x left rest all n l t h =
    ap (λ k. k ++ filter test rest) n
    ∙ put_behind before x (filter test rest)
    ∙ ap (λ b. before ++ cond b (x ∷ filter test rest) (filter test rest)) (sym t)
    ∙ ap (λ k. before ++ filter test k) (sym l)
    ∙ h

pub passed_so : {A : Type 0} (test : A → Bool) (before : List A) (x : A) (left rest all : List A)
    → left ≡ x ∷ rest → test x ≡ false → before ++ filter test left ≡ all → before ++ filter test rest ≡ all
passed_so test before x left rest all l t h =
    ap (λ b. before ++ cond b (x ∷ filter test rest) (filter test rest)) (sym t) ∙ ap (λ k. before ++ filter test k) (sym l) ∙ h

-- the filter of a list that begins so
pub begins : {A : Type 0} (test : A → Bool) (x : A) (left rest : List A) → left ≡ x ∷ rest → test x ≡ true → filter test left ≡ x ∷ filter test rest
begins test x left rest l t = ap (filter test) l ∙ ap (λ b. cond b (x ∷ filter test rest) (filter test rest)) t

pub goes_past : {A : Type 0} (test : A → Bool) (x : A) (left rest : List A) → left ≡ x ∷ rest → test x ≡ false → filter test left ≡ filter test rest
goes_past test x left rest l t = ap (filter test) l ∙ ap (λ b. cond b (x ∷ filter test rest) (filter test rest)) t
