-- A view that is put after others, of the node that came first.
use Rattle.std.proofs.Common.{◌≡◌, Bool, true, false, List, [], ◌∷◌, ◌++◌, Some, None, map, cond, refl, sym, ap, ◌∙◌}
use Rattle.std.specs.Prelude.{if◌then◌else◌}
use Rattle.std.specs.List.{filter}
use Rattle.tree_model.specs.Cursor.{Cursor}

put_behind : {P : Type 0} (f : P → Cursor) (views : List P) (view : P) (l : List Cursor) → map f (views ++ view ∷ []) ++ l ≡ map f views ++ (f view ∷ l)
put_behind f [] view l = refl
put_behind f (v ∷ vs) view l = ap (λ k. f v ∷ k) (put_behind f vs view l)

taken : (test : Cursor → Bool) (x y : Cursor) (rest : List Cursor) → Some y ≡ (if test x then Some x else None) → y ∷ filter test rest ≡ filter test (x ∷ rest)
taken test x y rest e = by (test x) e
  where
    by : (b : Bool) → Some y ≡ (if b then Some x else None) → y ∷ filter test rest ≡ cond b (x ∷ filter test rest) (filter test rest)
    by true e = ap (λ z. z ∷ filter test rest) (let same : y ≡ x = cc in same)
    by false e = absurd (let bad : Some y ≡ None = e in cc)

pub pushed : {P : Type 0} (f : P → Cursor) (test : Cursor → Bool) (views now : List P) (view : P) (x : Cursor) (left rest all : List Cursor)
    → now ≡ views ++ view ∷ [] → left ≡ x ∷ rest → Some (f view) ≡ (if test x then Some x else None) → map f views ++ filter test left ≡ all
    → map f now ++ filter test rest ≡ all
pushed f test views now view x left rest all n l e h =
    ap (λ vs. map f vs ++ filter test rest) n
    ∙ put_behind f views view (filter test rest)
    ∙ ap (λ k. map f views ++ k) (taken test x (f view) rest e)
    ∙ ap (λ k. map f views ++ filter test k) (sym l)
    ∙ h
