-- What a loop appends for one more element of a list.
use Rattle.std.proofs.Common.{◌≡◌, ◌∙◌, ◌+◌, ◌<◌, ◌++◌, ◌∷◌, [], ap, sym, append_assoc, get_or, length, List, map, take, ℕ}
use Rattle.std.specs.Prelude.{flat_map}
use Rattle.std.proofs.lemmas.List.{flat_map_more, map_more, take_more}

pub map_one_more : {A B : Type 0} (f : A → B) (start : List B) (xs : List A) (i : ℕ) (x : A) (y : B) → i < length xs → x ≡ get_or xs i x → y ≡ f x → (start ++ map f (take i xs)) ++ y ∷ [] ≡ start ++ map f (take (i + 1) xs)
map_one_more f start xs i x y lt is same =
    append_assoc start (map f (take i xs)) (y ∷ [])
    ∙ ap (λ l. start ++ l) (ap (λ z. map f (take i xs) ++ z ∷ []) (same ∙ ap f is) ∙ sym (map_more f xs i x lt))

pub flat_map_one_more : {A B : Type 0} (f : A → List B) (start : List B) (xs : List A) (i : ℕ) (x : A) → i < length xs → x ≡ get_or xs i x → (start ++ flat_map f (take i xs)) ++ f x ≡ start ++ flat_map f (take (i + 1) xs)
flat_map_one_more f start xs i x lt is =
    flat_map_more f start (take i xs) x
    ∙ ap (λ l. start ++ flat_map f l) (ap (λ z. take i xs ++ z ∷ []) is ∙ sym (take_more xs i x lt))
