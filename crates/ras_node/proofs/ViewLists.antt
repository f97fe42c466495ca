-- The first and the last of a list of cursors: what a filter keeps, what a search finds, and what
-- comes last.
use Rattle.std.proofs.Common.{◌≡◌, List, [], ◌∷◌, cond, Bool, true, false, refl, sym, ap, ◌∙◌}
use Rattle.std.specs.Prelude.{Some, None, Option, option_map, map}
use Rattle.std.specs.Iterator.{Drains, YieldsFirstBy}
use Rattle.std.specs.List.{filter, last_or}
use Rattle.std.proofs.lemmas.Iterator.{items_from_drains}
use Rattle.std.proofs.lemmas.Iterator.Consumers.{YieldsList-from_first}

-- the first of the list passes the test: the filter keeps it
pub kept : {A : Type 0} (test : A → Bool) (l m : List A) (x y : A) → l ≡ x ∷ m → y ≡ x → test x ≡ true → filter test l ≡ y ∷ filter test m
kept test l m x y e same passes =
    ap (filter test) e ∙ ap (λ b. cond b (x ∷ filter test m) (filter test m)) passes ∙ ap (λ z. z ∷ filter test m) (sym same)

-- it does not: the filter passes it over
pub passed_over : {A : Type 0} (test : A → Bool) (l m : List A) (x : A) → l ≡ x ∷ m → test x ≡ false → filter test l ≡ filter test m
passed_over test l m x e fails = ap (filter test) e ∙ ap (λ b. cond b (x ∷ filter test m) (filter test m)) fails

-- nothing is left
pub none_kept : {A : Type 0} (test : A → Bool) (l : List A) → l ≡ [] → filter test l ≡ []
none_kept test l e = ap (filter test) e

-- the last item that an iterator gives is the last of what is left, where items are seen by `view`
pub last_viewed : {A B : Type 0} (view : B → A) (s l : List A) (r : Option B) → s ≡ l
    → ((xs : List B) × Drains (YieldsFirstBy view (λ left. left)) s xs × (r ≡ last_or None xs)) → option_map view r ≡ last_or None l
last_viewed {B} view s l r is h =
    let all : map view h.0 ≡ l = items_from_drains h.0 (h.1.1.0, h.1.1.1, λ _. (h.1.0, h.1.1.2)) (YieldsList-from_first view (λ left. left) l is) in
    ap (option_map view) h.2 ∙ seen None h.0 ∙ ap (last_or None) all
  where
    seen : (o : Option B) (xs : List B) → option_map view (last_or o xs) ≡ last_or (option_map view o) (map view xs)
    seen o [] = refl
    seen o (x ∷ xs) = seen (Some x) xs
