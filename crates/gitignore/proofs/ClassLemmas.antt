-- Items that are read one after the other.
use Rattle.std.proofs.Common.{◌≡◌, ℕ, ◌==◌, length, Bool, true, false, not, ◌||◌, List, [], ◌∷◌, ◌++◌, drop, Option, Some, refl, ap, ◌∙◌, arith}
use Rattle.std.proofs.lemmas.Bool.{eqb-true}
use Rattle.gitignore.specs.declared.class.Item.{Item}
use Rattle.gitignore.specs.Classes.{is_end, item_at, last_of, last_among, is_empty_list, ItemsAt}

abbrev pub is_now : Bool → List Item → Bool
is_now first [] = first
is_now first (i ∷ is) = false

or_right : (a b : Bool) → b ≡ true → (a || b) ≡ true
or_right true b e = refl
or_right false b e = e

pub is_now-true : (items : List Item) → is_now true items ≡ is_empty_list items
is_now-true [] = refl
is_now-true (i ∷ is) = refl

-- one more item
pub one_more : (first : Bool) (last : Option ℕ) (bs rest : List ℕ) (items : List Item) (i : Item) (w : ℕ)
    → ItemsAt first last bs items rest → (is_now first items || not (is_end rest)) ≡ true → item_at (last_among last items) rest ≡ Some (i, w)
    → ItemsAt first last bs (items ++ i ∷ []) (drop w rest)
one_more first last bs rest [] i w e h is =
    (w, ap (λ r. first || not (is_end r)) e ∙ h, ap (item_at last) e ∙ is, ap (drop w) e)
one_more first last bs rest (x ∷ xs) i w r h is =
    (r.0, r.1, r.2, one_more false (last_of x) (drop r.0 bs) rest xs i w r.3 (or_right (is_now false xs) (not (is_end rest)) h) is)

pub last_more : (last : Option ℕ) (items : List Item) (i : Item) → last_of i ≡ last_among last (items ++ i ∷ [])
last_more last [] i = refl
last_more last (x ∷ xs) i = last_more (last_of x) xs i

pub empty_first : (items : List Item) (ends : Bool) (n : ℕ) → n ≡ length items → (n == 0) ≡ true → (is_now true items || not ends) ≡ true
empty_first [] ends n same e = refl
empty_first (x ∷ xs) ends n same e = absurd (let none : n ≡ 0 = eqb-true n 0 e in omega (arith, none, same))

pub end_not : (first ends : Bool) → ends ≡ false → (first || not ends) ≡ true
end_not first ends e = or_right first (not ends) (ap not e)
