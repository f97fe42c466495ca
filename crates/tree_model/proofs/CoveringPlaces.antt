-- What covers a range, by the ranges of children.
use Rattle.std.proofs.Common.{◌≡◌, ◌⊎◌, inl, inr, ℕ, zero, suc, ◌+◌, ◌<◌, ◌≤◌, List, [], ◌∷◌, length, get_or, refl, sym, ap, ◌∙◌, arith, Bool, true, false}
use Rattle.std.specs.Prelude.{Option, Some, None, option_map, ◌&&◌, nat_lt, nat_le, if◌then◌else◌}
use Rattle.std.specs.Option.{option_or}
use Rattle.std.proofs.lemmas.Bool.Decides.{nat_tests}
use Rattle.text_size.specs.TextRange.{Bounds}
use Rattle.tree_model.specs.Tree.{Tree, node, token, Forest, nil, cons, text, forest_text, forest_of_children, child_at, child_count, bytes_before, Place}
use Rattle.tree_model.proofs.At.{below_or_after}
use Rattle.tree_model.specs.Covering.{child_ranges, holds, last_with, first_number, child_towards, below, coverings, covering_place}

bounds : ℕ → ℕ → Bounds
bounds s e = record { start = s; end = e }

same_bounds : (s e s' e' : ℕ) → s ≡ s' → e ≡ e' → let r : Bounds = record { start = s; end = e } in r ≡ record { start = s'; end = e' }
same_bounds s e s' e' p q = ap (λ x. record { start = x; end = e }) p ∙ ap (λ x. record { start = s'; end = x }) q

pub length-child_ranges : (f : Forest) (b : ℕ) → length (child_ranges f b) ≡ child_count f
length-child_ranges nil b = refl
length-child_ranges (cons t f) b = ap suc (length-child_ranges f (b + length (text t)))

pub get_or-child_ranges : (f : Forest) (b j : ℕ) (d : Bounds) → j < child_count f → get_or (child_ranges f b) j d ≡ record { start = b + bytes_before f j; end = (b + bytes_before f j) + length (text (child_at f j)) }
get_or-child_ranges nil b j d h = absurd (omega arith)
get_or-child_ranges (cons t f) b zero d h = same_bounds _ _ _ _ (omega arith) (omega arith)
get_or-child_ranges (cons t f) b (suc j) d h =
    get_or-child_ranges f (b + length (text t)) j d (omega (arith, h)) ∙ same_bounds _ _ _ _ (omega arith) (omega arith)

get_or-coverings : (asked : Bounds) (f : Forest) (b j : ℕ) (d : Place) → j < child_count f → get_or (coverings asked f b) j d ≡ covering_place asked (child_at f j) (b + bytes_before f j)
get_or-coverings asked nil b j d h = absurd (omega arith)
get_or-coverings asked (cons (token k t) f) b zero d h = refl
get_or-coverings asked (cons (node k c) f) b zero d h = ap (covering_place asked (node k c)) (omega arith)
get_or-coverings asked (cons (token k t) f) b (suc j) d h =
    get_or-coverings asked f (b + length t) j d (omega (arith, h)) ∙ ap (covering_place asked (child_at f j)) (omega arith)
get_or-coverings asked (cons (node k c) f) b (suc j) d h =
    get_or-coverings asked f (b + length (forest_text c)) j d (omega (arith, h)) ∙ ap (covering_place asked (child_at f j)) (omega arith)

-- one step down, and where there is none
pub place_towards : (asked : Bounds) (t : Tree) (b j : ℕ) → j < child_count (forest_of_children t) → child_towards asked (child_ranges (forest_of_children t) b) ≡ Some j
    → covering_place asked t b ≡ j ∷ covering_place asked (child_at (forest_of_children t) j) (b + bytes_before (forest_of_children t) j)
place_towards asked (token k x) b j h e = absurd (omega (arith, h))
place_towards asked (node k c) b j h e = ap (λ o. below o (coverings asked c b)) e ∙ ap (λ p. j ∷ p) (get_or-coverings asked c b j [] h)

pub place_stays : (asked : Bounds) (t : Tree) (b : ℕ) → child_towards asked (child_ranges (forest_of_children t) b) ≡ None → covering_place asked t b ≡ []
place_stays asked (token k x) b e = refl
place_stays asked (node k c) b e = ap (λ o. below o (coverings asked c b)) e

-- ---- the last range with a property

last_none : (p : Bounds → Bool) (rs : List Bounds) → ((j : ℕ) (d : Bounds) → j < length rs → p (get_or rs j d) ≡ false) → last_with p rs ≡ None
last_none p [] h = refl
last_none p (r ∷ rs) h =
    ap (λ o. option_or (option_map suc o) (if p r then Some 0 else None)) (last_none p rs (λ j d lt. h (suc j) d (omega (arith, lt))))
    ∙ ap (λ b. if b then Some 0 else None) (h 0 r (omega arith))

last_some : (p : Bounds → Bool) (rs : List Bounds) (i : ℕ) (d : Bounds) → i < length rs → p (get_or rs i d) ≡ true → ((j : ℕ) (e : Bounds) → i < j → j < length rs → p (get_or rs j e) ≡ false) → last_with p rs ≡ Some i
last_some p [] i d lt is later = absurd (omega arith)
last_some p (r ∷ rs) zero d lt is later =
    ap (λ o. option_or (option_map suc o) (if p r then Some 0 else None)) (last_none p rs (λ j e less. later (suc j) e (omega arith) (omega (arith, less))))
    ∙ ap (λ b. if b then Some 0 else None) is
last_some p (r ∷ rs) (suc i) d lt is later =
    ap (λ o. option_or (option_map suc o) (if p r then Some 0 else None)) (last_some p rs i d (omega (arith, lt)) is (λ j e more less. later (suc j) e (omega (arith, more)) (omega (arith, less))))

-- ---- the child to go down to

none_wide : (asked : Bounds) (rs : List Bounds) → nat_lt asked.start asked.end ≡ true → last_with (holds asked) rs ≡ None → child_towards asked rs ≡ None
none_wide asked rs wide e =
    ap (λ o. option_or o (if nat_lt asked.start asked.end then None else option_or (last_with (λ r. nat_le r.end asked.start) rs) (first_number rs))) e
    ∙ ap (λ b. if b then None else option_or (last_with (λ r. nat_le r.end asked.start) rs) (first_number rs)) wide

none_empty : (asked : Bounds) (rs : List Bounds) → nat_lt asked.start asked.end ≡ false → last_with (holds asked) rs ≡ None → child_towards asked rs ≡ option_or (last_with (λ r. nat_le r.end asked.start) rs) (first_number rs)
none_empty asked rs empty e =
    ap (λ o. option_or o (if nat_lt asked.start asked.end then None else option_or (last_with (λ r. nat_le r.end asked.start) rs) (first_number rs))) e
    ∙ ap (λ b. if b then None else option_or (last_with (λ r. nat_le r.end asked.start) rs) (first_number rs)) empty

first_of_some : (rs : List Bounds) → 0 < length rs → first_number rs ≡ Some 0
first_of_some [] h = absurd (omega arith)
first_of_some (r ∷ rs) h = refl

is_wide : (a b : ℕ) → a < b → nat_lt a b ≡ true
is_wide a b h = grind (arith, nat_tests)

is_empty : (a b : ℕ) → b ≤ a → nat_lt a b ≡ false
is_empty a b h = grind (arith, nat_tests)

-- to the child that holds the range
pub towards_holder : (asked : Bounds) (rs : List Bounds) (i : ℕ) (d : Bounds) → i < length rs → holds asked (get_or rs i d) ≡ true → ((j : ℕ) (e : Bounds) → i < j → j < length rs → holds asked (get_or rs j e) ≡ false) → child_towards asked rs ≡ Some i
towards_holder asked rs i d lt is later =
    ap (λ o. option_or o (if nat_lt asked.start asked.end then None else option_or (last_with (λ r. nat_le r.end asked.start) rs) (first_number rs))) (last_some (holds asked) rs i d lt is later)

-- where no child holds a range that is not empty
pub towards_none : (asked : Bounds) (rs : List Bounds) → asked.start < asked.end → ((j : ℕ) (d : Bounds) → j < length rs → holds asked (get_or rs j d) ≡ false) → child_towards asked rs ≡ None
towards_none asked rs wide none = none_wide asked rs (is_wide asked.start asked.end wide) (last_none (holds asked) rs none)

-- where there are no children
pub towards_nothing : (asked : Bounds) → child_towards asked [] ≡ None
towards_nothing asked = same_both (nat_lt asked.start asked.end) None
  where
    same_both : (b : Bool) (o : Option ℕ) → (if b then o else o) ≡ o
    same_both true o = refl
    same_both false o = refl

-- to the last child that ends at or before an empty range which none holds
pub towards_last : (asked : Bounds) (rs : List Bounds) (i : ℕ) (d : Bounds) → asked.end ≤ asked.start → ((j : ℕ) (d : Bounds) → j < length rs → holds asked (get_or rs j d) ≡ false)
    → i < length rs → (get_or rs i d).end ≤ asked.start → ((j : ℕ) (e : Bounds) → i < j → j < length rs → asked.start < (get_or rs j e).end) → child_towards asked rs ≡ Some i
towards_last asked rs i d empty none lt ends later =
    none_empty asked rs (is_empty asked.start asked.end empty) (last_none (holds asked) rs none)
    ∙ ap (λ o. option_or o (first_number rs)) (last_some (λ r. nat_le r.end asked.start) rs i d lt (at_most _ _ ends) (λ j e more less. above _ _ (later j e more less)))
  where
    at_most : (a b : ℕ) → a ≤ b → nat_le a b ≡ true
    at_most a b h = grind (arith, nat_tests)

    above : (a b : ℕ) → b < a → nat_le a b ≡ false
    above a b h = grind (arith, nat_tests)

-- to the first child where all end after an empty range which none holds
pub towards_first : (asked : Bounds) (rs : List Bounds) → asked.end ≤ asked.start → ((j : ℕ) (d : Bounds) → j < length rs → holds asked (get_or rs j d) ≡ false)
    → 0 < length rs → ((j : ℕ) (e : Bounds) → j < length rs → asked.start < (get_or rs j e).end) → child_towards asked rs ≡ Some 0
towards_first asked rs empty none some later =
    none_empty asked rs (is_empty asked.start asked.end empty) (last_none (holds asked) rs none)
    ∙ ap (λ o. option_or o (first_number rs)) (last_none (λ r. nat_le r.end asked.start) rs (λ j e less. above _ _ (later j e less)))
    ∙ first_of_some rs some
  where
    above : (a b : ℕ) → b < a → nat_le a b ≡ false
    above a b h = grind (arith, nat_tests)

-- ---- what it is to hold a range

hold_means : (a b s e : ℕ) → (if nat_lt a b then nat_le s a && nat_le b e else nat_lt s a && nat_lt a e) ≡ true → ((a < b) × (s ≤ a) × (b ≤ e)) ⊎ ((b ≤ a) × (s < a) × (a < e))
hold_means a b s e h = grind (arith, nat_tests)

hold_wide : (a b s e : ℕ) → a < b → s ≤ a → b ≤ e → (if nat_lt a b then nat_le s a && nat_le b e else nat_lt s a && nat_lt a e) ≡ true
hold_wide a b s e h h1 h2 = grind (arith, nat_tests)

hold_empty : (a b s e : ℕ) → b ≤ a → s < a → a < e → (if nat_lt a b then nat_le s a && nat_le b e else nat_lt s a && nat_lt a e) ≡ true
hold_empty a b s e h h1 h2 = grind (arith, nat_tests)

abbrev pub Within : Bounds → Bounds → Type 0
Within asked r = ((asked.start < asked.end) × (r.start ≤ asked.start) × (asked.end ≤ r.end)) ⊎ ((asked.end ≤ asked.start) × (r.start < asked.start) × (asked.start < r.end))

pub holds_means : (asked r : Bounds) → holds asked r ≡ true → Within asked r
holds_means asked r h = hold_means asked.start asked.end r.start r.end h

pub is_held : (asked r : Bounds) → Within asked r → holds asked r ≡ true
is_held asked r (inl w) = hold_wide asked.start asked.end r.start r.end w.0 w.1 w.2
is_held asked r (inr w) = hold_empty asked.start asked.end r.start r.end w.0 w.1 w.2

pub not_held : (asked r : Bounds) → (Within asked r → ⊥) → holds asked r ≡ false
not_held asked r h = by_test (holds asked r) (λ e. h (holds_means asked r e))
  where
    by_test : (b : Bool) → (b ≡ true → ⊥) → b ≡ false
    by_test true f = absurd (f refl)
    by_test false f = refl

-- two ranges of which one ends before the other starts do not both hold a range
pub not_both : (asked r s : Bounds) → Within asked r → Within asked s → r.end ≤ s.start → ⊥
not_both asked r s (inl v) (inl w) h = omega (arith, h, v.0, v.2, w.1)
not_both asked r s (inl v) (inr w) h = omega (arith, v.0, w.0)
not_both asked r s (inr v) (inl w) h = omega (arith, v.0, w.0)
not_both asked r s (inr v) (inr w) h = omega (arith, h, v.2, w.1)

-- a range around another holds what that holds
pub held_around : (asked r s : Bounds) → Within asked r → s.start ≤ r.start → r.end ≤ s.end → Within asked s
held_around asked r s (inl v) h h' = inl (v.0, omega (arith, h, v.1), omega (arith, h', v.2))
held_around asked r s (inr v) h h' = inr (v.0, omega (arith, h, v.1), omega (arith, h', v.2))

-- from the tests for an empty range: it is not, so it starts before its end
pub strictly : {a b : ℕ} {r : Bool} → a ≤ b → (a ≡ b → r ≡ true) → r ≡ false → a < b
strictly {a} {b} le same differs =
    elim (below_or_after a b) [
      | inl lt ↦ lt
      | inr more ↦ (let e : a ≡ b = omega (arith, le, more.1) in let clash : false ≡ true = sym differs ∙ same e in cc)
    ]
