-- Sets of bytes between brackets. (gitignore(5), fnmatch(3).) 33 is `!`, 45 `-`, 47 `/`, 92 a
-- backslash, 93 `]`, 94 `^`.
use Rattle.std.specs.Prelude.{◌≡◌, ℕ, ◌==◌, ◌+◌, ◌-◌, Bool, true, false, not, ◌&&◌, ◌||◌, nat_le, if◌then◌else◌, List, [], ◌∷◌, length, drop, Option, Some, None}
use Rattle.std.specs.List.{list_any}
use Rattle.gitignore.specs.declared.class.Class.{Class}
use Rattle.gitignore.specs.declared.class.Item.{Item}
use Rattle.gitignore.specs.declared.class.Item.TheVariants.{Byte, Range}

abbrev pub item_has : Item → ℕ → Bool
item_has (Byte own) b = own == b
item_has (Range from to) b = nat_le from b && nat_le b to

-- a class takes the bytes of its items, or the others, and never a slash
abbrev pub class_has : Class → ℕ → Bool
class_has c b =
    if b == 47 then false else (if c.is_negated then not (list_any (λ i. item_has i b) c.items.items) else list_any (λ i. item_has i b) c.items.items)

-- ---- how a class is written

-- the byte at the front of a text, perhaps behind a backslash, and how many bytes that is
abbrev pub byte_at : List ℕ → Option (ℕ × ℕ)
byte_at [] = None
byte_at (b ∷ []) = if b == 92 then None else Some (b, 1)
byte_at (b ∷ (d ∷ bs)) = if b == 92 then Some (d, 2) else Some (b, 1)

abbrev pub is_end : List ℕ → Bool
is_end [] = false
is_end (b ∷ bs) = b == 93

-- a `-` with something behind it that is not the end
abbrev pub is_dash : List ℕ → Bool
is_dash [] = false
is_dash (b ∷ []) = false
is_dash (b ∷ (d ∷ bs)) = (b == 45) && not (d == 93)

abbrev pub ranged : ℕ → Option (ℕ × ℕ) → Option (Item × ℕ)
ranged from None = None
ranged from (Some r) = Some (Range from r.0, r.1 + 1)

abbrev pub single : Option (ℕ × ℕ) → Option (Item × ℕ)
single None = None
single (Some r) = Some (Byte r.0, r.1)

-- the item at the front of a text, and how many bytes it has; a `-` ends a range that the byte
-- before it begins
abbrev pub item_at : Option ℕ → List ℕ → Option (Item × ℕ)
item_at None bs = single (byte_at bs)
item_at (Some from) bs = if is_dash bs then ranged from (byte_at (drop 1 bs)) else single (byte_at bs)

-- the byte that a `-` behind an item begins a range from
abbrev pub last_of : Item → Option ℕ
last_of (Byte b) = Some b
last_of (Range from to) = None

-- these items are read one after the other, each before the end of the class but for the first;
-- then this rest is left
abbrev pub ItemsAt : Bool → Option ℕ → List ℕ → List Item → List ℕ → Type 0
ItemsAt is_first last bs [] rest = bs ≡ rest
ItemsAt is_first last bs (i ∷ is) rest =
    (w : ℕ) × ((is_first || not (is_end bs)) ≡ true) × (item_at last bs ≡ Some (i, w)) × ItemsAt false (last_of i) (drop w bs) is rest

-- the byte that a `-` begins a range from behind these items
abbrev pub last_among : Option ℕ → List Item → Option ℕ
last_among last [] = last
last_among last (i ∷ is) = last_among (last_of i) is

abbrev pub is_empty_list : List Item → Bool
is_empty_list [] = true
is_empty_list (i ∷ is) = false

-- the items of a class up to its end, with the number of their bytes and the end's; none if no end
-- comes
abbrev pub ItemsUpTo : List ℕ → Option (List Item × ℕ) → Type 0
ItemsUpTo bs (Some r) =
    (rest : List ℕ) × ItemsAt true None bs r.0 rest × (is_empty_list r.0 ≡ false) × (is_end rest ≡ true) × (r.1 ≡ length bs - length rest + 1)
ItemsUpTo bs None =
    (items : List Item) × (rest : List ℕ) × ItemsAt true None bs items rest × ((is_empty_list items || not (is_end rest)) ≡ true)
    × (item_at (last_among None items) rest ≡ None)

abbrev pub is_negation : List ℕ → Bool
is_negation [] = false
is_negation (b ∷ bs) = (b == 33) || (b == 94)

abbrev pub behind_negation : List ℕ → List ℕ
behind_negation bs = if is_negation bs then drop 1 bs else bs

abbrev pub width_of_negation : List ℕ → ℕ
width_of_negation bs = if is_negation bs then 1 else 0

-- the class behind a `[`, and how many bytes it has with that
abbrev pub ClassAt : List ℕ → Option (Class × ℕ) → Type 0
ClassAt bs None = ItemsUpTo (behind_negation bs) None
ClassAt bs (Some r) =
    (r.0.is_negated ≡ is_negation bs)
    × ((n : ℕ) × ItemsUpTo (behind_negation bs) (Some (r.0.items.items, n)) × (r.1 ≡ n + width_of_negation bs + 1))
