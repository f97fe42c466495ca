-- A list whose elements are changed one after another.
use Rattle.std.proofs.Common.{◌≡◌, ℕ, zero, suc, ◌+◌, ◌-◌, ◌<◌, ◌≤◌, List, [], ◌∷◌, ◌++◌, length, map, get_or, take, drop, refl, sym, ap, ◌∙◌, arith, append-nil, length-append}
use Rattle.std.proofs.Math.ListN.{set}
use Rattle.std.proofs.lemmas.List.{take_all, drop_all, length-drop, length-take, take-append-drop, get_or-drop, get_or-append_right, set-append_right}

-- the list of which the first i are changed
abbrev pub changed : {X : Type 0} → (X → X) → ℕ → List X → List X
changed f i xs = map f (take i xs) ++ drop i xs

changed_next : {X : Type 0} (f : X → X) (xs : List X) (i : ℕ) (d : X) → i < length xs → set (changed f i xs) i (f (get_or xs i d)) ≡ changed f (suc i) xs
changed_next f [] i d h = absurd (omega (arith, h))
changed_next f (x ∷ xs) zero d h = refl
changed_next f (x ∷ xs) (suc i) d h = ap (λ l. f x ∷ l) (changed_next f xs i d (omega (arith, h)))

pub changed_more : {X : Type 0} (f : X → X) (xs : List X) (i : ℕ) (d : X) → i < length xs → set (changed f i xs) i (f (get_or xs i d)) ≡ changed f (i + 1) xs
changed_more f xs i d h = let e : suc i ≡ i + 1 = omega arith in changed_next f xs i d h ∙ ap (λ k. changed f k xs) e

pub not_yet : {X : Type 0} (f : X → X) (xs : List X) (i : ℕ) (d : X) → i < length xs → get_or (changed f i xs) i d ≡ get_or xs i d
not_yet f [] i d h = absurd (omega (arith, h))
not_yet f (x ∷ xs) zero d h = refl
not_yet f (x ∷ xs) (suc i) d h = not_yet f xs i d (omega (arith, h))

pub length-changed : {X : Type 0} (f : X → X) (xs : List X) (i : ℕ) → length (changed f i xs) ≡ length xs
length-changed f [] zero = refl
length-changed f [] (suc i) = refl
length-changed f (x ∷ xs) zero = refl
length-changed f (x ∷ xs) (suc i) = ap suc (length-changed f xs i)

pub all_changed : {X : Type 0} (f : X → X) (xs : List X) (i : ℕ) → length xs ≤ i → changed f i xs ≡ map f xs
all_changed f [] zero h = refl
all_changed f [] (suc i) h = refl
all_changed f (x ∷ xs) zero h = absurd (omega (arith, h))
all_changed f (x ∷ xs) (suc i) h = ap (λ l. f x ∷ l) (all_changed f xs i (omega (arith, h)))

-- all that follows the first n
pub whole_rest : {X : Type 0} (xs : List X) (n : ℕ) → take (length xs - n) (drop n xs) ≡ drop n xs
whole_rest xs n = take_all (length xs - n) (drop n xs) (omega (arith, length-drop n xs))

pub rest_set : {X : Type 0} (xs ys : List X) (n : ℕ) → take n xs ++ (ys ++ drop (length xs - n) (drop n xs)) ≡ take n xs ++ ys
rest_set xs ys n =
    ap (λ l. take n xs ++ (ys ++ l)) (drop_all (length xs - n) (drop n xs) (omega (arith, length-drop n xs)))
    ∙ ap (λ l. take n xs ++ l) (append-nil ys)

pub length-rest : {X : Type 0} (xs : List X) (n : ℕ) → length (take (length xs - n) (drop n xs)) ≡ length xs - n
length-rest xs n = ap length (whole_rest xs n) ∙ length-drop n xs

-- the last ones of a list that was appended are changed
pub tail_changed : {X : Type 0} (f : X → X) (old new : List X) (j : ℕ) → take (length old + j) (old ++ new) ++ map f (drop (length old + j) (old ++ new)) ≡ old ++ (take j new ++ map f (drop j new))
tail_changed f [] new j = let e : 0 + j ≡ j = omega arith in ap (λ k. take k new ++ map f (drop k new)) e
tail_changed f (x ∷ old) new j =
    let e : suc (length old) + j ≡ suc (length old + j) = omega arith in
    ap (λ k. take k (x ∷ (old ++ new)) ++ map f (drop k (x ∷ (old ++ new)))) e ∙ ap (λ l. x ∷ l) (tail_changed f old new j)

pub append_changed : {X : Type 0} (f : X → X) (old new : List X) (n : ℕ) → n ≡ length old → take n (old ++ new) ++ map f (drop n (old ++ new)) ≡ old ++ map f new
append_changed f old new n is_n =
    let e : n ≡ length old + 0 = omega (arith, is_n) in
    ap (λ k. take k (old ++ new) ++ map f (drop k (old ++ new))) e ∙ tail_changed f old new 0

pub length-rest_set : {X : Type 0} (xs ys : List X) (n : ℕ) → n ≤ length xs → length ys ≡ length xs - n → length (take n xs ++ (ys ++ drop (length xs - n) (drop n xs))) ≡ length xs
length-rest_set xs ys n h is = omega (arith, ap length (rest_set xs ys n), length-append (take n xs) ys, length-take n xs)

-- those from n to k are changed
abbrev pub part_changed : {X : Type 0} → (X → X) → ℕ → ℕ → List X → List X
part_changed f n k xs = take n xs ++ changed f (k - n) (drop n xs)

pub part_none : {X : Type 0} (f : X → X) (xs : List X) (n : ℕ) → part_changed f n n xs ≡ xs
part_none f xs n = let e : n - n ≡ 0 = omega arith in ap (λ i. take n xs ++ changed f i (drop n xs)) e ∙ take-append-drop n xs

pub part_more : {X : Type 0} (f : X → X) (xs : List X) (n k : ℕ) (d : X) → n ≤ k → k < length xs → set (part_changed f n k xs) k (f (get_or xs k d)) ≡ part_changed f n (k + 1) xs
part_more f xs n k d h lt =
    let front = take n xs in
    let rest = drop n xs in
    let i = k - n in
    let there : n + i ≡ k = omega (arith, h) in
    let next : i + 1 ≡ (k + 1) - n = omega (arith, h) in
    set-append_right front (changed f i rest) n k (f (get_or xs k d)) (omega (arith, length-take n xs, h, lt)) h
    ∙ ap (λ x. front ++ set (changed f i rest) i (f x)) (ap (λ j. get_or xs j d) (sym there) ∙ sym (get_or-drop n xs i d))
    ∙ ap (λ l. front ++ l) (changed_more f rest i d (omega (arith, length-drop n xs, h, lt))) ∙ ap (λ j. front ++ changed f j rest) next

pub part_not_yet : {X : Type 0} (f : X → X) (xs : List X) (n k : ℕ) (d : X) → n ≤ k → k < length xs → get_or (part_changed f n k xs) k d ≡ get_or xs k d
part_not_yet f xs n k d h lt =
    let front = take n xs in
    let rest = drop n xs in
    let i = k - n in
    let there : n + i ≡ k = omega (arith, h) in
    get_or-append_right front (changed f i rest) n k d (omega (arith, length-take n xs, h, lt)) h
    ∙ not_yet f rest i d (omega (arith, length-drop n xs, h, lt)) ∙ get_or-drop n xs i d ∙ ap (λ j. get_or xs j d) there

pub length-part_changed : {X : Type 0} (f : X → X) (xs : List X) (n k : ℕ) → length (part_changed f n k xs) ≡ length xs
length-part_changed f xs n k = omega (arith, length-append (take n xs) (changed f (k - n) (drop n xs)), length-changed f (drop n xs) (k - n), length-append (take n xs) (drop n xs), ap length (take-append-drop n xs))

pub part_all : {X : Type 0} (f : X → X) (xs : List X) (n k : ℕ) → n ≤ k → length xs ≤ k → part_changed f n k xs ≡ take n xs ++ map f (drop n xs)
part_all f xs n k h all = ap (λ l. take n xs ++ l) (all_changed f (drop n xs) (k - n) (omega (arith, length-drop n xs, all)))
