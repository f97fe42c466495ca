-- What is in some lists of arguments, one after the other.
use Rattle.std.proofs.Common.{◌≡◌, ℕ, zero, suc, ◌+◌, ◌-◌, ◌<◌, ◌≤◌, List, [], ◌∷◌, ◌++◌, length, drop, get_or, refl, sym, ap, subst, ◌∙◌, append_assoc, add-one, drop-cons, Option, None, Some, arith}
use Rattle.std.specs.List.{filter_map}
use Rattle.std.proofs.Math.ListN.{drop_of_length-le}
use Rattle.text_size.specs.TextRange.{Bounds}
use Rattle.tree_model.specs.Edit.{root_of}
use Rattle.ras_front_end.specs.Parsed.{Parsed}
use Rattle.rust_print.specs.declared.source.Reading.{Reading}
use Rattle.rust_rules.specs.Macros.{lists_in, IsFileOf, IsListRead, IsInOne, AreInEach, AreInLists}

append_nil : {A : Type 0} (l : List A) → l ++ [] ≡ l
append_nil [] = refl
append_nil (x ∷ l) = ap (λ k. x ∷ k) (append_nil l)

-- with what is in the lists that are left, it is what is in all
pub record LeftEach {A : Type 0} (r : Reading) (In : List ℕ → Parsed → List A → Type 0) (move : Bounds → A → Option A) (s : List ℕ)
    (left : List Bounds) (xs : List A) (all : List Bounds) : Type 0 where
  pub with_left : (rest : List A) → AreInEach r In move s left rest → AreInEach r In move s all (xs ++ rest)

pub none_done : {A : Type 0} (r : Reading) (In : List ℕ → Parsed → List A → Type 0) (move : Bounds → A → Option A) (s : List ℕ) (all : List Bounds)
    → LeftEach r In move s all [] all
none_done r In move s all = record { with_left = λ rest h. h }

one_done : {A : Type 0} (r : Reading) (In : List ℕ → Parsed → List A → Type 0) (move : Bounds → A → Option A) (s : List ℕ)
    (left left' : List Bounds) (xs one : List A) (all : List Bounds) (list : Bounds)
    → LeftEach r In move s left xs all → left ≡ list ∷ left' → IsInOne r In move s list one → LeftEach r In move s left' (xs ++ one) all
one_done {A} r In move s left left' xs one all list l e o = record {
  with_left = λ rest h.
      subst (AreInEach r In move s all) (sym (append_assoc xs one rest))
      (l.with_left (one ++ rest) (subst (λ k. AreInEach r In move s k (one ++ rest)) (sym e) (one, rest, o, h, refl)));
}

-- one that is read
pub read_done : {A : Type 0} (r : Reading) (In : List ℕ → Parsed → List A → Type 0) (move : Bounds → A → Option A) (s : List ℕ)
    (left left' : List Bounds) (xs inner out : List A) (all : List Bounds) (list : Bounds) (file : List ℕ) (p : Parsed)
    → LeftEach r In move s left xs all → left ≡ list ∷ left' → IsFileOf s list file → IsListRead r file (Some p) → In file p inner
    → out ≡ xs ++ filter_map (move list) inner → LeftEach r In move s left' out all
read_done {A} r In move s left left' xs inner out all list file p l e f q i is =
    subst (λ k. LeftEach r In move s left' k all) (sym is)
    (one_done r In move s left left' xs (filter_map (move list) inner) all list l e
    (record { file = file; is_file = f; parse = Some p; is_parse = q; is_in = (inner, i, refl) }))

-- one that is not read
pub passed_by : {A : Type 0} (r : Reading) (In : List ℕ → Parsed → List A → Type 0) (move : Bounds → A → Option A) (s : List ℕ)
    (left left' : List Bounds) (xs : List A) (all : List Bounds) (list : Bounds) (file : List ℕ)
    → LeftEach r In move s left xs all → left ≡ list ∷ left' → IsFileOf s list file → IsListRead r file None
    → LeftEach r In move s left' xs all
passed_by {A} r In move s left left' xs all list file l e f q =
    subst (λ k. LeftEach r In move s left' k all) (append_nil xs)
    (one_done r In move s left left' xs [] all list l e (record { file = file; is_file = f; parse = None; is_parse = q; is_in = refl }))

all_done : {A : Type 0} (r : Reading) (In : List ℕ → Parsed → List A → Type 0) (move : Bounds → A → Option A) (s : List ℕ)
    (left : List Bounds) (xs : List A) (all : List Bounds) → LeftEach r In move s left xs all → left ≡ [] → AreInEach r In move s all xs
all_done {A} r In move s left xs all l e =
    subst (AreInEach r In move s all) (append_nil xs) (l.with_left [] (subst (λ k. AreInEach r In move s k []) (sym e) refl))

deeper : {A : Type 0} (r : Reading) (Of : (List ℕ → Parsed → List A → Type 0) → List ℕ → Parsed → List A → Type 0) (move : Bounds → A → Option A)
    (n : ℕ) (s : List ℕ) (p : Parsed) (out : List A) → 0 < n
    → AreInEach r (Of (AreInLists r Of move (n - 1))) move s (lists_in (root_of p.tree)) out → AreInLists r Of move n s p out
deeper r Of move zero s p out h w = absurd (omega (arith, h))
deeper r Of move (suc n) s p out h w =
    let e : suc n - 1 ≡ n = omega arith in
    subst (λ k. AreInEach r (Of (AreInLists r Of move k)) move s (lists_in (root_of p.tree)) out) e w

-- in none of no depth
pub not_deep : {A : Type 0} (r : Reading) (Of : (List ℕ → Parsed → List A → Type 0) → List ℕ → Parsed → List A → Type 0) (move : Bounds → A → Option A)
    (n : ℕ) (s : List ℕ) (p : Parsed) (out : List A) → n ≡ 0 → out ≡ [] → AreInLists r Of move n s p out
not_deep {A} r Of move n s p out e is = subst (λ k. AreInLists r Of move k s p out) (sym e) is

-- all lists are done
pub deep_done : {A : Type 0} (r : Reading) (Of : (List ℕ → Parsed → List A → Type 0) → List ℕ → Parsed → List A → Type 0) (move : Bounds → A → Option A)
    (n : ℕ) (s : List ℕ) (p : Parsed) (left : List Bounds) (xs : List A) (all : List Bounds) → 0 < n
    → LeftEach r (Of (AreInLists r Of move (n - 1))) move s left xs all → left ≡ [] → all ≡ lists_in (root_of p.tree)
    → AreInLists r Of move n s p xs
deep_done {A} r Of move n s p left xs all h l e is =
    deeper r Of move n s p xs h
    (subst (λ k. AreInEach r (Of (AreInLists r Of move (n - 1))) move s k xs) is
    (all_done r (Of (AreInLists r Of move (n - 1))) move s left xs all l e))

-- ---- the loop over the lists

pub next_left : (all : List Bounds) (i : ℕ) (list : Bounds) → i < length all → list ≡ get_or all i list → drop i all ≡ list ∷ drop (i + 1) all
next_left all i list h e = rw add-one (drop-cons all i list h ∙ ap (λ x. x ∷ drop (suc i) all) (sym e))

pub nothing_left : (all : List Bounds) (i : ℕ) → length all ≤ i → drop i all ≡ []
nothing_left all i h = drop_of_length-le all h

pub as_read : (r : Reading) (file file' : List ℕ) (o : Option Parsed) (p : Parsed) → file' ≡ file → o ≡ Some p → IsListRead r file' o → IsListRead r file (Some p)
as_read r file file' o p e f q = subst (λ k. IsListRead r k (Some p)) e (subst (IsListRead r file') f q)

pub not_read : (r : Reading) (file file' : List ℕ) (o : Option Parsed) → file' ≡ file → o ≡ None → IsListRead r file' o → IsListRead r file None
not_read r file file' o e f q = subst (λ k. IsListRead r k None) e (subst (IsListRead r file') f q)
