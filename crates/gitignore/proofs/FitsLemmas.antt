-- Marks of places, and pieces behind each other.
use Rattle.std.proofs.Common.{◌≡◌, ℕ, zero, suc, ◌<◌, ◌≤◌, ◌+◌, ◌==◌, Bool, true, false, not, ◌&&◌, ◌||◌, List, [], ◌∷◌, ◌++◌, length, get_or, drop, refl, sym, ap, ◌∙◌, subst, arith}
use Rattle.std.specs.Prelude.{slice_index}
use Rattle.std.specs.List.{list_any}
use Rattle.std.proofs.lemmas.List.{drop_more}
use Rattle.std.proofs.lemmas.List.FromFn.{get_or-map-range_with_len, length-map-range_with_len, map-range_with_len_more}
use Rattle.std.proofs.lemmas.Bool.{eqb-true, false≢true}
use Rattle.gitignore.specs.declared.piece.Piece.{Piece}
use Rattle.gitignore.specs.declared.piece.Piece.TheVariants.{Byte, Any, OneOf, Star, Folders, Rest}
use Rattle.gitignore.specs.Pieces.{takes}
use Rattle.gitignore.specs.Fits.{earlier, in_name, one, folders, step, ends, is_first, marks_of, mark_in, next_mark, first_mark, seen_next, seen_before, may_begin, fits}

-- ---- one place more

pub first : (p : Piece) (path : List ℕ) (begins : ℕ → Bool) → first_mark p (begins 0) ≡ step p path begins 0
first (Byte own) path begins = refl
first Any path begins = refl
first (OneOf c) path begins = refl
first Star path begins = refl
first Folders path begins = refl
first Rest path begins = refl

pub seen_first : (p : Piece) (path : List ℕ) (begins : ℕ → Bool) → begins 0 ≡ seen_before p path begins 0
seen_first (Byte own) path begins = refl
seen_first Any path begins = refl
seen_first (OneOf c) path begins = refl
seen_first Star path begins = refl
seen_first Folders path begins = refl
seen_first Rest path begins = refl

up : (n : ℕ) → suc n ≡ n + 1
up n = omega arith

next_suc : (p : Piece) (path : List ℕ) (begins : ℕ → Bool) (n : ℕ)
    → next_mark p (slice_index path n) (begins n) (begins (suc n)) (seen_before p path begins n) ≡ step p path begins (suc n)
next_suc (Byte own) path begins n = refl
next_suc Any path begins n = refl
next_suc (OneOf c) path begins n = refl
next_suc Star path begins n = refl
next_suc Folders path begins n = refl
next_suc Rest path begins n = refl

pub next : (p : Piece) (path : List ℕ) (begins : ℕ → Bool) (n : ℕ)
    → next_mark p (slice_index path n) (begins n) (begins (n + 1)) (seen_before p path begins n) ≡ step p path begins (n + 1)
next p path begins n =
    subst (λ m. next_mark p (slice_index path n) (begins n) (begins m) (seen_before p path begins n) ≡ step p path begins m) (up n) (next_suc p path begins n)

seen_suc : (p : Piece) (path : List ℕ) (begins : ℕ → Bool) (n : ℕ)
    → seen_next p (step p path begins (suc n)) (begins (suc n)) (seen_before p path begins n) ≡ seen_before p path begins (suc n)
seen_suc (Byte own) path begins n = refl
seen_suc Any path begins n = refl
seen_suc (OneOf c) path begins n = refl
seen_suc Star path begins n = refl
seen_suc Folders path begins n = refl
seen_suc Rest path begins n = refl

pub seen_more : (p : Piece) (path : List ℕ) (begins : ℕ → Bool) (n : ℕ)
    → seen_next p (step p path begins (n + 1)) (begins (n + 1)) (seen_before p path begins n) ≡ seen_before p path begins (n + 1)
seen_more p path begins n =
    subst (λ m. seen_next p (step p path begins m) (begins m) (seen_before p path begins n) ≡ seen_before p path begins m) (up n) (seen_suc p path begins n)

pub one_mark : (test : ℕ → Bool) (mark : Bool) → mark ≡ test 0 → (mark ∷ []) ≡ marks_of test 1
one_mark test mark e = ap (λ m. m ∷ []) e

pub more_marks : (test : ℕ → Bool) (n : ℕ) (row new : List Bool) (mark : Bool) → row ≡ marks_of test n → mark ≡ test n → new ≡ row ++ mark ∷ []
    → new ≡ marks_of test (n + 1)
more_marks test n row new mark before is e =
    e ∙ ap (λ m. row ++ m ∷ []) is ∙ ap (λ l. l ++ test n ∷ []) before ∙ sym (map-range_with_len_more test 0 n n (omega arith))

pub not_first : (n : ℕ) → false ≡ is_first (n + 1)
not_first n = go (is_first (n + 1)) refl
  where
    go : (b : Bool) → is_first (n + 1) ≡ b → false ≡ b
    go false e = refl
    go true e = absurd (let none : n + 1 ≡ 0 = eqb-true (n + 1) 0 e in omega (arith, none))

pub marks_length : (test : ℕ → Bool) (n : ℕ) (row : List Bool) → row ≡ marks_of test n → length row ≡ n
marks_length test n row e = ap length e ∙ length-map-range_with_len test 0 n

pub mark_at : (test : ℕ → Bool) (n i : ℕ) (row : List Bool) → row ≡ marks_of test n → i < n → mark_in row i ≡ test i
mark_at test n i row e h = ap (λ l. get_or l i false) e ∙ get_or-map-range_with_len test 0 n i i false h (omega arith)

-- ---- what agrees up to a place

earlier_same : (k k' : ℕ → Bool) (most : ℕ) → ((i : ℕ) → i ≤ most → k i ≡ k' i) → (n : ℕ) → n ≤ most → earlier k n ≡ earlier k' n
earlier_same k k' most h zero le = h 0 le
earlier_same k k' most h (suc n) le = ap (λ b. b || earlier k n) (h (suc n) le) ∙ ap (λ b. k' (suc n) || b) (earlier_same k k' most h n (omega (arith, le)))

in_name_same : (path : List ℕ) (k k' : ℕ → Bool) (most : ℕ) → ((i : ℕ) → i ≤ most → k i ≡ k' i) → (n : ℕ) → n ≤ most → in_name path k n ≡ in_name path k' n
in_name_same path k k' most h zero le = h 0 le
in_name_same path k k' most h (suc n) le =
    ap (λ b. b || (not (slice_index path n == 47) && in_name path k n)) (h (suc n) le)
    ∙ ap (λ b. k' (suc n) || (not (slice_index path n == 47) && b)) (in_name_same path k k' most h n (omega (arith, le)))

one_same : (p : Piece) (path : List ℕ) (k k' : ℕ → Bool) (most : ℕ) → ((i : ℕ) → i ≤ most → k i ≡ k' i) → (n : ℕ) → n ≤ most → one p path k n ≡ one p path k' n
one_same p path k k' most h zero le = refl
one_same p path k k' most h (suc n) le = ap (λ b. b && takes p (slice_index path n)) (h n (omega (arith, le)))

folders_same : (path : List ℕ) (k k' : ℕ → Bool) (most : ℕ) → ((i : ℕ) → i ≤ most → k i ≡ k' i) → (n : ℕ) → n ≤ most → folders path k n ≡ folders path k' n
folders_same path k k' most h zero le = h 0 le
folders_same path k k' most h (suc n) le =
    ap (λ b. b || ((slice_index path n == 47) && earlier k n)) (h (suc n) le)
    ∙ ap (λ b. k' (suc n) || ((slice_index path n == 47) && b)) (earlier_same k k' most h n (omega (arith, le)))

step_same : (p : Piece) (path : List ℕ) (k k' : ℕ → Bool) (most : ℕ) → ((i : ℕ) → i ≤ most → k i ≡ k' i) → (n : ℕ) → n ≤ most → step p path k n ≡ step p path k' n
step_same (Byte own) path k k' most h n le = one_same (Byte own) path k k' most h n le
step_same Any path k k' most h n le = one_same Any path k k' most h n le
step_same (OneOf c) path k k' most h n le = one_same (OneOf c) path k k' most h n le
step_same Star path k k' most h n le = in_name_same path k k' most h n le
step_same Folders path k k' most h n le = folders_same path k k' most h n le
step_same Rest path k k' most h n le = earlier_same k k' most h n le

pub ends_same : (ps : List Piece) (path : List ℕ) (k k' : ℕ → Bool) (most : ℕ) → ((i : ℕ) → i ≤ most → k i ≡ k' i) → (n : ℕ) → n ≤ most → ends ps path k n ≡ ends ps path k' n
ends_same [] path k k' most h n le = h n le
ends_same (p ∷ ps) path k k' most h n le = ends_same ps path (step p path k) (step p path k') most (step_same p path k k' most h) n le

-- ---- where nothing begins, nothing ends

earlier_none : (k : ℕ → Bool) → ((i : ℕ) → k i ≡ false) → (n : ℕ) → earlier k n ≡ false
earlier_none k h zero = h 0
earlier_none k h (suc n) = ap (λ b. b || earlier k n) (h (suc n)) ∙ earlier_none k h n

and_none : (b c : Bool) → c ≡ false → (b && c) ≡ false
and_none true c e = e
and_none false c e = refl

in_name_none : (path : List ℕ) (k : ℕ → Bool) → ((i : ℕ) → k i ≡ false) → (n : ℕ) → in_name path k n ≡ false
in_name_none path k h zero = h 0
in_name_none path k h (suc n) =
    ap (λ b. b || (not (slice_index path n == 47) && in_name path k n)) (h (suc n)) ∙ and_none (not (slice_index path n == 47)) (in_name path k n) (in_name_none path k h n)

one_none : (p : Piece) (path : List ℕ) (k : ℕ → Bool) → ((i : ℕ) → k i ≡ false) → (n : ℕ) → one p path k n ≡ false
one_none p path k h zero = refl
one_none p path k h (suc n) = ap (λ b. b && takes p (slice_index path n)) (h n)

folders_none : (path : List ℕ) (k : ℕ → Bool) → ((i : ℕ) → k i ≡ false) → (n : ℕ) → folders path k n ≡ false
folders_none path k h zero = h 0
folders_none path k h (suc n) =
    ap (λ b. b || ((slice_index path n == 47) && earlier k n)) (h (suc n)) ∙ and_none (slice_index path n == 47) (earlier k n) (earlier_none k h n)

step_none : (p : Piece) (path : List ℕ) (k : ℕ → Bool) → ((i : ℕ) → k i ≡ false) → (n : ℕ) → step p path k n ≡ false
step_none (Byte own) path k h n = one_none (Byte own) path k h n
step_none Any path k h n = one_none Any path k h n
step_none (OneOf c) path k h n = one_none (OneOf c) path k h n
step_none Star path k h n = in_name_none path k h n
step_none Folders path k h n = folders_none path k h n
step_none Rest path k h n = earlier_none k h n

ends_none : (ps : List Piece) (path : List ℕ) (k : ℕ → Bool) → ((i : ℕ) → k i ≡ false) → (n : ℕ) → ends ps path k n ≡ false
ends_none [] path k h n = h n
ends_none (p ∷ ps) path k h n = ends_none ps path (step p path k) (step_none p path k h) n

unmarked : (row : List Bool) → list_any (λ mark. mark) row ≡ false → (i : ℕ) → mark_in row i ≡ false
unmarked [] e i = refl
unmarked (false ∷ row) e zero = refl
unmarked (false ∷ row) e (suc i) = unmarked row e i
unmarked (true ∷ row) e i = absurd (false≢true (sym e))

-- ---- the loop over the pieces

pub begun : (ps : List Piece) (path : List ℕ) (row : List Bool) → row ≡ marks_of is_first (length path + 1)
    → ends ps path (mark_in row) (length path) ≡ ends ps path is_first (length path)
begun ps path row e =
    ends_same ps path (mark_in row) is_first (length path) (λ i le. mark_at is_first (length path + 1) i row e (omega (arith, le))) (length path) (omega arith)

pub goes_on : (p : Piece) (ps : List Piece) (path : List ℕ) (row new : List Bool) → new ≡ marks_of (step p path (mark_in row)) (length path + 1)
    → ends ps path (mark_in new) (length path) ≡ ends (p ∷ ps) path (mark_in row) (length path)
goes_on p ps path row new e =
    ends_same ps path (mark_in new) (step p path (mark_in row)) (length path)
    (λ i le. mark_at (step p path (mark_in row)) (length path + 1) i new e (omega (arith, le))) (length path) (omega arith)

pub ended : (ps : List Piece) (path : List ℕ) (row : List Bool) → list_any (λ mark. mark) row ≡ false
    → false ≡ ends ps path (mark_in row) (length path)
ended ps path row e = sym (ends_none ps path (mark_in row) (unmarked row e) (length path))

-- ---- the loops, as they call these

pub mark_more : (p : Piece) (path : List ℕ) (begins : ℕ → Bool) (at : ℕ) (mark seen : Bool) → mark ≡ next_mark p (slice_index path at) (begins at) (begins (at + 1)) seen
    → seen ≡ seen_before p path begins at → mark ≡ step p path begins (at + 1)
mark_more p path begins at mark seen is before =
    is ∙ ap (next_mark p (slice_index path at) (begins at) (begins (at + 1))) before ∙ next p path begins at

pub seen_on : (p : Piece) (path : List ℕ) (begins : ℕ → Bool) (at : ℕ) (mark seen new : Bool) → new ≡ seen_next p mark (begins (at + 1)) seen
    → mark ≡ step p path begins (at + 1) → seen ≡ seen_before p path begins at → new ≡ seen_before p path begins (at + 1)
seen_on p path begins at mark seen new is marked before =
    is ∙ ap (λ m. seen_next p m (begins (at + 1)) seen) marked ∙ ap (seen_next p (step p path begins (at + 1)) (begins (at + 1))) before ∙ seen_more p path begins at

pub piece_on : (ps : List Piece) (i : ℕ) (p : Piece) (path : List ℕ) (row new : List Bool) (all : Bool) → i < length ps → get_or ps i p ≡ p
    → new ≡ marks_of (step p path (mark_in row)) (length path + 1) → ends (drop i ps) path (mark_in row) (length path) ≡ all
    → ends (drop (i + 1) ps) path (mark_in new) (length path) ≡ all
piece_on ps i p path row new all h is e before =
    goes_on p (drop (i + 1) ps) path row new e
    ∙ ap (λ l. ends l path (mark_in row) (length path)) (sym (drop_more ps i p h ∙ ap (λ q. q ∷ drop (i + 1) ps) is))
    ∙ before

-- ---- another first byte

after_first : (n : ℕ) → is_first (suc n) ≡ false
after_first n = subst (λ m. is_first m ≡ false) (sym (up n)) (sym (not_first n))

never : (own : ℕ) (path : List ℕ) → may_begin (Byte own) path ≡ false → (n : ℕ) → n ≤ length path → step (Byte own) path is_first n ≡ false
never own path h zero le = refl
never own [] h (suc n) le = absurd (omega (arith, le))
never own (b ∷ bs) h (suc zero) le = h
never own (b ∷ bs) h (suc (suc n)) le = ap (λ t. t && (own == slice_index (b ∷ bs) (suc n))) (after_first n)

pub begins_otherwise : (p : Piece) (ps : List Piece) (path : List ℕ) → may_begin p path ≡ false → false ≡ fits (p ∷ ps) path
begins_otherwise (Byte own) ps path h =
    sym (ends_same ps path (step (Byte own) path is_first) (λ n. false) (length path) (never own path h) (length path) (omega arith)
    ∙ ends_none ps path (λ n. false) (λ i. refl) (length path))
begins_otherwise Any ps path h = absurd (false≢true (sym h))
begins_otherwise (OneOf c) ps path h = absurd (false≢true (sym h))
begins_otherwise Star ps path h = absurd (false≢true (sym h))
begins_otherwise Folders ps path h = absurd (false≢true (sym h))
begins_otherwise Rest ps path h = absurd (false≢true (sym h))
