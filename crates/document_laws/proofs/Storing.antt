-- The lexer's errors that a parse stores, where a piece was replaced.
use Rattle.std.proofs.Common.{◌≡◌, ◌⊎◌, inl, inr, ℕ, zero, suc, ◌+◌, ◌-◌, ◌<◌, ◌≤◌, ◌^◌, Bool, true, false, ◌==◌, ◌&&◌, ◌||◌, nat_lt, nat_le, if◌then◌else◌, List, [], ◌∷◌, ◌++◌, length, take, drop, map, get_or, ap, ap₂, sym, ◌∙◌, refl, arith, append_assoc, append-nil, length-append}
use Rattle.std.specs.Prelude.{IsUtf8, All, slice_index}
use Rattle.std.specs.Str.{IsCharBoundary}
use Rattle.std.specs.List.{flat_map}
use Rattle.std.proofs.Math.Seq.{take-append-add, drop-append-add}
use Rattle.std.proofs.lemmas.Bool.{and_parts, leb-true}
use Rattle.std.proofs.lemmas.Bool.Decides.{nat_tests}
use Rattle.std.proofs.lemmas.List.{map-append, take-append-le, get_or_append_left, get_or-append-add}
use Rattle.std.proofs.lemmas.List.Concat.{flat_map-cons}
use Rattle.std.proofs.lemmas.List.Elements.{All-head, All-tail}
use Rattle.std.proofs.lemmas.Str.{IsCharBoundary-at_seam}
use Rattle.ras_front_end.specs.ErrorModel.{ErrorModel}
use Rattle.token_layout.specs.declared.span.Token.{Token}
use Rattle.rust_lexer.specs.declared.lexer.LexError.{LexError}
use Rattle.rust_lexer.specs.Laws.{ErrorLiesIn}
use Rattle.rust_lexer.specs.Lexing.{tokens_of, errors_of}
use Rattle.rust_lexer.proofs.Kept.{lexed}
use Rattle.lexer_laws.specs.Errors.{moved_by}
use Rattle.lexer_laws.specs.Quiet.{is_in as in_one, errs_early as err_early, is_quiet_from as quiet_from, ended_by}
use Rattle.lexer_laws.proofs.Finding.{Replaced, replaced}
use Rattle.lexer_laws.proofs.Messages.{quiet_replaced}
use Rattle.lexer_laws.proofs.Words.{boundary_at, boundary_starts}
use Rattle.rust_front.specs.Messages.{is_boundary_of, front_of, back_of, lexer_message_of, lexer_error_of}
use Rattle.rust_front.specs.Exact.{is_in, errs_early}
use Rattle.ras_parsing.specs.Edit.{Edit}
use Rattle.ras_parsing.specs.Reparse.{moved, shifted}
use Rattle.ras_parsing.specs.Document.{earlier_fault, later_fault, is_quiet_from}
use Rattle.document_laws.specs.Stored.{stored, StoredErrorsAreReplaced}

abbrev Errors : Type 0
Errors = List LexError

-- ---- where a text may be cut

abbrev starts : ℕ → Bool
starts c = nat_lt c 128 || nat_le 192 c

at_byte : (n : ℕ) (s : List ℕ) → n < length s → is_boundary_of n s ≡ starts (slice_index s n)
at_byte n s h = boundary_at n (length s) (slice_index s n) h

-- in the front of a text
front_boundary : (n : ℕ) (w z : List ℕ) → n < length w → is_boundary_of n (w ++ z) ≡ starts (slice_index w n)
front_boundary n w z h = at_byte n (w ++ z) (omega (arith, h, length-append w z)) ∙ ap starts (get_or_append_left w z 0 n h)

front_same : (n : ℕ) (w y z : List ℕ) → n < length w → front_of n (w ++ y) ≡ front_of n (w ++ z)
front_same n w y z h =
    ap₂ (λ (b : Bool) (t : List ℕ). if b then t else []) (front_boundary n w y h ∙ sym (front_boundary n w z h))
    (take-append-le n w y (omega (arith, h)) ∙ sym (take-append-le n w z (omega (arith, h))))

equal_shift : (m n k : ℕ) → (m + k == n + k) ≡ (m == n)
equal_shift m n k = grind (arith, nat_tests)

below_shift : (m n k : ℕ) → nat_lt (m + k) (n + k) ≡ nat_lt m n
below_shift m n k = grind (arith, nat_tests)

swap : (m k : ℕ) → m + k ≡ k + m
swap m k = omega arith

-- behind another text
shifted_boundary : (n : ℕ) (a w : List ℕ) → is_boundary_of (n + length a) (a ++ w) ≡ is_boundary_of n w
shifted_boundary n a w =
    let long : length (a ++ w) ≡ length w + length a = omega (arith, length-append a w) in
    let byte : slice_index (a ++ w) (n + length a) ≡ slice_index w n =
    ap (λ (i : ℕ). get_or (a ++ w) i 0) (swap n (length a)) ∙ get_or-append-add a w n 0 in
    ap₂ (λ (p q : Bool). p || q) (ap (λ (l : ℕ). l == n + length a) long ∙ equal_shift (length w) n (length a))
    (ap₂ (λ (p q : Bool). p && q) (ap (λ (l : ℕ). nat_lt (n + length a) l) long ∙ below_shift n (length w) (length a)) (ap starts byte))

abbrev none : List ℕ
none = []

drop_none : (n : ℕ) → drop n none ≡ none
drop_none zero = refl
drop_none (suc n) = refl

pub same_choice : (b : Bool) → (if b then none else none) ≡ none
same_choice true = refl
same_choice false = refl

back_none : (n : ℕ) → back_of n [] ≡ []
back_none n = ap (λ (t : List ℕ). if is_boundary_of n [] then t else []) (drop_none n) ∙ same_choice (is_boundary_of n [])

back_shifted : (n : ℕ) (a w : List ℕ) → back_of (n + length a) (a ++ w) ≡ back_of n w
back_shifted n a w =
    ap₂ (λ (b : Bool) (t : List ℕ). if b then t else []) (shifted_boundary n a w)
    (ap (λ (i : ℕ). drop i (a ++ w)) (swap n (length a)) ∙ drop-append-add a w n)

-- a piece between two texts
in_or_at : (i n : ℕ) → i ≤ n → (i < n) ⊎ (i ≡ n)
in_or_at zero zero h = inr refl
in_or_at zero (suc n) h = inl (omega arith)
in_or_at (suc i) zero h = absurd (omega (arith, h))
in_or_at (suc i) (suc n) h = elim (in_or_at i n (omega (arith, h))) [ inl k ↦ inl (omega (arith, k)) | inr k ↦ inr (ap suc k) ]

whole_boundary : (s : List ℕ) → is_boundary_of (length s) s ≡ true
whole_boundary s = let same : (length s == length s) ≡ true = grind (arith, nat_tests) in ap (λ (b : Bool). b || (nat_lt (length s) (length s) && starts (slice_index s (length s)))) same

piece_boundary : (n : ℕ) (p c : List ℕ) → IsUtf8 c → n ≤ length p → is_boundary_of n (p ++ c) ≡ is_boundary_of n p
piece_boundary n p c u h =
    elim (in_or_at n (length p) h) [
      | inl k ↦ front_boundary n p c k ∙ sym (at_byte n p k)
      | inr e ↦
          let seam : IsCharBoundary (p ++ c) (length p) = IsCharBoundary-at_seam (p ++ c) p c refl u in
          ap (λ (i : ℕ). is_boundary_of i (p ++ c)) e ∙ boundary_starts (length p) (p ++ c) seam
          ∙ sym (ap (λ (i : ℕ). is_boundary_of i p) e ∙ whole_boundary p)
    ]

front_in_piece : (n : ℕ) (p c : List ℕ) → IsUtf8 c → n ≤ length p → front_of n (p ++ c) ≡ front_of n p
front_in_piece n p c u h =
    ap₂ (λ (b : Bool) (t : List ℕ). if b then t else []) (piece_boundary n p c u h) (take-append-le n p c h)

word_on : (b : Bool) (m n : ℕ) (a w : List ℕ) → back_of (m + length a) (if b then take (n + length a) (a ++ w) else []) ≡ back_of m (if b then take n w else [])
word_on true m n a w =
    ap (back_of (m + length a)) (ap (λ (i : ℕ). take i (a ++ w)) (swap n (length a)) ∙ take-append-add a w n) ∙ back_shifted m a (take n w)
word_on false m n a w = back_none (m + length a) ∙ sym (back_none m)

-- the text of a range, behind another text
word_shifted : (m n : ℕ) (a w : List ℕ) → back_of (m + length a) (front_of (n + length a) (a ++ w)) ≡ back_of m (front_of n w)
word_shifted m n a w =
    ap (λ (b : Bool). back_of (m + length a) (if b then take (n + length a) (a ++ w) else [])) (shifted_boundary n a w) ∙ word_on (is_boundary_of n w) m n a w

-- ---- messages

-- before a byte that begins a character, what follows does not matter
pub error_before : (a y z : List ℕ) (b : ℕ) (f : LexError) → f.range.end ≤ length a → lexer_error_of (a ++ b ∷ y) f ≡ lexer_error_of (a ++ b ∷ z) f
error_before a y z b f h =
    let w : List ℕ = a ++ b ∷ [] in
    let inside : f.range.end < length w = omega (arith, h, length-append a (b ∷ [])) in
    let fronts : front_of f.range.end (a ++ b ∷ y) ≡ front_of f.range.end (a ++ b ∷ z) =
    ap (front_of f.range.end) (sym (append_assoc a (b ∷ []) y)) ∙ front_same f.range.end w y z inside ∙ ap (front_of f.range.end) (append_assoc a (b ∷ []) z) in
    ap (λ (t : List ℕ). record { message = lexer_message_of f.problem (back_of f.range.start t); range = f.range }) fronts

-- in a piece, what is around it does not matter
error_moved : (a p c : List ℕ) (f : LexError) → IsUtf8 c → f.range.end ≤ length p → lexer_error_of (a ++ (p ++ c)) (moved_by (length a) f) ≡ moved (length a) (lexer_error_of p f)
error_moved a p c f u h =
    let word : back_of (f.range.start + length a) (front_of (f.range.end + length a) (a ++ (p ++ c))) ≡ back_of f.range.start (front_of f.range.end p) =
    word_shifted f.range.start f.range.end a (p ++ c) ∙ ap (back_of f.range.start) (front_in_piece f.range.end p c u h) in
    ap (λ (t : List ℕ). record { message = lexer_message_of f.problem t; range = record { start = f.range.start + length a; end = f.range.end + length a } }) word

-- ---- all errors

earlier_on : (b : Bool) (x y : ErrorModel) (f : LexError) (g : LexError → ErrorModel) → (b ≡ true → x ≡ g f) → (if b then x ∷ [] else []) ≡ map g (if b then f ∷ [] else [])
earlier_on true x y f g h = ap (λ (z : ErrorModel). z ∷ []) (h refl)
earlier_on false x y f g h = refl

earlier_all : (a y z : List ℕ) (b n : ℕ) (fs : Errors)
    → flat_map (earlier_fault (record { start = length a; end = n })) (map (lexer_error_of (a ++ b ∷ y)) fs) ≡ map (lexer_error_of (a ++ b ∷ z)) (flat_map (ended_by (length a)) fs)
earlier_all a y z b n [] = refl
earlier_all a y z b n (f ∷ fs) =
    let old : LexError → ErrorModel = lexer_error_of (a ++ b ∷ y) in
    let new : LexError → ErrorModel = lexer_error_of (a ++ b ∷ z) in
    flat_map-cons (earlier_fault (record { start = length a; end = n })) (old f) (map old fs)
    ∙ ap₂ (λ (es gs : List ErrorModel). es ++ gs)
    (earlier_on (nat_le f.range.end (length a)) (old f) (old f) f new (λ h. error_before a y z b f (leb-true f.range.end (length a) h)))
    (earlier_all a y z b n fs)
    ∙ sym (ap (map new) (flat_map-cons (ended_by (length a)) f fs) ∙ map-append new (ended_by (length a) f) (flat_map (ended_by (length a)) fs))

not_at_most : (m n : ℕ) → nat_lt m n ≡ true → nat_le n m ≡ false
not_at_most m n h = grind (arith, nat_tests, h)

-- none is behind the part
none_later : (start n : ℕ) (edit : Edit) (fs : List ErrorModel) → is_quiet_from n fs ≡ true → flat_map (later_fault (record { start = start; end = n }) edit) fs ≡ []
none_later start n edit [] h = refl
none_later start n edit (f ∷ fs) h =
    let later : nat_le n f.range.start ≡ false = not_at_most f.range.start n (and_parts (nat_lt f.range.start n) (is_quiet_from n fs) h).0 in
    flat_map-cons (later_fault (record { start = start; end = n }) edit) f fs
    ∙ ap₂ (λ (b : Bool) (gs : List ErrorModel). (if b then shifted_fault edit f ∷ [] else []) ++ gs) later
    (none_later start n edit fs (and_parts (nat_lt f.range.start n) (is_quiet_from n fs) h).1)
  where
    shifted_fault : Edit → ErrorModel → ErrorModel
    shifted_fault edit f = record { message = f.message; range = record { start = shifted edit f.range.start; end = shifted edit f.range.end } }

all_moved : (a p c : List ℕ) (fs : Errors) → IsUtf8 c → All (ErrorLiesIn (length p)) fs → map (lexer_error_of (a ++ (p ++ c))) (map (moved_by (length a)) fs) ≡ map (moved (length a)) (map (lexer_error_of p) fs)
all_moved a p c [] u h = refl
all_moved a p c (f ∷ fs) u h =
    ap₂ (λ (g : ErrorModel) (gs : List ErrorModel). g ∷ gs) (error_moved a p c f u (All-head (ErrorLiesIn (length p)) f fs h).1) (all_moved a p c fs u (All-tail (ErrorLiesIn (length p)) f fs h))

-- ---- the tests are the same

in_same : (byte : ℕ) (ts : List Token) → is_in byte ts ≡ in_one byte ts
in_same byte [] = refl
in_same byte (t ∷ ts) = ap (λ (b : Bool). if nat_lt byte t.len then true else b) (in_same (byte - t.len) ts)

early_same : (ts : List Token) (fs : Errors) → errs_early ts fs ≡ err_early ts fs
early_same ts [] = refl
early_same ts (f ∷ fs) = in_same f.range.start (take 5 ts)

pub quiet_same : (text : List ℕ) (n : ℕ) (fs : Errors) → is_quiet_from n (map (lexer_error_of text) fs) ≡ quiet_from n fs
quiet_same text n [] = refl
quiet_same text n (f ∷ fs) = ap (λ (b : Bool). nat_lt f.range.start n && b) (quiet_same text n fs)

pub stored_replaced : StoredErrorsAreReplaced
stored_replaced e a part piece c ts ps us edit r early quiet =
    let w : Replaced e a part piece c ts ps us = replaced e a part piece c ts ps us r in
    let n : ℕ = length (a ++ part) in
    let inner : List ℕ = w.is_piece.inner ++ 125 ∷ [] in
    let old_text : a ++ (part ++ c) ≡ a ++ 123 ∷ (drop 1 part ++ c) = ap (λ (t : List ℕ). a ++ (t ++ c)) w.opens in
    let new_text : a ++ (piece ++ c) ≡ a ++ 123 ∷ (inner ++ c) = ap (λ (t : List ℕ). a ++ (t ++ c)) w.is_piece.parts in
    let old : Errors = errors_of e (a ++ (part ++ c)) in
    let kept : Errors = flat_map (ended_by (length a)) old in
    let own : Errors = map (moved_by (length a)) (errors_of e piece) in
    let new : errors_of e (a ++ (piece ++ c)) ≡ kept ++ own =
    quiet_replaced e a part piece c ts ps us r (sym (early_same (tokens_of e piece) (errors_of e piece)) ∙ early) (sym (quiet_same (a ++ (part ++ c)) n old) ∙ quiet) in
    let before : map (lexer_error_of (a ++ (piece ++ c))) kept ≡ flat_map (earlier_fault (record { start = length a; end = n })) (stored e (a ++ (part ++ c))) =
    ap (λ (t : List ℕ). map (lexer_error_of t) kept) new_text
    ∙ sym (ap (λ (t : List ℕ). flat_map (earlier_fault (record { start = length a; end = n })) (map (lexer_error_of t) old)) old_text ∙ earlier_all a (drop 1 part ++ c) (inner ++ c) 123 n old) in
    let few : length piece < 2 ^ 32 = omega (arith, w.new_short) in
    let here : map (lexer_error_of (a ++ (piece ++ c))) own ≡ map (moved (length a)) (stored e piece) =
    all_moved a piece c (errors_of e piece) r.is_rest_text (lexed e piece r.is_piece_text few).lie in
    ap (map (lexer_error_of (a ++ (piece ++ c)))) new ∙ map-append (lexer_error_of (a ++ (piece ++ c))) kept own
    ∙ ap₂ (λ (es fs : List ErrorModel). es ++ fs) before
    (here ∙ sym (append-nil (map (moved (length a)) (stored e piece)))
    ∙ ap (λ (fs : List ErrorModel). map (moved (length a)) (stored e piece) ++ fs) (sym (none_later (length a) n edit (stored e (a ++ (part ++ c))) quiet)))
