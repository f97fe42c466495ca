-- Where the lines of a text end.
use Rattle.std.proofs.Common.{◌≡◌, ◌≢◌, ℕ, zero, suc, ◌+◌, ◌-◌, ◌<◌, ◌≤◌, min, Bool, false, eqb, List, [], ◌∷◌, ◌++◌, map, take, drop, length, get_or, refl, ap, sym, ◌∙◌, arith, length-drop}
use Rattle.std.proofs.Math.Seq.{take-length}
use Rattle.std.proofs.lemmas.List.{get_or_append_left, length-append}
use Rattle.std.proofs.lemmas.List.Sums.{common_prefix_len-le}
use Rattle.std.specs.List.{common_prefix_len, slice_range}
use denote.Ref.{Bor}
use Rattle.std.proofs.lemmas.Bool.{ne_eqb, false≢true}
use Rattle.rust_report.specs.Changes.{lines_of, onto_first}

other_byte : (b : ℕ) (s : List ℕ) → b ≢ 10 → lines_of (b ∷ s) ≡ onto_first b (lines_of s)
other_byte b s h = let e : eqb b 10 ≡ false = ne_eqb b 10 h in rw e refl

feed_byte : (b : ℕ) (s : List ℕ) → b ≡ 10 → lines_of (b ∷ s) ≡ (b ∷ []) ∷ lines_of s
feed_byte b s h = rw h refl

pub line_step : (s : List ℕ) (k : ℕ) → k < length s → get_or s k 0 ≡ 10 → ((i : ℕ) → i < k → get_or s i 0 ≢ 10)
    → lines_of s ≡ take (suc k) s ∷ lines_of (drop (suc k) s)
line_step [] k h feed before = absurd (omega (arith, h))
line_step (b ∷ s) zero h feed before = feed_byte b s feed
line_step (b ∷ s) (suc k) h feed before =
    other_byte b s (before zero (omega arith)) ∙ ap (onto_first b) (line_step s k (omega (arith, h)) feed (λ i lt. before (suc i) (omega (arith, lt))))

last_line : (b : ℕ) (s : List ℕ) → ((i : ℕ) → i < length (b ∷ s) → get_or (b ∷ s) i 0 ≢ 10) → lines_of (b ∷ s) ≡ (b ∷ s) ∷ []
last_line b [] h = other_byte b [] (h zero (omega arith))
last_line b (c ∷ s) h = other_byte b (c ∷ s) (h zero (omega arith)) ∙ ap (onto_first b) (last_line c s (λ i lt. h (suc i) (omega (arith, lt))))

at_seam : (a b : List ℕ) → get_or (a ++ (10 ∷ b)) (length a) 0 ≡ 10
at_seam [] b = refl
at_seam (x ∷ a) b = at_seam a b

-- a text with a line feed
pub cut_line : (s a b : List ℕ) (n : ℕ) → s ≡ a ++ (10 ∷ b) → ((i : ℕ) → i < length a → get_or a i 0 ≢ 10) → n ≡ length s - length b
    → (n ≡ suc (length a)) × (length a < length s) × (get_or s (length a) 0 ≡ 10) × (lines_of s ≡ take n s ∷ lines_of (drop n s))
cut_line s a b n is lacks len =
    let whole : length s ≡ length a + length (10 ∷ b) = ap length is ∙ length-append a (10 ∷ b) in
    let end : n ≡ suc (length a) = omega (arith, len, whole) in
    let within : length a < length s = omega (arith, whole) in
    let feed : get_or s (length a) 0 ≡ 10 = ap (λ l. get_or l (length a) 0) is ∙ at_seam a b in
    let before : (i : ℕ) → i < length a → get_or s i 0 ≢ 10 = λ i lt h. lacks i lt (sym (get_or_append_left a (10 ∷ b) 0 i lt) ∙ ap (λ l. get_or l i 0) (sym is) ∙ h) in
    (end, within, feed, rw end (line_step s (length a) within feed before))

append_nothing : (s : List ℕ) → drop (length s) s ≡ []
append_nothing [] = refl
append_nothing (b ∷ s) = append_nothing s

-- a text without a line feed is one line
pub whole_line : (s : List ℕ) → ((i : ℕ) → i < length s → get_or s i 0 ≢ 10) → 0 < length s → lines_of s ≡ take (length s) s ∷ lines_of (drop (length s) s)
whole_line [] h some = absurd (omega (arith, some))
whole_line (b ∷ s) h some =
    last_line b s h ∙ ap (λ l. l ∷ []) (sym (take-length (b ∷ s))) ∙ ap (λ l. take (length (b ∷ s)) (b ∷ s) ∷ lines_of l) (sym (append_nothing (b ∷ s)))

-- the front of two lists that is counted
pub counted : {A : Type 0} (e : A → A → Bool) (xs ys : List A) (n m : ℕ) → m ≡ min (length xs) (length ys) → m ≤ n
    → n + common_prefix_len e (drop n xs) (drop n ys) ≡ common_prefix_len e xs ys → n ≡ common_prefix_len e xs ys
counted e xs ys n m is le h =
    let most = common_prefix_len-le e (drop n xs) (drop n ys) in
    omega (arith, is, le, h, most.0, most.1, length-drop n xs, length-drop n ys)

moved : (done : List (Bor (List ℕ))) (line : Bor (List ℕ)) (ls : List (List ℕ)) → map (λ (l : Bor (List ℕ)). l.now) (done ++ line ∷ []) ++ ls ≡ map (λ (l : Bor (List ℕ)). l.now) done ++ line.now ∷ ls
moved [] line ls = refl
moved (d ∷ done) line ls = ap (λ l. d.now ∷ l) (moved done line ls)

-- the lines before a rest, with one line more
pub one_line_more : (done lines : List (Bor (List ℕ))) (line : Bor (List ℕ)) (s rest : List ℕ) (n : ℕ) (whole : List (List ℕ)) → lines ≡ done ++ line ∷ [] → line.now ≡ take n s → rest ≡ drop n s
    → lines_of s ≡ take n s ∷ lines_of (drop n s) → map (λ l. l.now) done ++ lines_of s ≡ whole → map (λ l. l.now) lines ++ lines_of rest ≡ whole
one_line_more done lines line s rest n whole added cut left step h =
    ap (λ ls. map (λ (l : Bor (List ℕ)). l.now) ls ++ lines_of rest) added
    ∙ moved done line (lines_of rest)
    ∙ ap (λ ls. map (λ (l : Bor (List ℕ)). l.now) done ++ ls) (ap (λ l. l ∷ lines_of rest) cut ∙ ap (λ l. take n s ∷ lines_of l) left ∙ sym step)
    ∙ h

pub range_front : (l : List ℕ) (n : ℕ) → slice_range l 0 n ≡ take n l
range_front l n = let e : n - 0 ≡ n = omega arith in ap (λ m. take m l) e

pub is_some : (s : List ℕ) → false ≡ eqb (length s) 0 → 0 < length s
is_some [] h = absurd (false≢true h)
is_some (b ∷ s) h = omega arith
