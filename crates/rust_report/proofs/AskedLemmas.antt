-- Where a text with two numbers is cut.
use Rattle.std.proofs.Common.{◌≡◌, ◌≢◌, ℕ, zero, suc, ◌+◌, ◌<◌, ◌≤◌, Bool, true, false, cond, eqb, List, [], ◌∷◌, ◌++◌, length, take, drop, get_or, Option, Some, None, MatchOption, refl, ap, sym, ◌∙◌, subst, ⊎_elim, arith, append_assoc}
use Rattle.std.proofs.Math.Seq.{take-append_seam, drop-append_seam, drop-append-add}
use Rattle.std.proofs.lemmas.List.{get_or_append_left, length-append}
use Rattle.std.proofs.lemmas.Bool.{eqb-true, cases_lt}
use Rattle.std.proofs.lemmas.Str.Parse.{digit_at}
use Rattle.std.proofs.lemmas.Str.Pattern.{IsSplitOnceResult, split_after, split_parts, split_text_parts}
use Rattle.std.specs.Int.{IsInRange}
use Rattle.std.specs.Str.Parse.{AllDigits, digits_value, without_leading_plus}
use Rattle.std.specs.Str.Pattern.{FindsText}
use Rattle.std.specs.Prelude.{codes}
use Rattle.line_index.specs.declared.line_col.WideLineCol.{WideLineCol}
use Rattle.text_size.specs.TextRange.{Bounds}
use denote.Ref.{Bor}
use Rattle.rust_report.specs.Asked.{Writes, WritesNone, IsOrdinal, NoOrdinal, IsPlace, NoPlace, IsRange, NoRange}

-- a character of numbers is a digit or `+`
lacks_from : (b : ℕ) (bs : List ℕ) (t : Bool) (c : ℕ) → eqb b 43 ≡ t → AllDigits 10 (drop (cond t 1 0) (b ∷ bs)) → c ≢ 43 → (IsInRange 48 57 c → ⊥)
    → (i : ℕ) → i < length (b ∷ bs) → get_or (b ∷ bs) i 0 ≢ c
lacks_from b bs true c e ds plus digit zero h is = plus (sym is ∙ eqb-true b 43 e)
lacks_from b bs true c e ds plus digit (suc j) h is = digit (subst (IsInRange 48 57) is (digit_at bs j ds (omega (arith, h))))
lacks_from b bs false c e ds plus digit i h is = digit (subst (IsInRange 48 57) is (digit_at (b ∷ bs) i ds h))

pub lacks : (s : List ℕ) (n c : ℕ) → Writes s n → c ≢ 43 → (IsInRange 48 57 c → ⊥) → (i : ℕ) → i < length s → get_or s i 0 ≢ c
lacks [] n c w plus digit i h is = absurd (omega (arith, h))
lacks (b ∷ bs) n c w plus digit i h is = lacks_from b bs (eqb b 43) c refl w.digits.1 plus digit i h is

not_colon : (◌≡◌ {A = ℕ} 58 43 → ⊥) × (IsInRange 48 57 58 → ⊥)
not_colon = (λ h. omega (arith, h), λ h. omega (arith, h.1))

not_dot : (◌≡◌ {A = ℕ} 46 43 → ⊥) × (IsInRange 48 57 46 → ⊥)
not_dot = (λ h. omega (arith, h), λ h. omega (arith, h.0))

-- a place that a text names has the parts around the first `:`
pub same_parts : (s : List ℕ) (r : Option (Bor (List ℕ) × Bor (List ℕ))) → IsSplitOnceResult 58 s r → (at : WideLineCol) (p : IsPlace s at)
    → MatchOption r ⊥ (λ x. (x.0.now ≡ p.line) × (x.1.now ≡ p.column))
same_parts s r h at p = split_after 58 s p.line p.column r h (omega arith) p.is (lacks p.line (at.line + 1) 58 p.at_line not_colon.0 not_colon.1)

pub no_cut : (s : List ℕ) → IsSplitOnceResult 58 s None → NoPlace s
no_cut s h at p = same_parts s None h at p

pub no_line : (s : List ℕ) (a b : Bor (List ℕ)) → IsSplitOnceResult 58 s (Some (a, b)) → NoOrdinal a.now → NoPlace s
no_line s a b h none at p = none at.line (subst (λ t. IsOrdinal t at.line) (sym (same_parts s (Some (a, b)) h at p).0) p.at_line)

pub no_column : (s : List ℕ) (a b : Bor (List ℕ)) → IsSplitOnceResult 58 s (Some (a, b)) → NoOrdinal b.now → NoPlace s
no_column s a b h none at p = none at.col (subst (λ t. IsOrdinal t at.col) (sym (same_parts s (Some (a, b)) h at p).1) p.at_column)

pub is_place : (s : List ℕ) (a b : Bor (List ℕ)) (at : WideLineCol) → IsSplitOnceResult 58 s (Some (a, b)) → IsOrdinal a.now at.line → IsOrdinal b.now at.col → IsPlace s at
is_place s a b at h line column = record { line = a.now; column = b.now; is = (split_parts 58 s (Some (a, b)) h (omega arith)).0; at_line = line; at_column = column }

-- the clause of `split_once` at `..`
abbrev pub IsCutAtDots : List ℕ → Option (Bor (List ℕ) × Bor (List ℕ)) → Type 0
IsCutAtDots s r = MatchOption r (FindsText (codes "..") s None)
    (λ x. (i : ℕ) × (j : ℕ) × FindsText (codes "..") s (Some (i, j)) × (x.0.now ≡ take i s) × (x.1.now ≡ drop j s) × (i ≤ j) × (length x.0.now ≡ i) × (length x.1.now + j ≡ length s))

behind_from : (s : List ℕ) (r : Bounds) (p : IsRange s r) → drop (length p.from) s ≡ codes ".." ++ p.to
behind_from s r p = ap (drop (length p.from)) (p.is ∙ append_assoc p.from (codes "..") p.to) ∙ drop-append_seam p.from (codes ".." ++ p.to)

at_first : (s : List ℕ) (i b : ℕ) (bs : List ℕ) → drop i s ≡ b ∷ bs → get_or s i 0 ≡ b
at_first s zero b bs h = ap (λ l. get_or l 0 0) h
at_first [] (suc i) b bs h = ap (λ l. get_or l 0 0) h
at_first (x ∷ s) (suc i) b bs h = at_first s i b bs h

-- the first `..` is after the first number
first_dots : (s : List ℕ) (r : Bounds) (p : IsRange s r) (i j : ℕ) → FindsText (codes "..") s (Some (i, j)) → i ≡ length p.from
first_dots s r p i j h =
    ⊎_elim
    (λ lt. absurd (lacks p.from r.start 46 p.at_start not_dot.0 not_dot.1 i lt (
    sym (get_or_append_left p.from (codes ".." ++ p.to) 0 i lt)
    ∙ ap (λ l. get_or l i 0) (sym (p.is ∙ append_assoc p.from (codes "..") p.to))
    ∙ at_first s i 46 (46 ∷ drop j s) h.1.split)))
    (λ le. ⊎_elim
    (λ past. absurd (h.0 (length p.from) past p.to (behind_from s r p)))
    (λ same. omega (arith, le, same))
    (cases_lt (length p.from) i))
    (cases_lt i (length p.from))

pub same_ends : (s : List ℕ) (x : Option (Bor (List ℕ) × Bor (List ℕ))) → IsCutAtDots s x → (r : Bounds) (p : IsRange s r)
    → MatchOption x ⊥ (λ y. (y.0.now ≡ p.from) × (y.1.now ≡ p.to))
same_ends s None h r p = h (length p.from) (omega (arith, ap length p.is, length-append (p.from ++ codes "..") p.to, length-append p.from (codes ".."))) p.to (behind_from s r p)
same_ends s (Some y) h r p =
    let at : h.0 ≡ length p.from = first_dots s r p h.0 h.1 h.2 in
    let whole : s ≡ p.from ++ (codes ".." ++ p.to) = p.is ∙ append_assoc p.from (codes "..") p.to in
    let end : h.1 ≡ length p.from + 2 = h.2.1.ends ∙ ap (λ n. n + 2) at in (
      h.3 ∙ ap (λ n. take n s) at ∙ ap (take (length p.from)) whole ∙ take-append_seam p.from (codes ".." ++ p.to),
      h.4 ∙ ap (λ n. drop n s) end ∙ ap (drop (length p.from + 2)) whole ∙ drop-append-add p.from (codes ".." ++ p.to) 2,
    )

pub no_dots : (s : List ℕ) → IsCutAtDots s None → NoRange s
no_dots s h r p = same_ends s None h r p

pub no_start : (s : List ℕ) (a b : Bor (List ℕ)) → IsCutAtDots s (Some (a, b)) → WritesNone a.now → NoRange s
no_start s a b h none r p = none r.start (subst (λ t. Writes t r.start) (sym (same_ends s (Some (a, b)) h r p).0) p.at_start)

pub no_end : (s : List ℕ) (a b : Bor (List ℕ)) → IsCutAtDots s (Some (a, b)) → WritesNone b.now → NoRange s
no_end s a b h none r p = none r.end (subst (λ t. Writes t r.end) (sym (same_ends s (Some (a, b)) h r p).1) p.at_end)

same_number : (s t : List ℕ) (m n : ℕ) → s ≡ t → Writes s m → Writes t n → m ≡ n
same_number s t m n e v w = sym v.value ∙ ap (λ u. digits_value 10 (without_leading_plus u)) e ∙ w.value

pub backwards : (s : List ℕ) (a b : Bor (List ℕ)) (m n : ℕ) → IsCutAtDots s (Some (a, b)) → Writes a.now m → Writes b.now n → n < m → NoRange s
backwards s a b m n h from to lt r p =
    let parts = same_ends s (Some (a, b)) h r p in
    let start : m ≡ r.start = same_number a.now p.from m r.start parts.0 from p.at_start in
    let end : n ≡ r.end = same_number b.now p.to n r.end parts.1 to p.at_end in
    omega (arith, p.forwards, start, end, lt)

pub is_range : (s : List ℕ) (a b : Bor (List ℕ)) (r : Bounds) → IsCutAtDots s (Some (a, b)) → Writes a.now r.start → Writes b.now r.end → r.start ≤ r.end → IsRange s r
is_range s a b r h start end forwards = record { from = a.now; to = b.now; is = split_text_parts (codes "..") s (Some (a, b)) h ∙ sym (append_assoc a.now (codes "..") b.now); at_start = start; at_end = end; forwards = forwards }
