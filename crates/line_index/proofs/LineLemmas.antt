-- Line feeds and columns of the parts of a text.
use Rattle.std.proofs.Common.{cond, ◌≡◌, ℕ, zero, suc, ◌+◌, ◌-◌, ◌<◌, ◌≤◌, true, false, eqb, List, [], ◌∷◌, ◌++◌, length, take, drop, get_or, refl, ap, sym, ◌∙◌, arith, length-append, length-drop, eq-eqb, ⊎_elim, Result, Ok, Err, nat_cmp, add-one, subst, inl, inr}
use Rattle.std.proofs.Math.Nat.{eq-zero-or-pos}
use Rattle.std.proofs.Math.Seq.{take-add, take-length, take-suc}
use Rattle.std.proofs.lemmas.List.{length-take-le, take-append-le, get_or_append_left, get_or_push}
use Rattle.std.proofs.lemmas.Bool.{cases_lt, ne_eqb}
use Rattle.std.proofs.lemmas.Bool.Decides.{eqb_tells}
use Rattle.std.proofs.lemmas.List.Sorted.{searched}
use Rattle.std.specs.List.Sorted.{IsBinarySearchResult}
use Rattle.std.specs.Prelude.{MatchResult}
use Rattle.line_index.specs.declared.line_col.LineCol.{LineCol}
use Rattle.line_index.specs.Lines.{line_feeds, bytes_behind, line_col_at, IsOffset, IsLineStart, IsLine, HasStarts}

pub line_feeds-append : (a b : List ℕ) → line_feeds (a ++ b) ≡ line_feeds a + line_feeds b
unfolding line_feeds
line_feeds-append [] b = omega arith
line_feeds-append (x ∷ a) b = omega (arith, line_feeds-append a b)

pub line_feeds-nil : line_feeds [] ≡ 0
unfolding line_feeds
line_feeds-nil = refl

pub behind-nil : bytes_behind [] ≡ 0
unfolding bytes_behind
behind-nil = refl

-- a text with no line feed is after the last one as a whole
pub behind_flat : (b : List ℕ) → line_feeds b ≡ 0 → bytes_behind b ≡ length b
unfolding bytes_behind
behind_flat [] h = refl
behind_flat (x ∷ s) h = let e : eqb (line_feeds (x ∷ s)) 0 ≡ true = eq-eqb (line_feeds (x ∷ s)) 0 h in rw e refl

pub behind-cons : (x : ℕ) (s : List ℕ) → 0 < line_feeds (x ∷ s) → bytes_behind (x ∷ s) ≡ bytes_behind s
unfolding bytes_behind
behind-cons x s h = let e : eqb (line_feeds (x ∷ s)) 0 ≡ false = ne_eqb (line_feeds (x ∷ s)) 0 (λ z. omega (arith, z, h)) in rw e refl

pub behind-append : (a b : List ℕ) → line_feeds b ≡ 0 → bytes_behind (a ++ b) ≡ bytes_behind a + length b
behind-append [] b h = omega (arith, behind_flat b h, behind-nil)
behind-append (x ∷ a) b h =
    let whole : line_feeds (x ∷ (a ++ b)) ≡ line_feeds (x ∷ a) + line_feeds b = line_feeds-append (x ∷ a) b in
    let len : length (x ∷ (a ++ b)) ≡ length (x ∷ a) + length b = length-append (x ∷ a) b in
    ⊎_elim
    (λ z. omega (arith, behind_flat (x ∷ (a ++ b)) (omega (arith, whole, h, z)), behind_flat (x ∷ a) z, len))
    (λ p. omega (arith, behind-cons x a p, behind-cons x (a ++ b) (omega (arith, whole, h, p)), behind-append a b h))
    (eq-zero-or-pos (line_feeds (x ∷ a)))

line_feeds-take-add : (s : List ℕ) (o k : ℕ) → line_feeds (take (o + k) s) ≡ line_feeds (take o s) + line_feeds (take k (drop o s))
line_feeds-take-add s o k = ap line_feeds (take-add o k s) ∙ line_feeds-append (take o s) (take k (drop o s))

pub line_feeds_rise : (s : List ℕ) (o p : ℕ) → o ≤ p → line_feeds (take o s) ≤ line_feeds (take p s)
line_feeds_rise s o p h =
    let e : p ≡ o + (p - o) = omega arith in
    omega (arith, line_feeds-take-add s o (p - o), ap (λ q. line_feeds (take q s)) e)

pub line_feeds_within : (s : List ℕ) (o : ℕ) → o ≤ length s → line_feeds (take o s) ≤ line_feeds s
line_feeds_within s o h = omega (arith, line_feeds_rise s o (length s) h, ap line_feeds (take-length s))

-- of two offsets on one line, the later one has the greater column
apart : (s : List ℕ) (o p : ℕ) → o ≤ p → p ≤ length s → line_feeds (take o s) ≡ line_feeds (take p s) → bytes_behind (take p s) ≡ bytes_behind (take o s) + (p - o)
apart s o p h within same =
    let e : p ≡ o + (p - o) = omega arith in
    let flat : line_feeds (take (p - o) (drop o s)) ≡ 0 = omega (arith, line_feeds-take-add s o (p - o), ap (λ q. line_feeds (take q s)) e, same) in
    let room : p - o ≤ length (drop o s) = omega (arith, length-drop o s, within) in
    let len : length (take (p - o) (drop o s)) ≡ p - o = length-take-le (p - o) (drop o s) room in
    omega (arith, ap (λ q. bytes_behind (take q s)) e, ap bytes_behind (take-add o (p - o) s), behind-append (take o s) (take (p - o) (drop o s)) flat, len)

-- two offsets with one line and one column are one
pub one_place : (s : List ℕ) (o p : ℕ) → o ≤ length s → p ≤ length s → line_feeds (take o s) ≡ line_feeds (take p s) → bytes_behind (take o s) ≡ bytes_behind (take p s) → o ≡ p
one_place s o p ho hp l c =
    ⊎_elim
    (λ lt. omega (arith, lt, c, apart s o p (omega (arith, lt)) hp l))
    (λ le. omega (arith, le, c, apart s p o le ho (sym l)))
    (cases_lt o p)

pub line_of : (s : List ℕ) (n o : ℕ) → IsLineStart s n o → line_feeds (take o s) ≡ n
line_of s n o h = ap (λ (p : LineCol). p.line) h.1

pub col_of : (s : List ℕ) (n o : ℕ) → IsLineStart s n o → bytes_behind (take o s) ≡ 0
col_of s n o h = ap (λ (p : LineCol). p.col) h.1

pub place : (s : List ℕ) (o l c : ℕ) → line_feeds (take o s) ≡ l → bytes_behind (take o s) ≡ c → line_col_at s o ≡ record { line = l; col = c }
place s o l c e f = rw e (rw f refl)

pub starts_rise : (s v : List ℕ) → HasStarts s v → (i j : ℕ) → i ≤ j → j < length v → get_or v i 0 ≤ get_or v j 0
starts_rise s v h i j le lt =
    ⊎_elim
    (λ less.
    let a = line_of s i (get_or v i 0) (h.each i (omega (arith, le, lt))) in
    let b = line_of s j (get_or v j 0) (h.each j lt) in
    let same : i ≡ j = omega (arith, le, a, b, line_feeds_rise s (get_or v j 0) (get_or v i 0) (omega (arith, less))) in
    omega (arith, ap (λ k. get_or v k 0) same))
    (λ fits. fits)
    (cases_lt (get_or v j 0) (get_or v i 0))

-- an offset after the start of line n, with at most n line feeds before it, is on line n
pub on_line : (s : List ℕ) (n p c o : ℕ) → IsLineStart s n p → o ≡ p + c → o ≤ length s → line_feeds (take o s) ≤ n → IsOffset s (record { line = n; col = c }) o
on_line s n p c o h e within most =
    let from : p ≤ o = omega (arith, e) in
    let l = line_of s n p h in
    let feeds : line_feeds (take o s) ≡ n = omega (arith, l, most, line_feeds_rise s p o from) in
    (within, place s o n c feeds (omega (arith, e, apart s p o from within (l ∙ sym feeds), col_of s n p h)))

-- before the start of line n there are fewer than n line feeds
pub before_start : (s : List ℕ) (n q o : ℕ) → IsLineStart s n q → o < q → line_feeds (take o s) < n
before_start s n q o h lt =
    let l = line_of s n q h in
    let up : line_feeds (take o s) ≤ line_feeds (take q s) = line_feeds_rise s o q (omega (arith, lt)) in
    ⊎_elim
    (λ less. less)
    (λ le.
    let same : line_feeds (take o s) ≡ line_feeds (take q s) = omega (arith, l, up, le) in
    omega (arith, lt, col_of s n q h, apart s o q (omega (arith, lt)) h.0 same))
    (cases_lt (line_feeds (take o s)) n)

-- an offset on line n is as far after its start as its column says
pub from_start : (s : List ℕ) (n p c o : ℕ) → IsLineStart s n p → IsOffset s (record { line = n; col = c }) o → o ≡ p + c
from_start s n p c o h k =
    let l : line_feeds (take o s) ≡ line_feeds (take p s) = ap (λ (x : LineCol). x.line) k.1 ∙ sym (line_of s n p h) in
    let b : bytes_behind (take o s) ≡ c = ap (λ (x : LineCol). x.col) k.1 in
    ⊎_elim
    (λ lt. omega (arith, lt, b, col_of s n p h, apart s o p (omega (arith, lt)) h.0 l))
    (λ le. omega (arith, le, b, col_of s n p h, apart s p o le k.0 (sym l)))
    (cases_lt o p)

-- an offset on line n is before the start of line n + 1
pub ends_before : (s : List ℕ) (n c o q : ℕ) → IsOffset s (record { line = n; col = c }) o → IsLineStart s (n + 1) q → o < q
ends_before s n c o q k h =
    ⊎_elim
    (λ lt. lt)
    (λ le. omega (arith, ap (λ (x : LineCol). x.line) k.1, line_of s (n + 1) q h, line_feeds_rise s q o le))
    (cases_lt o q)

-- the line of an offset is one of the text's
pub has_line : (s : List ℕ) (n c o : ℕ) → IsOffset s (record { line = n; col = c }) o → n ≤ line_feeds s
has_line s n c o k = omega (arith, ap (λ (x : LineCol). x.line) k.1, line_feeds_within s o k.0)

-- lines start in order
pub line_starts_rise : (s : List ℕ) (n p q : ℕ) → IsLineStart s n p → IsLineStart s (n + 1) q → p ≤ q
line_starts_rise s n p q h k = omega (arith, ends_before s n 0 p q h k)

start_on : (s : List ℕ) (b n p : ℕ) → IsLineStart s n p → IsLineStart (s ++ b ∷ []) n p
start_on s b n p h =
    let e : take p (s ++ b ∷ []) ≡ take p s = take-append-le p s (b ∷ []) h.0 in
    (omega (arith, h.0, length-append s (b ∷ [])), place (s ++ b ∷ []) p n 0 (ap line_feeds e ∙ line_of s n p h) (ap bytes_behind e ∙ col_of s n p h))

line_feeds_one : line_feeds (10 ∷ []) ≡ 1
unfolding line_feeds
line_feeds_one = refl

pub line_feeds_none : (b : ℕ) → (b ≡ 10 → ⊥) → line_feeds (b ∷ []) ≡ 0
unfolding line_feeds
line_feeds_none b h = let e : eqb b 10 ≡ false = ne_eqb b 10 h in rw e refl

-- a byte that is a line feed
pub feed : (x : ℕ) → 0 < line_feeds (x ∷ []) → x ≡ 10
feed x p = elim (eqb_tells x 10) [ inl e ↦ e.1 | inr n ↦ absurd (omega (arith, p, line_feeds_none x n.1)) ]

behind_one : bytes_behind (10 ∷ []) ≡ 0
unfolding bytes_behind line_feeds
behind_one = refl

behind_feed : (s : List ℕ) → bytes_behind (s ++ 10 ∷ []) ≡ 0
behind_feed [] = behind_one
behind_feed (x ∷ s) =
    let e : line_feeds (x ∷ (s ++ 10 ∷ [])) ≡ line_feeds (x ∷ s) + line_feeds (10 ∷ []) = line_feeds-append (x ∷ s) (10 ∷ []) in
    behind-cons x (s ++ 10 ∷ []) (omega (arith, e, line_feeds_one)) ∙ behind_feed s

first : (n : ℕ) → n < 1 → IsLineStart [] n (get_or (0 ∷ []) n 0)
first zero h = (omega arith, place [] 0 0 0 line_feeds-nil behind-nil)
first (suc n) h = absurd (omega (arith, h))

-- the starts of the empty text
pub starts-nil : HasStarts [] (0 ∷ [])
starts-nil = record { count = omega (arith, line_feeds-nil); each = λ n h. first n h }

-- a byte that is no line feed starts no line
starts-other : (s v : List ℕ) (b : ℕ) → (b ≡ 10 → ⊥) → HasStarts s v → HasStarts (s ++ b ∷ []) v
starts-other s v b ne h =
    record {
      count = omega (arith, h.count, line_feeds-append s (b ∷ []), line_feeds_none b ne);
      each = λ n lt. start_on s b n (get_or v n 0) (h.each n lt);
    }

-- a line starts after a line feed
new_start : (s : List ℕ) (n : ℕ) → n ≡ line_feeds s + 1 → IsLineStart (s ++ 10 ∷ []) n (length s + 1)
new_start s n e =
    let len : length (s ++ 10 ∷ []) ≡ length s + 1 = length-append s (10 ∷ []) in
    let all : take (length s + 1) (s ++ 10 ∷ []) ≡ s ++ 10 ∷ [] = ap (λ k. take k (s ++ 10 ∷ [])) (sym len) ∙ take-length (s ++ 10 ∷ []) in
    (omega (arith, len), place (s ++ 10 ∷ []) (length s + 1) n 0 (omega (arith, ap line_feeds all, line_feeds-append s (10 ∷ []), line_feeds_one, e)) (ap bytes_behind all ∙ behind_feed s))

starts-feed : (s v : List ℕ) → HasStarts s v → HasStarts (s ++ 10 ∷ []) (v ++ (length s + 1) ∷ [])
starts-feed s v h =
    record {
      count = omega (arith, h.count, line_feeds-append s (10 ∷ []), line_feeds_one, length-append v ((length s + 1) ∷ []));
      each = λ n lt.
          ⊎_elim
          (λ less. let e : get_or (v ++ (length s + 1) ∷ []) n 0 ≡ get_or v n 0 = get_or_append_left v ((length s + 1) ∷ []) 0 n less in rw e (start_on s 10 n (get_or v n 0) (h.each n less)))
          (λ le.
          let last : length v ≡ n = omega (arith, le, lt, length-append v ((length s + 1) ∷ [])) in
          let e : get_or (v ++ (length s + 1) ∷ []) n 0 ≡ length s + 1 = get_or_push v (length s + 1) 0 n last in
          rw e (new_start s n (omega (arith, last, h.count))))
          (cases_lt n (length v));
    }

-- an offset is at its column after the kept start of its line
pub kept_start : (s v : List ℕ) → HasStarts s v → (o n : ℕ) → o ≤ length s → n ≡ line_feeds (take o s) → (n < length v) × (o ≡ get_or v n 0 + bytes_behind (take o s))
kept_start s v h o n within e =
    let inside : n < length v = omega (arith, h.count, e, line_feeds_within s o within) in
    (inside, from_start s n (get_or v n 0) (bytes_behind (take o s)) o (h.each n inside) (within, place s o n (bytes_behind (take o s)) (sym e) refl))

first_start : (s : List ℕ) (p : ℕ) → IsLineStart s 0 p → p ≡ 0
first_start s p h = one_place s p 0 h.0 (omega arith) (line_of s 0 p h ∙ sym line_feeds-nil) (col_of s 0 p h ∙ sym behind-nil)

-- the last kept start that is not past an offset is that of its line
on_kept : (s v : List ℕ) → HasStarts s v → (o i : ℕ) → i < length v → get_or v i 0 ≤ o → line_feeds (take o s) ≤ i → i ≡ line_feeds (take o s)
on_kept s v h o i inside from most = omega (arith, most, line_of s i (get_or v i 0) (h.each i inside), line_feeds_rise s (get_or v i 0) o from)

-- what a binary search of the kept starts tells
pub searched_line : (s v : List ℕ) → HasStarts s v → (o : ℕ) → o ≤ length s → (r : Result ℕ ℕ) → IsBinarySearchResult (λ y. nat_cmp y o) v r → MatchResult r (λ i. i ≡ line_feeds (take o s)) (λ i. i ≡ line_feeds (take o s) + 1)
searched_line s v h o within (Ok i) b =
    let k = searched v o (Ok i) b (starts_rise s v h) in
    on_kept s v h o i k.0 (omega (arith, k.1)) (omega (arith, line_of s i (get_or v i 0) (h.each i k.0), ap (λ q. line_feeds (take q s)) k.1))
searched_line s v h o within (Err i) b =
    let k = searched v o (Err i) b (starts_rise s v h) in
    let some : 0 < length v = omega (arith, h.count) in
    let pos : 0 < i =
    ⊎_elim
    (λ z. absurd (omega (arith, k.2 0 (omega (arith, z)) some, first_start s (get_or v 0 0) (h.each 0 some))))
    (λ p. p)
    (eq-zero-or-pos i) in
    let before : i - 1 < i = omega (arith, pos) in
    let most : line_feeds (take o s) < i =
    ⊎_elim
    (λ lt. before_start s i (get_or v i 0) o (h.each i lt) (k.2 i (omega arith) lt))
    (λ le. omega (arith, le, h.count, line_feeds_within s o within))
    (cases_lt i (length v)) in
    let down : get_or v (i - 1) 0 ≤ o = omega (arith, k.1 (i - 1) before) in
    omega (arith, pos, on_kept s v h o (i - 1) (omega (arith, pos, k.0)) down (omega (arith, pos, most)))

pub take_more : (l : List ℕ) (i : ℕ) → i < length l → take (i + 1) l ≡ take i l ++ get_or l i 0 ∷ []
take_more l i lt = ap (λ n. take n l) (add-one i) ∙ take-suc l i 0 lt

-- the starts of one byte more of a text
pub more-feed : (l v : List ℕ) (i : ℕ) → i < length l → get_or l i 0 ≡ 10 → HasStarts (take i l) v → HasStarts (take (i + 1) l) (v ++ (i + 1) ∷ [])
more-feed l v i lt b h =
    let len : length (take i l) ≡ i = length-take-le i l (omega (arith, lt)) in
    let e : take (i + 1) l ≡ take i l ++ 10 ∷ [] = take_more l i lt ∙ ap (λ x. take i l ++ x ∷ []) b in
    let k : HasStarts (take i l ++ 10 ∷ []) (v ++ (length (take i l) + 1) ∷ []) = starts-feed (take i l) v h in
    rw e (subst (λ n. HasStarts (take i l ++ 10 ∷ []) (v ++ (n + 1) ∷ [])) len k)

pub more-other : (l v : List ℕ) (i : ℕ) → i < length l → (get_or l i 0 ≡ 10 → ⊥) → HasStarts (take i l) v → HasStarts (take (i + 1) l) v
more-other l v i lt b h = rw (take_more l i lt) (starts-other (take i l) v (get_or l i 0) b h)

line_feeds_le : (s : List ℕ) → line_feeds s ≤ length s
unfolding line_feeds
line_feeds_le [] = omega arith
line_feeds_le (b ∷ s) =
    let one : cond (eqb b 10) 1 0 ≤ 1 = elim (eqb b 10) as (λ t. cond t 1 0 ≤ 1) [ true ↦ omega arith | false ↦ omega arith ] in
    omega (arith, one, line_feeds_le s)

-- there are at most as many line feeds before an offset as bytes
pub few_lines : (s : List ℕ) (o : ℕ) → o ≤ length s → line_feeds (take o s) ≤ o
few_lines s o h = omega (arith, line_feeds_le (take o s), length-take-le o s h)

-- a line that is not the first one starts after a line feed
pub starts_late : (s : List ℕ) (n q : ℕ) → IsLineStart s (n + 1) q → 0 < q
starts_late s n q h =
    ⊎_elim
    (λ z. absurd (omega (arith, line_of s (n + 1) q h, ap (λ k. line_feeds (take k s)) z, line_feeds-nil)))
    (λ p. p)
    (eq-zero-or-pos q)

-- e is the last offset on line n
pub record IsLast (s : List ℕ) (n e : ℕ) : Type 0 where
  pub all : (c o : ℕ) → IsOffset s (record { line = n; col = c }) o → o ≤ e
  pub within : e ≤ length s
  pub most : (o : ℕ) → o ≤ e → line_feeds (take o s) ≤ n

pub last_before : (s : List ℕ) (n q : ℕ) → IsLineStart s (n + 1) q → IsLast s n (q - 1)
last_before s n q h =
    let pos = starts_late s n q h in
    record {
      all = λ c o k. omega (arith, ends_before s n c o q k h);
      within = omega (arith, h.0);
      most = λ o le. omega (arith, before_start s (n + 1) q o h (omega (arith, pos, le)));
    }

pub last_of_text : (s : List ℕ) (n : ℕ) → line_feeds s < n + 1 → IsLast s n (length s)
last_of_text s n h =
    record {
      all = λ c o k. k.0;
      within = omega arith;
      most = λ o le. omega (arith, h, line_feeds_within s o le);
    }

pub line_before : (s : List ℕ) (n p q : ℕ) → IsLineStart s n p → IsLineStart s (n + 1) q → IsLine s n (record { start = p; end = q })
line_before s n p q h k = record { start = h; before = λ _. k; last = λ e. absurd (omega (arith, e, has_line s (n + 1) 0 q k)) }

pub line_of_end : (s : List ℕ) (n p : ℕ) → IsLineStart s n p → line_feeds s < n + 1 → IsLine s n (record { start = p; end = length s })
line_of_end s n p h lt = record { start = h; before = λ b. absurd (omega (arith, b, lt)); last = λ _. refl }
