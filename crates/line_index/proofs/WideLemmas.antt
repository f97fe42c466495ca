-- Units of characters, and starts of lines as starts of characters.
use Rattle.std.proofs.Common.{◌≡◌, ℕ, ◌+◌, ◌-◌, ◌<◌, ◌≤◌, Option, Some, None, MatchOption, true, ltb, List, [], ◌∷◌, ◌++◌, length, length-drop, take, drop, get_or, refl, ap, sym, ◌∙◌, subst, arith, length-append, lt-ltb, ⊎_elim}
use Rattle.std.proofs.Math.Nat.{eq-zero-or-pos}
use Rattle.std.proofs.Math.Utf8.{encode, encodes}
use Rattle.std.proofs.lemmas.Bool.{cases_lt}
use Rattle.std.proofs.lemmas.List.{length-take-le, get_or-take, get_or-drop, take-append-drop, drop-drop, drop_at, nil_from_length}
use Rattle.std.proofs.lemmas.List.Sums.{sum_by-cons, sum_by-append}
use Rattle.std.proofs.lemmas.Str.{length-encode, len_utf8_bounds, encodes-chars, chars-nil, chars_past_char, IsCharBoundary-after_ascii, IsCharBoundary-start, IsCharBoundary-from_rest, IsUtf8-between, IsUtf8-take, IsUtf8-drop, chars-append}
use Rattle.std.specs.Char.{len_utf8}
use Rattle.std.specs.List.{sum_by, slice_range}
use Rattle.std.specs.Str.{chars, IsUtf8, IsCharBoundary}
use Rattle.line_index.specs.declared.line_col.LineCol.{LineCol}
use Rattle.line_index.specs.declared.line_col.WideEncoding.{WideEncoding}
use Rattle.line_index.specs.declared.line_col.WideEncoding.TheVariants.{Utf16, Utf32}
use Rattle.line_index.specs.declared.line_col.WideLineCol.{WideLineCol}
use Rattle.line_index.specs.Lines.{line_feeds, bytes_behind, units, wide_length, wide_line_col_at, IsOffset, IsLineStart, IsWide, IsWideAt, NoChar, NoCharAt, IsFront, NoFront}
use Rattle.line_index.proofs.LineLemmas.{place, line_feeds-nil, behind-nil, one_place, line_feeds_within, from_start, behind_flat, behind-cons, feed, col_of}

units_le : (e : WideEncoding) (c : ℕ) → units e c ≤ len_utf8 c
units_le Utf16 c =
    ⊎_elim
    (λ lt. let e : ltb c 0x1_0000 ≡ true = lt-ltb c 0x1_0000 lt in let one : 1 ≤ len_utf8 c = (len_utf8_bounds c).0 in grind (arith, e, one))
    (λ ge. grind (arith, ge))
    (cases_lt c 0x1_0000)
units_le Utf32 c = (len_utf8_bounds c).0

sum_le : (e : WideEncoding) (cs : List ℕ) → sum_by (units e) cs ≤ length (encodes cs)
sum_le e [] = omega arith
sum_le e (c ∷ cs) = omega (arith, sum_by-cons (units e) c cs, sum_le e cs, units_le e c, length-append (encode c) (encodes cs), length-encode c)

-- a text has at most as many units as bytes
pub wide_length_le : (e : WideEncoding) (s : List ℕ) → IsUtf8 s → wide_length e s ≤ length s
wide_length_le e s u = omega (arith, sum_le e (chars s), ap length (encodes-chars s u))

pub wide_past : (e : WideEncoding) (s rest : List ℕ) (c : ℕ) → IsUtf8 s → s ≡ encode c ++ rest → wide_length e s ≡ units e c + wide_length e rest
wide_past e s rest c u h = ap (sum_by (units e)) (chars_past_char s rest c u h) ∙ sum_by-cons (units e) c (chars rest)

pub wide_end : (e : WideEncoding) (s : List ℕ) → length s ≡ 0 → wide_length e s ≡ 0
wide_end e [] h = ap (sum_by (units e)) chars-nil
wide_end e (x ∷ s) h = absurd (omega (arith, h))

-- what is after the last line feed is nothing: the last byte is a line feed
last_feed : (x : ℕ) (s : List ℕ) → bytes_behind (x ∷ s) ≡ 0 → get_or (x ∷ s) (length s) 0 ≡ 10
last_feed x [] h =
    ⊎_elim
    (λ z. absurd (omega (arith, h, behind_flat (x ∷ []) z)))
    (λ p. feed x p)
    (eq-zero-or-pos (line_feeds (x ∷ [])))
last_feed x (y ∷ s) h =
    ⊎_elim
    (λ z. absurd (omega (arith, h, behind_flat (x ∷ y ∷ s) z)))
    (λ p. last_feed y s (sym (behind-cons x (y ∷ s) p) ∙ h))
    (eq-zero-or-pos (line_feeds (x ∷ y ∷ s)))

last_feed_of : (a : List ℕ) → bytes_behind a ≡ 0 → 0 < length a → get_or a (length a - 1) 0 ≡ 10
last_feed_of [] h p = absurd (omega (arith, p))
last_feed_of (x ∷ s) h p = let e : length (x ∷ s) - 1 ≡ length s = omega arith in rw e (last_feed x s h)

-- a line starts at the start of a character
pub start_boundary : (s : List ℕ) (n p : ℕ) → IsUtf8 s → IsLineStart s n p → IsCharBoundary s p
start_boundary s n p u h =
    ⊎_elim
    (λ z. subst (IsCharBoundary s) (sym z) (IsCharBoundary-start s u))
    (λ pos.
    let len : length (take p s) ≡ p = length-take-le p s h.0 in
    let last : get_or (take p s) (p - 1) 0 ≡ 10 = subst (λ k. get_or (take p s) (k - 1) 0 ≡ 10) len (last_feed_of (take p s) (col_of s n p h) (omega (arith, len, pos))) in
    let same : get_or (take p s) (p - 1) 0 ≡ get_or s (p - 1) 0 = get_or-take p s (p - 1) 0 (omega (arith, pos)) in
    let e : p - 1 + 1 ≡ p = omega (arith, pos) in
    subst (IsCharBoundary s) e (IsCharBoundary-after_ascii s (p - 1) u (omega (arith, pos, h.0)) (omega (arith, same, last))))
    (eq-zero-or-pos p)

pub wide_place : (e : WideEncoding) (s : List ℕ) (n c p o w : ℕ) → IsLineStart s n p → IsOffset s (record { line = n; col = c }) o → IsCharBoundary s o → w ≡ wide_length e (slice_range s p o) → IsWide e s (record { line = n; col = c }) (record { line = n; col = w })
wide_place e s n c p o w h k b is =
    let l : line_feeds (take o s) ≡ n = ap (λ (x : LineCol). x.line) k.1 in
    let col : bytes_behind (take o s) ≡ c = ap (λ (x : LineCol). x.col) k.1 in
    let start : o - bytes_behind (take o s) ≡ p = omega (arith, col, from_start s n p c o h k) in
    record { offset = o; found = k; boundary = b; is = rw l (rw start (rw is refl)) }

-- a text's units are those before a character and those from it on
wide_whole : (e : WideEncoding) (s : List ℕ) (k : ℕ) → IsUtf8 s → IsCharBoundary s k → wide_length e s ≡ wide_length e (take k s) + wide_length e (drop k s)
wide_whole e s k u b =
    ap (sum_by (units e)) (ap chars (sym (take-append-drop k s)) ∙ chars-append (take k s) (drop k s) (IsUtf8-take s k u b))
    ∙ sum_by-append (units e) (chars (take k s)) (chars (drop k s))

chars_between : (s : List ℕ) (j k : ℕ) → IsUtf8 s → j ≤ k → IsCharBoundary s j → IsCharBoundary s k → chars (drop j s) ≡ chars (take (k - j) (drop j s)) ++ chars (drop k s)
chars_between s j k u le a b =
    let add : j + (k - j) ≡ k = omega (arith, le) in
    let rest : drop (k - j) (drop j s) ≡ drop k s = drop-drop (k - j) j s ∙ ap (λ n. drop n s) add in
    let whole : take (k - j) (drop j s) ++ drop k s ≡ drop j s = ap (λ x. take (k - j) (drop j s) ++ x) (sym rest) ∙ take-append-drop (k - j) (drop j s) in
    ap chars (sym whole) ∙ chars-append (take (k - j) (drop j s)) (drop k s) (IsUtf8-between s j k u le a b)

wide_split : (e : WideEncoding) (s : List ℕ) (j k : ℕ) → IsUtf8 s → j ≤ k → IsCharBoundary s j → IsCharBoundary s k → wide_length e (drop j s) ≡ wide_length e (take (k - j) (drop j s)) + wide_length e (drop k s)
wide_split e s j k u le a b =
    ap (sum_by (units e)) (chars_between s j k u le a b) ∙ sum_by-append (units e) (chars (take (k - j) (drop j s))) (chars (drop k s))

-- the units of a line up to a place are those up to an earlier place and those between the two
wide_sum : (e : WideEncoding) (s : List ℕ) (n c c2 p o w2 : ℕ) (w : WideLineCol) → IsUtf8 s → IsLineStart s n p → IsWide e s (record { line = n; col = c }) w → IsOffset s (record { line = n; col = c2 }) o → IsCharBoundary s o → c ≤ c2 → w2 ≡ wide_length e (slice_range s (p + c) o) → w.col + w2 ≡ wide_length e (slice_range s p o)
wide_sum e s n c c2 p o w2 w u h g k b le is =
    let o1 = g.offset in
    let e1 : o1 ≡ p + c = from_start s n p c o1 h g.found in
    let e2 : o ≡ p + c2 = from_start s n p c2 o h k in
    let bp : IsCharBoundary s p = start_boundary s n p u h in
    let kc : bytes_behind (take o1 s) ≡ c = ap (λ (x : LineCol). x.col) g.found.1 in
    let start : o1 - bytes_behind (take o1 s) ≡ p = omega (arith, kc, e1) in
    let col : w.col ≡ wide_length e (slice_range s p o1) = ap (λ (x : WideLineCol). x.col) g.is ∙ ap (λ (x : ℕ). wide_length e (slice_range s x o1)) start in
    let more : w2 ≡ wide_length e (slice_range s o1 o) = is ∙ ap (λ (x : ℕ). wide_length e (slice_range s x o)) (sym e1) in
    let le1 : p ≤ o1 = omega (arith, e1) in
    let le2 : p ≤ o = omega (arith, e2) in
    let le3 : o1 ≤ o = omega (arith, e1, e2, le) in
    omega (arith, col, more, wide_split e s p o1 u le1 bp g.boundary, wide_split e s p o u le2 bp b, wide_split e s o1 o u le3 g.boundary b)

pub wide_from : (e : WideEncoding) (s : List ℕ) (n c c2 p o w2 : ℕ) (w : WideLineCol) → IsUtf8 s → IsLineStart s n p → IsWide e s (record { line = n; col = c }) w → IsOffset s (record { line = n; col = c2 }) o → IsCharBoundary s o → c ≤ c2 → w2 ≡ wide_length e (slice_range s (p + c) o) → IsWide e s (record { line = n; col = c2 }) (record { line = n; col = w.col + w2 })
wide_from e s n c c2 p o w2 w u h g k b le is = wide_place e s n c2 p o (w.col + w2) h k b (wide_sum e s n c c2 p o w2 w u h g k b le is)

pub wide_from_fits : (e : WideEncoding) (s : List ℕ) (n c c2 p o w2 : ℕ) (w : WideLineCol) → IsUtf8 s → IsLineStart s n p → IsWide e s (record { line = n; col = c }) w → IsOffset s (record { line = n; col = c2 }) o → IsCharBoundary s o → c ≤ c2 → w2 ≡ wide_length e (slice_range s (p + c) o) → w.col + w2 ≤ length s
wide_from_fits e s n c c2 p o w2 w u h g k b le is =
    let e2 : o ≡ p + c2 = from_start s n p c2 o h k in
    let le2 : p ≤ o = omega (arith, e2) in
    let bp : IsCharBoundary s p = start_boundary s n p u h in
    let few : wide_length e (slice_range s p o) ≤ length (slice_range s p o) = wide_length_le e (slice_range s p o) (IsUtf8-between s p o u le2 bp b) in
    let len : length (take (o - p) (drop p s)) ≡ o - p = length-take-le (o - p) (drop p s) (omega (arith, length-drop p s, b.0)) in
    omega (arith, few, len, b.0, wide_sum e s n c c2 p o w2 w u h g k b le is)

head_units : (e : WideEncoding) (xs ys cs : List ℕ) (c : ℕ) → xs ++ ys ≡ c ∷ cs → 0 < length xs → units e c ≤ sum_by (units e) xs
head_units e [] ys cs c h p = absurd (omega (arith, p))
head_units e (x ∷ xs) ys cs c h p =
    let same : x ≡ c = ap (λ l. get_or l 0 0) h in
    omega (arith, sum_by-cons (units e) x xs, ap (units e) same)

units_some : (e : WideEncoding) (c : ℕ) → 1 ≤ units e c
units_some Utf16 c = grind arith
units_some Utf32 c = omega arith

sum_some : (e : WideEncoding) (xs : List ℕ) → 0 < length xs → 1 ≤ sum_by (units e) xs
sum_some e [] p = absurd (omega (arith, p))
sum_some e (x ∷ xs) p = omega (arith, sum_by-cons (units e) x xs, units_some e x)

chars_some : (s : List ℕ) → IsUtf8 s → 0 < length s → 0 < length (chars s)
chars_some s u p =
    ⊎_elim
    (λ z.
    let empty : length s ≡ length (encodes []) = ap length (sym (encodes-chars s u) ∙ ap encodes (nil_from_length (chars s) z)) in
    absurd (omega (arith, p, empty)))
    (λ q. q)
    (eq-zero-or-pos (length (chars s)))

between_some : (s : List ℕ) (j k : ℕ) → j < k → k ≤ length s → 0 < length (take (k - j) (drop j s))
between_some s j k lt fits =
    omega (arith, lt, fits, length-drop j s, length-take-le (k - j) (drop j s) (omega (arith, lt, fits, length-drop j s)))

-- after the character at b, there are no more units than its rest has
later_units : (e : WideEncoding) (s rest : List ℕ) (b k c : ℕ) → IsUtf8 s → IsCharBoundary s b → IsCharBoundary s k → b < k → drop b s ≡ encode c ++ rest → units e c + wide_length e (drop k s) ≤ wide_length e (drop b s)
later_units e s rest b k c u bb bk lt h =
    let le : b ≤ k = omega (arith, lt) in
    let some = chars_some (take (k - b) (drop b s)) (IsUtf8-between s b k u le bb bk) (between_some s b k lt bk.0) in
    let eq : chars (take (k - b) (drop b s)) ++ chars (drop k s) ≡ c ∷ chars rest = sym (chars_between s b k u le bb bk) ∙ chars_past_char (drop b s) rest c (IsUtf8-drop s b u bb) h in
    omega (arith, wide_split e s b k u le bb bk, head_units e (chars (take (k - b) (drop b s))) (chars (drop k s)) (chars rest) c eq some)

pub is_front : (e : WideEncoding) (s : List ℕ) (n b left : ℕ) → IsUtf8 s → IsCharBoundary s b → wide_length e s + left ≡ n + wide_length e (drop b s) → left ≡ 0 → IsFront e s n b
is_front e s n b left u bb count z = (bb, omega (arith, wide_whole e s b u bb, count, z))

pub no_front_past : (e : WideEncoding) (s rest : List ℕ) (n b left c : ℕ) → IsUtf8 s → IsCharBoundary s b → wide_length e s + left ≡ n + wide_length e (drop b s) → 0 < left → left < units e c → drop b s ≡ encode c ++ rest → NoFront e s n
no_front_past e s rest n b left c u bb count pos less h = λ k f.
    ⊎_elim
    (λ lt. omega (arith, later_units e s rest b k c u bb f.0 lt h, wide_whole e s k u f.0, f.1, count, less))
    (λ le. omega (arith, wide_split e s k b u le f.0 bb, wide_whole e s k u f.0, f.1, count, pos))
    (cases_lt b k)

pub no_front_end : (e : WideEncoding) (s : List ℕ) (n b left : ℕ) → IsUtf8 s → wide_length e s + left ≡ n + wide_length e (drop b s) → 0 < left → length (drop b s) ≡ 0 → NoFront e s n
no_front_end e s n b left u count pos h = λ k f. omega (arith, wide_end e (drop b s) h, wide_whole e s k u f.0, f.1, count, pos)

fronts_differ : (e : WideEncoding) (s : List ℕ) (n j k : ℕ) → IsUtf8 s → IsFront e s n j → IsFront e s n k → k ≤ j
fronts_differ e s n j k u f g =
    ⊎_elim
    (λ lt.
    let le : j ≤ k = omega (arith, lt) in
    let some = sum_some e (chars (take (k - j) (drop j s))) (chars_some (take (k - j) (drop j s)) (IsUtf8-between s j k u le f.0 g.0) (between_some s j k lt g.0.0)) in
    omega (arith, some, wide_split e s j k u le f.0 g.0, wide_whole e s j u f.0, wide_whole e s k u g.0, f.1, g.1))
    (λ le. le)
    (cases_lt j k)

-- first characters with so many units are these alone
pub one_front : (e : WideEncoding) (s : List ℕ) (n j k : ℕ) → IsUtf8 s → IsFront e s n j → IsFront e s n k → j ≡ k
one_front e s n j k u f g = omega (arith, fronts_differ e s n j k u f g, fronts_differ e s n k j u g f)

pub front_step : (s rest : List ℕ) (b c : ℕ) → drop b s ≡ encode c ++ rest → drop (b + len_utf8 c) s ≡ rest
front_step s rest b c h = sym (drop-drop (len_utf8 c) b s) ∙ ap (λ l. drop (len_utf8 c) l) h ∙ drop_at (encode c) rest (len_utf8 c) (length-encode c)

rest_boundary : (s : List ℕ) (p k : ℕ) → p ≤ length s → IsCharBoundary s (p + k) → IsCharBoundary (drop p s) k
rest_boundary s p k within b =
    let len : length (drop p s) ≡ length s - p = length-drop p s in
    let same : get_or (drop p s) k 0 ≡ get_or s (p + k) 0 = get_or-drop p s k 0 in
    (omega (arith, len, within, b.0), λ lt x. omega (arith, same, b.1 (omega (arith, len, lt, within)) (omega (arith, same, x))))

-- the characters between the start of a line and a wide column on it
pub record Front (e : WideEncoding) (s : List ℕ) (w : WideLineCol) (p : ℕ) : Type 0 where
  pub col : ℕ
  pub front : IsFront e (drop p s) w.col col
  pub found : IsOffset s (record { line = w.line; col = col }) (p + col)

pub front_of_line : (e : WideEncoding) (s : List ℕ) (w : WideLineCol) (p : ℕ) (at : LineCol) → IsLineStart s w.line p → IsWide e s at w → Front e s w p
front_of_line e s w p at h wide =
    let o = wide.offset in
    let line : line_feeds (take o s) ≡ w.line = sym (ap (λ (x : WideLineCol). x.line) wide.is) in
    let col : w.col ≡ wide_length e (slice_range s (o - bytes_behind (take o s)) o) = ap (λ (x : WideLineCol). x.col) wide.is in
    let k = bytes_behind (take o s) in
    let found : IsOffset s (record { line = w.line; col = k }) o = (wide.found.0, place s o w.line k line refl) in
    let e1 : o ≡ p + k = from_start s w.line p k o h found in
    let start : o - k ≡ p = omega (arith, e1) in
    let len : o - p ≡ k = omega (arith, e1) in
    let text : slice_range s (o - k) o ≡ take k (drop p s) = ap (λ x. slice_range s x o) start ∙ ap (λ x. take x (drop p s)) len in
    record {
      col = k;
      front = (rest_boundary s p k h.0 (subst (IsCharBoundary s) e1 wide.boundary), sym (col ∙ ap (wide_length e) text));
      found = subst (IsOffset s (record { line = w.line; col = k })) e1 found;
    }

pub wide_has_line : (e : WideEncoding) (s : List ℕ) (w : WideLineCol) (at : LineCol) → IsWide e s at w → w.line ≤ line_feeds s
wide_has_line e s w at wide = omega (arith, ap (λ (x : WideLineCol). x.line) wide.is, line_feeds_within s wide.offset wide.found.0)

pub wide_of_front : (e : WideEncoding) (s : List ℕ) (n p c o w : ℕ) → IsLineStart s n p → IsFront e (drop p s) w c → IsOffset s (record { line = n; col = c }) o → IsWide e s (record { line = n; col = c }) (record { line = n; col = w })
wide_of_front e s n p c o w h f k =
    let e1 : o ≡ p + c = from_start s n p c o h k in
    let len : o - p ≡ c = omega (arith, e1) in
    let b : IsCharBoundary s o = subst (IsCharBoundary s) (sym e1) (IsCharBoundary-from_rest s p c h.0 f.0) in
    wide_place e s n c p o w h k b (sym (ap (λ x. wide_length e (take x (drop p s))) len ∙ f.1))

wide_zero : (e : WideEncoding) → (let w : WideLineCol = record { line = 0; col = 0 } in w) ≡ wide_line_col_at e [] 0
unfolding line_feeds chars bytes_behind
wide_zero Utf16 = refl
wide_zero Utf32 = refl

-- the start of a text has its first line and column
pub wide_start : (e : WideEncoding) (s : List ℕ) → IsUtf8 s → IsWide e s (record { line = 0; col = 0 }) (record { line = 0; col = 0 })
unfolding bytes_behind
wide_start e s u = record { offset = 0; found = (omega arith, place s 0 0 0 line_feeds-nil behind-nil); boundary = IsCharBoundary-start s u; is = wide_zero e }

pub wide_at : (e : WideEncoding) (s : List ℕ) (o : ℕ) (at : LineCol) (w : WideLineCol) → IsOffset s at o → IsWide e s at w → IsWideAt e s o w
wide_at e s o at w f g =
    let same : g.offset ≡ o = one_place s g.offset o g.found.0 f.0 (ap (λ (x : LineCol). x.line) (g.found.1 ∙ sym f.1)) (ap (λ (x : LineCol). x.col) (g.found.1 ∙ sym f.1)) in
    record { within = f.0; boundary = subst (IsCharBoundary s) same g.boundary; is = g.is ∙ ap (wide_line_col_at e s) same }

pub wide_match : (e : WideEncoding) (s : List ℕ) (o : ℕ) (at : LineCol) (found : Option WideLineCol) → IsOffset s at o → MatchOption found (NoChar s at) (IsWide e s at) → MatchOption found (NoCharAt s o) (IsWideAt e s o)
wide_match e s o at None f none = λ _ b. none o f b
wide_match e s o at (Some w) f g = wide_at e s o at w f g
