-- Where lines start after the line feeds of a text, also of an edited one.
use Rattle.std.proofs.Common.{cond, ◌≡◌, ℕ, zero, suc, ◌+◌, ◌-◌, ◌<◌, ◌≤◌, true, false, eqb, List, [], ◌∷◌, ◌++◌, length, take, drop, get_or, map, refl, ap, sym, ◌∙◌, arith, length-append, length-drop, ⊎_elim, add-one, subst, inl, inr}
use Rattle.std.proofs.lemmas.List.{append-nil, append_assoc, length-take-le, take-append-drop, take_all, take_at, drop_at, drop_all, drop_more, ext_get_or, get_or-drop, map_more}
use Rattle.std.proofs.lemmas.Bool.{cases_lt, ne_eqb}
use Rattle.std.proofs.lemmas.Bool.Decides.{eqb_tells}
use Rattle.std.specs.List.{splice}
use Rattle.memchr.specs.Find.{is_byte, places, places_from}
use Rattle.line_index.specs.Lines.{line_feeds, HasStarts, HasText, IsIndexOf, Numbers, starts_after}
use Rattle.line_index.proofs.LineLemmas.{starts-nil, more-feed, more-other, one_place, line_of, col_of, line_feeds_rise, line_feeds_within, few_lines, take_more}

after-nil : (o : ℕ) → starts_after o [] ≡ []
unfolding starts_after
after-nil o = refl

after-feed : (o : ℕ) → starts_after o (10 ∷ []) ≡ (o + 1) ∷ []
unfolding starts_after
after-feed o = refl

after-other : (o b : ℕ) → (b ≡ 10 → ⊥) → starts_after o (b ∷ []) ≡ []
unfolding starts_after
after-other o b h = let e : eqb b 10 ≡ false = ne_eqb b 10 h in rw e refl

after-append : (o : ℕ) (a b : List ℕ) → starts_after o (a ++ b) ≡ starts_after o a ++ starts_after (o + length a) b
unfolding starts_after
after-append o [] b = let e : o ≡ o + 0 = omega arith in ap (λ k. starts_after k b) e
after-append o (x ∷ a) b =
    let e : o + 1 + length a ≡ o + length (x ∷ a) = omega arith in
    let step : starts_after (o + 1) (a ++ b) ≡ starts_after (o + 1) a ++ starts_after (o + length (x ∷ a)) b = after-append (o + 1) a b ∙ ap (λ k. starts_after (o + 1) a ++ starts_after k b) e in
    elim (eqb x 10) as (λ t. cond t ((o + 1) ∷ starts_after (o + 1) (a ++ b)) (starts_after (o + 1) (a ++ b)) ≡ cond t ((o + 1) ∷ starts_after (o + 1) a) (starts_after (o + 1) a) ++ starts_after (o + length (x ∷ a)) b) [
      | true ↦ ap (λ l. (o + 1) ∷ l) step
      | false ↦ step
    ]

length-after : (o : ℕ) (s : List ℕ) → length (starts_after o s) ≡ line_feeds s
unfolding starts_after line_feeds
length-after o [] = refl
length-after o (x ∷ s) =
    let more : length (starts_after (o + 1) s) ≡ line_feeds s = length-after (o + 1) s in
    elim (eqb x 10) as (λ t. length (cond t ((o + 1) ∷ starts_after (o + 1) s) (starts_after (o + 1) s)) ≡ cond t 1 0 + line_feeds s) [
      | true ↦ omega (arith, more)
      | false ↦ omega (arith, more)
    ]

-- a text that starts at o - b + c in place of o
after-moved : (b c : ℕ) (s : List ℕ) (o : ℕ) → b ≤ o → map (λ x. x - b + c) (starts_after o s) ≡ starts_after (o - b + c) s
unfolding starts_after
after-moved b c [] o le = refl
after-moved b c (x ∷ s) o le =
    let e : o + 1 - b + c ≡ o - b + c + 1 = omega (arith, le) in
    let step : map (λ x. x - b + c) (starts_after (o + 1) s) ≡ starts_after (o - b + c + 1) s = after-moved b c s (o + 1) (omega (arith, le)) ∙ ap (λ k. starts_after k s) e in
    elim (eqb x 10) as (λ t. map (λ x. x - b + c) (cond t ((o + 1) ∷ starts_after (o + 1) s) (starts_after (o + 1) s)) ≡ cond t ((o - b + c + 1) ∷ starts_after (o - b + c + 1) s) (starts_after (o - b + c + 1) s)) [
      | true ↦ ap (λ k. k ∷ map (λ x. x - b + c) (starts_after (o + 1) s)) e ∙ ap (λ l. (o - b + c + 1) ∷ l) step
      | false ↦ step
    ]

after-places : (o : ℕ) (hay : List ℕ) (n i : ℕ) → i + n ≡ length hay → map (λ k. o + k + 1) (places_from (is_byte 10) hay i n) ≡ starts_after (o + i) (drop i hay)
unfolding places_from starts_after
after-places o hay zero i e = sym (ap (starts_after (o + i)) (drop_all i hay (omega (arith, e))) ∙ after-nil (o + i))
after-places o hay (suc n) i e =
    let lt : i < length hay = omega (arith, e) in
    let more : o + (i + 1) ≡ o + i + 1 = omega arith in
    let step : map (λ k. o + k + 1) (places_from (is_byte 10) hay (i + 1) n) ≡ starts_after (o + i + 1) (drop (i + 1) hay) = after-places o hay n (i + 1) (omega (arith, e)) ∙ ap (λ k. starts_after k (drop (i + 1) hay)) more in
    let whole : starts_after (o + i) (get_or hay i 0 ∷ drop (i + 1) hay) ≡ starts_after (o + i) (drop i hay) = ap (starts_after (o + i)) (sym (drop_more hay i 0 lt)) in
    elim (eqb (get_or hay i 0) 10) as (λ t. map (λ k. o + k + 1) (cond t (i ∷ places_from (is_byte 10) hay (i + 1) n) (places_from (is_byte 10) hay (i + 1) n)) ≡ cond t ((o + i + 1) ∷ starts_after (o + i + 1) (drop (i + 1) hay)) (starts_after (o + i + 1) (drop (i + 1) hay))) [
      | true ↦ ap (λ l. (o + i + 1) ∷ l) step
      | false ↦ step
    ] ∙ whole

-- the starts after a text's line feeds, from the places of those
pub after_places : (o : ℕ) (s : List ℕ) → map (λ k. o + k + 1) (places (is_byte 10) s) ≡ starts_after o s
after_places o s = let e : o + 0 ≡ o = omega arith in after-places o s (length s - 0) 0 (omega arith) ∙ ap (λ k. starts_after k s) e

-- the start after one line feed more
pub one_more : (o x : ℕ) (v w found rest : List ℕ) → found ≡ x ∷ rest → w ≡ v ++ (o + x + 1) ∷ [] → w ++ map (λ k. o + k + 1) rest ≡ v ++ map (λ k. o + k + 1) found
one_more o x v w found rest e is = ap (λ l. l ++ map (λ k. o + k + 1) rest) is ∙ append_assoc v ((o + x + 1) ∷ []) (map (λ k. o + k + 1) rest) ∙ ap (λ l. v ++ map (λ k. o + k + 1) l) (sym e)

-- after the last one
pub no_more : (o : ℕ) (v found : List ℕ) → found ≡ [] → v ≡ v ++ map (λ k. o + k + 1) found
no_more o v found e = sym (ap (λ l. v ++ map (λ k. o + k + 1) l) e ∙ append-nil v)

-- of a text's first bytes
front : (s : List ℕ) (i : ℕ) → i ≤ length s → HasStarts (take i s) (0 ∷ starts_after 0 (take i s))
front s zero le = rw (after-nil 0) starts-nil
front s (suc i) le =
    let lt : i < length s = omega (arith, le) in
    let before = front s i (omega (arith, le)) in
    let len : 0 + length (take i s) ≡ i = omega (arith, length-take-le i s (omega (arith, le))) in
    let more : starts_after 0 (take (i + 1) s) ≡ starts_after 0 (take i s) ++ starts_after i (get_or s i 0 ∷ []) =
    ap (starts_after 0) (take_more s i lt) ∙ after-append 0 (take i s) (get_or s i 0 ∷ []) ∙ ap (λ k. starts_after 0 (take i s) ++ starts_after k (get_or s i 0 ∷ [])) len in
    let both : HasStarts (take (i + 1) s) (0 ∷ starts_after 0 (take (i + 1) s)) =
    elim (eqb_tells (get_or s i 0) 10) [
      | inl yes_it ↦
          let list : starts_after 0 (take (i + 1) s) ≡ starts_after 0 (take i s) ++ (i + 1) ∷ [] = more ∙ ap (λ b. starts_after 0 (take i s) ++ starts_after i (b ∷ [])) yes_it.1 ∙ ap (λ l. starts_after 0 (take i s) ++ l) (after-feed i) in
          subst (λ l. HasStarts (take (i + 1) s) (0 ∷ l)) (sym list) (more-feed s (0 ∷ starts_after 0 (take i s)) i lt yes_it.1 before)
      | inr no_it ↦
          let list : starts_after 0 (take (i + 1) s) ≡ starts_after 0 (take i s) = more ∙ ap (λ l. starts_after 0 (take i s) ++ l) (after-other i (get_or s i 0) no_it.1) ∙ append-nil (starts_after 0 (take i s)) in
          subst (λ l. HasStarts (take (i + 1) s) (0 ∷ l)) (sym list) (more-other s (0 ∷ starts_after 0 (take i s)) i lt no_it.1 before)
    ] in
    subst (λ k. HasStarts (take k s) (0 ∷ starts_after 0 (take k s))) (add-one i) both

-- a line starts at 0, and after each line feed
pub starts_of_text : (s : List ℕ) → HasStarts s (0 ∷ starts_after 0 s)
starts_of_text s = subst (λ t. HasStarts t (0 ∷ starts_after 0 t)) (take_all (length s) s (omega arith)) (front s (length s) (omega arith))

-- no other list has a text's starts
only_starts : (s v w : List ℕ) → HasStarts s v → HasStarts s w → v ≡ w
only_starts s v w h k =
    let same : length v ≡ length w = h.count ∙ sym k.count in
    ext_get_or 0 v w same (λ i lt.
    let p = h.each i lt in
    let q = k.each i (omega (arith, same, lt)) in
    one_place s (get_or v i 0) (get_or w i 0) p.0 q.0 (line_of s i (get_or v i 0) p ∙ sym (line_of s i (get_or w i 0) q)) (col_of s i (get_or v i 0) p ∙ sym (col_of s i (get_or w i 0) q)))

-- the kept starts up to an offset
starts_to : (s v : List ℕ) (a : ℕ) → HasStarts s v → a ≤ length s → v ≡ (0 ∷ starts_after 0 (take a s)) ++ starts_after a (drop a s)
starts_to s v a h le =
    let len : 0 + length (take a s) ≡ a = omega (arith, length-take-le a s le) in
    only_starts s v (0 ∷ starts_after 0 s) h (starts_of_text s)
    ∙ ap (λ t. 0 ∷ starts_after 0 t) (sym (take-append-drop a s))
    ∙ ap (λ l. 0 ∷ l) (after-append 0 (take a s) (drop a s) ∙ ap (λ k. starts_after 0 (take a s) ++ starts_after k (drop a s)) len)

-- how many there are
front_length : (s : List ℕ) (a : ℕ) → length (0 ∷ starts_after 0 (take a s)) ≡ line_feeds (take a s) + 1
front_length s a = omega (arith, length-after 0 (take a s))

-- the starts of the text with bytes a to b replaced
pub edited_starts : (s v new : List ℕ) (a b : ℕ) → HasStarts s v → a ≤ b → b ≤ length s
    → HasStarts (splice s a b new) (take (line_feeds (take a s) + 1) v ++ (starts_after a new ++ map (λ x. x - b + (a + length new)) (drop (line_feeds (take b s) + 1) v)))
edited_starts s v new a b h le within =
    let fits : a ≤ length s = omega (arith, le, within) in
    let len : 0 + length (take a s) ≡ a = omega (arith, length-take-le a s fits) in
    let kept : take (line_feeds (take a s) + 1) v ≡ 0 ∷ starts_after 0 (take a s) =
    ap (take (line_feeds (take a s) + 1)) (starts_to s v a h fits) ∙ take_at (0 ∷ starts_after 0 (take a s)) (starts_after a (drop a s)) (line_feeds (take a s) + 1) (front_length s a) in
    let behind : drop (line_feeds (take b s) + 1) v ≡ starts_after b (drop b s) =
    ap (drop (line_feeds (take b s) + 1)) (starts_to s v b h within) ∙ drop_at (0 ∷ starts_after 0 (take b s)) (starts_after b (drop b s)) (line_feeds (take b s) + 1) (front_length s b) in
    let at : b - b + (a + length new) ≡ a + length new = omega arith in
    let moved : map (λ x. x - b + (a + length new)) (drop (line_feeds (take b s) + 1) v) ≡ starts_after (a + length new) (drop b s) =
    ap (map (λ x. x - b + (a + length new))) behind ∙ after-moved b (a + length new) (drop b s) b (omega arith) ∙ ap (λ k. starts_after k (drop b s)) at in
    let whole : starts_after 0 (splice s a b new) ≡ starts_after 0 (take a s) ++ (starts_after a new ++ starts_after (a + length new) (drop b s)) =
    after-append 0 (take a s) (new ++ drop b s) ∙ ap (λ k. starts_after 0 (take a s) ++ starts_after k (new ++ drop b s)) len ∙ ap (λ l. starts_after 0 (take a s) ++ l) (after-append a new (drop b s)) in
    rw kept (rw moved (subst (λ l. HasStarts (splice s a b new) (0 ∷ l)) whole (starts_of_text (splice s a b new))))

-- a start behind those up to an offset is after it, and in the text
pub start_behind : (s v : List ℕ) (b i : ℕ) → HasStarts s v → line_feeds (take b s) + 1 ≤ i → i < length v → (b < get_or v i 0) × (get_or v i 0 ≤ length s)
start_behind s v b i h from lt =
    let p = h.each i lt in (
      ⊎_elim
          (λ less. less)
          (λ le. omega (arith, from, line_of s i (get_or v i 0) p, line_feeds_rise s (get_or v i 0) b le))
          (cases_lt b (get_or v i 0)),
      p.0,
    )

-- the line n of an offset: its start is kept, and n is a small number
pub record HasLine (numbers : Numbers) (o n : ℕ) : Type 0 where
  pub kept : n + 1 ≤ length numbers.starts
  pub small : n ≤ o

pub has_line_of : (numbers : Numbers) → HasText numbers → (o n : ℕ) → o ≤ numbers.len → ((s : List ℕ) → IsIndexOf s numbers → n ≡ line_feeds (take o s)) → HasLine numbers o n
has_line_of numbers some o n le f =
    let fits : o ≤ length some.text = omega (arith, le, some.is.len) in
    let line : n ≡ line_feeds (take o some.text) = f some.text some.is in
    record {
      kept = omega (arith, line, some.is.starts.count, line_feeds_within some.text o fits);
      small = omega (arith, line, few_lines some.text o fits);
    }

-- a start behind those up to an offset, read from the list of those
pub read_behind : (numbers : Numbers) → HasText numbers → (v items : List ℕ) (b n i x : ℕ) → v ≡ numbers.starts → items ≡ drop (n + 1) v → ((s : List ℕ) → IsIndexOf s numbers → n ≡ line_feeds (take b s)) → i < length items → x ≡ get_or items i 0 → (b < x) × (x ≤ numbers.len)
read_behind numbers some v items b n i x same part f lt is =
    let line : n ≡ line_feeds (take b some.text) = f some.text some.is in
    let items_is : items ≡ drop (n + 1) numbers.starts = part ∙ ap (drop (n + 1)) same in
    let inside : n + 1 + i < length numbers.starts = omega (arith, lt, ap length items_is, length-drop (n + 1) numbers.starts) in
    let read : x ≡ get_or numbers.starts (n + 1 + i) 0 = is ∙ ap (λ l. get_or l i 0) items_is ∙ get_or-drop (n + 1) numbers.starts i 0 in
    let k = start_behind some.text numbers.starts b (n + 1 + i) some.is.starts (omega (arith, line)) inside in
    (omega (arith, k.0, read), omega (arith, k.1, read, some.is.len))

-- one start more is moved
pub moved_more : (b c : ℕ) (fresh v w xs : List ℕ) (i x : ℕ) → i < length xs → x ≡ get_or xs i 0 → v ≡ fresh ++ map (λ x. x - b + c) (take i xs) → w ≡ v ++ (x - b + c) ∷ [] → w ≡ fresh ++ map (λ x. x - b + c) (take (i + 1) xs)
moved_more b c fresh v w xs i x lt read before more =
    more ∙ ap (λ l. l ++ (x - b + c) ∷ []) before ∙ append_assoc fresh (map (λ x. x - b + c) (take i xs)) ((x - b + c) ∷ [])
    ∙ ap (λ y. fresh ++ (map (λ x. x - b + c) (take i xs) ++ (y - b + c) ∷ [])) read ∙ ap (λ l. fresh ++ l) (sym (map_more (λ x. x - b + c) xs i 0 lt))

length-splice : (s new : List ℕ) (a b : ℕ) → a ≤ b → b ≤ length s → length (splice s a b new) ≡ length s - b + (a + length new)
length-splice s new a b le within = omega (arith, length-append (take a s) (new ++ drop b s), length-append new (drop b s), length-drop b s, length-take-le a s (omega (arith, le, within)))

-- the numbers of the edited text
pub edited_numbers : (s new v w later items : List ℕ) (numbers : Numbers) (a b kept behind i len : ℕ)
    → IsIndexOf s numbers → v ≡ numbers.starts → a ≤ b → b ≤ numbers.len → kept ≡ line_feeds (take a s) → behind ≡ line_feeds (take b s)
    → items ≡ drop (behind + 1) v → length items ≤ i
    → later ≡ starts_after a new ++ map (λ x. x - b + (a + length new)) (take i items) → w ≡ take (kept + 1) v ++ later
    → len ≡ numbers.len - b + (a + length new) → IsIndexOf (splice s a b new) (record { starts = w; len = len })
edited_numbers s new v w later items numbers a b kept behind i len is same le within kept_is behind_is items_is all later_is list len_is =
    let fits : b ≤ length s = omega (arith, within, is.len) in
    let parts : w ≡ take (line_feeds (take a s) + 1) numbers.starts ++ (starts_after a new ++ map (λ x. x - b + (a + length new)) (drop (line_feeds (take b s) + 1) numbers.starts)) =
    list
    ∙ ap (λ l. take (kept + 1) v ++ l) (later_is ∙ ap (λ l. starts_after a new ++ map (λ x. x - b + (a + length new)) l) (take_all i items all ∙ items_is))
    ∙ ap (λ u. take (kept + 1) u ++ (starts_after a new ++ map (λ x. x - b + (a + length new)) (drop (behind + 1) u))) same
    ∙ ap (λ k. take (k + 1) numbers.starts ++ (starts_after a new ++ map (λ x. x - b + (a + length new)) (drop (behind + 1) numbers.starts))) kept_is
    ∙ ap (λ k. take (line_feeds (take a s) + 1) numbers.starts ++ (starts_after a new ++ map (λ x. x - b + (a + length new)) (drop (k + 1) numbers.starts))) behind_is in
    record {
      starts = subst (HasStarts (splice s a b new)) (sym parts) (edited_starts s numbers.starts new a b is.starts le fits);
      len = omega (arith, len_is, is.len, length-splice s new a b le fits);
    }
