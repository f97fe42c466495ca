-- Places of offsets, as the line index gives them, and lists of them, one by one.
use Rattle.std.proofs.Common.{◌≡◌, ℕ, ◌+◌, ◌<◌, ◌≤◌, List, [], ◌∷◌, ◌++◌, suc, length, map, take, drop, get_or, All, ap, sym, ◌∙◌, subst, arith, refl, length-append}
use Rattle.std.proofs.Math.Seq.{split_at}
use Rattle.std.proofs.lemmas.List.{length-map, length-take-le, map-append, map_more, take_more}
use Rattle.std.proofs.lemmas.List.Elements.{All-more, All-append, All-cons, All-nil, All-head, All-tail}
use Rattle.std.specs.Str.{IsCharBoundary}
use Rattle.line_index.specs.declared.line_col.LineCol.{LineCol as BytePlace}
use Rattle.line_index.specs.declared.line_col.WideEncoding.{WideEncoding}
use Rattle.line_index.specs.declared.line_col.WideLineCol.{WideLineCol}
use Rattle.line_index.specs.Lines.{line_col_at, IsOffset, IsWide}
use Rattle.line_index.proofs.LineLemmas.{one_place}
use Rattle.ras_c.specs.declared.lines.Columns.{Columns}
use Rattle.ras_c.specs.declared.lines.Columns.TheVariants.{Bytes, Wide}
use Rattle.ras_c.specs.declared.lines.LineCol.{LineCol}
use Rattle.ras_c.specs.Lines.{HasPlace, place_at, IsPlaceOf, IsOffsetOf, HasOffset, ArePlaces, StopsAt}

-- ---- one place

pub same_place : (s : List ℕ) (o p : ℕ) → o ≤ length s → p ≤ length s → line_col_at s o ≡ line_col_at s p → o ≡ p
same_place s o p ho hp e = one_place s o p ho hp (ap (λ (x : BytePlace). x.line) e) (ap (λ (x : BytePlace). x.col) e)

abbrev as_byte : LineCol → BytePlace
as_byte p = record { line = p.line; col = p.col }

abbrev as_wide : LineCol → WideLineCol
as_wide p = record { line = p.line; col = p.col }

abbrev as_place : WideLineCol → LineCol
as_place w = record { line = w.line; col = w.col }

-- the offset of a place in bytes is the one that the line index gives
pub byte_offset_is : (s : List ℕ) (p : LineCol) (o f : ℕ) → IsOffsetOf Bytes s p o → IsOffset s (record { line = p.line; col = p.col }) f → o ≡ f
byte_offset_is s p o f k g = same_place s o f k.0.0 g.0 (ap as_byte k.1 ∙ sym g.1)

-- a place in units of an encoding, as the line index has it, and back
pub wide_of : (e : WideEncoding) (s : List ℕ) (p : LineCol) (o : ℕ) → IsOffsetOf (Wide e) s p o → IsWide e s (line_col_at s o) (record { line = p.line; col = p.col })
wide_of e s p o k = record { offset = o; found = (k.0.0, refl); boundary = k.0.1; is = sym (ap as_wide k.1) }

pub from_wide : (e : WideEncoding) (s : List ℕ) (p : LineCol) (place : BytePlace) (o : ℕ) → IsWide e s place (record { line = p.line; col = p.col }) → IsOffset s place o → IsOffsetOf (Wide e) s p o
from_wide e s p place o w f =
    let same : w.offset ≡ o = same_place s w.offset o w.found.0 f.0 (w.found.1 ∙ sym f.1) in
    let is : place_at (Wide e) s w.offset ≡ p = sym (ap as_place w.is) in
    ((f.0, subst (IsCharBoundary s) same w.boundary), subst (λ (k : ℕ). place_at (Wide e) s k ≡ p) same is)

-- ---- lists

-- one offset more with its place
pub places_more : (columns : Columns) (s xs : List ℕ) (i x : ℕ) (places more : List LineCol) (p : LineCol) → i < length xs → x ≡ get_or xs i 0
    → ArePlaces columns s (take i xs) places → IsPlaceOf columns s x p → more ≡ places ++ p ∷ [] → ArePlaces columns s (take (i + 1) xs) more
places_more columns s xs i x places more p lt is before k grown = record {
  have = All-more (HasPlace s) xs i 0 lt before.have (subst (HasPlace s) is k.0);
  are = grown ∙ ap (λ l. l ++ p ∷ []) before.are
      ∙ ap (λ q. map (place_at columns s) (take i xs) ++ q ∷ []) (sym k.1 ∙ ap (place_at columns s) is)
      ∙ sym (map_more (place_at columns s) xs i 0 lt);
}

-- one place more with its offset
pub offsets_more : (columns : Columns) (s : List ℕ) (xs : List LineCol) (i o : ℕ) (d x : LineCol) (offsets more : List ℕ) → i < length xs → x ≡ get_or xs i d
    → ArePlaces columns s offsets (take i xs) → IsOffsetOf columns s x o → more ≡ offsets ++ o ∷ [] → ArePlaces columns s more (take (i + 1) xs)
offsets_more columns s xs i o d x offsets more lt is before k grown = record {
  have = subst (All (HasPlace s)) (sym grown) (All-append (HasPlace s) offsets (o ∷ []) before.have (All-cons (HasPlace s) o [] k.0 (All-nil (HasPlace s))));
  are = take_more xs i d lt ∙ ap (λ l. l ++ get_or xs i d ∷ []) before.are
      ∙ ap (λ q. map (place_at columns s) offsets ++ q ∷ []) (sym (k.1 ∙ is))
      ∙ sym (map-append (place_at columns s) offsets (o ∷ [])) ∙ ap (map (place_at columns s)) (sym grown);
}

-- there are as many of the ones as of the others
pub count_places : (columns : Columns) (s xs : List ℕ) (i : ℕ) (places : List LineCol) → i < length xs → ArePlaces columns s (take i xs) places → length places ≡ i
count_places columns s xs i places lt k = ap length k.are ∙ length-map (take i xs) (place_at columns s) ∙ length-take-le i xs (omega (arith, lt))

pub count_offsets : (columns : Columns) (s : List ℕ) (xs : List LineCol) (i : ℕ) (offsets : List ℕ) → i < length xs → ArePlaces columns s offsets (take i xs) → length offsets ≡ i
count_offsets columns s xs i offsets lt k = sym (length-map offsets (place_at columns s)) ∙ ap length (sym k.are) ∙ length-take-le i xs (omega (arith, lt))

-- places of offsets have an offset
have_offsets : (columns : Columns) (s offsets : List ℕ) → All (HasPlace s) offsets → All (HasOffset columns s) (map (place_at columns s) offsets)
have_offsets columns s [] h = All-nil (HasOffset columns s)
have_offsets columns s (o ∷ offsets) h =
    All-cons (HasOffset columns s) (place_at columns s o) (map (place_at columns s) offsets) (o, (All-head (HasPlace s) o offsets h, refl))
    (have_offsets columns s offsets (All-tail (HasPlace s) o offsets h))

pub all_have_offsets : (columns : Columns) (s offsets : List ℕ) (places : List LineCol) → ArePlaces columns s offsets places → All (HasOffset columns s) places
all_have_offsets columns s offsets places k = subst (All (HasOffset columns s)) (sym k.are) (have_offsets columns s offsets k.have)

-- an element without an answer, behind those with one
pub stops : {A : Type 0} (Has : A → Type 0) (xs : List A) (i n : ℕ) (d x : A) → i < length xs → x ≡ get_or xs i d → n ≡ i → All Has (take i xs) → (Has x → ⊥) → StopsAt Has xs n
stops Has xs i n d x lt is same before no_answer = record {
  front = take i xs;
  item = get_or xs i d;
  behind = drop (suc i) xs;
  parts = split_at xs i d lt;
  number = same ∙ sym (length-take-le i xs (omega (arith, lt)));
  answered = before;
  unanswered = λ h. no_answer (subst Has (sym is) h);
}

-- its number is one of the list
pub stops_inside : {A : Type 0} (Has : A → Type 0) (xs : List A) (n : ℕ) → StopsAt Has xs n → n < length xs
stops_inside Has xs n k = omega (arith, ap length k.parts, length-append k.front (k.item ∷ k.behind), k.number)
