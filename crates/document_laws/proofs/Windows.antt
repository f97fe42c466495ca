-- The window around a token that an edit is inside of.
use Rattle.std.proofs.Common.{◌≡◌, ◌⊎◌, inl, inr, ℕ, zero, suc, ◌+◌, ◌-◌, ◌<◌, ◌≤◌, Bool, true, false, if◌then◌else◌, Option, Some, None, List, [], ◌∷◌, ◌++◌, length, take, drop, get_or, ap, ap₂, ◌∙◌, refl, sym, arith, append_assoc, length-append}
use Rattle.std.specs.Prelude.{slice_get, position}
use Rattle.std.proofs.Math.Seq.{take-append_seam, drop-append_seam, take-append-add, drop-append-add}
use Rattle.std.proofs.lemmas.Bool.Decides.{nat_tests}
use Rattle.std.proofs.lemmas.List.{take-append-drop, take-append-le, drop-append-le, length-take-le, length-drop}
use Rattle.std.proofs.lemmas.List.Quantifiers.{position-Some}
use Rattle.text_size.specs.TextRange.{Bounds}
use Rattle.tree_model.specs.Edit.{splice}
use Rattle.lexer_laws.specs.Behind.{IsBrace}
use Rattle.ras_parsing.specs.Document.{is_brace_byte, is_brace_at, brace_before, end_or, brace_behind, window_around, part_of}
use Rattle.document_laws.specs.Windows.{StartsWithBrace, EndsWithBrace, WindowsAreAroundTokens}

-- ---- the brace before

brace_is : (b : ℕ) → is_brace_byte b ≡ true → IsBrace b
brace_is b h = grind (arith, nat_tests, h)

abbrev IsBefore : List ℕ → ℕ → ℕ → Type 0
IsBefore s n l = (l ≡ 0) ⊎ ((l < n) × (is_brace_at (slice_get s l) ≡ true))

further : (s : List ℕ) (n l : ℕ) → IsBefore s n l → IsBefore s (suc n) l
further s n l (inl e) = inl e
further s n l (inr h) = inr (omega (arith, h.0), h.1)

brace_found : (s : List ℕ) (n : ℕ) → IsBefore s n (brace_before s n)
unfolding brace_before
brace_found s zero = inl refl
brace_found s (suc n) = by (is_brace_at (slice_get s n)) refl (brace_found s n)
  where
    by : (b : Bool) → is_brace_at (slice_get s n) ≡ b → IsBefore s n (brace_before s n) → IsBefore s (suc n) (if b then n else brace_before s n)
    by true e h = inr (omega arith, e)
    by false e h = further s n (brace_before s n) h

some_same : (x b : ℕ) → Some x ≡ Some b → x ≡ b
some_same x b h = cc

-- what is behind a byte of the first part
dropped_at : (s r : List ℕ) (l b : ℕ) → l < length s → slice_get (s ++ r) l ≡ Some b → drop l s ≡ b ∷ drop (suc l) s
dropped_at [] r l b h e = absurd (omega (arith, h))
dropped_at (x ∷ s) r zero b h e = ap (λ (y : ℕ). y ∷ s) (some_same x b e)
dropped_at (x ∷ s) r (suc l) b h e = dropped_at s r l b (omega (arith, h)) e

starts_there : (s r : List ℕ) (l : ℕ) (o : Option ℕ) → slice_get (s ++ r) l ≡ o → is_brace_at o ≡ true → l < length s → StartsWithBrace (drop l s)
starts_there s r l None e h k = absurd (let bad : false ≡ true = h in cc)
starts_there s r l (Some b) e h k = record { brace = b; rest = drop (suc l) s; is_brace = brace_is b h; is = dropped_at s r l b k e }

-- ---- the brace behind

taken_last : (s : List ℕ) (n : ℕ) → n < length s → take (suc n) s ≡ take n s ++ get_or s n 0 ∷ []
taken_last [] n h = absurd (omega (arith, h))
taken_last (x ∷ s) zero h = refl
taken_last (x ∷ s) (suc n) h = ap (λ (l : List ℕ). x ∷ l) (taken_last s n (omega (arith, h)))

record IsBehind (s y : List ℕ) (at : ℕ) : Type 0 where
  count : ℕ
  most : count ≤ length y
  is : brace_behind s at ≡ at + count
  ends : (drop count y ≡ []) ⊎ EndsWithBrace (take count y)

drop_whole : (s : List ℕ) → drop (length s) s ≡ []
drop_whole [] = refl
drop_whole (x ∷ s) = drop_whole s

behind_on : (s y : List ℕ) (at : ℕ) (o : Option ℕ) → drop at s ≡ y → length s ≡ at + length y → position is_brace_byte y ≡ o → IsBehind s y at
behind_on s y at None e long found = record {
  count = length y;
  most = omega arith;
  is = ap (λ (z : List ℕ). end_or s at (position is_brace_byte z)) e ∙ ap (end_or s at) found ∙ long;
  ends = inl (drop_whole y);
}
behind_on s y at (Some n) e long found =
    let w = position-Some is_brace_byte y n 0 found in
    let next : n + 1 ≡ suc n = omega arith in
    record {
      count = n + 1;
      most = omega (arith, w.0);
      is = ap (λ (z : List ℕ). end_or s at (position is_brace_byte z)) e ∙ ap (end_or s at) found;
      ends = inr (record {
        brace = get_or y n 0;
        front = take n y;
        is_brace = brace_is (get_or y n 0) w.1;
        is = ap (λ (m : ℕ). take m y) next ∙ taken_last y n w.0;
      });
    }

-- ---- the parts

join : (b x new y r : List ℕ) → (b ++ x) ++ (new ++ (y ++ r)) ≡ b ++ ((x ++ (new ++ y)) ++ r)
join b x new y r = simp append_assoc

-- an edit inside of a part
pub splice_inside : (before m behind new : List ℕ) (a b : ℕ) → length before ≤ a → a ≤ b → b ≤ length before + length m
    → splice (before ++ (m ++ behind)) a b new ≡ before ++ (splice m (a - length before) (b - length before) new ++ behind)
splice_inside before m behind new a b f g h =
    let n = length before in
    let ea : a ≡ n + (a - n) = omega (arith, f) in
    let eb : b ≡ n + (b - n) = omega (arith, f, g) in
    let la : a - n ≤ length m = omega (arith, g, h) in
    let lb : b - n ≤ length m = omega (arith, h) in
    let first : take a (before ++ (m ++ behind)) ≡ before ++ take (a - n) m = ap (λ k. take k (before ++ (m ++ behind))) ea ∙ take-append-add before (m ++ behind) (a - n) ∙ ap (λ l. before ++ l) (take-append-le (a - n) m behind la) in
    let last : drop b (before ++ (m ++ behind)) ≡ drop (b - n) m ++ behind = ap (λ k. drop k (before ++ (m ++ behind))) eb ∙ drop-append-add before (m ++ behind) (b - n) ∙ drop-append-le (b - n) m behind lb in
    ap (λ l. l ++ (new ++ drop b (before ++ (m ++ behind)))) first
    ∙ ap (λ l. (before ++ take (a - n) m) ++ (new ++ l)) last
    ∙ join before (take (a - n) m) new (drop (b - n) m) behind

five : (a x m y c : List ℕ) → (a ++ x) ++ (m ++ (y ++ c)) ≡ a ++ ((x ++ (m ++ y)) ++ c)
five a x m y c = simp append_assoc

before_bound : (s : List ℕ) (n l : ℕ) → IsBefore s n l → l ≤ n
before_bound s n l (inl e) = omega (arith, e)
before_bound s n l (inr h) = omega (arith, h.0)

begins_at : (s before rest : List ℕ) (l : ℕ) → s ≡ before ++ rest → IsBefore s (length before) l → (take l before ≡ []) ⊎ StartsWithBrace (drop l before)
begins_at s before rest l e (inl h) = inl (ap (λ (n : ℕ). take n before) h)
begins_at s before rest l e (inr h) =
    inr (starts_there before rest l (slice_get s l) (sym (ap (λ (z : List ℕ). slice_get z l) e)) h.1 h.0)

pub windows_around : WindowsAreAroundTokens
windows_around s before old behind edit e from forwards to =
    let at : ℕ = length before in
    let end : ℕ = length before + length old in
    let l : ℕ = brace_before s at in
    let found : IsBefore s at l = brace_found s at in
    let low : l ≤ at = before_bound s at l found in
    let a : List ℕ = take l before in
    let x : List ℕ = drop l before in
    let long_a : length a ≡ l = length-take-le l before low in
    let long_x : length x ≡ at - l = length-drop l before in
    let is_before : before ≡ a ++ x = sym (take-append-drop l before) in
    let long : length s ≡ end + length behind =
    (let one = length-append before (old ++ behind) in let two = length-append old behind in omega (arith, ap length e, one, two)) in
    let past : drop end s ≡ behind =
    ap (drop end) e ∙ drop-append-add before (old ++ behind) (length old) ∙ drop-append_seam old behind in
    let v : IsBehind s behind end = behind_on s behind end (position is_brace_byte behind) past long refl in
    let n : ℕ = v.count in
    let y : List ℕ = take n behind in
    let c : List ℕ = drop n behind in
    let long_y : length y ≡ n = length-take-le n behind v.most in
    let is_behind : behind ≡ y ++ c = sym (take-append-drop n behind) in
    let new : List ℕ = splice old (edit.delete.start - at) (edit.delete.end - at) edit.insert in
    let w : Bounds = window_around s (record { start = at; end = end }) in
    let all : (m : List ℕ) → before ++ (m ++ behind) ≡ a ++ ((x ++ (m ++ y)) ++ c) = λ m.
    ap₂ (λ (p q : List ℕ). p ++ (m ++ q)) is_before is_behind ∙ five a x m y c in
    let whole : s ≡ a ++ ((x ++ (old ++ y)) ++ c) = e ∙ all old in
    let size : length (x ++ (old ++ y)) ≡ (at - l) + (length old + n) =
    (let one = length-append x (old ++ y) in let two = length-append old y in omega (arith, one, two, long_x, long_y)) in
    let end_is : w.end ≡ l + length (x ++ (old ++ y)) = (let i = v.is in omega (arith, i, size, low)) in
    let width : w.end - w.start ≡ length (x ++ (old ++ y)) = omega (arith, end_is) in
    let first : take l s ≡ a = ap (take l) e ∙ take-append-le l before (old ++ behind) low in
    let second : drop l s ≡ (x ++ (old ++ y)) ++ c =
    ap (drop l) whole ∙ ap (λ (k : ℕ). drop k (a ++ ((x ++ (old ++ y)) ++ c))) (sym long_a) ∙ drop-append_seam a ((x ++ (old ++ y)) ++ c) in
    let window : part_of s w ≡ x ++ (old ++ y) =
    ap₂ take width second ∙ take-append_seam (x ++ (old ++ y)) c in
    let less : (edit.delete.start - l) - length x ≡ edit.delete.start - at = omega (arith, long_x, low, from) in
    let more : (edit.delete.end - l) - length x ≡ edit.delete.end - at = omega (arith, long_x, low, from, forwards) in
    let inner : splice (x ++ (old ++ y)) (edit.delete.start - l) (edit.delete.end - l) edit.insert ≡ x ++ (new ++ y) =
    splice_inside x old y edit.insert (edit.delete.start - l) (edit.delete.end - l) (omega (arith, long_x, low, from)) (omega (arith, forwards)) (omega (arith, long_x, low, to, from, forwards))
    ∙ ap₂ (λ (i j : ℕ). x ++ (splice old i j edit.insert ++ y)) less more in
    record {
      a = a;
      x = x;
      y = y;
      c = c;
      text = whole;
      new_text =
          ap (λ (z : List ℕ). splice z edit.delete.start edit.delete.end edit.insert) e
          ∙ splice_inside before old behind edit.insert edit.delete.start edit.delete.end from forwards to ∙ all new;
      before_is = first;
      window_is = window;
      new_window_is = ap (λ (z : List ℕ). splice z (edit.delete.start - l) (edit.delete.end - l) edit.insert) window ∙ inner;
      behind_is =
          ap₂ drop (end_is ∙ ap (λ (k : ℕ). k + length (x ++ (old ++ y))) (sym long_a)) whole
          ∙ drop-append-add a ((x ++ (old ++ y)) ++ c) (length (x ++ (old ++ y))) ∙ drop-append_seam (x ++ (old ++ y)) c;
      long = long_a;
      starts = omega (arith, long_a, long_x, low);
      ends_at = end_is ∙ ap (λ (k : ℕ). k + length (x ++ (old ++ y))) (sym long_a) ∙ sym (length-append a (x ++ (old ++ y)));
      begins = begins_at s before (old ++ behind) l e found;
      ends = v.ends;
    }
