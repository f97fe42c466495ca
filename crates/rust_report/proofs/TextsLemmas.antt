-- Lines of a text.
use Rattle.std.proofs.Common.{◌≡◌, ℕ, ◌+◌, ◌-◌, ◌<◌, ◌≤◌, List, [], length, take, get_or, eqb, true, false, refl, sym, ap, ◌∙◌, subst, ⊎_elim, arith}
use Rattle.std.proofs.lemmas.Bool.{ne_eqb, cases_lt}
use Rattle.std.proofs.lemmas.List.Sums.{suffix_len_is}
use Rattle.std.proofs.lemmas.Str.{IsCharBoundary-end}
use Rattle.std.specs.List.{position_or_len, before_first, suffix_len, slice_range}
use Rattle.std.specs.Str.{IsUtf8, IsCharBoundary}
use Rattle.std.specs.Str.Lines.{strip_carriage_return}
use Rattle.text_size.specs.TextRange.{Bounds}
use Rattle.line_index.specs.declared.line_col.LineCol.{LineCol}
use Rattle.line_index.specs.Lines.{line_feeds, IsLine, line_col_at}
use Rattle.line_index.proofs.LineLemmas.{line_feeds_within}
use Rattle.line_index.proofs.WideLemmas.{start_boundary}
use Rattle.rust_report.specs.Texts.{first_line, is_feed, is_line_end, shown_line, ShowsLine}

pub first_of_cut : (s line : List ℕ) → position_or_len is_feed s < length s → line ≡ before_first is_feed s → strip_carriage_return line ≡ first_line s
first_of_cut s line h e =
    let other : eqb (position_or_len is_feed s) (length s) ≡ false = ne_eqb (position_or_len is_feed s) (length s) (λ z. omega (arith, z, h)) in
    rw (other, e) refl

pub range_front : (l : List ℕ) (n : ℕ) → slice_range l 0 n ≡ take n l
range_front l n = let e : n - 0 ≡ n = omega arith in ap (λ m. take m l) e

-- what is before the line ends at the end
pub shown_to : (l : List ℕ) (n : ℕ) → n ≤ length l → ((k : ℕ) → n ≤ k → k < length l → is_line_end (get_or l k 0) ≡ true)
    → (0 < n → is_line_end (get_or l (n - 1) 0) ≡ false) → take n l ≡ shown_line l
shown_to l n within ends last =
    let tail : suffix_len is_line_end l ≡ length l - n = suffix_len_is is_line_end l n 0 within ends last in
    let front : n ≡ length l - suffix_len is_line_end l = omega (arith, tail, within) in
    ap (λ m. take m l) front

-- no line past the end of the text
pub past : (s t : List ℕ) (o : ℕ) → s ≡ t → (o ≤ length t → ⊥) → ShowsLine s o []
past s t o same h = record { within = λ le. absurd (h (omega (arith, le, ap length same))); past = λ _. refl }

pub boundaries : (s : List ℕ) (o : ℕ) (r : Bounds) → IsUtf8 s → o ≤ length s → IsLine s (line_feeds (take o s)) r → IsCharBoundary s r.start × IsCharBoundary s r.end
boundaries s o r u le h = (
  start_boundary s (line_feeds (take o s)) r.start u h.start,
  ⊎_elim
      (λ lt. start_boundary s (line_feeds (take o s) + 1) r.end u (h.before lt))
      (λ last. subst (IsCharBoundary s) (sym (h.last (omega (arith, last, line_feeds_within s o le)))) (IsCharBoundary-end s))
      (cases_lt (line_feeds (take o s)) (line_feeds s)),
)

pub no_such : (s t : List ℕ) (o : ℕ) (at : LineCol) → s ≡ t → o ≤ length t → at ≡ line_col_at t o → line_feeds t < at.line → ShowsLine s o []
no_such s t o at same le is h = absurd (omega (arith, h, ap (λ (x : LineCol). x.line) is, line_feeds_within t o le))

here : (s t : List ℕ) (o : ℕ) (at : LineCol) (r : Bounds) → s ≡ t → at ≡ line_col_at t o → IsLine t at.line r → IsLine s (line_feeds (take o s)) r
here s t o at r same is h = subst (λ u. IsLine u (line_feeds (take o u)) r) (sym same) (subst (λ n. IsLine t n r) (ap (λ (x : LineCol). x.line) is) h)

pub shows : (s t : List ℕ) (o : ℕ) (at : LineCol) (r : Bounds) (i j : ℕ) (line shown : List ℕ) → s ≡ t → o ≤ length t → at ≡ line_col_at t o → IsLine t at.line r
    → i ≡ r.start → j ≡ r.end → line ≡ slice_range s i j → shown ≡ shown_line line → ShowsLine s o shown
shows s t o at r i j line shown same le is h start end cut is_shown = record {
  within = λ _. (r, here s t o at r same is h, is_shown ∙ ap shown_line (cut ∙ ap (λ m. slice_range s m j) start ∙ ap (λ m. slice_range s r.start m) end));
  past = λ lt. absurd (omega (arith, lt, le, ap length same));
}

pub never : (s t : List ℕ) (o : ℕ) (at : LineCol) (r : Bounds) (i j : ℕ) → IsUtf8 s → s ≡ t → o ≤ length t → at ≡ line_col_at t o → IsLine t at.line r
    → i ≡ r.start → j ≡ r.end → r.start ≤ r.end → (i ≤ j → IsCharBoundary s i → IsCharBoundary s j → ⊥) → ShowsLine s o []
never s t o at r i j u same le is h start end forwards none =
    let b = boundaries s o r u (omega (arith, le, ap length same)) (here s t o at r same is h) in
    absurd (none (omega (arith, start, end, forwards)) (subst (IsCharBoundary s) (sym start) b.0) (subst (IsCharBoundary s) (sym end) b.1))
