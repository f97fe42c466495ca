-- A wide line and column, counted from 1.
use Rattle.std.proofs.Common.{◌≡◌, ℕ, ◌+◌, List, Option, Some, None, MatchOption, IfSome, IsSome, ap, sym, ◌∙◌, subst, refl, arith}
use Rattle.std.specs.Str.{IsCharBoundary}
use Rattle.line_index.specs.declared.line_col.LineCol.{LineCol}
use Rattle.line_index.specs.declared.line_col.WideLineCol.{WideLineCol}
use Rattle.line_index.specs.declared.line_col.WideEncoding.{WideEncoding}
use Rattle.line_index.specs.declared.line_col.WideEncoding.TheVariants.{Utf32}
use Rattle.line_index.specs.Lines.{line_col_at, wide_line_col_at, IsWide, IsWideAt, NoWide, IsOffset, NoOffset}
use Rattle.line_index.proofs.LineLemmas.{one_place}
use Rattle.rust_report.specs.declared.place.Spot.{Spot}
use Rattle.rust_report.specs.Spots.{IsSpot, spot_of}

same_offset : (s : List ℕ) (o p : ℕ) (at : LineCol) → IsOffset s at o → IsOffset s at p → o ≡ p
same_offset s o p at f g = one_place s o p f.0 g.0 (ap (λ (x : LineCol). x.line) (f.1 ∙ sym g.1)) (ap (λ (x : LineCol). x.col) (f.1 ∙ sym g.1))

-- the offset of a place, and its wide place, make a spot
pub is_spot : (s : List ℕ) (o : ℕ) (at : LineCol) (w : WideLineCol) (spot : Spot)
    → IsOffset s at o → IsWide Utf32 s at w → spot.line ≡ w.line + 1 → spot.column ≡ w.col + 1 → IsSpot s o spot
is_spot s o at w spot f wide l c =
    let same : wide.offset ≡ o = same_offset s wide.offset o at wide.found f in
    record {
      within = f.0;
      boundary = subst (IsCharBoundary s) same wide.boundary;
      line = l ∙ ap (λ (x : WideLineCol). x.line + 1) (wide.is ∙ ap (wide_line_col_at Utf32 s) same);
      column = c ∙ ap (λ (x : WideLineCol). x.col + 1) (wide.is ∙ ap (wide_line_col_at Utf32 s) same);
    }

-- a wide place in characters, counted from 1
pub is_spot_at : (e : WideEncoding) (s : List ℕ) (o : ℕ) (w : WideLineCol) → e ≡ Utf32 → IsWideAt e s o w → IsSpot s o (spot_of w)
is_spot_at e s o w same g =
    let is : w ≡ wide_line_col_at Utf32 s o = g.is ∙ ap (λ (x : WideEncoding). wide_line_col_at x s o) same in
    record { within = g.within; boundary = g.boundary; line = ap (λ (x : WideLineCol). x.line + 1) is; column = ap (λ (x : WideLineCol). x.col + 1) is }

pub found : (s : List ℕ) (at : LineCol) (w : WideLineCol) (answer : Option ℕ)
    → IsWide Utf32 s at w → MatchOption answer (NoOffset s at) (IsOffset s at) → IfSome answer (λ o. IsSpot s o (spot_of w))
found s at w None wide none = tt
found s at w (Some o) wide f = is_spot s o at w (spot_of w) f wide refl refl

-- a spot has a wide place, which is found
wide_at : (l c m d : ℕ) → l + 1 ≡ m + 1 → c + 1 ≡ d + 1 → (let w : WideLineCol = record { line = l; col = c } in w) ≡ record { line = m; col = d }
wide_at l c m d e f = let a : l ≡ m = omega (arith, e) in let b : c ≡ d = omega (arith, f) in rw a (rw b refl)

pub is_wide : (s : List ℕ) (o : ℕ) (w : WideLineCol) → IsSpot s o (spot_of w) → IsWide Utf32 s (line_col_at s o) w
is_wide s o w h = record {
  offset = o;
  found = (h.within, refl);
  boundary = h.boundary;
  is = wide_at w.line w.col (wide_line_col_at Utf32 s o).line (wide_line_col_at Utf32 s o).col h.line h.column;
}

pub none_wide : (s : List ℕ) (o : ℕ) (w : WideLineCol) → NoWide Utf32 s w → IsSpot s o (spot_of w) → ⊥
none_wide s o w none h = none (line_col_at s o) (is_wide s o w h)

pub some_offset : (s : List ℕ) (at : LineCol) (w : WideLineCol) (answer : Option ℕ)
    → IsWide Utf32 s at w → MatchOption answer (NoOffset s at) (IsOffset s at) → IsSome answer
some_offset s at w None wide none = absurd (none wide.offset wide.found)
some_offset s at w (Some o) wide f = refl
