-- The window around one token that gets another text.
use Rattle.std.proofs.Common.{◌≡◌, ◌⊎◌, inl, inr, ℕ, zero, suc, ◌+◌, ◌-◌, ◌<◌, ◌≤◌, ◌^◌, List, [], length, refl, sym, ap, ap₂, ◌∙◌, subst, arith, Bool, true, false, Option, Some, None, IsTrue, nat_eq, get_or}
use Rattle.std.specs.Prelude.{IsUtf8, IsCharBoundary, take, drop, position, slice_get, ◌==◌, ◌||◌, if◌then◌else◌}
use Rattle.std.proofs.lemmas.Bool.Decides.{nat_tests}
use Rattle.std.proofs.lemmas.List.{length-drop, get_or-drop}
use Rattle.std.proofs.lemmas.List.Quantifiers.{position-Some}
use Rattle.std.proofs.lemmas.Option.{slice_get-get_or}
use Rattle.std.proofs.lemmas.Str.{IsCharBoundary-before_ascii, IsCharBoundary-after_ascii, IsCharBoundary-end, IsCharBoundary-from_take, IsUtf8-nil}
use Rattle.text_size.specs.TextRange.{Bounds}
use Rattle.tree_model.specs.Tree.{Tree, text, IsToken}
use Rattle.tree_model.specs.Cursor.{Cursor, IsRoot, focus, range_start, range_of}
use Rattle.tree_model.specs.Covering.{covering_of}
use Rattle.tree_model.specs.Placed.{IsPlaced}
use Rattle.tree_model.specs.Edit.{root_of}
use Rattle.lossless_tree.specs.declared.cursor.element.NodeOrToken.{NodeOrToken}
use Rattle.lossless_tree.specs.Element.{element_of, token_part}
use Rattle.ras_front_end.specs.declared.edition.Edition.{Edition}
use Rattle.ras_front_end.specs.Parsed.{Parsed}
use Rattle.exact_front.specs.Exact.{Exact}
use Rattle.ras_parsing.specs.Edit.{Edit, IsEditOf, covered, edited_at}
use Rattle.ras_parsing.specs.Document.{is_brace_byte, is_brace_at, brace_before, end_or, brace_behind, window_around, byte_at, is_at, BeginsToken, StandsAlone, is_retold_in}
use Rattle.ras_parsing.specs.ExactSteps.{FitsAround, IsRetoldToken}
use Rattle.ras_parsing.specs.Rereading.{IsAround}
use Rattle.ras_parsing.proofs.Around.{around_covered}
use Rattle.ras_parsing.proofs.TokenPaths.{token_found, none_by, covering_is}

false_not_true : false ≡ true → ⊥
false_not_true h = (let bad : false ≡ true = h in cc)

-- ---- braces

brace_small : (b : ℕ) → is_brace_byte b ≡ true → b < 128
brace_small b h = grind (arith, nat_tests, h)

step_down : (s : List ℕ) (n : ℕ) → n < length s → is_brace_byte (get_or s n 0) ≡ false → brace_before s (suc n) ≡ brace_before s n
unfolding brace_before
step_down s n lt h = ap (λ (b : Bool). if b then n else brace_before s n) (ap is_brace_at (slice_get-get_or s n 0 lt) ∙ h)

step_here : (s : List ℕ) (n : ℕ) → n < length s → is_brace_byte (get_or s n 0) ≡ true → brace_before s (suc n) ≡ n
unfolding brace_before
step_here s n lt h = ap (λ (b : Bool). if b then n else brace_before s n) (ap is_brace_at (slice_get-get_or s n 0 lt) ∙ h)

-- the bytes from `at` to `end` are no braces
pub record Passed (bytes : List ℕ) (end at : ℕ) : Type 0 where
  pub same : brace_before bytes end ≡ brace_before bytes at
  pub within : at ≤ end

pub passed_one : (s : List ℕ) (end at : ℕ) → 0 < at → at ≤ length s → Passed s end at → is_brace_byte (get_or s (at - 1) 0) ≡ false → Passed s end (at - 1)
passed_one s end zero lt le p h = absurd (omega (arith, lt))
passed_one s end (suc n) lt le p h =
    let less : suc n - 1 ≡ n = omega arith in
    subst (Passed s end) (sym less)
    (record { same = p.same ∙ step_down s n (omega (arith, le)) (sym (ap (λ m. is_brace_byte (get_or s m 0)) less) ∙ h); within = omega (arith, p.within) })

no_brace_first : (s : List ℕ) → brace_before s 0 ≡ 0
unfolding brace_before
no_brace_first s = refl

boundary_first : (s : List ℕ) → IsUtf8 s → IsCharBoundary s 0
boundary_first s u = IsCharBoundary-from_take s 0 u (omega arith) IsUtf8-nil

by_byte : (s : List ℕ) (n : ℕ) (b : Bool) → is_brace_byte (get_or s n 0) ≡ b → n < length s → IsCharBoundary s (brace_before s n) → IsCharBoundary s (brace_before s (suc n))
by_byte s n true h lt below = subst (IsCharBoundary s) (sym (step_here s n lt h)) (IsCharBoundary-before_ascii s n lt (brace_small (get_or s n 0) h))
by_byte s n false h lt below = subst (IsCharBoundary s) (sym (step_down s n lt h)) below

boundary_before : (s : List ℕ) (n : ℕ) → IsUtf8 s → n ≤ length s → IsCharBoundary s (brace_before s n)
boundary_before s zero u le = subst (IsCharBoundary s) (sym (no_brace_first s)) (boundary_first s u)
boundary_before s (suc n) u le = by_byte s n (is_brace_byte (get_or s n 0)) refl (omega (arith, le)) (boundary_before s n u (omega (arith, le)))

by_position : (s : List ℕ) (at : ℕ) (o : Option ℕ) → IsUtf8 s → at ≤ length s → position is_brace_byte (drop at s) ≡ o → IsCharBoundary s (end_or s at o)
by_position s at None u le h = IsCharBoundary-end s
by_position s at (Some n) u le h =
    let w = position-Some is_brace_byte (drop at s) n 0 h in
    let here : get_or (drop at s) n 0 ≡ get_or s (at + n) 0 = get_or-drop at s n 0 in
    subst (IsCharBoundary s) (omega arith)
    (IsCharBoundary-after_ascii s (at + n) u (omega (arith, w.0, length-drop at s, le)) (brace_small (get_or s (at + n) 0) (ap is_brace_byte (sym here) ∙ w.1)))

boundary_behind : (s : List ℕ) (at : ℕ) → IsUtf8 s → at ≤ length s → IsCharBoundary s (brace_behind s at)
boundary_behind s at u le = by_position s at (position is_brace_byte (drop at s)) u le refl

pub fits_around : (s : List ℕ) (t r : Bounds) → IsUtf8 s → t.start ≤ t.end → t.end ≤ length s → r ≡ window_around s t
    → brace_before s t.start ≤ t.start - 1 → t.end ≤ brace_behind s t.end → brace_behind s t.end ≤ length s → FitsAround s t r
fits_around s t r u ordered le is before behind within = record {
  begins = (let e = ap (λ (b : Bounds). b.start) is in omega (arith, e, before));
  ends = (let e = ap (λ (b : Bounds). b.end) is in omega (arith, e, behind));
  within = (let e = ap (λ (b : Bounds). b.end) is in omega (arith, e, within));
  start_boundary = subst (IsCharBoundary s) (sym (ap (λ (b : Bounds). b.start) is)) (boundary_before s t.start u (omega (arith, ordered, le)));
  end_boundary = subst (IsCharBoundary s) (sym (ap (λ (b : Bounds). b.end) is)) (boundary_behind s t.end u le);
}

-- the same, in the words of a caller
pub fits_at : (s bytes : List ℕ) (t r : Bounds) (m n from to : ℕ) → IsUtf8 s → t.start ≤ t.end → t.end ≤ length s → bytes ≡ s → m ≡ t.start → n ≡ t.end
    → from ≡ brace_before bytes m → from ≤ m - 1 → to ≡ brace_behind bytes n → n ≤ to → to ≤ length bytes → r.start ≡ from → r.end ≡ to → FitsAround s t r
fits_at s bytes t r m n from to u ordered le is first last starts before ends behind within at until =
    let from_is : from ≡ brace_before s t.start = starts ∙ ap₂ brace_before is first in
    let to_is : to ≡ brace_behind s t.end = ends ∙ ap₂ brace_behind is last in
    fits_around s t r u ordered le (ap₂ (λ (i j : ℕ). let b : Bounds = record { start = i; end = j } in b) (at ∙ from_is) (until ∙ to_is))
    (omega (arith, from_is, before, first)) (omega (arith, to_is, behind, last)) (omega (arith, to_is, within, ap length is))

-- ---- the first token of a window

abbrev at_byte : ℕ → Edit
at_byte at = record { delete = byte_at at; insert = [] }

same_number : (m n : ℕ) → nat_eq m n ≡ true → m ≡ n
same_number m n h = grind (arith, nat_tests, h)

number_same : (m n : ℕ) → m ≡ n → nat_eq m n ≡ true
number_same m n h = grind (arith, nat_tests, h)

covers : (root : Cursor) (at : ℕ) (b : Bounds) (e : NodeOrToken Cursor Cursor) → b ≡ byte_at at → e ≡ element_of (covering_of root b) → e ≡ element_of (covering_of root (byte_at at))
covers root at b e f g = g ∙ ap (λ (x : Bounds). element_of (covering_of root x)) f

begun_is : (tree : Tree) (at n : ℕ) (c : Cursor) → c ≡ covering_of (root_of tree) (byte_at at) → n ≡ range_start c → (at ≡ 0 → ⊥) → BeginsToken tree at → IsTrue (nat_eq n at)
begun_is tree at n c is starts first (inl z) = absurd (first z)
begun_is tree at n c is starts first (inr y) = number_same n at (starts ∙ ap range_start is ∙ y.1)

begun_not : (tree : Tree) (at : ℕ) (c : Cursor) → c ≡ covering_of (root_of tree) (byte_at at) → token_part (element_of c) ≡ None → (at ≡ 0 → ⊥) → BeginsToken tree at → IsTrue false
begun_not tree at c is none first (inl z) = absurd (first z)
begun_not tree at c is none first (inr y) = absurd (none_by (focus c) c none (subst (λ (d : Cursor). IsToken (focus d)) (sym is) y.0))

pub begins_some : (root : Cursor) (at n : ℕ) (b : Bounds) (e : NodeOrToken Cursor Cursor) (o : Option Cursor) (d : Cursor)
    → IsRoot root → b ≡ byte_at at → e ≡ element_of (covering_of root b) → o ≡ token_part e → o ≡ Some d → n ≡ range_start d → (at ≡ 0 → ⊥)
    → (IsTrue (nat_eq n at) → BeginsToken root.tree at) × (BeginsToken root.tree at → IsTrue (nat_eq n at))
begins_some root at n b e o d h f g k is starts first =
    let w = token_found root (at_byte at) e o d h (covers root at b e f g) k is in
    let c = covered root.tree (at_byte at) in
    let start_is : n ≡ range_start c = starts ∙ ap range_start w.same in
    (λ yes'. inr (w.is_token, sym start_is ∙ same_number n at yes'), begun_is root.tree at n c refl start_is first)

pub begins_none : (root : Cursor) (at : ℕ) (b : Bounds) (e : NodeOrToken Cursor Cursor) (o : Option Cursor)
    → IsRoot root → b ≡ byte_at at → e ≡ element_of (covering_of root b) → o ≡ token_part e → o ≡ None → (at ≡ 0 → ⊥)
    → (IsTrue false → BeginsToken root.tree at) × (BeginsToken root.tree at → IsTrue false)
begins_none root at b e o h f g k is first =
    let c = covered root.tree (at_byte at) in
    let none : token_part (element_of c) ≡ None = sym (k ∙ ap token_part (covers root at b e f g ∙ covering_is root (at_byte at) h)) ∙ is in
    (λ no'. absurd (false_not_true no'), begun_not root.tree at c refl none first)

-- ---- the token that an edit is in

-- what is asked of the token that covers an edit
pub record IsCovering (tree : Tree) (edit : Edit) (d : Cursor) (range : Bounds) (s : List ℕ) : Type 0 where
  pub same : d ≡ covered tree edit
  pub is_token : IsToken (focus (covered tree edit))
  pub around : IsAround d edit
  pub range_is : range ≡ range_of d
  pub text_is : s ≡ text tree
  pub within : range.end ≤ length s
  pub short : length s < 2 ^ 32

pub is_covering : (tree : Tree) (edit : Edit) (root : Cursor) (e : NodeOrToken Cursor Cursor) (o : Option Cursor) (d : Cursor) (range : Bounds) (s : List ℕ)
    → root ≡ root_of tree → IsEditOf (text tree) edit → e ≡ element_of (covering_of root edit.delete) → o ≡ token_part e → o ≡ Some d
    → IsPlaced d → range ≡ range_of d → s ≡ text (focus root) → IsCovering tree edit d range s
is_covering tree edit root e o d range s root_is is_edit f g is placed range_is text_is =
    let over : e ≡ element_of (covering_of (root_of tree) edit.delete) = f ∙ ap (λ (r : Cursor). element_of (covering_of r edit.delete)) root_is in
    let w = token_found (root_of tree) edit e o d refl over g is in
    let around : IsAround d edit = subst (λ x. IsAround x edit) (sym w.same) (around_covered tree edit is_edit) in
    let whole : s ≡ text tree = text_is ∙ ap (λ (r : Cursor). text (focus r)) root_is in
    let tree_is : d.tree ≡ tree = ap (λ (x : Cursor). x.tree) w.same in
    let long : length (text d.tree) ≡ length s = ap (λ (t : Tree). length (text t)) tree_is ∙ ap length (sym whole) in
    record {
      same = w.same;
      is_token = w.is_token;
      around = around;
      range_is = range_is;
      text_is = whole;
      within = (let e1 = ap (λ (b : Bounds). b.end) range_is in let e2 = around.within in omega (arith, e1, e2, long));
      short = (let e1 = placed.short in omega (arith, e1, long));
    }

pairs : (a b x y : Bounds) → a ≡ b → x ≡ y → (let p : Bounds × Bounds = (a, x) in p) ≡ (let q : Bounds × Bounds = (b, y) in q)
pairs a b x y e f = ap₂ (λ (i j : Bounds). let p : Bounds × Bounds = (i, j) in p) e f

-- nothing else changes by the edit of the token
pub retold_found : (exact : Exact) (edition : Edition) (old : Parsed) (count : ℕ) (edit : Edit) (d : Cursor) (range : Bounds) (s : List ℕ) (w : Bounds) (new : List ℕ)
    → IsCovering old.tree edit d range s → w ≡ window_around s range → exact.has_head s ≡ false → StandsAlone old count w
    → is_retold_in exact edition s w range edit ≡ true → new ≡ edited_at d edit → IsRetoldToken exact edition old count edit d new
retold_found exact edition old count edit d range s w new c is no_head alone retold text_is =
    let whole : window_around s range ≡ window_around (text old.tree) (range_of d) = ap₂ window_around c.text_is c.range_is in
    record {
      covers = c.same;
      text_is = text_is;
      path = record {
        covers = c.same;
        is_token = subst (λ (x : Cursor). IsToken (focus x)) (sym c.same) c.is_token;
        no_head = ap exact.has_head (sym c.text_is) ∙ no_head;
        is_window = refl;
        stands_alone = subst (StandsAlone old count) (is ∙ whole) alone;
        is_retold = sym (ap₂ (λ (x : List ℕ) (y : Bounds × Bounds). is_retold_in exact edition x y.0 y.1 edit) c.text_is (pairs w (window_around (text old.tree) (range_of d)) range (range_of d) (is ∙ whole) c.range_is)) ∙ retold;
      };
    }
