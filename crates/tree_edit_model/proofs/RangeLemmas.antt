-- The ranges of the edit of a text are within it, on character boundaries.
use Rattle.std.proofs.Common.{◌≡◌, ℕ, zero, suc, ◌+◌, ◌<◌, List, [], ◌∷◌, ◌++◌, length, refl, sym, ap, ◌∙◌, subst, arith, append_assoc, append-nil, length-append, true, false, inl, inr}
use Rattle.std.specs.Prelude.{if◌then◌else◌, All, IsUtf8, IsCharBoundary}
use Rattle.std.proofs.lemmas.Bool.{cases_Bool}
use Rattle.std.proofs.lemmas.List.Elements.{All-append}
use Rattle.std.proofs.lemmas.Str.{IsCharBoundary-at_seam, IsUtf8-append, IsUtf8-nil}
use Rattle.tree_model.specs.Tree.{Tree, node, token, Forest, nil, cons, Place, text, forest_text}
use Rattle.tree_model.specs.Rows.{TextsAreUtf8}
use Rattle.tree_model.proofs.Texts.{IsUtf8-forest_text}
use Rattle.text_edit.specs.Replacements.{Replacement, IsRangeOf, is_empty, nonempty}
use Rattle.tree_edit_model.specs.Changes.{Change, below}
use Rattle.tree_edit_model.specs.Texts.{put, edits_around, edits_inside, edits_from, edits_of, EditsAreOfText}

-- ---- lists of ranges

none : (s : List ℕ) → All (IsRangeOf s) []
none s = λ k d h. absurd (omega (arith, h))

more : (s : List ℕ) (e : Replacement) (es : List Replacement) → IsRangeOf s e → All (IsRangeOf s) es → All (IsRangeOf s) (e ∷ es)
more s e es h hs = All-append (IsRangeOf s) (e ∷ []) es (one e h) hs
  where
    one : (e : Replacement) → IsRangeOf s e → All (IsRangeOf s) (e ∷ [])
    one e h zero d lt = h
    one e h (suc k) d lt = absurd (omega (arith, lt))

first : (s : List ℕ) (e : Replacement) (es : List Replacement) → All (IsRangeOf s) (e ∷ es) → IsRangeOf s e
first s e es h = h 0 e (omega arith)

rest : (s : List ℕ) (e : Replacement) (es : List Replacement) → All (IsRangeOf s) (e ∷ es) → All (IsRangeOf s) es
rest s e es h = λ k d lt. h (suc k) d (omega (arith, lt))

nonempty_ranges : (s : List ℕ) (es : List Replacement) → All (IsRangeOf s) es → All (IsRangeOf s) (nonempty es)
nonempty_ranges s [] h = h
nonempty_ranges s (e ∷ es) h =
    let left : All (IsRangeOf s) (nonempty es) = nonempty_ranges s es (rest s e es h) in
    elim (is_empty e) as (λ b. All (IsRangeOf s) (if b then nonempty es else e ∷ nonempty es)) [ true ↦ left | false ↦ more s e (nonempty es) (first s e es h) left ]

-- ---- what is put between two places

put_range : (s : List ℕ) (a b : ℕ) (ts : List Tree) → IsCharBoundary s a → IsCharBoundary s b → IsRangeOf s (put a b ts)
put_range s a b ts x y = record { within = y.0; start_boundary = x; end_boundary = y }

around_ranges : (s : List ℕ) (c : Change) (a b : ℕ) (kept : List Replacement) → IsCharBoundary s a → IsCharBoundary s b → All (IsRangeOf s) kept → All (IsRangeOf s) (edits_around c a b kept)
around_ranges s c a b kept x y h =
    more s (put a a c.before) ((if c.replaced then put a b c.instead ∷ [] else kept) ++ put b b c.after ∷ []) (put_range s a a c.before x x)
    (All-append (IsRangeOf s) (if c.replaced then put a b c.instead ∷ [] else kept) (put b b c.after ∷ []) middle (more s (put b b c.after) [] (put_range s b b c.after y y) (none s)))
  where
    middle : All (IsRangeOf s) (if c.replaced then put a b c.instead ∷ [] else kept)
    middle = elim c.replaced as (λ r. All (IsRangeOf s) (if r then put a b c.instead ∷ [] else kept)) [ true ↦ more s (put a b c.instead) [] (put_range s a b c.instead x y) (none s) | false ↦ h ]

inside_ranges : (s : List ℕ) (c : Change) (a b : ℕ) (children : List Replacement) → IsCharBoundary s a → IsCharBoundary s b → All (IsRangeOf s) children → All (IsRangeOf s) (edits_inside c a b children)
inside_ranges s c a b children x y h =
    more s (put a a c.first) (children ++ put b b c.last ∷ []) (put_range s a a c.first x x)
    (All-append (IsRangeOf s) children (put b b c.last ∷ []) h (more s (put b b c.last) [] (put_range s b b c.last y y) (none s)))

-- ---- the places of a forest in the whole text

record Stands (s : List ℕ) (b : ℕ) (f : Forest) : Type 0 where
  before : List ℕ
  after : List ℕ
  is : s ≡ before ++ (forest_text f ++ after)
  long : length before ≡ b
  utf8 : IsUtf8 after

starts : (s : List ℕ) (b : ℕ) (f : Forest) → Stands s b f → TextsAreUtf8 f → IsCharBoundary s b
starts s b f w h = subst (IsCharBoundary s) w.long (IsCharBoundary-at_seam s w.before (forest_text f ++ w.after) w.is (IsUtf8-append (forest_text f) w.after (IsUtf8-forest_text f h) w.utf8))

-- what follows the first tree, whose text is x
later : (s x : List ℕ) (b : ℕ) (f r : Forest) → forest_text f ≡ x ++ forest_text r → Stands s b f → Stands s (b + length x) r
later s x b f r e w = record {
  before = w.before ++ x;
  after = w.after;
  is = w.is ∙ ap (λ l. w.before ++ (l ++ w.after)) e ∙ simp append_assoc;
  long = omega (arith, length-append w.before x, w.long);
  utf8 = w.utf8;
}

-- the children of a first node
inner : (s : List ℕ) (b : ℕ) (f c r : Forest) → forest_text f ≡ forest_text c ++ forest_text r → TextsAreUtf8 r → Stands s b f → Stands s b c
inner s b f c r e h w = record {
  before = w.before;
  after = forest_text r ++ w.after;
  is = w.is ∙ ap (λ l. w.before ++ (l ++ w.after)) e ∙ simp append_assoc;
  long = w.long;
  utf8 = IsUtf8-append (forest_text r) w.after (IsUtf8-forest_text r h) w.utf8;
}

forest_ranges : (f : Forest) (s : List ℕ) (at : Place → Change) (i b : ℕ) → Stands s b f → TextsAreUtf8 f → All (IsRangeOf s) (edits_from at i b f)
forest_ranges nil s at i b w h = none s
forest_ranges (cons (token k t) r) s at i b w h =
    let e : ℕ = b + length t in
    let next : Stands s e r = later s t b (cons (token k t) r) r refl w in
    All-append (IsRangeOf s) (edits_around (at (i ∷ [])) b e []) (edits_from at (suc i) e r)
    (around_ranges s (at (i ∷ [])) b e [] (starts s b (cons (token k t) r) w h) (starts s e r next h.1) (none s))
    (forest_ranges r s at (suc i) e next h.1)
forest_ranges (cons (node k c) r) s at i b w h =
    let e : ℕ = b + length (forest_text c) in
    let next : Stands s e r = later s (forest_text c) b (cons (node k c) r) r refl w in
    let x : IsCharBoundary s b = starts s b (cons (node k c) r) w h in
    let y : IsCharBoundary s e = starts s e r next h.1 in
    let children : List Replacement = edits_from (below i at) 0 b c in
    All-append (IsRangeOf s) (edits_around (at (i ∷ [])) b e (edits_inside (at (i ∷ [])) b e children)) (edits_from at (suc i) e r)
    (around_ranges s (at (i ∷ [])) b e (edits_inside (at (i ∷ [])) b e children) x y
    (inside_ranges s (at (i ∷ [])) b e children x y (forest_ranges c s (below i at) 0 b (inner s b (cons (node k c) r) c r refl h.1 w) h.0)))
    (forest_ranges r s at (suc i) e next h.1)

whole_ranges : (t : Tree) (at : Place → Change) → TextsAreUtf8 (cons t nil) → All (IsRangeOf (text t)) (edits_of at t)
whole_ranges (token k t) at h = none t
whole_ranges (node k c) at h =
    let s : List ℕ = forest_text c in
    let n : ℕ = length s in
    let w : Stands s 0 c = record { before = []; after = []; is = sym (append-nil s); long = refl; utf8 = IsUtf8-nil } in
    let end : IsCharBoundary s n = IsCharBoundary-at_seam s s [] (sym (append-nil s)) IsUtf8-nil in
    inside_ranges s (at []) 0 n (edits_from at 0 0 c) (starts s 0 c w h.0) end (forest_ranges c s at 0 0 w h.0)

pub edits_are_of_text : EditsAreOfText
edits_are_of_text at t h = nonempty_ranges (text t) (edits_of at t) (whole_ranges t at h)
