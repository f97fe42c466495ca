-- The rows of a subtree are together, and are its own rows moved; the rows of a tree with a piece
-- replaced. They are seen as they hang, each beside its parent's number.
use Rattle.std.proofs.Common.{◌≡◌, ℕ, suc, ◌+◌, ◌-◌, ◌<◌, ◌≤◌, List, [], ◌∷◌, ◌++◌, length, map, refl, sym, ap, ◌∙◌, arith, append_assoc, append-nil, length-append}
use Rattle.std.proofs.Common.{Bool, true, false}
use Rattle.std.proofs.lemmas.Bool.Decides.{nat_tests}
use Rattle.std.proofs.lemmas.List.{map-append}
use Rattle.syntax_kind.specs.declared.syntax_kind.SyntaxKind.{SyntaxKind}
use Rattle.tree_rows.specs.declared.shift.Shift.{Shift}
use Rattle.tree_model.specs.Tree.{Tree, node, token, Forest, nil, cons, text, size, forest_text, forest_size, Place, child_at}
use Rattle.tree_model.specs.Rows.{TextsAreUtf8}
use Rattle.tree_model.specs.Edit.{set_child, replace}
use Rattle.tree_rows.specs.MovedRows.{moved_number, moved_row, shift_from}
use Rattle.tree_model.proofs.Texts.{forest_text-cons, later_utf8}
use Rattle.tree_model.proofs.Starts.{At-text}
use Rattle.tree_model.proofs.At.{At, here, below, after, no_empty_place, At-fits, up_of, cong₂, forest_size-cons, some_row}
use Rattle.tree_rows.proofs.Hung.{Hung, hung, hung_of}
use Rattle.tree_rows.proofs.At.{length-hung_of}

pub moved-above : (by : Shift) (n : ℕ) → by.from_row ≤ n → moved_number by n ≡ (n - by.from_row) + by.to_row
moved-above by n h = grind (arith, nat_tests)

pub moved-below : (by : Shift) (n : ℕ) → n < by.from_row → moved_number by n ≡ n
moved-below by n h = grind (arith, nat_tests)

-- a row and where it hangs, after the move
abbrev pub moved_hung : Shift → Hung → Hung
moved_hung by h = record { row = moved_row by h.row; up = moved_number by h.up }

same_hung : (k : SyntaxKind) (b : Bool) (s s' e e' p p' : ℕ) → s ≡ s' → e ≡ e' → p ≡ p'
    → (let x : Hung = record { row = record { kind = k; is_token = b; start = s; end = e }; up = p } in x) ≡ record { row = record { kind = k; is_token = b; start = s'; end = e' }; up = p' }
same_hung k b s s' e e' p p' is_s is_e is_p =
    cong₂ (λ x y. record { row = record { kind = k; is_token = b; start = x; end = y }; up = p }) is_s is_e
    ∙ ap (λ x. record { row = record { kind = k; is_token = b; start = s'; end = e' }; up = x }) is_p

-- rows that all follow the bound move together
pub hung_of-moved : (f : Forest) (by : Shift) (m d u m' d' u' : ℕ) → by.from_row ≤ m → by.from_byte ≤ d
    → m' ≡ (m - by.from_row) + by.to_row → d' ≡ (d - by.from_byte) + by.to_byte → u' ≡ moved_number by u
    → hung_of f m' d' u' ≡ map (moved_hung by) (hung_of f m d u)
hung_of-moved nil by m d u m' d' u' h k is_m is_d is_u = refl
hung_of-moved (cons (token k t) r) by m d u m' d' u' h j is_m is_d is_u =
    let later : by.from_row ≤ suc m = omega arith in
    cong₂ ◌∷◌ (same_hung k true d' ((d - by.from_byte) + by.to_byte) (suc m') (moved_number by (suc m)) u' (moved_number by u) is_d (omega (arith, moved-above by (suc m) later, is_m)) is_u)
    (hung_of-moved r by (suc m) (d + length t) u (suc m') (d' + length t) u' later (omega (arith, j)) (omega (arith, is_m)) (omega (arith, is_d, j)) is_u)
hung_of-moved (cons (node k c) r) by m d u m' d' u' h j is_m is_d is_u =
    let later : by.from_row ≤ suc m + forest_size c = omega arith in
    cong₂ ◌∷◌ (same_hung k false d' ((d - by.from_byte) + by.to_byte) (suc m' + forest_size c) (moved_number by (suc m + forest_size c)) u' (moved_number by u) is_d (omega (arith, moved-above by (suc m + forest_size c) later, is_m)) is_u)
    (cong₂ ◌++◌
    (hung_of-moved c by (suc m) d m (suc m') d' m' (omega arith) j (omega (arith, is_m)) is_d (is_m ∙ sym (moved-above by m h)))
    (hung_of-moved r by (suc m + forest_size c) (d + length (forest_text c)) u (suc m' + forest_size c) (d' + length (forest_text c)) u' later (omega (arith, j)) (omega (arith, is_m)) (omega (arith, is_d, j)) is_u)
    ∙ sym (map-append (moved_hung by) (hung_of c (suc m) d m) (hung_of r (suc m + forest_size c) (d + length (forest_text c)) u)))

-- rows that all end before the bound stay
hung_of-kept : (f : Forest) (by : Shift) (m d u : ℕ) → m + forest_size f < by.from_row → u < by.from_row → by.from_byte ≡ 0 → by.to_byte ≡ 0
    → hung_of f m d u ≡ map (moved_hung by) (hung_of f m d u)
hung_of-kept nil by m d u h below_bound is_from is_to = refl
hung_of-kept (cons (token k t) r) by m d u h below_bound is_from is_to =
    cong₂ ◌∷◌ (same_hung k true d ((d - by.from_byte) + by.to_byte) (suc m) (moved_number by (suc m)) u (moved_number by u) (omega (arith, is_from, is_to)) (sym (moved-below by (suc m) (omega (arith, h)))) (sym (moved-below by u below_bound)))
    (hung_of-kept r by (suc m) (d + length t) u (omega (arith, h)) below_bound is_from is_to)
hung_of-kept (cons (node k c) r) by m d u h below_bound is_from is_to =
    cong₂ ◌∷◌ (same_hung k false d ((d - by.from_byte) + by.to_byte) (suc m + forest_size c) (moved_number by (suc m + forest_size c)) u (moved_number by u) (omega (arith, is_from, is_to)) (sym (moved-below by (suc m + forest_size c) (omega (arith, h)))) (sym (moved-below by u below_bound)))
    (cong₂ ◌++◌
    (hung_of-kept c by (suc m) d m (omega (arith, h)) (omega (arith, h)) is_from is_to)
    (hung_of-kept r by (suc m + forest_size c) (d + length (forest_text c)) u (omega (arith, h)) below_bound is_from is_to)
    ∙ sym (map-append (moved_hung by) (hung_of c (suc m) d m) (hung_of r (suc m + forest_size c) (d + length (forest_text c)) u)))

hung_of-cons : (u : Tree) (r : Forest) (m d up : ℕ) → hung_of (cons u r) m d up ≡ hung_of (cons u nil) m d up ++ hung_of r (m + size u) (d + length (text u)) up
hung_of-cons (token k x) r m d up = let e : suc m ≡ m + 1 = omega arith in ap (λ i. hung (token k x) m d up ∷ hung_of r i (d + length x) up) e
hung_of-cons (node k c) r m d up =
    let e : suc m + forest_size c ≡ m + suc (forest_size c) = omega arith in
    ap (λ l. hung (node k c) m d up ∷ l)
    (cong₂ (λ x i. x ++ hung_of r i (d + length (forest_text c)) up) (sym (append-nil (hung_of c (suc m) d m))) e)

-- what follows a subtree starts where that ends, or later
pub At-later : {f : Forest} {n m : ℕ} {p q : Place} {t v : Tree} {b d : ℕ} → At f n p t b → At f m q v d → n + size t ≤ m → b + length (text t) ≤ d
At-later (here {u}) here h = absurd (omega (arith, h, some_row u))
At-later (here {u = node k c}) (below {t} a) h = absurd (omega (arith, h, At-fits a, some_row t))
At-later here (after is_m is_d a) h = omega (arith, is_d)
At-later (below a) here h = absurd (omega arith)
At-later (below a) (below a') h = At-later a a' (omega (arith, h))
At-later (below a) (after is_m is_d a') h = omega (arith, At-text a, is_d)
At-later (after {t} is_m is_d a) here h = absurd (omega (arith, h, some_row t))
At-later (after is_m is_d a) (below {t} a') h = absurd (omega (arith, h, is_m, At-fits a', some_row t))
At-later (after is_m is_d a) (after is_m' is_d' a') h = omega (arith, is_d, is_d', At-later a a' (omega (arith, h, is_m, is_m')))

-- what has a row of a subtree lies within it
pub record Inside (n m b d : ℕ) (t v : Tree) : Type 0 where
  pub ends : m + size v ≤ n + size t
  pub starts : b ≤ d
  pub stops : d + length (text v) ≤ b + length (text t)

pub At-inside : {f : Forest} {n m : ℕ} {p q : Place} {t v : Tree} {b d : ℕ} → At f n p t b → At f m q v d → n ≤ m → m < n + size t → Inside n m b d t v
At-inside here here h k = record { ends = omega arith; starts = omega arith; stops = omega arith }
At-inside (here {u = node k c}) (below a) h j = record { ends = omega (arith, At-fits a); starts = omega arith; stops = omega (arith, At-text a) }
At-inside here (after is_m is_d a) h k = absurd (omega (arith, is_m, k))
At-inside (below a) here h k = absurd (omega (arith, h))
At-inside (below a) (below a') h k = let w = At-inside a a' (omega (arith, h)) (omega (arith, k)) in record { ends = omega (arith, w.ends); starts = w.starts; stops = w.stops }
At-inside (below a) (after is_m is_d a') h k = absurd (omega (arith, k, is_m, At-fits a))
At-inside (after {u} is_m is_d a) here h k = absurd (omega (arith, h, is_m, some_row u))
At-inside (after is_m is_d a) (below {t} a') h k = absurd (omega (arith, h, is_m, At-fits a', some_row t))
At-inside (after is_m is_d a) (after is_m' is_d' a') h k =
    let w = At-inside a a' (omega (arith, h, is_m, is_m')) (omega (arith, k, is_m, is_m')) in
    record { ends = omega (arith, w.ends, is_m, is_m'); starts = omega (arith, w.starts, is_d, is_d'); stops = omega (arith, w.stops, is_d, is_d') }

-- the forest with a piece replaced
abbrev pub replace_in : Forest → Place → Tree → Forest
replace_in f [] u = f
replace_in f (i ∷ p) u = set_child f i (replace (child_at f i) p u)

-- the rows around a piece, and around the one that takes its place
pub record Replaced {f : Forest} {n : ℕ} {p : Place} {t : Tree} {b : ℕ} (a : At f n p t b) (u : Tree) (m d up x x' y y' : ℕ) : Type 0 where
  pub before : List Hung
  pub behind : List Hung
  pub old : hung_of f m d up ≡ before ++ (hung_of (cons t nil) (m + n) (d + b) (up_of a m up) ++ behind)
  pub new : hung_of (replace_in f p u) m d up ≡ map (moved_hung (shift_from x x' 0 0)) before ++ (hung_of (cons u nil) (m + n) (d + b) (up_of a m up) ++ map (moved_hung (shift_from x x' y y')) behind)
  pub count : length before ≡ n
  pub sizes : forest_size (replace_in f p u) + size t ≡ forest_size f + size u
  pub texts : length (forest_text (replace_in f p u)) + length (text t) ≡ length (forest_text f) + length (text u)

replaced_here : (v : Tree) (r : Forest) (u : Tree) (m d up x x' y y' : ℕ) → up ≤ m → x ≡ m + size v → x' ≡ m + size u → y ≡ d + length (text v) → y' ≡ d + length (text u)
    → Replaced (here {u = v} {r = r}) u m d up x x' y y'
replaced_here v r u m d up x x' y y' h is_x is_x' is_y is_y' =
    let by : Shift = shift_from x x' y y' in
    let later = hung_of r (m + size v) (d + length (text v)) up in
    let zero_m : m ≡ m + 0 = omega arith in
    let zero_d : d ≡ d + 0 = omega arith in
    let stays : up ≡ moved_number by up = sym (moved-below by up (omega (arith, h, is_x, some_row v))) in
    record {
      before = [];
      behind = later;
      old = hung_of-cons v r m d up ∙ ap (λ l. l ++ later) (cong₂ (λ i j. hung_of (cons v nil) i j up) zero_m zero_d);
      new = hung_of-cons u r m d up
          ∙ cong₂ ◌++◌ (cong₂ (λ i j. hung_of (cons u nil) i j up) zero_m zero_d)
          (hung_of-moved r by (m + size v) (d + length (text v)) up (m + size u) (d + length (text u)) up (omega (arith, is_x)) (omega (arith, is_y)) (omega (arith, is_x, is_x')) (omega (arith, is_y, is_y')) stays);
      count = refl;
      sizes = omega (arith, forest_size-cons u r, forest_size-cons v r);
      texts = omega (arith, ap length (forest_text-cons u r), length-append (text u) (forest_text r), ap length (forest_text-cons v r), length-append (text v) (forest_text r));
    }

pub replaced : {f : Forest} {n : ℕ} {p : Place} {t : Tree} {b : ℕ} (a : At f n p t b) (u : Tree) (m d up x x' y y' : ℕ) → up ≤ m
    → x ≡ (m + n) + size t → x' ≡ (m + n) + size u → y ≡ (d + b) + length (text t) → y' ≡ (d + b) + length (text u) → Replaced a u m d up x x' y y'
replaced (here {u = v} {r}) u m d up x x' y y' h is_x is_x' is_y is_y' = replaced_here v r u m d up x x' y y' h (omega (arith, is_x)) (omega (arith, is_x')) (omega (arith, is_y)) (omega (arith, is_y'))
replaced (below {p = []} a) u m d up x x' y y' h is_x is_x' is_y is_y' = absurd (no_empty_place a)
replaced (below {k} {c} {r} {n} {p = i ∷ q} {t} {b} a) u m d up x x' y y' h is_x is_x' is_y is_y' =
    let w = replaced a u (suc m) d m x x' y y' (omega arith) (omega (arith, is_x)) (omega (arith, is_x')) is_y is_y' in
    let c' = replace_in c (i ∷ q) u in
    let by0 : Shift = shift_from x x' 0 0 in
    let by : Shift = shift_from x x' y y' in
    let later = hung_of r (suc m + forest_size c) (d + length (forest_text c)) up in
    let first : Hung = hung (node k c) m d up in
    let e : suc m + n ≡ m + suc n = omega arith in
    let reaches : x ≤ suc m + forest_size c = omega (arith, is_x, At-fits a) in
    let bytes : y ≤ d + length (forest_text c) = omega (arith, is_y, At-text a) in
    let up_stays : up ≡ moved_number by0 up = sym (moved-below by0 up (omega (arith, h, is_x))) in
    let piece = hung_of (cons u nil) (suc m + n) (d + b) (up_of a (suc m) m) in
    let first_is : hung (node k c') m d up ≡ moved_hung by0 first =
    same_hung k false d ((d - 0) + 0) (suc m + forest_size c') (moved_number by0 (suc m + forest_size c)) up (moved_number by0 up) (omega arith)
    (omega (arith, moved-above by0 (suc m + forest_size c) reaches, w.sizes, is_x, is_x', reaches)) up_stays in
    let later_is : hung_of r (suc m + forest_size c') (d + length (forest_text c')) up ≡ map (moved_hung by) later =
    hung_of-moved r by (suc m + forest_size c) (d + length (forest_text c)) up (suc m + forest_size c') (d + length (forest_text c')) up reaches bytes
    (omega (arith, w.sizes, is_x, is_x', reaches)) (omega (arith, w.texts, is_y, is_y', bytes)) (sym (moved-below by up (omega (arith, h, is_x)))) in
    record {
      before = first ∷ w.before;
      behind = w.behind ++ later;
      old = ap (λ l. first ∷ (l ++ later)) w.old ∙ ap (λ l. first ∷ l) (append_assoc w.before (hung_of (cons t nil) (suc m + n) (d + b) (up_of a (suc m) m) ++ w.behind) later)
          ∙ ap (λ l. first ∷ (w.before ++ l)) (append_assoc (hung_of (cons t nil) (suc m + n) (d + b) (up_of a (suc m) m)) w.behind later)
          ∙ ap (λ i. first ∷ (w.before ++ (hung_of (cons t nil) i (d + b) (up_of a (suc m) m) ++ (w.behind ++ later)))) e;
      new = cong₂ ◌∷◌ first_is (cong₂ ◌++◌ w.new later_is)
          ∙ ap (λ l. moved_hung by0 first ∷ l) (append_assoc (map (moved_hung by0) w.before) (piece ++ map (moved_hung by) w.behind) (map (moved_hung by) later))
          ∙ ap (λ l. moved_hung by0 first ∷ (map (moved_hung by0) w.before ++ l)) (append_assoc piece (map (moved_hung by) w.behind) (map (moved_hung by) later))
          ∙ ap (λ l. moved_hung by0 first ∷ (map (moved_hung by0) w.before ++ (piece ++ l))) (sym (map-append (moved_hung by) w.behind later))
          ∙ ap (λ i. moved_hung by0 first ∷ (map (moved_hung by0) w.before ++ (hung_of (cons u nil) i (d + b) (up_of a (suc m) m) ++ map (moved_hung by) (w.behind ++ later)))) e;
      count = ap suc w.count;
      sizes = omega (arith, w.sizes);
      texts = omega (arith, w.texts, length-append (forest_text c') (forest_text r), length-append (forest_text c) (forest_text r));
    }
replaced (after {u = v} {r} {n} {m = q} {i} {p} {t} {b} {d = e} is_m is_d a) u m d up x x' y y' h is_x is_x' is_y is_y' =
    let e1 : (m + size v) + n ≡ m + q = omega (arith, is_m) in
    let e2 : (d + length (text v)) + b ≡ d + e = omega (arith, is_d) in
    let w = replaced a u (m + size v) (d + length (text v)) up x x' y y' (omega (arith, h)) (omega (arith, is_x, is_m)) (omega (arith, is_x', is_m)) (omega (arith, is_y, is_d)) (omega (arith, is_y', is_d)) in
    let r' = replace_in r (i ∷ p) u in
    let by0 : Shift = shift_from x x' 0 0 in
    let by : Shift = shift_from x x' y y' in
    let own = hung_of (cons v nil) m d up in
    let above = up_of a (m + size v) up in
    let kept : own ≡ map (moved_hung by0) own = hung_of-kept (cons v nil) by0 m d up (omega (arith, is_x, is_m, forest_size-cons v nil, some_row t)) (omega (arith, h, is_x, some_row t)) refl refl in
    record {
      before = own ++ w.before;
      behind = w.behind;
      old = hung_of-cons v r m d up ∙ ap (λ l. own ++ l) w.old
          ∙ sym (append_assoc own w.before (hung_of (cons t nil) ((m + size v) + n) ((d + length (text v)) + b) above ++ w.behind))
          ∙ ap (λ l. (own ++ w.before) ++ (l ++ w.behind)) (cong₂ (λ i j. hung_of (cons t nil) i j above) e1 e2);
      new = hung_of-cons v r' m d up ∙ cong₂ ◌++◌ kept w.new
          ∙ sym (append_assoc (map (moved_hung by0) own) (map (moved_hung by0) w.before) (hung_of (cons u nil) ((m + size v) + n) ((d + length (text v)) + b) above ++ map (moved_hung by) w.behind))
          ∙ cong₂ (λ l s. l ++ (s ++ map (moved_hung by) w.behind)) (sym (map-append (moved_hung by0) own w.before)) (cong₂ (λ i j. hung_of (cons u nil) i j above) e1 e2);
      count = length-append own w.before ∙ omega (arith, w.count, length-hung_of (cons v nil) m d up, forest_size-cons v nil, is_m);
      sizes = omega (arith, w.sizes, forest_size-cons v r, forest_size-cons v r');
      texts = omega (arith, w.texts, ap length (forest_text-cons v r), length-append (text v) (forest_text r), ap length (forest_text-cons v r'), length-append (text v) (forest_text r'));
    }

with_first_utf8 : (u : Tree) (r : Forest) → TextsAreUtf8 (cons u nil) → TextsAreUtf8 r → TextsAreUtf8 (cons u r)
with_first_utf8 (token k x) r h j = (h.0, j)
with_first_utf8 (node k c) r h j = (h.0, j)

-- the texts of a forest with a piece replaced
pub replaced_utf8 : {f : Forest} {n : ℕ} {p : Place} {t : Tree} {b : ℕ} → At f n p t b → (u : Tree) → TextsAreUtf8 f → TextsAreUtf8 (cons u nil) → TextsAreUtf8 (replace_in f p u)
replaced_utf8 (here {u = v} {r}) u h j = with_first_utf8 u r j (later_utf8 v r h)
replaced_utf8 (below {p = []} a) u h j = absurd (no_empty_place a)
replaced_utf8 (below {p = i ∷ q} a) u h j = (replaced_utf8 a u h.0 j, h.1)
replaced_utf8 (after {u = token k x} is_m is_d a) u h j = (h.0, replaced_utf8 a u h.1 j)
replaced_utf8 (after {u = node k c} is_m is_d a) u h j = (h.0, replaced_utf8 a u h.1 j)
