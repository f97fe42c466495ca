-- The text of a tree with one piece replaced.
use Rattle.std.proofs.Common.{◌≡◌, ℕ, zero, suc, ◌+◌, ◌-◌, ◌<◌, ◌≤◌, List, [], ◌∷◌, ◌++◌, length, take, drop, refl, sym, ap, ◌∙◌, arith, append_assoc, append-nil, length-append}
use Rattle.std.proofs.lemmas.List.{take-append-le, drop-append-le}
use Rattle.std.proofs.Math.Seq.{take-append_seam, drop-append_seam, take-append-add, drop-append-add}
use Rattle.tree_model.specs.Tree.{Tree, node, token, Forest, nil, cons, text, forest_text, child_at, child_count, bytes_before, Place, subtree, start}
use Rattle.tree_model.specs.Edit.{splice, set_child, replace, Within, end, text_before, TextAround, ReplacedText, EditedInside}
use Rattle.tree_model.proofs.Texts.{forest_text-cons}
use Rattle.tree_model.proofs.PlaceLemmas.{places_are_reached}

-- old and new have the same bytes before the pieces x and y, and the same after them
pub record Swapped (old new x y : List ℕ) (at : ℕ) : Type 0 where
  pub before : List ℕ
  pub behind : List ℕ
  pub old_is : old ≡ before ++ (x ++ behind)
  pub new_is : new ≡ before ++ (y ++ behind)
  pub at_is : length before ≡ at

child_swapped : (f : Forest) (i : ℕ) (u : Tree) → i < child_count f → Swapped (forest_text f) (forest_text (set_child f i u)) (text (child_at f i)) (text u) (bytes_before f i)
child_swapped nil i u h = absurd (omega (arith, h))
child_swapped (cons t r) zero u h = record { before = []; behind = forest_text r; old_is = forest_text-cons t r; new_is = forest_text-cons u r; at_is = refl }
child_swapped (cons t r) (suc i) u h =
    let w = child_swapped r i u (omega (arith, h)) in
    record {
      before = text t ++ w.before;
      behind = w.behind;
      old_is = forest_text-cons t r ∙ ap (λ l. text t ++ l) w.old_is ∙ sym (append_assoc (text t) w.before (text (child_at r i) ++ w.behind));
      new_is = forest_text-cons t (set_child r i u) ∙ ap (λ l. text t ++ l) w.new_is ∙ sym (append_assoc (text t) w.before (text u ++ w.behind));
      at_is = length-append (text t) w.before ∙ ap (λ n. length (text t) + n) w.at_is;
    }

regroup : (a b x c d : List ℕ) → a ++ ((b ++ (x ++ c)) ++ d) ≡ (a ++ b) ++ (x ++ (c ++ d))
regroup a b x c d = simp append_assoc

pub swapped : (t : Tree) (p : Place) (u : Tree) → Within t p → Swapped (text t) (text (replace t p u)) (text (subtree t p)) (text u) (start t p)
swapped t [] u h = record { before = []; behind = []; old_is = sym (append-nil (text t)); new_is = sym (append-nil (text u)); at_is = refl }
swapped (token k s) (i ∷ p) u h = absurd (omega (arith, h.0))
swapped (node k c) (i ∷ p) u h =
    let v = swapped (child_at c i) p u h.1 in
    let w = child_swapped c i (replace (child_at c i) p u) h.0 in
    record {
      before = w.before ++ v.before;
      behind = v.behind ++ w.behind;
      old_is = w.old_is ∙ ap (λ l. w.before ++ (l ++ w.behind)) v.old_is ∙ regroup w.before v.before (text (subtree (child_at c i) p)) v.behind w.behind;
      new_is = w.new_is ∙ ap (λ l. w.before ++ (l ++ w.behind)) v.new_is ∙ regroup w.before v.before (text u) v.behind w.behind;
      at_is = omega (arith, length-append w.before v.before, w.at_is, v.at_is);
    }

-- what a text with a piece in it is before the piece, and after it
taken : (s before x behind : List ℕ) (n : ℕ) → s ≡ before ++ (x ++ behind) → length before ≡ n → take n s ≡ before
taken s before x behind n is e = ap (take n) is ∙ ap (λ m. take m (before ++ (x ++ behind))) (sym e) ∙ take-append_seam before (x ++ behind)

dropped : (s before x behind : List ℕ) (n : ℕ) → s ≡ before ++ (x ++ behind) → length before + length x ≡ n → drop n s ≡ behind
dropped s before x behind n is e =
    ap (drop n) is ∙ ap (λ m. drop m (before ++ (x ++ behind))) (sym e) ∙ drop-append-add before (x ++ behind) (length x) ∙ drop-append_seam x behind

pub text_around : TextAround
text_around t p h =
    let w = swapped t p t ((places_are_reached t p).0 h) in
    let first = taken (text t) w.before (text (subtree t p)) w.behind (start t p) w.old_is w.at_is in
    let last = dropped (text t) w.before (text (subtree t p)) w.behind (end t p) w.old_is (omega (arith, w.at_is)) in
    (w.old_is ∙ ap (λ l. l ++ (text (subtree t p) ++ w.behind)) (sym first) ∙ ap (λ l. text_before t p ++ (text (subtree t p) ++ l)) (sym last), ap length first ∙ w.at_is)

pub spliced : (t : Tree) (p : Place) (u : Tree) → Within t p → text (replace t p u) ≡ splice (text t) (start t p) (end t p) (text u)
spliced t p u h =
    let w = swapped t p u h in
    let first = taken (text t) w.before (text (subtree t p)) w.behind (start t p) w.old_is w.at_is in
    let last = dropped (text t) w.before (text (subtree t p)) w.behind (end t p) w.old_is (omega (arith, w.at_is)) in
    w.new_is ∙ ap (λ l. l ++ (text u ++ w.behind)) (sym first) ∙ ap (λ l. text_before t p ++ (text u ++ l)) (sym last)

child_at-set_child : (f : Forest) (i : ℕ) (u : Tree) → i < child_count f → child_at (set_child f i u) i ≡ u
child_at-set_child nil i u h = absurd (omega (arith, h))
child_at-set_child (cons t r) zero u h = refl
child_at-set_child (cons t r) (suc i) u h = child_at-set_child r i u (omega (arith, h))

bytes_before-set_child : (f : Forest) (i : ℕ) (u : Tree) → bytes_before (set_child f i u) i ≡ bytes_before f i
bytes_before-set_child nil i u = refl
bytes_before-set_child (cons t r) zero u = refl
bytes_before-set_child (cons t r) (suc i) u = ap (λ n. length (text t) + n) (bytes_before-set_child r i u)

pub subtree-replace : (t : Tree) (p : Place) (u : Tree) → Within t p → subtree (replace t p u) p ≡ u
subtree-replace t [] u h = refl
subtree-replace (token k s) (i ∷ p) u h = absurd (omega (arith, h.0))
subtree-replace (node k c) (i ∷ p) u h =
    ap (λ t. subtree t p) (child_at-set_child c i (replace (child_at c i) p u) h.0) ∙ subtree-replace (child_at c i) p u h.1

start-replace : (t : Tree) (p : Place) (u : Tree) → Within t p → start (replace t p u) p ≡ start t p
start-replace t [] u h = refl
start-replace (token k s) (i ∷ p) u h = absurd (omega (arith, h.0))
start-replace (node k c) (i ∷ p) u h =
    let same = child_at-set_child c i (replace (child_at c i) p u) h.0 in
    omega (arith, ap (λ t. start t p) same, start-replace (child_at c i) p u h.1, bytes_before-set_child c i (replace (child_at c i) p u))

pub replaced_text : ReplacedText
replaced_text t p u h =
    let w = (places_are_reached t p).0 h in (spliced t p u w, subtree-replace t p u w, start-replace t p u w)

join : (b x new y r : List ℕ) → (b ++ x) ++ (new ++ (y ++ r)) ≡ b ++ ((x ++ (new ++ y)) ++ r)
join b x new y r = simp append_assoc

-- an edit inside a piece is an edit of the whole
splice_inside : (before m behind new : List ℕ) (a b : ℕ) → length before ≤ a → a ≤ b → b ≤ length before + length m
    → splice (before ++ (m ++ behind)) a b new ≡ before ++ (splice m (a - length before) (b - length before) new ++ behind)
splice_inside before m behind new a b f g h =
    let n = length before in
    let ea : a ≡ n + (a - n) = omega arith in
    let eb : b ≡ n + (b - n) = omega arith in
    let la : a - n ≤ length m = omega arith in
    let lb : b - n ≤ length m = omega arith in
    let first : take a (before ++ (m ++ behind)) ≡ before ++ take (a - n) m = ap (λ k. take k (before ++ (m ++ behind))) ea ∙ take-append-add before (m ++ behind) (a - n) ∙ ap (λ l. before ++ l) (take-append-le (a - n) m behind la) in
    let last : drop b (before ++ (m ++ behind)) ≡ drop (b - n) m ++ behind = ap (λ k. drop k (before ++ (m ++ behind))) eb ∙ drop-append-add before (m ++ behind) (b - n) ∙ drop-append-le (b - n) m behind lb in
    ap (λ l. l ++ (new ++ drop b (before ++ (m ++ behind)))) first
    ∙ ap (λ l. (before ++ take (a - n) m) ++ (new ++ l)) last
    ∙ join before (take (a - n) m) new (drop (b - n) m) behind

pub edited_inside : EditedInside
edited_inside t p u a b new h f g l e =
    let w = swapped t p u ((places_are_reached t p).0 h) in
    let m = text (subtree t p) in
    let inside = splice_inside w.before m w.behind new a b (omega (arith, w.at_is)) g (omega (arith, w.at_is)) in
    let same : text u ≡ splice m (a - length w.before) (b - length w.before) new = e ∙ ap (λ n. splice m (a - n) (b - n) new) (sym w.at_is) in
    w.new_is ∙ ap (λ x. w.before ++ (x ++ w.behind)) same ∙ sym inside ∙ ap (λ s. splice s a b new) (sym w.old_is)
