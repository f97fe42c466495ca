-- Events that build one node by themselves, among those that build a tree.
use Rattle.std.proofs.Common.{◌≡◌, ℕ, zero, suc, ◌+◌, ◌<◌, List, [], ◌∷◌, ◌++◌, length, refl, sym, ap, subst, ◌∙◌, arith, append_assoc, append-nil, length-append}
use Rattle.std.specs.Prelude.{Some}
use Rattle.syntax_kind.specs.declared.syntax_kind.SyntaxKind.{SyntaxKind}
use Rattle.tree_model.specs.Tree.{Tree, node, token, Forest, nil, cons, forest_text, child_at, child_count, bytes_before, Place, subtree, start}
use Rattle.tree_model.specs.Edit.{Within, set_child, replace}
use Rattle.tree_model.specs.Events.{Event, enter, leaf, exit, Builds, events_of, text_len, open_after, forests, first_forest, later_forests, forest_of}
use Rattle.tree_model.specs.TreeCode.{forests-events_of}
use Rattle.tree_model.proofs.Balance.{builds-events_of, events_of-builds, events_of-forest_of}
use Rattle.tree_model.proofs.EditLemmas.{root_after_node}
use Rattle.tree_model.proofs.PlaceLemmas.{places_are_reached}
use Rattle.tree_model.proofs.Refusals.{builds_balanced}
use Rattle.document_laws.specs.Blocks.{BlocksAreAtPlaces}

-- ---- a tree in a stack of forests

-- child number i of the forest has the tree at a place, b bytes behind the forest's start
pub record IsIn (old : Tree) (f : Forest) (i : ℕ) (p : Place) (b : ℕ) : Type 0 where
  pub child : i < child_count f
  pub within : Within (child_at f i) p
  pub is_old : subtree (child_at f i) p ≡ old
  pub starts : bytes_before f i + start (child_at f i) p ≡ b

-- so has forest number n
abbrev pub Fits : Tree → List Forest → ℕ → ℕ → Place → ℕ → Type 0
Fits old [] n i p b = ⊥
Fits old (f ∷ fs) zero i p b = IsIn old f i p b
Fits old (f ∷ fs) (suc n) i p b = (d : ℕ) × (b ≡ length (forest_text f) + d) × Fits old fs n i p d

-- another tree is put there
abbrev pub put : List Forest → ℕ → ℕ → Place → Tree → List Forest
put [] n i p u = []
put (f ∷ fs) zero i p u = set_child f i (replace (child_at f i) p u) ∷ fs
put (f ∷ fs) (suc n) i p u = f ∷ put fs n i p u

-- the stacks are the first one with another tree there
pub record Hole (old : Tree) (fs : List Forest) (gs : Tree → List Forest) (b : ℕ) : Type 0 where
  pub n : ℕ
  pub i : ℕ
  pub p : Place
  pub fits : Fits old fs n i p b
  pub news : (u : Tree) → gs u ≡ put fs n i p u

-- ---- one event more

abbrev entered : SyntaxKind → List Forest → List Forest
entered k fs = cons (node k (first_forest fs)) (first_forest (later_forests fs)) ∷ later_forests (later_forests fs)

abbrev leafed : SyntaxKind → List ℕ → List Forest → List Forest
leafed k s fs = cons (token k s) (first_forest fs) ∷ later_forests fs

hole_entered : (k : SyntaxKind) (old : Tree) (fs : List Forest) (n i : ℕ) (p : Place) (b : ℕ) → Fits old fs n i p b → Hole old (entered k fs) (λ u. entered k (put fs n i p u)) b
hole_entered k old [] n i p b h = absurd h
hole_entered k old (f ∷ fs) zero i p b h = record {
  n = 0;
  i = 0;
  p = i ∷ p;
  fits = record { child = omega arith; within = (h.child, h.within); is_old = h.is_old; starts = omega (arith, h.starts) };
  news = λ u. refl;
}
hole_entered k old (f ∷ []) (suc n) i p b h = absurd h.2
hole_entered k old (f ∷ (g ∷ fs)) (suc zero) i p b h =
    let w : IsIn old g i p h.0 = h.2 in
    record {
      n = 0;
      i = suc i;
      p = p;
      fits = record { child = omega (arith, w.child); within = w.within; is_old = w.is_old; starts = omega (arith, w.starts, h.1) };
      news = λ u. refl;
    }
hole_entered k old (f ∷ (g ∷ fs)) (suc (suc n)) i p b h = record {
  n = suc n;
  i = i;
  p = p;
  fits = (h.2.0, omega (arith, h.1, h.2.1, length-append (forest_text f) (forest_text g)), h.2.2);
  news = λ u. refl;
}

hole_leafed : (k : SyntaxKind) (s : List ℕ) (old : Tree) (fs : List Forest) (n i : ℕ) (p : Place) (b : ℕ) → Fits old fs n i p b
    → Hole old (leafed k s fs) (λ u. leafed k s (put fs n i p u)) (length s + b)
hole_leafed k s old [] n i p b h = absurd h
hole_leafed k s old (f ∷ fs) zero i p b h = record {
  n = 0;
  i = suc i;
  p = p;
  fits = record { child = omega (arith, h.child); within = h.within; is_old = h.is_old; starts = omega (arith, h.starts) };
  news = λ u. refl;
}
hole_leafed k s old (f ∷ fs) (suc n) i p b h = record {
  n = suc n;
  i = i;
  p = p;
  fits = (h.0, omega (arith, h.1, length-append s (forest_text f)), h.2);
  news = λ u. refl;
}

-- ---- all events

forests_enter : (k : SyntaxKind) (es : List Event) → forests (enter k ∷ es) ≡ entered k (forests es)
unfolding forests
forests_enter k es = refl

forests_leaf : (k : SyntaxKind) (s : List ℕ) (es : List Event) → forests (leaf k s ∷ es) ≡ leafed k s (forests es)
unfolding forests
forests_leaf k s es = refl

forests_exit : (es : List Event) → forests (exit ∷ es) ≡ nil ∷ forests es
unfolding forests
forests_exit es = refl

forests_none : forests [] ≡ nil ∷ []
unfolding forests
forests_none = refl

-- a stack and what it is with other trees, renamed
renamed : (old : Tree) (fs hs : List Forest) (gs ks : Tree → List Forest) (b : ℕ) → hs ≡ fs → ((u : Tree) → ks u ≡ gs u) → Hole old fs gs b → Hole old hs ks b
renamed old fs hs gs ks b e f h = record {
  n = h.n;
  i = h.i;
  p = h.p;
  fits = subst (λ (xs : List Forest). Fits old xs h.n h.i h.p b) (sym e) h.fits;
  news = λ u. f u ∙ h.news u ∙ sym (ap (λ (xs : List Forest). put xs h.n h.i h.p u) e);
}

abbrev one : Tree → List Event
one t = events_of (cons t nil)

pub hole : (before behind : List Event) (old : Tree) → Hole old (forests (before ++ (one old ++ behind))) (λ u. forests (before ++ (one u ++ behind))) (text_len before)
hole [] behind old =
    let f : Forest = first_forest (forests behind) in
    let fs : List Forest = later_forests (forests behind) in
    renamed old (cons old f ∷ fs) (forests (one old ++ behind)) (λ u. cons u f ∷ fs) (λ u. forests (one u ++ behind)) 0
    (forests-events_of (cons old nil) behind) (λ u. forests-events_of (cons u nil) behind)
    (record { n = 0; i = 0; p = []; fits = record { child = omega arith; within = tt; is_old = refl; starts = omega arith }; news = λ u. refl })
hole (enter k ∷ before) behind old =
    let h = hole before behind old in
    let rest : Tree → List Event = λ u. before ++ (one u ++ behind) in
    renamed old (entered k (forests (rest old))) (forests (enter k ∷ rest old)) (λ u. entered k (put (forests (rest old)) h.n h.i h.p u)) (λ u. forests (enter k ∷ rest u)) (text_len before)
    (forests_enter k (rest old)) (λ u. forests_enter k (rest u) ∙ ap (entered k) (h.news u))
    (hole_entered k old (forests (rest old)) h.n h.i h.p (text_len before) h.fits)
hole (leaf k s ∷ before) behind old =
    let h = hole before behind old in
    let rest : Tree → List Event = λ u. before ++ (one u ++ behind) in
    renamed old (leafed k s (forests (rest old))) (forests (leaf k s ∷ rest old)) (λ u. leafed k s (put (forests (rest old)) h.n h.i h.p u)) (λ u. forests (leaf k s ∷ rest u)) (length s + text_len before)
    (forests_leaf k s (rest old)) (λ u. forests_leaf k s (rest u) ∙ ap (leafed k s) (h.news u))
    (hole_leafed k s old (forests (rest old)) h.n h.i h.p (text_len before) h.fits)
hole (exit ∷ before) behind old =
    let h = hole before behind old in
    let rest : Tree → List Event = λ u. before ++ (one u ++ behind) in
    renamed old (nil ∷ forests (rest old)) (forests (exit ∷ rest old)) (λ u. nil ∷ put (forests (rest old)) h.n h.i h.p u) (λ u. forests (exit ∷ rest u)) (text_len before)
    (forests_exit (rest old)) (λ u. forests_exit (rest u) ∙ ap (λ (fs : List Forest). nil ∷ fs) (h.news u))
    (record { n = suc h.n; i = h.i; p = h.p; fits = (text_len before, omega arith, h.fits); news = λ u. refl })

-- ---- the place in the tree

pub record Found (t old : Tree) (n i : ℕ) (p : Place) (b : ℕ) : Type 0 where
  pub within : Within t p
  pub is_old : subtree t p ≡ old
  pub starts : start t p ≡ b
  pub is_new : (u : Tree) → put (cons t nil ∷ []) n i p u ≡ cons (replace t p u) nil ∷ []

pub found : (t old : Tree) (n i : ℕ) (p : Place) (b : ℕ) → Fits old (cons t nil ∷ []) n i p b → Found t old n i p b
found t old zero zero p b h = record { within = h.within; is_old = h.is_old; starts = omega (arith, h.starts); is_new = λ u. refl }
found t old zero (suc i) p b h = absurd (omega (arith, h.child))
found t old (suc n) i p b h = absurd h.2

pub forests_of : (es : List Event) (t : Tree) → Builds es (cons t nil) → forests es ≡ cons t nil ∷ []
forests_of es t h =
    ap forests (sym (events_of-builds h) ∙ sym (append-nil (one t))) ∙ forests-events_of (cons t nil) []
    ∙ ap (λ (fs : List Forest). cons t (first_forest fs) ∷ later_forests fs) forests_none

open_within : (f : Forest) (d : ℕ) (es : List Event) → open_after d (events_of f ++ es) ≡ open_after d es
open_within nil d es = refl
open_within (cons (token k s) r) d es = open_within r d es
open_within (cons (node k c) r) d es =
    ap (open_after (suc d)) (append_assoc (events_of c) (exit ∷ events_of r) es)
    ∙ open_within c (suc d) (exit ∷ (events_of r ++ es)) ∙ open_within r d es

pub open_same : (before : List Event) (f g : Forest) (d : ℕ) (behind : List Event) → open_after d (before ++ (events_of f ++ behind)) ≡ open_after d (before ++ (events_of g ++ behind))
open_same [] f g d behind = open_within f d behind ∙ sym (open_within g d behind)
open_same (enter k ∷ before) f g d behind = open_same before f g (suc d) behind
open_same (leaf k s ∷ before) f g d behind = open_same before f g d behind
open_same (exit ∷ before) f g zero behind = refl
open_same (exit ∷ before) f g (suc d) behind = open_same before f g d behind

pub blocks_at : BlocksAreAtPlaces
blocks_at before own behind t old whole block =
    let own_is : one old ≡ own = events_of-builds block.0 in
    let all : Builds (before ++ (one old ++ behind)) (cons t nil) = subst (λ (es : List Event). Builds (before ++ (es ++ behind)) (cons t nil)) (sym own_is) whole.0 in
    let h = hole before behind old in
    let stack : forests (before ++ (one old ++ behind)) ≡ cons t nil ∷ [] = forests_of (before ++ (one old ++ behind)) t all in
    let w : Found t old h.n h.i h.p (text_len before) =
    found t old h.n h.i h.p (text_len before) (subst (λ (fs : List Forest). Fits old fs h.n h.i h.p (text_len before)) stack h.fits) in
    record {
      place = h.p;
      is_place = (places_are_reached t h.p).1 w.within;
      is_old = w.is_old;
      starts = w.starts;
      replaced = λ new piece b.
          let es : List Event = before ++ (one piece ++ behind) in
          let forest : forest_of es ≡ cons (replace t h.p piece) nil =
          ap first_forest (h.news piece ∙ ap (λ (fs : List Forest). put fs h.n h.i h.p piece) stack ∙ w.is_new piece) in
          let balance : open_after 0 es ≡ Some 0 =
          open_same before (cons piece nil) (cons old nil) 0 behind ∙ builds_balanced (before ++ (one old ++ behind)) (cons t nil) all in
          let events : events_of (cons (replace t h.p piece) nil) ≡ before ++ (new ++ behind) =
          ap events_of (sym forest) ∙ events_of-forest_of es balance ∙ ap (λ (xs : List Event). before ++ (xs ++ behind)) (events_of-builds b.0) in
          (subst (λ (xs : List Event). Builds xs (cons (replace t h.p piece) nil)) events (builds-events_of (cons (replace t h.p piece) nil)), root_after_node t h.p piece whole.1 b.1);
    }
