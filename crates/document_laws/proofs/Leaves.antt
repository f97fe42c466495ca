-- Tokens of trees of a front end's steps.
use Rattle.std.proofs.Common.{◌≡◌, ℕ, zero, suc, ◌+◌, ◌-◌, ◌≤◌, ◌<◌, List, [], ◌∷◌, ◌++◌, length, take, drop, refl, sym, ap, ap₂, subst, ◌∙◌, arith}
use Rattle.std.specs.Prelude.{Some}
use Rattle.std.proofs.Math.Seq.{take-append_seam, drop-append_seam}
use Rattle.std.proofs.lemmas.List.{length-take-le}
use Rattle.syntax_kind.specs.declared.syntax_kind.SyntaxKind.{SyntaxKind}
use Rattle.tree_model.specs.Tree.{Tree, node, token, Forest, nil, cons, text, child_at, child_count, bytes_before, IsNode, Place, IsPlace, subtree, start}
use Rattle.tree_model.specs.Edit.{Within, replace}
use Rattle.tree_model.specs.Events.{Event, enter, leaf, exit, Builds, BuildsNode, events_of, text_len, open_after, forests, first_forest, forest_of}
use Rattle.tree_model.proofs.Balance.{builds-events_of, events_of-builds, events_of-forest_of}
use Rattle.tree_model.proofs.PlaceEnds.{places_end_within}
use Rattle.tree_model.proofs.PlaceLemmas.{places_are_reached}
use Rattle.tree_model.proofs.Refusals.{builds_balanced}
use Rattle.ras_front_end.specs.Reading.{FrontStep, begins, takes, ends, reports, events_from, Cuts}
use Rattle.event_layout.specs.Filled.{bytes_taken}
use Rattle.document_laws.specs.Leaves.{LeavesOfStepsAreAtPlaces, HasByte, BytesHaveOneToken, StepsPart, PlacesPartSteps}
use Rattle.document_laws.proofs.Holes.{Fits, put, Found, hole, found, forests_of, open_same}
use Rattle.document_laws.proofs.Noding.{one, Among, in_tree}
use Rattle.document_laws.proofs.Taking.{both, text_taken}

-- ---- a token among events

record IsLeafAt (before behind : List Event) (t : Tree) (k : SyntaxKind) (old : List ℕ) : Type 0 where
  place : Place
  is_place : IsPlace t place
  is_old : subtree t place ≡ token k old
  starts : start t place ≡ text_len before
  replaced : (new : List ℕ) → BuildsNode (before ++ leaf k new ∷ behind) (replace t place (token k new))

-- a token is not the root of a tree that is a node
still_node : (t : Tree) (p : Place) (u : Tree) (k : SyntaxKind) (s : List ℕ) → IsNode t → subtree t p ≡ token k s → IsNode (replace t p u)
still_node (token l x) p u k s h e = absurd h
still_node (node l c) [] u k s h e = (let bad : node l c ≡ token k s = e in absurd (cc))
still_node (node l c) (i ∷ p) u k s h e = tt

leaf_at : (before behind : List Event) (t : Tree) (k : SyntaxKind) (old : List ℕ) → BuildsNode (before ++ leaf k old ∷ behind) t → IsLeafAt before behind t k old
leaf_at before behind t k old whole =
    let h = hole before behind (token k old) in
    let stack : forests (before ++ leaf k old ∷ behind) ≡ cons t nil ∷ [] = forests_of (before ++ leaf k old ∷ behind) t whole.0 in
    let w : Found t (token k old) h.n h.i h.p (text_len before) =
    found t (token k old) h.n h.i h.p (text_len before) (subst (λ (fs : List Forest). Fits (token k old) fs h.n h.i h.p (text_len before)) stack h.fits) in
    record {
      place = h.p;
      is_place = (places_are_reached t h.p).1 w.within;
      is_old = w.is_old;
      starts = w.starts;
      replaced = λ new.
          let u : Tree = token k new in
          let es : List Event = before ++ leaf k new ∷ behind in
          let forest : forest_of es ≡ cons (replace t h.p u) nil =
          ap first_forest (h.news u ∙ ap (λ (fs : List Forest). put fs h.n h.i h.p u) stack ∙ w.is_new u) in
          let balance : open_after 0 es ≡ Some 0 =
          open_same before (cons u nil) (cons (token k old) nil) 0 behind ∙ builds_balanced (before ++ leaf k old ∷ behind) (cons t nil) whole.0 in
          let events : events_of (cons (replace t h.p u) nil) ≡ es = ap events_of (sym forest) ∙ events_of-forest_of es balance in
          (subst (λ (xs : List Event). Builds xs (cons (replace t h.p u) nil)) events (builds-events_of (cons (replace t h.p u) nil)), still_node t h.p u k old whole.1 w.is_old);
    }

leaf_events : (a x c : List ℕ) (before behind : List FrontStep) (k : SyntaxKind) → bytes_taken before ≡ length a
    → events_from (before ++ takes k (length x) ∷ behind) (a ++ (x ++ c)) ≡ events_from before a ++ leaf k x ∷ events_from behind c
leaf_events a x c before behind k h =
    both before (takes k (length x) ∷ behind) a (x ++ c) h
    ∙ ap₂ (λ (s r : List ℕ). events_from before a ++ leaf k s ∷ events_from behind r) (take-append_seam x c) (drop-append_seam x c)

pub leaves_at : LeavesOfStepsAreAtPlaces
leaves_at a old c before behind k t h whole =
    let w : IsLeafAt (events_from before a) (events_from behind c) t k old =
    leaf_at (events_from before a) (events_from behind c) t k old (subst (λ (es : List Event). BuildsNode es t) (leaf_events a old c before behind k h) whole) in
    record {
      place = w.place;
      is_place = w.is_place;
      is_old = w.is_old;
      starts = w.starts ∙ text_taken before a h ∙ h;
      replaced = λ new. subst (λ (es : List Event). BuildsNode es (replace t w.place (token k new))) (sym (leaf_events a new c before behind k h)) (w.replaced new);
    }

-- ---- one token for each byte

record Has (t : Tree) (p : Place) (at : ℕ) : Type 0 where
  within : Within t p
  kind : SyntaxKind
  its_text : List ℕ
  is : subtree t p ≡ token kind its_text
  begun : start t p ≤ at
  ended : at < start t p + length its_text

has : (t : Tree) (p : Place) (at : ℕ) → HasByte t p at → Has t p at
has t p at h = record { within = (places_are_reached t p).0 h.is_place; kind = h.kind; its_text = h.its_text; is = h.is; begun = h.begun; ended = h.ended }

-- it is before the tree's end
early : (t : Tree) (p : Place) (at : ℕ) → Has t p at → at < length (text t)
early t p at h = omega (arith, h.ended, ap (λ (u : Tree). length (text u)) h.is, places_end_within t p ((places_are_reached t p).1 h.within))

no_child : (t : Tree) (k : SyntaxKind) (s : List ℕ) (i : ℕ) (p : Place) → t ≡ token k s → Within t (i ∷ p) → ⊥
no_child (token l x) k s i p e w = absurd (omega (arith, w.0))
no_child (node l c) k s i p e w = (let bad : node l c ≡ token k s = e in absurd (cc))

mutual
  in_children : (f : Forest) (i j : ℕ) (p q : Place) (at b : ℕ) → i < child_count f → j < child_count f
      → Has (child_at f i) p (at - (b + bytes_before f i)) → b + bytes_before f i ≤ at
      → Has (child_at f j) q (at - (b + bytes_before f j)) → b + bytes_before f j ≤ at
      → (i ∷ p) ≡ (j ∷ q)
  in_children nil i j p q at b h k v x w y = absurd (omega (arith, h))
  in_children (cons t r) zero zero p q at b h k v x w y = ap (λ (o : Place). 0 ∷ o) (in_one t p q (at - (b + 0)) v w)
  in_children (cons t r) zero (suc j) p q at b h k v x w y = absurd (omega (arith, y, early t p (at - (b + 0)) v))
  in_children (cons t r) (suc i) zero p q at b h k v x w y = absurd (omega (arith, x, early t q (at - (b + 0)) w))
  in_children (cons t r) (suc i) (suc j) p q at b h k v x w y =
      let m : at - (b + (length (text t) + bytes_before r i)) ≡ at - ((b + length (text t)) + bytes_before r i) = omega arith in
      let n : at - (b + (length (text t) + bytes_before r j)) ≡ at - ((b + length (text t)) + bytes_before r j) = omega arith in
      let rest : (i ∷ p) ≡ (j ∷ q) = in_children r i j p q at (b + length (text t)) (omega (arith, h)) (omega (arith, k))
      (subst (λ (z : ℕ). Has (child_at r i) p z) m v) (omega (arith, x)) (subst (λ (z : ℕ). Has (child_at r j) q z) n w) (omega (arith, y)) in
      cc

  in_one : (t : Tree) (p q : Place) (at : ℕ) → Has t p at → Has t q at → p ≡ q
  in_one t [] [] at v w = refl
  in_one t [] (j ∷ q) at v w = absurd (no_child t v.kind v.its_text j q v.is w.within)
  in_one t (i ∷ p) [] at v w = absurd (no_child t w.kind w.its_text i p w.is v.within)
  in_one (token k s) (i ∷ p) (j ∷ q) at v w = absurd (omega (arith, v.within.0))
  in_one (node k f) (i ∷ p) (j ∷ q) at v w =
      in_children f i j p q at 0 v.within.0 w.within.0
      (record { within = v.within.1; kind = v.kind; its_text = v.its_text; is = v.is; begun = omega (arith, v.begun); ended = omega (arith, v.begun, v.ended) })
      (omega (arith, v.begun))
      (record { within = w.within.1; kind = w.kind; its_text = w.its_text; is = w.is; begun = omega (arith, w.begun); ended = omega (arith, w.begun, w.ended) })
      (omega (arith, w.begun))

pub one_token : BytesHaveOneToken
one_token t p q at v w = in_one t p q at (has t p at v) (has t q at w)

-- ---- where a place begins

first_same : (a b : Event) (es fs : List Event) → a ∷ es ≡ b ∷ fs → a ≡ b
first_same a b es fs h = cc

rest_same : (a b : Event) (es fs : List Event) → a ∷ es ≡ b ∷ fs → es ≡ fs
rest_same a b es fs h = cc

steps_part : (steps : List FrontStep) (s : List ℕ) (before behind : List Event) → Cuts steps s → events_from steps s ≡ before ++ behind → StepsPart steps (text_len before)
steps_part steps s [] behind c h = record { before = []; behind = steps; is = refl; taken = refl }
steps_part [] s (b ∷ before) behind c h = (let bad : [] ≡ b ∷ (before ++ behind) = h in absurd (cc))
steps_part (begins k ∷ steps) s (b ∷ before) behind c h =
    let w = steps_part steps s before behind c (rest_same (enter k) b (events_from steps s) (before ++ behind) h) in
    let first : enter k ≡ b = first_same (enter k) b (events_from steps s) (before ++ behind) h in
    record {
      before = begins k ∷ w.before;
      behind = w.behind;
      is = ap (λ (xs : List FrontStep). begins k ∷ xs) w.is;
      taken = w.taken ∙ ap (λ (x : Event). text_len (x ∷ before)) first;
    }
steps_part (takes k n ∷ steps) s (b ∷ before) behind c h =
    let w = steps_part steps (drop n s) before behind c.2 (rest_same (leaf k (take n s)) b (events_from steps (drop n s)) (before ++ behind) h) in
    let first : leaf k (take n s) ≡ b = first_same (leaf k (take n s)) b (events_from steps (drop n s)) (before ++ behind) h in
    let long : length (take n s) ≡ n = length-take-le n s c.0 in
    let sum : n + bytes_taken w.before ≡ length (take n s) + text_len before = omega (arith, long, w.taken) in
    record {
      before = takes k n ∷ w.before;
      behind = w.behind;
      is = ap (λ (xs : List FrontStep). takes k n ∷ xs) w.is;
      taken = sum ∙ ap (λ (x : Event). text_len (x ∷ before)) first;
    }
steps_part (ends ∷ steps) s (b ∷ before) behind c h =
    let w = steps_part steps s before behind c (rest_same exit b (events_from steps s) (before ++ behind) h) in
    let first : exit ≡ b = first_same exit b (events_from steps s) (before ++ behind) h in
    record {
      before = ends ∷ w.before;
      behind = w.behind;
      is = ap (λ (xs : List FrontStep). ends ∷ xs) w.is;
      taken = w.taken ∙ ap (λ (x : Event). text_len (x ∷ before)) first;
    }
steps_part (reports m q ∷ steps) s (b ∷ before) behind c h =
    let w = steps_part steps s (b ∷ before) behind c h in
    record { before = reports m q ∷ w.before; behind = w.behind; is = ap (λ (xs : List FrontStep). reports m q ∷ xs) w.is; taken = w.taken }

pub places_part : PlacesPartSteps
places_part steps s t p cuts built at =
    let w : Among (one t) (subtree t p) (start t p) = in_tree t p ((places_are_reached t p).0 at) in
    let x = steps_part steps s w.before (one (subtree t p) ++ w.behind) cuts (sym (events_of-builds built.0) ∙ w.is) in
    record { before = x.before; behind = x.behind; is = x.is; taken = x.taken ∙ w.starts }
