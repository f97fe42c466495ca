-- The events of steps, whose texts are cut from a text of several parts.
use Rattle.std.proofs.Common.{◌≡◌, ℕ, ◌≤◌, List, [], ◌∷◌, ◌++◌, length, drop, refl, sym, ap, ap₂, subst, ◌∙◌, arith}
use Rattle.std.proofs.lemmas.List.{take-append-le, drop-append-le, length-drop, length-take-le}
use Rattle.tree_model.specs.Edit.{replace}
use Rattle.tree_model.specs.Events.{Event, enter, leaf, exit, BuildsNode, text_len}
use Rattle.ras_front_end.specs.Reading.{FrontStep, begins, takes, ends, reports, events_from, Cuts}
use Rattle.event_layout.specs.Filled.{bytes_taken}
use Rattle.document_laws.specs.Blocks.{IsAt}
use Rattle.document_laws.specs.Steps.{BlocksOfStepsAreAtPlaces}
use Rattle.document_laws.proofs.Holes.{blocks_at}

pub both : (xs ys : List FrontStep) (s r : List ℕ) → bytes_taken xs ≡ length s → events_from (xs ++ ys) (s ++ r) ≡ events_from xs s ++ events_from ys r
both [] ys [] r h = refl
both [] ys (b ∷ s) r h = absurd (omega (arith, h))
both (begins k ∷ xs) ys s r h = ap (λ (es : List Event). enter k ∷ es) (both xs ys s r h)
both (takes k n ∷ xs) ys s r h =
    let few : n ≤ length s = omega (arith, h) in
    ap₂ (λ (w : List ℕ) (es : List Event). leaf k w ∷ es) (take-append-le n s r few)
    (ap (events_from (xs ++ ys)) (drop-append-le n s r few) ∙ both xs ys (drop n s) r (omega (arith, h, length-drop n s)))
both (ends ∷ xs) ys s r h = ap (λ (es : List Event). exit ∷ es) (both xs ys s r h)
both (reports m p ∷ xs) ys s r h = both xs ys s r h

pub text_taken : (xs : List FrontStep) (s : List ℕ) → bytes_taken xs ≡ length s → text_len (events_from xs s) ≡ bytes_taken xs
text_taken [] s h = refl
text_taken (begins k ∷ xs) s h = text_taken xs s h
text_taken (takes k n ∷ xs) s h =
    omega (arith, length-take-le n s (omega (arith, h)), text_taken xs (drop n s) (omega (arith, h, length-drop n s)))
text_taken (ends ∷ xs) s h = text_taken xs s h
text_taken (reports m p ∷ xs) s h = text_taken xs s h

pub cuts_all : (xs : List FrontStep) (s : List ℕ) → Cuts xs s → bytes_taken xs ≡ length s
cuts_all [] s h = ap length (sym h)
cuts_all (begins k ∷ xs) s h = cuts_all xs s h
cuts_all (takes k n ∷ xs) s h = omega (arith, cuts_all xs (drop n s) h.2, length-drop n s, h.0)
cuts_all (ends ∷ xs) s h = cuts_all xs s h
cuts_all (reports m p ∷ xs) s h = cuts_all xs s h

three : (before own behind : List FrontStep) (a p c : List ℕ) → bytes_taken before ≡ length a → Cuts own p
    → events_from (before ++ (own ++ behind)) (a ++ (p ++ c)) ≡ events_from before a ++ (events_from own p ++ events_from behind c)
three before own behind a p c h k =
    both before (own ++ behind) a (p ++ c) h ∙ ap (λ (es : List Event). events_from before a ++ es) (both own behind p c (cuts_all own p k))

pub steps_at : BlocksOfStepsAreAtPlaces
steps_at a p c before own behind t old h k whole block =
    let w : IsAt (events_from before a) (events_from behind c) t old =
    blocks_at (events_from before a) (events_from own p) (events_from behind c) t old (subst (λ (es : List Event). BuildsNode es t) (three before own behind a p c h k) whole) block in
    record {
      place = w.place;
      is_place = w.is_place;
      is_old = w.is_old;
      starts = w.starts ∙ text_taken before a h ∙ h;
      replaced = λ q new piece cuts b.
          subst (λ (es : List Event). BuildsNode es (replace t w.place piece)) (sym (three before new behind a q c h cuts)) (w.replaced (events_from new q) piece b);
    }
