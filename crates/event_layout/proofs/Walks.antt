-- One move of a walk after another.
use Rattle.std.proofs.Common.{◌≡◌, List, ap, ◌∙◌, subst, refl}
use Rattle.ras_front_end.specs.Reading.{FrontStep}
use Rattle.event_layout.specs.declared.layout.Layout.{Layout}
use Rattle.event_layout.specs.Layout.{Given, Laying, IsOver, laying_of, anywhere, finish_of}
use Rattle.event_layout.specs.Walk.{IsLaid, IsLaidAnywhere, Moved}
use Rattle.event_layout.proofs.Idle.{finish_anywhere}

module _ {S : Type 0} (took : S → List FrontStep → Type 0) where
  -- two moves
  pub then : (a b c : Layout S) (f g : Laying → Laying) → Moved took a b f → Moved took b c g → Moved took a c (λ s. g (f s))
  then a b c f g first second steps had =
      let mid = first steps had in subst (λ s. IsLaid took c (g s)) mid.same (second (f (laying_of a steps)).steps mid.taken)

  -- no move
  pub unmoved : (a : Layout S) (f : Laying → Laying) → ((steps : List FrontStep) → laying_of a steps ≡ f (laying_of a steps)) → Moved took a a f
  unmoved a f same steps had = subst (IsLaid took a) (same steps) (record { taken = had; same = refl })

  -- the same move under another name
  pub alike : (a b : Layout S) (f g : Laying → Laying) → ((steps : List FrontStep) → f (laying_of a steps) ≡ g (laying_of a steps)) → Moved took a b f → Moved took a b g
  alike a b f g same moved steps had = subst (IsLaid took b) (same steps) (moved steps had)

  -- a move on
  pub laid_on : (a b : Layout S) (s : Laying) (f : Laying → Laying) → IsLaid took a s → Moved took a b f → IsLaid took b (f s)
  laid_on a b s f laid moved = subst (λ t. IsLaid took b (f t)) laid.same (moved s.steps laid.taken)

  -- behind the last event
  pub over_laid : (g : Given) (l : Layout S) (s : Laying) (steps : List FrontStep) → IsLaid took l s → IsOver g (laying_of l steps) → IsOver g s
  over_laid g l s steps laid over =
      let all : IsOver g (laying_of l s.steps) = record { no_node = over.no_node; no_event = over.no_event; no_start = over.no_start; fits = over.fits } in
      subst (IsOver g) laid.same all

  -- all steps are given away at the end
  pub record Ended (l : Layout S) (whole : Laying) : Type 0 where
    pub taken : took l.sink whole.steps
    pub faults : l.faults.items ≡ whole.faults

  pub ended : (a b : Layout S) (s : Laying) → IsLaidAnywhere took a s → Moved took a b finish_of → Ended b (finish_of s)
  ended a b s h moved =
      let last = laid_on a b h.some finish_of h.laid moved in
      let all : anywhere (finish_of h.some) ≡ anywhere (finish_of s) = finish_anywhere h.some s h.alike in
      record {
        taken = subst (took b.sink) (ap (λ (x : Laying). x.steps) all) last.taken;
        faults = ap (λ (x : Laying). x.faults) last.same ∙ ap (λ (x : Laying). x.faults) all;
      }
