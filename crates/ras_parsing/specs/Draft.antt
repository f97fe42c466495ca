-- The contents of a builder of a tree with errors, and the reasons why they may not make a parse.
use Rattle.std.specs.Prelude.{◌≡◌, ℕ, ◌≤◌, ◌<◌, ◌⊎◌, List, Option, Some, None, Bool, All, Any, nat_lt, if◌then◌else◌, refl}
use Rattle.std.specs.Coded.{Coded, code_by, coded×, coded_list}
use Rattle.std.specs.List.{list_any}
use Rattle.std.specs.Option.{option_or}
use Rattle.tree_model.specs.declared.error.FinishError.{FinishError}
use Rattle.tree_model.specs.declared.error.FinishError.TheVariants.{ErrorPastText}
use Rattle.tree_model.specs.TreeCode.{event_code}
use Rattle.tree_model.specs.Events.{Event, text_len, first_refusal, Holds, refusal_number, IsAccepted}
use Rattle.ras_front_end.specs.ErrorModel.{ErrorModel, fault_code}

pub record Draft : Type 0 where
  pub events : List Event
  pub faults : List ErrorModel

abbrev pub draft_code : Coded Draft
draft_code = code_by (List Event × List ErrorModel) (coded× (coded_list event_code) (coded_list fault_code)) (λ d. (d.events, d.faults)) (λ p. record { events = p.0; faults = p.1 }) (λ _. refl)

-- what each error means for a draft: the same as for the events, and for an error past the text
-- that some error ends there
abbrev pub DraftHolds : FinishError → Draft → Type 0
DraftHolds e d = Holds e d.events ⊎ ((e ≡ ErrorPastText) × Any (λ f. text_len d.events < f.range.end) d.faults)

-- the error applies to the draft, and none before it: so out of memory is returned only if no other
-- error applies
pub record IsFirstDraftRefusal (d : Draft) (e : FinishError) : Type 0 where
  pub holds : DraftHolds e d
  pub first : (x : FinishError) → refusal_number x < refusal_number e → DraftHolds x d → ⊥

-- the events build one node, and each error ends within its text
pub record IsAcceptedDraft (d : Draft) : Type 0 where
  pub events : IsAccepted d.events
  pub errors : All (λ f. f.range.end ≤ text_len d.events) d.faults

-- the error ends past a text of n bytes
abbrev pub is_past : ℕ → ErrorModel → Bool
is_past n f = nat_lt n f.range.end

abbrev pub past_refusal : Bool → Option FinishError
past_refusal b = if b then Some ErrorPastText else None

-- the first error that applies, other than out of memory, as it is computed: those of the events,
-- and then that of the errors
abbrev pub draft_refusal : Draft → Option FinishError
draft_refusal d = option_or (first_refusal d.events) (past_refusal (list_any (is_past (text_len d.events)) d.faults))

abbrev pub AllForwards : List ErrorModel → Type 0
AllForwards fs = All (λ f. f.range.start ≤ f.range.end) fs
