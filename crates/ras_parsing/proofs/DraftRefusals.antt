-- What `draft_refusal` computes is the first refusal that holds of a draft.
use Rattle.std.proofs.Common.{◌⊎◌, inl, inr, ◌≡◌, ℕ, zero, suc, ◌<◌, ◌≤◌, List, [], ◌∷◌, length, get_or, refl, sym, ap, ◌∙◌, subst, arith, Bool, true, false}
use Rattle.std.specs.Prelude.{All, Any, Option, None, Some, nat_lt}
use Rattle.std.specs.List.{list_any}
use Rattle.std.specs.Option.{option_or}
use Rattle.std.proofs.lemmas.Bool.Decides.{nat_tests}
use Rattle.std.proofs.lemmas.List.Folds.{Any-from_list_any, list_any-from_Any}
use Rattle.tree_model.specs.declared.error.FinishError.{FinishError}
use Rattle.tree_model.specs.declared.error.FinishError.TheVariants.{TooLong, OverClosed, Unclosed, Empty, ManyRoots, TokenRoot, ErrorPastText, Memory}
use Rattle.tree_model.specs.Events.{Event, text_len, first_refusal, refusal_of, Holds, refusal_number, IsFirstRefusal, IsAccepted}
use Rattle.tree_model.proofs.Refusals.{first_refusal_is, none_accepted, accepted_none}
use Rattle.ras_front_end.specs.ErrorModel.{ErrorModel, LiesIn}
use Rattle.ras_parsing.specs.Draft.{Draft, DraftHolds, IsFirstDraftRefusal, IsAcceptedDraft, is_past, past_refusal, draft_refusal, AllForwards}
use Rattle.ras_parsing.proofs.PastErrors.{none_past}

-- ---- an error past the text

less : (n m : ℕ) → nat_lt n m ≡ true → n < m
less n m e = grind (arith, nat_tests)

is_less : (n m : ℕ) → n < m → nat_lt n m ≡ true
is_less n m e = grind (arith, nat_tests)

EndsPast : ℕ → List ErrorModel → Type 0
EndsPast n fs = Any (λ f. n < f.range.end) fs

past_by_test : (n : ℕ) (fs : List ErrorModel) → list_any (is_past n) fs ≡ true → EndsPast n fs
unfolding EndsPast
past_by_test n fs e =
    let found = Any-from_list_any (is_past n) fs e in
    (found.0, found.1, found.2, found.3, less n found.1.range.end found.4)

test_by_past : (n : ℕ) (fs : List ErrorModel) → EndsPast n fs → list_any (is_past n) fs ≡ true
unfolding EndsPast
test_by_past n fs p = list_any-from_Any (is_past n) fs (p.0, p.1, p.2, p.3, is_less n p.1.range.end p.4)

never_past : (n : ℕ) (fs : List ErrorModel) → list_any (is_past n) fs ≡ false → EndsPast n fs → ⊥
never_past n fs none p = (let bad : true ≡ false = sym (test_by_past n fs p) ∙ none in cc)

-- ---- names by their numbers

only_memory : (e : FinishError) → refusal_of e ≡ None → e ≡ Memory
only_memory TooLong h = (let no : Some TooLong ≡ None = h in cc)
only_memory OverClosed h = (let no : Some OverClosed ≡ None = h in cc)
only_memory Unclosed h = (let no : Some Unclosed ≡ None = h in cc)
only_memory Empty h = (let no : Some Empty ≡ None = h in cc)
only_memory ManyRoots h = (let no : Some ManyRoots ≡ None = h in cc)
only_memory TokenRoot h = (let no : Some TokenRoot ≡ None = h in cc)
only_memory ErrorPastText h = (let no : Some ErrorPastText ≡ None = h in cc)
only_memory Memory h = refl

is_named : (d e : FinishError) → refusal_of e ≡ Some d → e ≡ d
is_named d TooLong h = cc
is_named d OverClosed h = cc
is_named d Unclosed h = cc
is_named d Empty h = cc
is_named d ManyRoots h = cc
is_named d TokenRoot h = cc
is_named d ErrorPastText h = cc
is_named d Memory h = (let no : None ≡ Some d = h in cc)

-- what comes before a refusal of the events is no error past the text
not_past_before : (d : FinishError) (es : List Event) → Holds d es → refusal_of d ≡ Some d → refusal_number ErrorPastText < refusal_number d → ⊥
not_past_before TooLong es w h lt = absurd (omega (arith, lt))
not_past_before OverClosed es w h lt = absurd (omega (arith, lt))
not_past_before Unclosed es w h lt = absurd (omega (arith, lt))
not_past_before Empty es w h lt = absurd (omega (arith, lt))
not_past_before ManyRoots es w h lt = absurd (omega (arith, lt))
not_past_before TokenRoot es w h lt = absurd (omega (arith, lt))
not_past_before ErrorPastText es w h lt = absurd w
not_past_before Memory es w h lt = (let no : None ≡ Some Memory = h in cc)

-- ---- the three cases

of_events : (d : Draft) (e : FinishError) → IsFirstRefusal d.events e → refusal_of e ≡ Some e → IsFirstDraftRefusal d e
of_events d e w named = record { holds = inl w.holds; first = λ x lt h. before x lt h }
  where
    before : (x : FinishError) → refusal_number x < refusal_number e → DraftHolds x d → ⊥
    before x lt (inl h) = w.first x lt h
    before x lt (inr p) = not_past_before e d.events w.holds named (subst (λ y. refusal_number y < refusal_number e) p.0 lt)

none_before : (d : Draft) → IsAccepted d.events → (x : FinishError) → refusal_number x < refusal_number Memory → Holds x d.events → ⊥
none_before d w = (first_refusal_is d.events Memory (sym (accepted_none d.events w))).first

of_errors : (d : Draft) → IsAccepted d.events → EndsPast (text_len d.events) d.faults → IsFirstDraftRefusal d ErrorPastText
unfolding EndsPast
of_errors d w past = record { holds = inr (refl, past); first = λ x lt h. before x lt h }
  where
    before : (x : FinishError) → refusal_number x < refusal_number ErrorPastText → DraftHolds x d → ⊥
    before x lt (inl h) = none_before d w x (omega (arith, lt)) h
    before x lt (inr p) = (let same : refusal_number ErrorPastText < refusal_number ErrorPastText = subst (λ y. refusal_number y < refusal_number ErrorPastText) p.0 lt in absurd (omega (arith, same)))

of_memory : (d : Draft) → IsAccepted d.events → list_any (is_past (text_len d.events)) d.faults ≡ false → IsFirstDraftRefusal d Memory
unfolding EndsPast
of_memory d w none = record { holds = inl tt; first = λ x lt h. before x lt h }
  where
    before : (x : FinishError) → refusal_number x < refusal_number Memory → DraftHolds x d → ⊥
    before x lt (inl h) = none_before d w x lt h
    before x lt (inr p) = never_past (text_len d.events) d.faults none p.1

by_errors : (d : Draft) (e : FinishError) (b : Bool) → IsAccepted d.events → list_any (is_past (text_len d.events)) d.faults ≡ b → refusal_of e ≡ past_refusal b → IsFirstDraftRefusal d e
by_errors d e true w past h = subst (IsFirstDraftRefusal d) (sym (is_named ErrorPastText e h)) (of_errors d w (past_by_test (text_len d.events) d.faults past))
by_errors d e false w past h = subst (IsFirstDraftRefusal d) (sym (only_memory e h)) (of_memory d w past)

by_events : (d : Draft) (e : FinishError) (o : Option FinishError) → first_refusal d.events ≡ o → refusal_of e ≡ option_or o (past_refusal (list_any (is_past (text_len d.events)) d.faults)) → IsFirstDraftRefusal d e
by_events d e None is h = by_errors d e (list_any (is_past (text_len d.events)) d.faults) (none_accepted d.events is) refl h
by_events d e (Some x) is h = of_events d e (first_refusal_is d.events e (h ∙ sym is)) (h ∙ ap Some (sym (is_named x e h)))

-- what names the refusal that `draft_refusal` finds is the first that holds
pub draft_refusal_is : (d : Draft) (e : FinishError) → refusal_of e ≡ draft_refusal d → IsFirstDraftRefusal d e
draft_refusal_is d e h = by_events d e (first_refusal d.events) refl h

-- ---- accepted drafts

no_error : (b : Bool) → past_refusal b ≡ None → b ≡ false
no_error true h = (let no : Some ErrorPastText ≡ None = h in cc)
no_error false h = refl

not_less : (n m : ℕ) → nat_lt n m ≡ false → m ≤ n
not_less n m e = grind (arith, nat_tests)

accepted_by : (d : Draft) (o : Option FinishError) → first_refusal d.events ≡ o → option_or o (past_refusal (list_any (is_past (text_len d.events)) d.faults)) ≡ None → AllForwards d.faults → IsAcceptedDraft d
accepted_by d None is h f =
    let within = none_past (text_len d.events) d.faults (no_error (list_any (is_past (text_len d.events)) d.faults) h) f in
    record { events = none_accepted d.events is; errors = λ k x lt. (within k x lt).within }
accepted_by d (Some x) is h f = (let no : Some x ≡ None = h in cc)

-- where `draft_refusal` finds none, the draft is accepted
pub draft_accepted : (d : Draft) → draft_refusal d ≡ None → AllForwards d.faults → IsAcceptedDraft d
draft_accepted d h f = accepted_by d (first_refusal d.events) refl h f
