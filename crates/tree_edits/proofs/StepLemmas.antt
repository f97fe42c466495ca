-- The table of steps that are one tree, and a walk with changes, step by step.
use Rattle.std.proofs.Common.{◌≡◌, ℕ, zero, suc, ◌+◌, ◌<◌, ◌≤◌, List, [], ◌∷◌, ◌++◌, length, drop, get_or, refl, sym, ap, ◌∙◌, subst, arith, append_assoc, append-nil, filter_map, true, false, Bool}
use Rattle.std.specs.Prelude.{Option, None, Some, if◌then◌else◌, Result, Ok, Err, IsErrOf, IfOk, ◌↔◌}
use Rattle.std.proofs.Common.{◌-◌}
use Rattle.tree_edits.specs.declared.error.ChangeError.{ChangeError}
use Rattle.tree_edits.specs.declared.error.ChangeError.TheVariants.{TooLong, Memory}
use Rattle.tree_rows.specs.Walks.{IsWalk, open_count, walk_left}
use Rattle.tree_rows.proofs.WalkSteps.{open_row, depth_row, walk_left-whole}
use Rattle.tree_model.specs.Tree.{Tree, node, token, Forest, nil, cons, Place, text, IsNode, no_tree, size}
use Rattle.tree_model.specs.Cursor.{Cursor, focus}
use Rattle.tree_model.specs.Events.{Event, events_of, text_len, BuildsNode, Builds, forest_of}
use Rattle.tree_model.proofs.EventTexts.{texts-events_of, text_len-texts, forest_text-one}
use Rattle.tree_model.proofs.Balance.{builds-events_of, events_of-builds}
use Rattle.tree_model.specs.TreeCode.{forest_of-events_of}
use Rattle.std.proofs.lemmas.List.{drop_more, drop_all}
use Rattle.tree_rows.specs.declared.builder_event.BuilderEvent.{BuilderEvent}
use Rattle.tree_rows.specs.Builder.{events_from, TextsFit, IsOneTree}
use Rattle.tree_rows.proofs.FinishLemmas.{event_text_len, all_events}
use Rattle.tree_edit_model.specs.Changes.{Change, forest_from, changed, changed_whole}
use Rattle.tree_edits.specs.Walked.{step_events, events_inside, AreChangesOf, entered, left, skip_after, events_from_all, walked, IsOneNode, Stepped}
use Rattle.tree_edits.proofs.WalkLemmas.{events_of-cons, walked-walk_of, changed_whole-root}

pub length_is : (steps : List BuilderEvent) (s : List ℕ) (es : List Event) → TextsFit steps s → events_from steps s ≡ es → text_len es ≡ length s
length_is steps s es f e = ap text_len (sym e) ∙ event_text_len steps s f

builds : (es : List Event) (w : IsOneNode es) → Builds es (cons w.tree nil)
builds es w = subst (λ l. Builds l (cons w.tree nil)) (sym w.is) (builds-events_of (cons w.tree nil))

pub one_tree : (steps given : List BuilderEvent) (s t : List ℕ) (es : List Event) → given ≡ steps → t ≡ s → TextsFit steps s → events_from steps s ≡ es → IsOneNode es → IsOneTree (filter_map Some given) t
one_tree steps given s t es e f fits events w =
    let one : IsOneTree steps s = record { tree = w.tree; fits = fits; builds = (subst (λ l. Builds l (cons w.tree nil)) (sym events) (builds es w), w.node) } in
    subst (λ l. IsOneTree l t) (sym (all_events given ∙ e)) (subst (IsOneTree steps) (sym f) one)

pub only_tree : (steps given : List BuilderEvent) (s t : List ℕ) (es : List Event) (u : Tree) → given ≡ steps → t ≡ s → events_from steps s ≡ es → BuildsNode (events_from (filter_map Some given) t) u → events_of (cons u nil) ≡ es
only_tree steps given s t es u e f events h =
    let built : BuildsNode (events_from steps s) u = subst (λ x. BuildsNode (events_from steps x) u) f (subst (λ l. BuildsNode (events_from l t) u) (all_events given ∙ e) h) in
    events_of-builds built.0 ∙ events

first : Forest → Tree
first nil = no_tree
first (cons t r) = t

-- the tree that has the events of another one is that one
pub same_tree : (t u : Tree) → events_of (cons t nil) ≡ events_of (cons u nil) → t ≡ u
unfolding first
same_tree t u e = ap first (sym (forest_of-events_of (cons t nil)) ∙ ap forest_of e ∙ forest_of-events_of (cons u nil))

pub tree_text_len : (t : Tree) → text_len (events_of (cons t nil)) ≡ length (text t)
tree_text_len t = text_len-texts (events_of (cons t nil)) ∙ ap length (texts-events_of (cons t nil)) ∙ ap length (forest_text-one t)

pub is_one : (es : List Event) (t : Tree) → es ≡ events_of (cons t nil) → IsNode t → IsOneNode es
is_one es t e n = record { tree = t; is = e; node = n }

-- ---- lists of elements

pub elements-step : (out new whole : List Event) (ts : List Tree) (i : ℕ) (t : Tree) → i < length ts → get_or ts i t ≡ t → new ≡ out ++ events_of (cons t nil) → out ++ events_of (forest_from (drop i ts)) ≡ whole → new ++ events_of (forest_from (drop (i + 1) ts)) ≡ whole
elements-step out new whole ts i t lt is added h =
    let cut : drop i ts ≡ t ∷ drop (i + 1) ts = drop_more ts i t lt ∙ ap (λ x. x ∷ drop (i + 1) ts) is in
    ap (λ l. l ++ events_of (forest_from (drop (i + 1) ts))) added
    ∙ append_assoc out (events_of (cons t nil)) (events_of (forest_from (drop (i + 1) ts)))
    ∙ ap (λ l. out ++ l) (sym (events_of-cons t (forest_from (drop (i + 1) ts))))
    ∙ ap (λ l. out ++ events_of (forest_from l)) (sym cut) ∙ h

pub elements-end : (out whole : List Event) (ts : List Tree) (i : ℕ) → length ts ≤ i → out ++ events_of (forest_from (drop i ts)) ≡ whole → out ≡ whole
elements-end out whole ts i h e = sym (append-nil out) ∙ ap (λ l. out ++ events_of (forest_from l)) (sym (drop_all i ts h)) ∙ e

-- ---- a walk with changes

pub stepped-entered : (at : Place → Change) (out new : List Event) (d : Cursor) (t : ℕ) → new ≡ out ++ entered (at d.place) (focus d) → t ≡ skip_after (at d.place) → Stepped at out new true d 0 t
stepped-entered at out new d t added next = record {
  made = λ rest. ap (λ l. l ++ walked at t rest) added ∙ append_assoc out (entered (at d.place) (focus d)) (walked at t rest) ∙ ap (λ n. out ++ (entered (at d.place) (focus d) ++ walked at n rest)) next;
}

pub stepped-left : (at : Place → Change) (out new : List Event) (d : Cursor) → new ≡ out ++ left (at d.place) (focus d) → Stepped at out new false d 0 0
stepped-left at out new d added = record { made = λ rest. ap (λ l. l ++ walked at 0 rest) added ∙ append_assoc out (left (at d.place) (focus d)) (walked at 0 rest) }

pub stepped-deeper : (at : Place → Change) (out : List Event) (d : Cursor) (s t : ℕ) → 0 < s → t ≡ s + 1 → Stepped at out out true d s t
stepped-deeper at out d zero t some next = absurd (omega arith)
stepped-deeper at out d (suc s) t some next = let e : t ≡ suc (suc s) = omega arith in record { made = λ rest. ap (λ n. out ++ walked at n rest) e }

pub stepped-higher : (at : Place → Change) (out : List Event) (d : Cursor) (s t : ℕ) → 0 < t → t + 1 ≡ s → Stepped at out out false d s t
stepped-higher at out d s zero some next = absurd (omega arith)
stepped-higher at out d s (suc t) some next = let e : s ≡ suc (suc t) = omega arith in record { made = λ rest. ap (λ n. out ++ walked at n ((false, d) ∷ rest)) (sym e) }

pub stepped-after : (at : Place → Change) (out new : List Event) (d : Cursor) (s t : ℕ) → s ≡ 1 → t ≡ 0 → new ≡ out ++ events_from_all (at d.place).after → Stepped at out new false d s t
stepped-after at out new d s t one none added = record {
  made = λ rest.
      ap (λ n. new ++ walked at n rest) none ∙ ap (λ l. l ++ walked at 0 rest) added ∙ append_assoc out (events_from_all (at d.place).after) (walked at 0 rest)
      ∙ ap (λ n. out ++ walked at n ((false, d) ∷ rest)) (sym one);
}

pub walk-step : (at : Place → Change) (out new whole : List Event) (enters : Bool) (d : Cursor) (w rest : List (Bool × Cursor)) (s t : ℕ) → w ≡ (enters, d) ∷ rest → Stepped at out new enters d s t → out ++ walked at s w ≡ whole → new ++ walked at t rest ≡ whole
walk-step at out new whole enters d w rest s t is step h = step.made rest ∙ ap (λ l. out ++ walked at s l) (sym is) ∙ h

pub walk-end : (at : Place → Change) (out whole : List Event) (w : List (Bool × Cursor)) (s : ℕ) → w ≡ [] → out ++ walked at s w ≡ whole → out ≡ whole
walk-end at out whole w s is h = sym (append-nil out) ∙ ap (λ l. out ++ l) (nothing at s) ∙ ap (λ l. out ++ walked at s l) (sym is) ∙ h
  where
    nothing : (at : Place → Change) (s : ℕ) → [] ≡ walked at s []
    nothing at s = refl

-- ---- the functions' goals

pub not_too_long_ok : {T : Type 0} (x : T) (P : Type 0) → (P → ⊥) → IsErrOf {T = T} {E = ChangeError} (Ok x) TooLong ↔ P
not_too_long_ok x P h = (λ e. (let no : Ok x ≡ Err TooLong = e in cc), λ p. absurd (h p))

pub memory_not_too_long : {T : Type 0} (P : Type 0) → (P → ⊥) → IsErrOf {T = T} {E = ChangeError} (Err Memory) TooLong ↔ P
memory_not_too_long {T} P h = (λ e. (let no : ◌≡◌ {A = Result T ChangeError} (Err Memory) (Err TooLong) = e in cc), λ p. absurd (h p))

pub ok_along : {A E : Type 0} (r : Result A E) (P Q : A → Type 0) → ((x : A) → P x → Q x) → IfOk r P → IfOk r Q
ok_along (Ok x) P Q f h = f x h
ok_along (Err e) P Q f h = tt

pub entered_replaced : (c : Change) (t : Tree) (out o1 o2 : List Event) → c.replaced ≡ true → o1 ≡ out ++ events_from_all c.before → o2 ≡ o1 ++ events_from_all c.instead → o2 ≡ out ++ entered c t
entered_replaced c t out o1 o2 yes' a b =
    b ∙ ap (λ l. l ++ events_from_all c.instead) a ∙ append_assoc out (events_from_all c.before) (events_from_all c.instead)
    ∙ ap (λ r. out ++ (events_from_all c.before ++ (if r then events_from_all c.instead else (step_events t true ++ events_inside t c.first)))) (sym yes')

pub entered_kept : (c : Change) (t : Tree) (out o1 o2 o3 : List Event) → c.replaced ≡ false → o1 ≡ out ++ events_from_all c.before → o2 ≡ o1 ++ step_events t true → o3 ≡ o2 ++ events_inside t c.first → o3 ≡ out ++ entered c t
entered_kept c t out o1 o2 o3 kept a b d =
    d ∙ ap (λ l. l ++ events_inside t c.first) (b ∙ ap (λ l. l ++ step_events t true) a)
    ∙ append_assoc (out ++ events_from_all c.before) (step_events t true) (events_inside t c.first)
    ∙ append_assoc out (events_from_all c.before) (step_events t true ++ events_inside t c.first)
    ∙ ap (λ r. out ++ (events_from_all c.before ++ (if r then events_from_all c.instead else (step_events t true ++ events_inside t c.first)))) (sym kept)

pub left_made : (c : Change) (t : Tree) (out o1 o2 o3 : List Event) → o1 ≡ out ++ events_inside t c.last → o2 ≡ o1 ++ step_events t false → o3 ≡ o2 ++ events_from_all c.after → o3 ≡ out ++ left c t
left_made c t out o1 o2 o3 a b d =
    d ∙ ap (λ l. l ++ events_from_all c.after) (b ∙ ap (λ l. l ++ step_events t false) a)
    ∙ append_assoc (out ++ events_inside t c.last) (step_events t false) (events_from_all c.after)
    ∙ append_assoc out (events_inside t c.last) (step_events t false ++ events_from_all c.after)

pub level_kept : (enters : Bool) (s t before after : ℕ) → t ≤ (if enters then s + 1 else (s - 1)) → s ≤ before → (enters ≡ true → after ≡ before + 1) → (enters ≡ false → after + 1 ≡ before) → t ≤ after
level_kept true s t before after h k up down = omega (arith, h, k, up refl)
level_kept false s t before after h k up down = omega (arith, h, k, down refl)

pub open_fits : (whole : Tree) (next : ℕ) (o : Option ℕ) → IsWalk whole 0 next o → open_count whole 0 o ≤ size whole
open_fits whole next None w = omega arith
open_fits whole next (Some o) w = let is_row = open_row whole 0 next o w in omega (arith, is_row, depth_row whole o is_row)

pub walked-root : (at : Place → Change) (t : Tree) → walked at 0 (walk_left t 0 0 None) ≡ events_of (changed_whole at t)
walked-root at (node k c) = ap (walked at 0) (walk_left-whole (node k c) 0) ∙ walked-walk_of at (node k c)
walked-root at (token k x) = ap (walked at 0) (walk_left-whole (token k x) 0) ∙ walked-walk_of at (token k x)

pub changed_node : (at : Place → Change) (t : Tree) → IsNode t → IsNode (changed at t)
changed_node at (node k c) h = tt
changed_node at (token k x) h = h

pub made_tree : (at : Place → Change) (t : Tree) (marks : List ℕ) (changes : List Change) (none out : List Event) → AreChangesOf at t marks changes → IsNode t → none ≡ [] → out ≡ none ++ events_of (changed_whole at t) → out ≡ events_of (cons (changed at t) nil)
made_tree at t marks changes none out w n e h = h ∙ ap (λ l. l ++ events_of (changed_whole at t)) e ∙ ap events_of (changed_whole-root at t n w.none_before w.none_instead w.none_after)
