-- How the logic stores a tree: as the events that build it.
use Rattle.std.specs.Prelude.{◌≡◌, ℕ, List, [], ◌∷◌, ◌++◌, Option, None, Some, refl}
use Rattle.std.proofs.Common.{sym, ap, ◌∙◌, append_assoc, append-nil}
use Rattle.std.specs.Coded.{Coded, code_by, coded×, coded_ℕ, coded_list, coded_option}
use Rattle.syntax_kind.specs.declared.syntax_kind.SyntaxKind.{SyntaxKind}
use Rattle.syntax_kind.specs.contracts.syntax_kind.SyntaxKind.{the_row}
use Rattle.tree_model.specs.Tree.{Tree, node, token, Forest, nil, cons, no_tree}
use Rattle.tree_model.specs.Events.{Event, enter, leaf, exit, events_of, forests, first_forest, later_forests, forest_of, append_forest}

abbrev pub kind_code : Coded SyntaxKind
kind_code = the_row.coded

abbrev event_parts : Event → Option (SyntaxKind × Option (List ℕ))
event_parts (enter k) = Some (k, None)
event_parts (leaf k t) = Some (k, Some t)
event_parts exit = None

abbrev event_from : Option (SyntaxKind × Option (List ℕ)) → Event
event_from None = exit
event_from (Some (k, None)) = enter k
event_from (Some (k, Some t)) = leaf k t

pub event_from-event_parts : (e : Event) → event_from (event_parts e) ≡ e
event_from-event_parts (enter k) = refl
event_from-event_parts (leaf k t) = refl
event_from-event_parts exit = refl

abbrev pub event_code : Coded Event
event_code = code_by (Option (SyntaxKind × Option (List ℕ))) (coded_option (coded× kind_code (coded_option (coded_list coded_ℕ)))) event_parts event_from event_from-event_parts

pub append_forest-nil : (f : Forest) → append_forest f nil ≡ f
append_forest-nil nil = refl
append_forest-nil (cons t r) = ap (cons t) (append_forest-nil r)

-- there is always a first one
pub forests-cons : (es : List Event) → first_forest (forests es) ∷ later_forests (forests es) ≡ forests es
unfolding forests
forests-cons [] = refl
forests-cons (enter k ∷ es) = refl
forests-cons (leaf k t ∷ es) = refl
forests-cons (exit ∷ es) = refl

pub forests-events_of : (f : Forest) (es : List Event) → forests (events_of f ++ es) ≡ append_forest f (first_forest (forests es)) ∷ later_forests (forests es)
unfolding forests
forests-events_of nil es = sym (forests-cons es)
forests-events_of (cons (token k t) r) es =
    ap (λ fs. cons (token k t) (first_forest fs) ∷ later_forests fs) (forests-events_of r es)
forests-events_of (cons (node k c) r) es =
    let step : List Forest → List Forest = λ fs. cons (node k (first_forest fs)) (first_forest (later_forests fs)) ∷ later_forests (later_forests fs) in
    ap (λ l. step (forests l)) (append_assoc (events_of c) (exit ∷ events_of r) es)
    ∙ ap step (forests-events_of c (exit ∷ (events_of r ++ es)))
    ∙ ap (λ g. cons (node k g) (first_forest (forests (events_of r ++ es))) ∷ later_forests (forests (events_of r ++ es))) (append_forest-nil c)
    ∙ ap (λ fs. cons (node k c) (first_forest fs) ∷ later_forests fs) (forests-events_of r es)

pub forest_of-events_of : (f : Forest) → forest_of (events_of f) ≡ f
unfolding forests
forest_of-events_of f =
    ap (λ l. first_forest (forests l)) (sym (append-nil (events_of f)))
    ∙ ap first_forest (forests-events_of f []) ∙ append_forest-nil f

abbrev first_tree : Forest → Tree
first_tree nil = no_tree
first_tree (cons t r) = t

abbrev pub tree_code : Coded Tree
tree_code = code_by (List Event) (coded_list event_code) (λ t. events_of (cons t nil)) (λ es. first_tree (forest_of es)) (λ t. ap first_tree (forest_of-events_of (cons t nil)))

abbrev pub forest_code : Coded Forest
forest_code = code_by (List Event) (coded_list event_code) events_of forest_of forest_of-events_of
