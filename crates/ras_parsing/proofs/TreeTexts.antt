-- The text of the tree that steps build.
use Rattle.std.proofs.Common.{◌≡◌, ℕ, List, [], ◌∷◌, ◌++◌, length, take, drop, refl, sym, ap, ◌∙◌, arith, append_assoc, append-nil, length-append}
use Rattle.std.proofs.lemmas.List.{take-append-drop}
use Rattle.tree_model.specs.Tree.{Tree, node, token, Forest, nil, cons, text, forest_text}
use Rattle.tree_model.specs.Events.{Event, enter, leaf, exit, events_of, BuildsNode, text_len}
use Rattle.tree_model.proofs.Balance.{events_of-builds}
use Rattle.ras_front_end.specs.Reading.{FrontStep, begins, takes, ends, reports, events_from, Cuts}

-- the texts of events, joined
abbrev texts : List Event → List ℕ
texts [] = []
texts (enter k ∷ es) = texts es
texts (leaf k t ∷ es) = t ++ texts es
texts (exit ∷ es) = texts es

texts-append : (es fs : List Event) → texts (es ++ fs) ≡ texts es ++ texts fs
texts-append [] fs = refl
texts-append (enter k ∷ es) fs = texts-append es fs
texts-append (leaf k t ∷ es) fs = ap (λ l. t ++ l) (texts-append es fs) ∙ sym (append_assoc t (texts es) (texts fs))
texts-append (exit ∷ es) fs = texts-append es fs

texts-events_of : (f : Forest) → texts (events_of f) ≡ forest_text f
texts-events_of nil = refl
texts-events_of (cons (token k t) r) = ap (λ l. t ++ l) (texts-events_of r)
texts-events_of (cons (node k c) r) =
    texts-append (events_of c) (exit ∷ events_of r)
    ∙ ap (λ l. l ++ texts (events_of r)) (texts-events_of c)
    ∙ ap (λ l. forest_text c ++ l) (texts-events_of r)

text_len-texts : (es : List Event) → text_len es ≡ length (texts es)
text_len-texts [] = refl
text_len-texts (enter k ∷ es) = text_len-texts es
text_len-texts (leaf k t ∷ es) = omega (arith, text_len-texts es, length-append t (texts es))
text_len-texts (exit ∷ es) = text_len-texts es

texts-events_from : (es : List FrontStep) (s : List ℕ) → Cuts es s → texts (events_from es s) ≡ s
texts-events_from [] s h = sym h
texts-events_from (begins k ∷ es) s h = texts-events_from es s h
texts-events_from (takes k n ∷ es) s h = ap (λ l. take n s ++ l) (texts-events_from es (drop n s) h.2) ∙ take-append-drop n s
texts-events_from (ends ∷ es) s h = texts-events_from es s h
texts-events_from (reports m p ∷ es) s h = texts-events_from es s h

text-cons : (t : Tree) → forest_text (cons t nil) ≡ text t
text-cons (node k c) = append-nil (forest_text c)
text-cons (token k t) = append-nil t

-- a tree of steps that cut the text has that text
pub built_text : (es : List FrontStep) (s : List ℕ) (t : Tree) → Cuts es s → BuildsNode (events_from es s) t → text t ≡ s
built_text es s t h b =
    sym (text-cons t) ∙ sym (texts-events_of (cons t nil)) ∙ ap texts (events_of-builds b.0) ∙ texts-events_from es s h

-- the bytes of events are those of the text that they build
pub built_len : (es : List Event) (t : Tree) → BuildsNode es t → text_len es ≡ length (text t)
built_len es t b = text_len-texts es ∙ ap length (sym (ap texts (events_of-builds b.0)) ∙ texts-events_of (cons t nil) ∙ text-cons t)
