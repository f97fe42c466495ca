-- The texts of events, and of the forest that they build.
use Rattle.std.proofs.Common.{◌≡◌, List, [], ◌∷◌, ◌++◌, length, refl, sym, ap, ◌∙◌, arith, append_assoc, append-nil, length-append}
use Rattle.tree_model.specs.Tree.{Tree, node, token, Forest, nil, cons, text, forest_text}
use Rattle.tree_model.specs.Events.{Event, enter, leaf, exit, events_of, texts, text_len}

pub texts-append : (es fs : List Event) → texts (es ++ fs) ≡ texts es ++ texts fs
texts-append [] fs = refl
texts-append (enter k ∷ es) fs = texts-append es fs
texts-append (leaf k t ∷ es) fs = ap (λ l. t ++ l) (texts-append es fs) ∙ sym (append_assoc t (texts es) (texts fs))
texts-append (exit ∷ es) fs = texts-append es fs

pub texts-events_of : (f : Forest) → texts (events_of f) ≡ forest_text f
texts-events_of nil = refl
texts-events_of (cons (token k t) r) = ap (λ l. t ++ l) (texts-events_of r)
texts-events_of (cons (node k c) r) =
    texts-append (events_of c) (exit ∷ events_of r)
    ∙ ap (λ l. l ++ texts (events_of r)) (texts-events_of c)
    ∙ ap (λ l. forest_text c ++ l) (texts-events_of r)

pub text_len-texts : (es : List Event) → text_len es ≡ length (texts es)
text_len-texts [] = refl
text_len-texts (enter k ∷ es) = text_len-texts es
text_len-texts (leaf k t ∷ es) = omega (arith, text_len-texts es, length-append t (texts es))
text_len-texts (exit ∷ es) = text_len-texts es

pub forest_text-one : (t : Tree) → forest_text (cons t nil) ≡ text t
forest_text-one (node k c) = append-nil (forest_text c)
forest_text-one (token k t) = append-nil t
