-- How rows come from steps, one after another; the steps of a forest give its rows and their
-- parents.
use Rattle.std.proofs.Common.{◌≡◌, ℕ, suc, ◌+◌, ◌<◌, ◌≤◌, List, ◌∷◌, ◌++◌, length, get_or, map, refl, sym, ap, ◌∙◌, arith, append_assoc, append-nil, length-append, true, false, drop, []}
use Rattle.std.specs.Prelude.{cond, nat_lt, Option, filter_map}
use Rattle.std.proofs.Math.ListN.{set, get_or-map, drop_of_length-le}
use Rattle.std.proofs.Math.Seq.{set-append_seam, get_or-append_seam, map-set_same}
use Rattle.std.proofs.lemmas.Bool.Decides.{nat_tests}
use Rattle.std.proofs.lemmas.List.{map-append, map-set, length-map}
use Rattle.tree_rows.specs.declared.builder_event.BuilderEvent.{BuilderEvent}
use Rattle.tree_rows.specs.declared.builder_event.BuilderEvent.TheVariants.{Exit}
use Rattle.tree_model.specs.Tree.{node, token, Forest, nil, cons, forest_text, forest_size}
use Rattle.tree_model.specs.Events.{exit, events_of}
use Rattle.tree_rows.specs.Builder.{step_of}
use Rattle.tree_rows.specs.Rows.{no_row, one_row, joined, columns_of}
use Rattle.tree_rows.specs.Making.{Making, making, after_step, run, nothing_made}
use Rattle.tree_model.proofs.At.{cong₂}
use Rattle.tree_rows.proofs.Hung.{Hung, hung_of, columns, row_in, up_in, columns-append}
use Rattle.tree_rows.proofs.At.{length-hung_of}
use Rattle.tree_rows.proofs.Parents.{columns_of-hung}

abbrev pub steps_of : Forest → List BuilderEvent
steps_of f = map step_of (events_of f)

in_range : (s t : Making) (m n : ℕ) → m < n → cond (nat_lt m n) s t ≡ s
in_range s t m n h = grind (arith, nat_tests)

-- the exit of the node whose row is h, after the rows C of its children
exit_step : (hs C : List Hung) (h : Hung) (n e a : ℕ) → n ≡ length hs → e ≡ suc (n + length C)
    → after_step Exit (making (columns (hs ++ h ∷ C)) n a) ≡ making (columns (hs ++ record { row = record h.row { end = e }; up = h.up } ∷ C)) h.up a
exit_step hs C h n e a is_n is_e =
    let all = hs ++ h ∷ C in
    let none : Hung = record { row = no_row; up = 0 } in
    let left : Hung = record { row = record h.row { end = e }; up = h.up } in
    let rows = map row_in all in
    let ups = map up_in all in
    let found : get_or all n none ≡ h = ap (λ i. get_or all i none) is_n ∙ get_or-append_seam hs h C none in
    let put : set all n left ≡ hs ++ left ∷ C = ap (λ i. set all i left) is_n ∙ set-append_seam hs h C left in
    let len : length rows ≡ e = omega (arith, length-map all row_in, length-append hs (h ∷ C), is_n, is_e) in
    let within : n < length rows = omega (arith, len, is_e) in
    let row_there : get_or rows n no_row ≡ h.row = get_or-map row_in all n none ∙ ap row_in found in
    let up_there : get_or ups n 0 ≡ h.up = get_or-map up_in all n none ∙ ap up_in found in
    let new_rows : set rows n left.row ≡ map row_in (hs ++ left ∷ C) = sym (map-set row_in all n left) ∙ ap (map row_in) put in
    let new_ups : ups ≡ map up_in (hs ++ left ∷ C) = sym (map-set_same up_in all n left none (sym (ap up_in found))) ∙ ap (map up_in) put in
    in_range (making (record { rows = set rows n (record (get_or rows n no_row) { end = length rows }); parents = ups }) (get_or ups n 0) a) (making (columns all) n a) n (length rows) within
    ∙ cong₂ (λ x l. making (record { rows = set rows n (record x { end = l }); parents = ups }) (get_or ups n 0) a) row_there len
    ∙ ap (λ u. making (record { rows = set rows n left.row; parents = ups }) u a) up_there
    ∙ cong₂ (λ x y. making (record { rows = x; parents = y }) h.up a) new_rows new_ups

pub run-steps_of : (f : Forest) (es : List BuilderEvent) (hs : List Hung) (up at : ℕ)
    → run (steps_of f ++ es) (making (columns hs) up at) ≡ run es (making (columns (hs ++ hung_of f (length hs) at up)) up (at + length (forest_text f)))
run-steps_of nil es hs up at = cong₂ (λ l a. run es (making (columns l) up a)) (sym (append-nil hs)) (omega arith)
run-steps_of (cons (token k t) f) es hs up at =
    let h : ℕ → Hung = λ e. record { row = record { kind = k; is_token = true; start = at; end = e }; up = up } in
    let n = suc (length hs) in
    let is_end : length (map row_in hs) + 1 ≡ n = omega (arith, length-map hs row_in) in
    let is_n : length (hs ++ h n ∷ []) ≡ n = omega (arith, length-append hs (h n ∷ [])) in
    ap (λ e. run (steps_of f ++ es) (making (joined (columns hs) (one_row (row_in (h e)) up)) up (at + length t))) is_end
    ∙ ap (λ c. run (steps_of f ++ es) (making c up (at + length t))) (sym (columns-append hs (h n ∷ [])))
    ∙ run-steps_of f es (hs ++ h n ∷ []) up (at + length t)
    ∙ cong₂ (λ l a. run es (making (columns l) up a))
    (append_assoc hs (h n ∷ []) (hung_of f (length (hs ++ h n ∷ [])) (at + length t) up) ∙ ap (λ m. hs ++ (h n ∷ hung_of f m (at + length t) up)) is_n)
    (omega (arith, length-append t (forest_text f)))
run-steps_of (cons (node k c) f) es hs up at =
    let h : ℕ → Hung = λ e. record { row = record { kind = k; is_token = false; start = at; end = e }; up = up } in
    let n = length hs in
    let C = hung_of c (suc n) at n in
    let e = suc n + forest_size c in
    let b = at + length (forest_text c) in
    let after = Exit ∷ (steps_of f ++ es) in
    let regrouped : map step_of (events_of c ++ exit ∷ events_of f) ++ es ≡ steps_of c ++ after =
    ap (λ l. l ++ es) (map-append step_of (events_of c) (exit ∷ events_of f)) ∙ append_assoc (steps_of c) (Exit ∷ steps_of f) es in
    let is_n : length (hs ++ h 0 ∷ []) ≡ suc n = omega (arith, length-append hs (h 0 ∷ [])) in
    let is_e : e ≡ suc (n + length C) = omega (arith, length-hung_of c (suc n) at n) in
    let is_e' : length (hs ++ h e ∷ C) ≡ e = omega (arith, length-append hs (h e ∷ C), length-hung_of c (suc n) at n) in
    ap (λ l. run l (making (joined (columns hs) (one_row (row_in (h 0)) up)) (length (map row_in hs)) at)) regrouped
    ∙ cong₂ (λ x m. run (steps_of c ++ after) (making x m at)) (sym (columns-append hs (h 0 ∷ []))) (length-map hs row_in)
    ∙ run-steps_of c after (hs ++ h 0 ∷ []) n at
    ∙ ap (λ l. run after (making (columns l) n b)) (append_assoc hs (h 0 ∷ []) (hung_of c (length (hs ++ h 0 ∷ [])) at n) ∙ ap (λ m. hs ++ (h 0 ∷ hung_of c m at n)) is_n)
    ∙ ap (run (steps_of f ++ es)) (exit_step hs C (h 0) n e b refl is_e)
    ∙ run-steps_of f es (hs ++ h e ∷ C) up b
    ∙ cong₂ (λ l a. run es (making (columns l) up a))
    (append_assoc hs (h e ∷ C) (hung_of f (length (hs ++ h e ∷ C)) b up) ∙ ap (λ m. hs ++ (h e ∷ (C ++ hung_of f m b up))) is_e')
    (omega (arith, length-append (forest_text c) (forest_text f)))

-- all the steps of a forest, from nothing
pub made_rows : (f : Forest) (steps : List BuilderEvent) (m : Making) → steps ≡ steps_of f → run steps nothing_made ≡ m → m.kept ≡ columns_of f
made_rows f steps m is made =
    ap (λ s. s.kept) (sym made ∙ ap (λ l. run l nothing_made) (is ∙ sym (append-nil (steps_of f))) ∙ run-steps_of f [] [] 0 0)
    ∙ sym (columns_of-hung f)

-- no events come of what is left of a list after its end
pub none_left : {X : Type 0} (h : X → Option BuilderEvent) (xs : List X) (i : ℕ) → length xs ≤ i → filter_map h (drop i xs) ≡ []
none_left h xs i past = ap (filter_map h) (drop_of_length-le xs past)
