-- Balanced events build a forest, and the scan finds the first refusal.
use Rattle.std.proofs.Common.{◌≡◌, ℕ, zero, suc, List, [], ◌∷◌, ◌++◌, length, refl, sym, ap, ◌∙◌, arith, append_assoc, append-nil, true, false, Bool}
use Rattle.std.specs.Prelude.{Option, None, Some}
use Rattle.syntax_kind.specs.declared.syntax_kind.SyntaxKind.{SyntaxKind}
use Rattle.tree_model.specs.declared.error.FinishError.{FinishError}
use Rattle.tree_model.specs.declared.error.FinishError.TheVariants.{OverClosed, Unclosed, Empty, ManyRoots}
use Rattle.tree_model.specs.Tree.{Tree, node, token, Forest, nil, cons}
use Rattle.tree_model.specs.Events.{Event, enter, leaf, exit, Builds, nothing, token_then, node_then, events_of, open_after, forests, first_forest, later_forests, forest_of, balance_refusal, root_refusal}
use Rattle.tree_model.specs.TreeCode.{forest_of-events_of, forests-cons}
use Rattle.std.proofs.lemmas.List.{nil_from_length}
use Rattle.tree_model.specs.Scan.{after_top, scan}

pub builds-events_of : (f : Forest) → Builds (events_of f) f
builds-events_of nil = nothing
builds-events_of (cons (token k t) r) = token_then (builds-events_of r)
builds-events_of (cons (node k c) r) = node_then (builds-events_of c) (builds-events_of r)

pub events_of-builds : {es : List Event} {f : Forest} → Builds es f → events_of f ≡ es
events_of-builds nothing = refl
events_of-builds (token_then {k} {t} h) = ap (λ l. leaf k t ∷ l) (events_of-builds h)
events_of-builds (node_then {k} {inner} {rest} {c} {f} h h') =
    ap (λ l. enter k ∷ (l ++ exit ∷ events_of f)) (events_of-builds h) ∙ ap (λ l. enter k ∷ (inner ++ exit ∷ l)) (events_of-builds h')

-- events build at most one forest
pub builds_one : {es : List Event} {f g : Forest} → Builds es f → Builds es g → f ≡ g
builds_one {es} {f} {g} h h' = sym (forest_of-events_of f) ∙ ap forest_of (events_of-builds h ∙ sym (events_of-builds h')) ∙ forest_of-events_of g

exits : List Forest → List Event
exits [] = []
exits (f ∷ fs) = exit ∷ (events_of f ++ exits fs)

record Joined (es : List Event) (d : ℕ) : Type 0 where
  is : es ≡ events_of (first_forest (forests es)) ++ exits (later_forests (forests es))
  count : length (later_forests (forests es)) ≡ d

joined_enter : (k : SyntaxKind) (es : List Event) (d : ℕ) (c : Forest) (l : List Forest) → es ≡ events_of c ++ exits l → length l ≡ suc d → (enter k ∷ es ≡ events_of (cons (node k c) (first_forest l)) ++ exits (later_forests l)) × (length (later_forests l) ≡ d)
unfolding exits
joined_enter k es d c [] e h = absurd (omega arith)
joined_enter k es d c (r ∷ l) e h = (ap (λ x. enter k ∷ x) (e ∙ sym (append_assoc (events_of c) (exit ∷ events_of r) (exits l))), omega (arith, h))

joined : (d : ℕ) (es : List Event) → open_after d es ≡ Some 0 → Joined es d
unfolding forests exits
joined d [] h = record { is = refl; count = (let e : Some d ≡ Some 0 = h in cc) }
joined d (enter k ∷ es) h =
    let w = joined (suc d) es h in
    let v = joined_enter k es d (first_forest (forests es)) (later_forests (forests es)) w.is w.count in
    record { is = v.0; count = v.1 }
joined d (leaf k t ∷ es) h =
    let w = joined d es h in
    record { is = ap (λ l. leaf k t ∷ l) w.is; count = w.count }
joined zero (exit ∷ es) h = (let e : None ≡ Some 0 = h in cc)
joined (suc d) (exit ∷ es) h =
    let w = joined d es h in
    record {
      is = ap (λ l. exit ∷ l) w.is ∙ ap exits (forests-cons es);
      count = sym (ap length (forests-cons es)) ∙ ap suc w.count;
    }

-- balanced events are those of a forest
pub events_of-forest_of : (es : List Event) → open_after 0 es ≡ Some 0 → events_of (forest_of es) ≡ es
unfolding exits
events_of-forest_of es h =
    let w = joined 0 es h in
    sym (w.is ∙ ap (λ l. events_of (first_forest (forests es)) ++ exits l) (nil_from_length (later_forests (forests es)) w.count) ∙ append-nil (events_of (first_forest (forests es))))

-- ---- the scan

is_token : Tree → Bool
is_token (node k c) = false
is_token (token k t) = true

-- the refusal for the top elements, after those of a forest
after_forest : Option FinishError → Forest → Option FinishError
after_forest r nil = r
after_forest r (cons t f) = after_forest (after_top r (is_token t)) f

scan_within : (f : Forest) (d : ℕ) (r : Option FinishError) (es : List Event) → scan (suc d) r (events_of f ++ es) ≡ scan (suc d) r es
scan_within nil d r es = refl
scan_within (cons (token k t) f) d r es = scan_within f d r es
scan_within (cons (node k c) f) d r es =
    ap (scan (suc (suc d)) r) (append_assoc (events_of c) (exit ∷ events_of f) es)
    ∙ scan_within c (suc d) r (exit ∷ (events_of f ++ es))
    ∙ scan_within f d r es

scan_top : (f : Forest) (r : Option FinishError) (es : List Event) → scan zero r (events_of f ++ es) ≡ scan zero (after_forest r f) es
unfolding after_forest is_token
scan_top nil r es = refl
scan_top (cons (token k t) f) r es = scan_top f (after_top r true) es
scan_top (cons (node k c) f) r es =
    ap (scan 1 (after_top r false)) (append_assoc (events_of c) (exit ∷ events_of f) es)
    ∙ scan_within c 0 (after_top r false) (exit ∷ (events_of f ++ es))
    ∙ scan_top f (after_top r false) es

after_many : (f : Forest) → after_forest (Some ManyRoots) f ≡ Some ManyRoots
unfolding after_forest
after_many nil = refl
after_many (cons t f) = after_many f

after_empty : (f : Forest) → after_forest (Some Empty) f ≡ root_refusal f
unfolding after_forest is_token
after_empty nil = refl
after_empty (cons (token k t) nil) = refl
after_empty (cons (node k c) nil) = refl
after_empty (cons (token k t) (cons u f)) = after_many f
after_empty (cons (node k c) (cons u f)) = after_many f

scan_over : (d : ℕ) (r : Option FinishError) (es : List Event) → open_after d es ≡ None → scan d r es ≡ Some OverClosed
scan_over d r [] h = (let e : Some d ≡ None = h in cc)
scan_over zero r (enter k ∷ es) h = scan_over 1 (after_top r false) es h
scan_over (suc d) r (enter k ∷ es) h = scan_over (suc (suc d)) r es h
scan_over zero r (leaf k t ∷ es) h = scan_over zero (after_top r true) es h
scan_over (suc d) r (leaf k t ∷ es) h = scan_over (suc d) r es h
scan_over zero r (exit ∷ es) h = refl
scan_over (suc d) r (exit ∷ es) h = scan_over d r es h

scan_open : (d n : ℕ) (r : Option FinishError) (es : List Event) → open_after d es ≡ Some (suc n) → scan d r es ≡ Some Unclosed
scan_open zero n r [] h = (let e : Some 0 ≡ Some (suc n) = h in cc)
scan_open (suc d) n r [] h = refl
scan_open zero n r (enter k ∷ es) h = scan_open 1 n (after_top r false) es h
scan_open (suc d) n r (enter k ∷ es) h = scan_open (suc (suc d)) n r es h
scan_open zero n r (leaf k t ∷ es) h = scan_open zero n (after_top r true) es h
scan_open (suc d) n r (leaf k t ∷ es) h = scan_open (suc d) n r es h
scan_open zero n r (exit ∷ es) h = (let e : None ≡ Some (suc n) = h in cc)
scan_open (suc d) n r (exit ∷ es) h = scan_open d n r es h

scan_by : (o : Option ℕ) (es : List Event) → open_after 0 es ≡ o → scan 0 (Some Empty) es ≡ balance_refusal o es
scan_by None es h = scan_over 0 (Some Empty) es h
scan_by (Some (suc n)) es h = scan_open 0 n (Some Empty) es h
scan_by (Some zero) es h =
    ap (scan 0 (Some Empty)) (sym (append-nil (events_of (forest_of es)) ∙ events_of-forest_of es h))
    ∙ scan_top (forest_of es) (Some Empty) []
    ∙ after_empty (forest_of es)

pub scan-balance_refusal : (es : List Event) → scan 0 (Some Empty) es ≡ balance_refusal (open_after 0 es) es
scan-balance_refusal es = scan_by (open_after 0 es) es refl
