-- What the steps of a builder say once no refusal holds.
use Rattle.std.proofs.Common.{◌≡◌, ℕ, zero, suc, ◌<◌, ◌≤◌, List, [], ◌∷◌, ◌++◌, length, take, drop, map, refl, sym, ap, subst, ◌∙◌, arith, append_assoc, append-nil}
use Rattle.std.specs.Prelude.{Option, None, Some, filter_map, IsUtf8, ◌^◌, nat_lt, if◌then◌else◌}
use Rattle.std.proofs.lemmas.List.{length-take-le, take-append-drop, length-drop}
use Rattle.tree_model.proofs.At.{cong₂}
use Rattle.std.proofs.lemmas.Bool.Decides.{nat_tests}
use Rattle.syntax_kind.specs.declared.syntax_kind.SyntaxKind.{SyntaxKind}
use Rattle.tree_model.specs.declared.error.FinishError.{FinishError}
use Rattle.tree_model.specs.declared.error.FinishError.TheVariants.{TooLong, OverClosed, Unclosed, Empty, ManyRoots, TokenRoot}
use Rattle.tree_rows.specs.declared.builder_event.BuilderEvent.{BuilderEvent}
use Rattle.tree_rows.specs.declared.builder_event.BuilderEvent.TheVariants.{Enter, Token, Exit}
use Rattle.tree_model.specs.Tree.{Tree, node, token, Forest, nil, cons, text, forest_text, IsNode}
use Rattle.tree_model.specs.Events.{Event, enter, leaf, exit, events_of, open_after, forest_of, balance_refusal, root_refusal, first_refusal, refusal_of, BuildsNode, Builds}
use Rattle.tree_model.specs.Events as events
use Rattle.tree_rows.specs.Builder.{events_from, TextsFit, step_of, IsOneTree}
use Rattle.tree_model.specs.Scan.{scan}
use Rattle.tree_rows.specs.Run as run
use Rattle.tree_rows.proofs.TableLemmas.{columns_shown, tree_of_rows-rows_of, table_of}
use Rattle.tree_model.specs.Rows.{TextsAreUtf8}
use Rattle.tree_rows.specs.Rows.{Columns, columns_of, Represents, tree_of_rows}
use Rattle.tree_model.proofs.Balance.{builds-events_of, events_of-builds, events_of-forest_of, scan-balance_refusal}
use Rattle.tree_rows.proofs.ScanLemmas.{scan-texts}

-- ---- the texts of events

event_texts : List Event → List ℕ
event_texts [] = []
event_texts (enter k ∷ es) = event_texts es
event_texts (leaf k t ∷ es) = t ++ event_texts es
event_texts (exit ∷ es) = event_texts es

EventsAreUtf8 : List Event → Type 0
EventsAreUtf8 [] = Unit {0}
EventsAreUtf8 (enter k ∷ es) = EventsAreUtf8 es
EventsAreUtf8 (leaf k t ∷ es) = IsUtf8 t × EventsAreUtf8 es
EventsAreUtf8 (exit ∷ es) = EventsAreUtf8 es

event_texts-events_from : (es : List BuilderEvent) (s : List ℕ) → TextsFit es s → event_texts (events_from es s) ≡ s
unfolding event_texts
event_texts-events_from [] s h = sym h
event_texts-events_from (Enter k ∷ es) s h = event_texts-events_from es s h
event_texts-events_from (Token k n ∷ es) s h = ap (λ l. take n s ++ l) (event_texts-events_from es (drop n s) h.2) ∙ take-append-drop n s
event_texts-events_from (Exit ∷ es) s h = event_texts-events_from es s h

event_texts-append : (es fs : List Event) → event_texts (es ++ fs) ≡ event_texts es ++ event_texts fs
unfolding event_texts
event_texts-append [] fs = refl
event_texts-append (enter k ∷ es) fs = event_texts-append es fs
event_texts-append (leaf k t ∷ es) fs = ap (λ l. t ++ l) (event_texts-append es fs) ∙ sym (append_assoc t (event_texts es) (event_texts fs))
event_texts-append (exit ∷ es) fs = event_texts-append es fs

event_texts-events_of : (f : Forest) → event_texts (events_of f) ≡ forest_text f
unfolding event_texts
event_texts-events_of nil = refl
event_texts-events_of (cons (token k t) r) = ap (λ l. t ++ l) (event_texts-events_of r)
event_texts-events_of (cons (node k c) r) = event_texts-append (events_of c) (exit ∷ events_of r) ∙ ap (λ l. l ++ event_texts (events_of r)) (event_texts-events_of c) ∙ ap (λ l. forest_text c ++ l) (event_texts-events_of r)

utf8_from : (es : List BuilderEvent) (s : List ℕ) → TextsFit es s → EventsAreUtf8 (events_from es s)
unfolding EventsAreUtf8
utf8_from [] s h = tt
utf8_from (Enter k ∷ es) s h = utf8_from es s h
utf8_from (Token k n ∷ es) s h = (h.1, utf8_from es (drop n s) h.2)
utf8_from (Exit ∷ es) s h = utf8_from es s h

utf8_front : (es fs : List Event) → EventsAreUtf8 (es ++ fs) → EventsAreUtf8 es × EventsAreUtf8 fs
unfolding EventsAreUtf8
utf8_front [] fs h = (tt, h)
utf8_front (enter k ∷ es) fs h = utf8_front es fs h
utf8_front (leaf k t ∷ es) fs h = let w = utf8_front es fs h.1 in ((h.0, w.0), w.1)
utf8_front (exit ∷ es) fs h = utf8_front es fs h

utf8_of : (f : Forest) → EventsAreUtf8 (events_of f) → TextsAreUtf8 f
unfolding EventsAreUtf8
utf8_of nil h = tt
utf8_of (cons (token k t) r) h = (h.0, utf8_of r h.1)
utf8_of (cons (node k c) r) h = let w = utf8_front (events_of c) (exit ∷ events_of r) h in (utf8_of c w.0, utf8_of r w.1)

pub steps_from : (es : List BuilderEvent) (s : List ℕ) → TextsFit es s → map step_of (events_from es s) ≡ es
steps_from [] s h = refl
steps_from (Enter k ∷ es) s h = ap (λ l. Enter k ∷ l) (steps_from es s h)
steps_from (Token k n ∷ es) s h = cong₂ (λ m l. Token k m ∷ l) (length-take-le n s h.0) (steps_from es (drop n s) h.2)
steps_from (Exit ∷ es) s h = ap (λ l. Exit ∷ l) (steps_from es s h)

pub step_text_len : (es : List BuilderEvent) (s : List ℕ) → TextsFit es s → run.text_len es ≡ length s
step_text_len [] s h = sym (ap length h)
step_text_len (Enter k ∷ es) s h = step_text_len es s h
step_text_len (Token k n ∷ es) s h = omega (arith, step_text_len es (drop n s) h.2, length-drop n s, h.0)
step_text_len (Exit ∷ es) s h = step_text_len es s h

pub event_text_len : (es : List BuilderEvent) (s : List ℕ) → TextsFit es s → events.text_len (events_from es s) ≡ length s
event_text_len [] s h = sym (ap length h)
event_text_len (Enter k ∷ es) s h = event_text_len es s h
event_text_len (Token k n ∷ es) s h = omega (arith, event_text_len es (drop n s) h.2, length-drop n s, length-take-le n s h.0, h.0)
event_text_len (Exit ∷ es) s h = event_text_len es s h

-- ---- no refusal

record OneNode (es : List Event) : Type 0 where
  kind : SyntaxKind
  children : Forest
  balanced : open_after 0 es ≡ Some 0
  is : forest_of es ≡ cons (node kind children) nil

one_node : (es : List Event) (o : Option ℕ) (f : Forest) → open_after 0 es ≡ o → forest_of es ≡ f → balance_refusal o es ≡ None → root_refusal f ≡ None → OneNode es
one_node es o nil is_o is_f h k = (let no : Some Empty ≡ None = k in cc)
one_node es o (cons (token x t) nil) is_o is_f h k = (let no : Some TokenRoot ≡ None = k in cc)
one_node es o (cons (token x t) (cons u r)) is_o is_f h k = (let no : Some ManyRoots ≡ None = k in cc)
one_node es o (cons (node x c) (cons u r)) is_o is_f h k = (let no : Some ManyRoots ≡ None = k in cc)
one_node es None (cons (node x c) nil) is_o is_f h k = (let no : Some OverClosed ≡ None = h in cc)
one_node es (Some (suc d)) (cons (node x c) nil) is_o is_f h k = (let no : Some Unclosed ≡ None = h in cc)
one_node es (Some zero) (cons (node x c) nil) is_o is_f h k = record { kind = x; children = c; balanced = is_o; is = is_f }

balance_none : (es : List Event) (o : Option ℕ) → open_after 0 es ≡ o → balance_refusal o es ≡ None → OneNode es
balance_none es None is h = (let no : Some OverClosed ≡ None = h in cc)
balance_none es (Some (suc d)) is h = (let no : Some Unclosed ≡ None = h in cc)
balance_none es (Some zero) is h = one_node es (Some zero) (forest_of es) is refl h h

-- what the steps and the text are where they build one node
pub record Ready (steps : List BuilderEvent) (s : List ℕ) : Type 0 where
  pub kind : SyntaxKind
  pub children : Forest
  pub events_are : events_from steps s ≡ events_of (cons (node kind children) nil)
  pub steps_are : steps ≡ map step_of (events_of (cons (node kind children) nil))
  pub text_is : s ≡ text (node kind children)
  pub utf8 : TextsAreUtf8 (cons (node kind children) nil)

ready_for : (steps : List BuilderEvent) (s : List ℕ) (k : SyntaxKind) (c : Forest) → TextsFit steps s → events_from steps s ≡ events_of (cons (node k c) nil) → Ready steps s
unfolding event_texts
ready_for steps s k c h is =
    let f = cons (node k c) nil in
    record {
      kind = k;
      children = c;
      events_are = is;
      steps_are = sym (steps_from steps s h) ∙ ap (map step_of) is;
      text_is = sym (event_texts-events_from steps s h) ∙ ap event_texts is ∙ event_texts-events_of f ∙ append-nil (forest_text c);
      utf8 = utf8_of f (subst EventsAreUtf8 is (utf8_from steps s h));
    }

-- the scan finds nothing
pub ready : (steps : List BuilderEvent) (s : List ℕ) → TextsFit steps s → scan 0 (Some Empty) (events_from steps []) ≡ None → Ready steps s
ready steps s h none =
    let es = events_from steps s in
    let clear : balance_refusal (open_after 0 es) es ≡ None = sym (scan-balance_refusal es) ∙ scan-texts steps 0 (Some Empty) s [] ∙ none in
    let w = balance_none es (open_after 0 es) refl clear in
    ready_for steps s w.kind w.children h (sym (events_of-forest_of es w.balanced) ∙ ap events_of w.is)

ready_tree : (steps : List BuilderEvent) (s : List ℕ) (t : Tree) → TextsFit steps s → Builds (events_from steps s) (cons t nil) → IsNode t → Ready steps s
ready_tree steps s (node k c) h b n = ready_for steps s k c h (sym (events_of-builds b))
ready_tree steps s (token k t) h b n = absurd n

below_limit : (n : ℕ) (r : Option FinishError) → n < 2 ^ 32 → (if nat_lt n (2 ^ 32) then r else Some TooLong) ≡ r
below_limit n r h = grind (arith, nat_tests)

above_limit : (n : ℕ) (r : Option FinishError) → 2 ^ 32 ≤ n → (if nat_lt n (2 ^ 32) then r else Some TooLong) ≡ Some TooLong
above_limit n r h = grind (arith, nat_tests)

pub first_refusal-short : (steps : List BuilderEvent) (s : List ℕ) → TextsFit steps s → length s < 2 ^ 32 → first_refusal (events_from steps s) ≡ scan 0 (Some Empty) (events_from steps [])
first_refusal-short steps s h short =
    below_limit (events.text_len (events_from steps s)) (balance_refusal (open_after 0 (events_from steps s)) (events_from steps s)) (omega (arith, event_text_len steps s h))
    ∙ sym (scan-balance_refusal (events_from steps s)) ∙ scan-texts steps 0 (Some Empty) s []

pub first_refusal-long : (steps : List BuilderEvent) (s : List ℕ) → TextsFit steps s → 2 ^ 32 ≤ length s → first_refusal (events_from steps s) ≡ Some TooLong
first_refusal-long steps s h long =
    above_limit (events.text_len (events_from steps s)) (balance_refusal (open_after 0 (events_from steps s)) (events_from steps s)) (omega (arith, event_text_len steps s h))

named : (a e : FinishError) → Some a ≡ Some e → refusal_of a ≡ Some a → refusal_of e ≡ Some e
named a e h k = let same : a ≡ e = cc in subst (λ x. refusal_of x ≡ Some x) same k

root_named : (f : Forest) (e : FinishError) → root_refusal f ≡ Some e → refusal_of e ≡ Some e
root_named nil e h = named Empty e h refl
root_named (cons (token x t) nil) e h = named TokenRoot e h refl
root_named (cons (node x c) nil) e h = (let no : None ≡ Some e = h in cc)
root_named (cons (token x t) (cons u r)) e h = named ManyRoots e h refl
root_named (cons (node x c) (cons u r)) e h = named ManyRoots e h refl

balance_named : (o : Option ℕ) (es : List Event) (e : FinishError) → balance_refusal o es ≡ Some e → refusal_of e ≡ Some e
balance_named None es e h = named OverClosed e h refl
balance_named (Some (suc d)) es e h = named Unclosed e h refl
balance_named (Some zero) es e h = root_named (forest_of es) e h

-- what the scan finds is no want of memory
pub refusal_of-scan : (steps : List BuilderEvent) (e : FinishError) → scan 0 (Some Empty) (events_from steps []) ≡ Some e → refusal_of e ≡ Some e
refusal_of-scan steps e h = balance_named (open_after 0 (events_from steps [])) (events_from steps []) e (sym (scan-balance_refusal (events_from steps [])) ∙ h)

module _ (steps : List BuilderEvent) (s : List ℕ) (w : Ready steps s) (kept : Columns) (is : kept ≡ columns_of (cons (node w.kind w.children) nil)) where
  pub tree_built : tree_of_rows kept s ≡ node w.kind w.children
  tree_built = tree_of_rows-rows_of (node w.kind w.children) kept s (ap (λ c. c.rows) is) w.text_is

  pub table_built : length s < 2 ^ 32 → Represents kept s (tree_of_rows kept s)
  table_built short =
      let shown = columns_shown (node w.kind w.children) kept is in
      table_of (node w.kind w.children) kept s (record { rows_are = shown.0; parents_are = shown.1; text_is = w.text_is; texts_are_utf8 = w.utf8; short = short; root_is_node = tt })

  pub node_built : BuildsNode (events_from steps s) (tree_of_rows kept s)
  node_built = subst (BuildsNode (events_from steps s)) (sym tree_built) (subst (λ es. Builds es (cons (node w.kind w.children) nil)) (sym w.events_are) (builds-events_of (cons (node w.kind w.children) nil)), tt)

-- rows that are those of the steps' forest, over a copy of the text, represent the tree that the
-- steps build
pub built_over : (steps : List BuilderEvent) (s copy : List ℕ) (kept : Columns) → IsOneTree steps s → copy ≡ s → length s < 2 ^ 32
    → ((f : Forest) → steps ≡ map step_of (events_of f) → kept ≡ columns_of f)
    → Represents kept copy (tree_of_rows kept copy) × BuildsNode (events_from steps s) (tree_of_rows kept copy)
built_over steps s copy kept h same short are =
    let w = ready_tree steps s h.tree h.fits h.builds.0 h.builds.1 in
    let is = are (cons (node w.kind w.children) nil) w.steps_are in
    rw same (table_built steps s w kept is short, node_built steps s w kept is)

-- a builder's own events are all events
pub all_events : (steps : List BuilderEvent) → filter_map Some steps ≡ steps
all_events [] = refl
all_events (e ∷ es) = ap (λ l. e ∷ l) (all_events es)
