-- A walk over rows without changes, row by row.
use Rattle.std.proofs.Common.{◌≡◌, ℕ, suc, ◌+◌, ◌<◌, ◌≤◌, List, [], ◌∷◌, ◌++◌, length, map, take, drop, refl, sym, ap, subst, ◌∙◌, arith, append_assoc, append-nil, true, false, Bool}
use Rattle.std.specs.Prelude.{Option, Some, IfSome, option_map, if◌then◌else◌}
use Rattle.std.proofs.Math.Seq.{take-append_seam}
use Rattle.std.proofs.lemmas.List.{map-append}
use Rattle.tree_model.specs.Tree.{Tree, node, token, nil, cons, Place, text, size, IsNode, is_token, parent_place}
use Rattle.tree_model.specs.Rows.{place_at, tree_at, start_at, end_at, TextsAreUtf8}
use Rattle.tree_model.specs.Cursor.{cursor_at}
use Rattle.tree_model.specs.Events.{Event, exit, texts}
use Rattle.tree_model.proofs.EventTexts.{texts-append}
use Rattle.tree_rows.specs.declared.builder_event.BuilderEvent.{BuilderEvent}
use Rattle.tree_rows.specs.declared.builder_event.BuilderEvent.TheVariants.{Exit}
use Rattle.tree_rows.specs.Builder.{step_of, events_from, TextsFit}
use Rattle.tree_rows.proofs.BuilderLemmas.{events_from-append, TextsFit-append}
use Rattle.tree_rows.specs.Rows.{row_at}
use Rattle.tree_rows.specs.Walks.{IsWalk, walk_left}
use Rattle.tree_rows.proofs.StepLemmas.{end_of_row, parent_found}
use Rattle.tree_rows.proofs.WalkSteps.{step_enter, step_leave_to, open_row, next_row_within}
use Rattle.tree_edit_model.specs.Changes.{Change, no_change}
use Rattle.tree_edits.specs.declared.unchanged.Reached.{Reached}
use Rattle.tree_edits.specs.Walked.{step_events, entered, left, walked, IsWalkedOn}
use Rattle.tree_edits.specs.Unchanged.{AreUnchanged, offset_of, between, entering}
use Rattle.tree_edits.proofs.StepLemmas.{stepped-entered, stepped-left, walk-step}
use Rattle.tree_edits.proofs.PieceLemmas.{offset-row, offset-node, offset-token, text_there, row_utf8, between-more, between-none, AreTexts-append, token_text, node_text, entered_texts, steps_fit, steps_events}

-- ---- rows

pub is_node_of : (t : Tree) (b : Bool) → b ≡ is_token t → b ≡ false → IsNode t
is_node_of (node k c) b is no' = tt
is_node_of (token k t) b is no' = (let no : true ≡ false = sym is ∙ no' in cc)

token_size : (t : Tree) → is_token t ≡ true → size t ≡ 1
token_size (node k c) e = (let no : false ≡ true = e in cc)
token_size (token k t) e = refl

token_left : (t : Tree) → is_token t ≡ true → step_events t false ≡ []
token_left (node k c) e = (let no : false ≡ true = e in cc)
token_left (token k t) e = refl

pub node_left : (t : Tree) → IsNode t → exit ∷ [] ≡ step_events t false
node_left (node k c) h = refl
node_left (token k t) h = absurd h

entered-none : (t : Tree) → entered no_change t ≡ step_events t true
entered-none (node k c) = refl
entered-none (token k t) = refl

left-none : (t : Tree) → left no_change t ≡ step_events t false
left-none (node k c) = refl
left-none (token k t) = refl

-- the row after those that are entered is one, where the innermost open one goes on
pub row_within : (t : Tree) (row inner end : ℕ) → IsWalk t 0 row (Some inner) → end ≡ inner + size (tree_at t inner) → row < end → row < size t
row_within t row inner end w is lt = next_row_within t 0 row inner w (omega (arith, lt, is, end_of_row t inner (open_row t 0 row inner w)))

-- ---- the walk

-- the next row is entered
pub walked_on-enter : (at : Place → Change) (t : Tree) (first out new : List Event) (next : ℕ) (o : Option ℕ) (row inner : ℕ) → row < inner + size (tree_at t inner) → at (place_at t row) ≡ no_change → new ≡ out ++ step_events (tree_at t row) true
    → IsWalkedOn at t first out 0 next o row (Some inner) → IsWalkedOn at t first new 0 next o (row + 1) (Some row) × (length (walk_left t 0 (row + 1) (Some row)) < length (walk_left t 0 row (Some inner)))
walked_on-enter at t first out new next o row inner lt none added w =
    let before : row < (row_at t inner).end = omega (arith, lt, end_of_row t inner (open_row t 0 row inner w.walks)) in
    let s = step_enter t 0 row inner w.walks before in
    let made : new ≡ out ++ entered (at (place_at t row)) (tree_at t row) = added ∙ ap (λ l. out ++ l) (sym (entered-none (tree_at t row)) ∙ ap (λ c. entered c (tree_at t row)) (sym none)) in
    let more : length (walk_left t 0 row (Some inner)) ≡ suc (length (walk_left t 0 (row + 1) (Some row))) = ap length s.0 in (
      record {
        walks = s.1;
        made = walk-step at out new (first ++ walked at 0 (walk_left t 0 next o)) true (cursor_at t row) (walk_left t 0 row (Some inner)) (walk_left t 0 (row + 1) (Some row)) 0 0 s.0
            (stepped-entered at out new (cursor_at t row) 0 made (ap (λ c. if c.replaced then 1 else 0) (sym none))) w.made;
        level = λ h. omega arith;
        shorter = omega (arith, more, w.shorter);
      },
      omega (arith, more),
    )

-- the innermost row is left
pub walked_on-leave : (at : Place → Change) (t : Tree) (first out new : List Event) (next : ℕ) (o : Option ℕ) (row inner : ℕ) (r : Option ℕ) → inner + size (tree_at t inner) ≤ row → 0 < inner → at (place_at t inner) ≡ no_change → new ≡ out ++ step_events (tree_at t inner) false
    → IfSome r (λ p. p < size t) → option_map (place_at t) r ≡ parent_place (place_at t inner)
    → IsWalkedOn at t first out 0 next o row (Some inner) → IsWalkedOn at t first new 0 next o row r × (length (walk_left t 0 row r) < length (walk_left t 0 row (Some inner)))
walked_on-leave at t first out new next o row inner r past below none added is_row parent w =
    let ended : (row_at t inner).end ≤ row = omega (arith, past, end_of_row t inner (open_row t 0 row inner w.walks)) in
    let s = step_leave_to t 0 row inner r w.walks ended below is_row parent in
    let made : new ≡ out ++ left (at (place_at t inner)) (tree_at t inner) = added ∙ ap (λ l. out ++ l) (sym (left-none (tree_at t inner)) ∙ ap (λ c. left c (tree_at t inner)) (sym none)) in
    let more : length (walk_left t 0 row (Some inner)) ≡ suc (length (walk_left t 0 row r)) = ap length s.0 in (
      record {
        walks = s.1;
        made = walk-step at out new (first ++ walked at 0 (walk_left t 0 next o)) false (cursor_at t inner) (walk_left t 0 row (Some inner)) (walk_left t 0 row r) 0 0 s.0
            (stepped-left at out new (cursor_at t inner) made) w.made;
        level = λ h. omega arith;
        shorter = omega (arith, more, w.shorter);
      },
      omega (arith, more),
    )

-- a token is entered and left
pub walked_on-token : (at : Place → Change) (t : Tree) (first out new : List Event) (next : ℕ) (o : Option ℕ) (row inner : ℕ) → row < inner + size (tree_at t inner) → at (place_at t row) ≡ no_change → is_token (tree_at t row) ≡ true → new ≡ out ++ step_events (tree_at t row) true
    → IsWalkedOn at t first out 0 next o row (Some inner) → IsWalkedOn at t first new 0 next o (row + 1) (Some inner) × (length (walk_left t 0 (row + 1) (Some inner)) < length (walk_left t 0 row (Some inner)))
walked_on-token at t first out new next o row inner lt none is added w =
    let inner_is_row : inner < size t = open_row t 0 row inner w.walks in
    let before : row < (row_at t inner).end = omega (arith, lt, end_of_row t inner inner_is_row) in
    let is_row : row < size t = next_row_within t 0 row inner w.walks before in
    let inside = walked_on-enter at t first out new next o row inner lt none added w in
    let behind =
    walked_on-leave at t first new new next o (row + 1) row (Some inner) (omega (arith, token_size (tree_at t row) is)) (omega (arith, w.walks.open_at.1)) none
    (sym (append-nil new) ∙ ap (λ l. new ++ l) (sym (token_left (tree_at t row) is))) inner_is_row (parent_found t row inner is_row w.walks.open_at.1 before w.walks.open_at.3) inside.0 in
    (behind.0, omega (arith, inside.1, behind.1))

-- ---- the same with the steps of the rows

abbrev pub reached : ℕ → ℕ → ℕ → Reached
reached row inner end = record { next = row; innermost = inner; end = end }

pub run-begins : (at : Place → Change) (t : Tree) (old : List BuilderEvent) (next inner end : ℕ) → end ≡ offset_of t next → IsWalk t 0 next (Some inner) → AreUnchanged at t old old next inner (reached next inner end)
run-begins at t old next inner end is w = record {
  events = [];
  steps = sym (append-nil old);
  utf8 = tt;
  ordered = omega (arith, is);
  end_is = is;
  text_is = sym (ap (between (text t) (offset_of t next)) is ∙ between-none (text t) (offset_of t next));
  walked_on = record { walks = w; made = refl; level = λ h. h; shorter = omega arith };
}

steps-more : (old cur new more : List BuilderEvent) (es fs : List Event) → new ≡ cur ++ more → more ≡ map step_of fs → cur ≡ old ++ map step_of es → new ≡ old ++ map step_of (es ++ fs)
steps-more old cur new more es fs a b c =
    a ∙ ap (λ l. cur ++ l) b ∙ ap (λ l. l ++ map step_of fs) c ∙ append_assoc old (map step_of es) (map step_of fs) ∙ ap (λ l. old ++ l) (sym (map-append step_of es fs))

-- a node is entered
pub run-enter : (at : Place → Change) (t : Tree) (old cur new : List BuilderEvent) (next inner row i end : ℕ) → row < i + size (tree_at t i) → row < size t → at (place_at t row) ≡ no_change → IsNode (tree_at t row) → TextsAreUtf8 (cons t nil) → new ≡ cur ++ entering t row
    → AreUnchanged at t old cur next inner (reached row i end) → AreUnchanged at t old new next inner (reached (row + 1) row end) × (length (walk_left t 0 (row + 1) (Some row)) < length (walk_left t 0 row (Some i)))
run-enter at t old cur new next inner row i end lt is_row none is utf8 added r =
    let es = step_events (tree_at t row) true in
    let on = walked_on-enter at t [] r.events (r.events ++ es) next (Some inner) row i lt none refl r.walked_on in (
      record {
        events = r.events ++ es;
        steps = steps-more old cur new (entering t row) r.events es added refl r.steps;
        utf8 = AreTexts-append r.events es r.utf8 (entered_texts (tree_at t row) (row_utf8 t row utf8 is_row));
        ordered = r.ordered;
        end_is = r.end_is ∙ sym (offset-node t row is_row is);
        text_is = texts-append r.events es ∙ ap (λ l. texts r.events ++ l) (node_text (tree_at t row) is) ∙ append-nil (texts r.events) ∙ r.text_is;
        walked_on = on.0;
      },
      on.1,
    )

-- a token is entered and left
pub run-token : (at : Place → Change) (t : Tree) (old cur new : List BuilderEvent) (next inner row i end e : ℕ) → row < i + size (tree_at t i) → row < size t → at (place_at t row) ≡ no_change → is_token (tree_at t row) ≡ true → TextsAreUtf8 (cons t nil) → e ≡ end_at t row → new ≡ cur ++ entering t row
    → AreUnchanged at t old cur next inner (reached row i end) → AreUnchanged at t old new next inner (reached (row + 1) i e) × (length (walk_left t 0 (row + 1) (Some i)) < length (walk_left t 0 row (Some i)))
run-token at t old cur new next inner row i end e lt is_row none is utf8 ends added r =
    let es = step_events (tree_at t row) true in
    let x = text (tree_at t row) in
    let on = walked_on-token at t [] r.events (r.events ++ es) next (Some inner) row i lt none is refl r.walked_on in
    let from : end ≡ start_at t row = r.end_is ∙ offset-row t row is_row in
    let to : end + length x ≡ e = omega (arith, from, ends) in (
      record {
        events = r.events ++ es;
        steps = steps-more old cur new (entering t row) r.events es added refl r.steps;
        utf8 = AreTexts-append r.events es r.utf8 (entered_texts (tree_at t row) (row_utf8 t row utf8 is_row));
        ordered = omega (arith, r.ordered, to);
        end_is = ends ∙ sym (offset-token t row is_row is);
        text_is =
            texts-append r.events es ∙ ap (λ l. l ++ texts es) r.text_is ∙ ap (λ l. between (text t) (offset_of t next) end ++ l) (token_text (tree_at t row) is)
            ∙ sym (between-more (text t) x (offset_of t next) end r.ordered (ap (λ b. take (length x) (drop b (text t))) from ∙ text_there t row utf8 is_row))
            ∙ ap (between (text t) (offset_of t next)) to;
        walked_on = on.0;
      },
      on.1,
    )

-- the innermost node is left
pub run-leave : (at : Place → Change) (t : Tree) (old cur new : List BuilderEvent) (next inner row i p end : ℕ) → i + size (tree_at t i) ≤ row → 0 < i → at (place_at t i) ≡ no_change → IsNode (tree_at t i) → p < size t → Some (place_at t p) ≡ parent_place (place_at t i) → new ≡ cur ++ Exit ∷ []
    → AreUnchanged at t old cur next inner (reached row i end) → AreUnchanged at t old new next inner (reached row p end) × (length (walk_left t 0 row (Some p)) < length (walk_left t 0 row (Some i)))
run-leave at t old cur new next inner row i p end past below none is is_row parent added r =
    let on = walked_on-leave at t [] r.events (r.events ++ exit ∷ []) next (Some inner) row i (Some p) past below none (ap (λ l. r.events ++ l) (node_left (tree_at t i) is)) is_row parent r.walked_on in (
      record {
        events = r.events ++ exit ∷ [];
        steps = steps-more old cur new (Exit ∷ []) r.events (exit ∷ []) added refl r.steps;
        utf8 = AreTexts-append r.events (exit ∷ []) r.utf8 tt;
        ordered = r.ordered;
        end_is = r.end_is;
        text_is = texts-append r.events (exit ∷ []) ∙ append-nil (texts r.events) ∙ r.text_is;
        walked_on = on.0;
      },
      on.1,
    )

-- the steps are kept, whatever was added
pub run-kept : (at : Place → Change) (t : Tree) (old cur : List BuilderEvent) (next inner : ℕ) (to : Reached) → AreUnchanged at t old cur next inner to → take (length old) cur ≡ old
run-kept at t old cur next inner to r = ap (take (length old)) r.steps ∙ take-append_seam old (map step_of r.events)

-- ---- the steps with their texts

root_is : (t : Tree) → tree_at t 0 ≡ t
root_is (token k x) = refl
root_is (node k c) = refl

pub root_text : (t : Tree) (s : List ℕ) → s ≡ text (tree_at t 0) → s ≡ text t
root_text t s e = e ∙ ap text (root_is t)

pub run-fits : (at : Place → Change) (t : Tree) (old new : List BuilderEvent) (next inner : ℕ) (to : Reached) (s s' piece : List ℕ) → AreUnchanged at t old new next inner to → TextsFit old s → s' ≡ s ++ piece → piece ≡ between (text t) (offset_of t next) to.end → TextsFit new s'
run-fits at t old new next inner to s s' piece r fits is piece_is =
    rw (is, piece_is, ← r.text_is, r.steps) (TextsFit-append old (map step_of r.events) s (texts r.events) fits (steps_fit r.events r.utf8))

run-more : (at : Place → Change) (t : Tree) (next inner : ℕ) (to : Reached) (events out : List Event) → IsWalkedOn at t [] events 0 next (Some inner) to.next (Some to.innermost)
    → IsWalkedOn at t out (out ++ events) 0 next (Some inner) to.next (Some to.innermost)
run-more at t next inner to events out w = record {
  walks = w.walks;
  made = append_assoc out events (walked at 0 (walk_left t 0 to.next (Some to.innermost))) ∙ ap (λ l. out ++ l) w.made;
  level = w.level;
  shorter = w.shorter;
}

pub run-events : (at : Place → Change) (t : Tree) (old new : List BuilderEvent) (next inner : ℕ) (to : Reached) (s s' piece : List ℕ) (out : List Event) → AreUnchanged at t old new next inner to → TextsFit old s → events_from old s ≡ out → s' ≡ s ++ piece → piece ≡ between (text t) (offset_of t next) to.end
    → IsWalkedOn at t out (events_from new s') 0 next (Some inner) to.next (Some to.innermost)
run-events at t old new next inner to s s' piece out r fits view is piece_is =
    let made : events_from new s' ≡ out ++ r.events =
    rw (is, piece_is, ← r.text_is, r.steps) (events_from-append old (map step_of r.events) s (texts r.events) fits ∙ ap (λ l. l ++ events_from (map step_of r.events) (texts r.events)) view ∙ ap (λ l. out ++ l) (steps_events r.events)) in
    subst (λ l. IsWalkedOn at t out l 0 next (Some inner) to.next (Some to.innermost)) (sym made) (run-more at t next inner to r.events out r.walked_on)
