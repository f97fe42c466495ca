-- Whatever the events are, the steps build one tree over the whole text.
use Rattle.std.proofs.Common.{◌≡◌, ℕ, zero, suc, ◌-◌, ◌≤◌, ◌<◌, ◌^◌, List, [], ◌∷◌, ◌++◌, length, take, drop, ap, sym, ◌∙◌, refl, arith, subst, Some, Bool, true, false, if◌then◌else◌, nat_lt}
use Rattle.std.specs.Prelude.{All}
use Rattle.std.proofs.lemmas.List.Elements.{All-nil}
use Rattle.std.proofs.lemmas.Bool.{ltb-false}
use Rattle.syntax_kind.specs.declared.syntax_kind.SyntaxKind.{SyntaxKind}
use Rattle.tree_model.specs.Tree.{node, cons, nil}
use Rattle.tree_model.specs.Events.{Event as TreeEvent, enter, leaf, exit, Builds, nothing, node_then, open_after, forest_of}
use Rattle.tree_model.proofs.Balance.{events_of-forest_of, builds-events_of}
use Rattle.ras_front_end.specs.Reading.{FrontStep, begins, takes, ends, reports, events_from, step_faults}
use Rattle.token_layout.specs.declared.span.Token.{Token as RawToken}
use Rattle.token_layout.specs.Laid.{IsCut, Laid}
use Rattle.token_layout.specs.Balance.{balance}
use Rattle.grammar_machine.specs.declared.event.Event.{Event}
use Rattle.event_layout.specs.Layout.{Given, Laying, given, pass_on, pass_all_of, exit_all_of, closed_of, moves, moves_of, start_of, laid_of}
use Rattle.event_layout.proofs.Cutting.{CutsTo, IsCutFrom, cuts_ends, cuts_all, from_start}
use Rattle.event_layout.proofs.Keeping.{Kept, ends_no_fault, pass_all_kept, exit_all_kept, moves_kept}

opened : (d : ℕ) (ms : List FrontStep) (s : List ℕ) → open_after d (events_from ms s) ≡ balance d ms
opened d [] s = refl
opened d (begins k ∷ ms) s = opened (suc d) ms s
opened d (takes k n ∷ ms) s = opened d ms (drop n s)
opened zero (ends ∷ ms) s = refl
opened (suc d) (ends ∷ ms) s = opened d ms s
opened d (reports m p ∷ ms) s = opened d ms s

steps_end : (ms : List FrontStep) (s : List ℕ) → events_from (ms ++ ends ∷ []) s ≡ events_from ms s ++ exit ∷ []
steps_end [] s = refl
steps_end (begins k ∷ ms) s = ap (λ l. enter k ∷ l) (steps_end ms s)
steps_end (takes k n ∷ ms) s = ap (λ l. leaf k (take n s) ∷ l) (steps_end ms (drop n s))
steps_end (ends ∷ ms) s = ap (λ l. exit ∷ l) (steps_end ms s)
steps_end (reports m p ∷ ms) s = steps_end ms s

balanced_builds : (root : SyntaxKind) (inner : List TreeEvent) → open_after 0 inner ≡ Some 0 → Builds (enter root ∷ (inner ++ exit ∷ [])) (cons (node root (forest_of inner)) nil)
balanced_builds root inner h =
    let b : Builds inner (forest_of inner) = subst (λ es. Builds es (forest_of inner)) (events_of-forest_of inner h) (builds-events_of (forest_of inner)) in
    node_then {inner = inner} {rest = []} b nothing

-- what closes the root
rooted : (root : SyntaxKind) (text : List ℕ) (rest : List RawToken) (cut position depth : ℕ) (ms : List FrontStep) → CutsTo ms text (drop position text) → IsCutFrom cut rest (drop position text) → balance 0 ms ≡ Some depth → step_faults ms ≡ []
    → rest ≡ [] → depth ≡ 0 → Laid root text (begins root ∷ (ms ++ ends ∷ []))
rooted root text rest cut position depth ms so_far ahead closed no_faults e z =
    let inner = events_from ms text in
    let over : drop position text ≡ [] = subst (λ ts. IsCutFrom cut ts (drop position text)) e ahead in
    record {
      tree = node root (forest_of inner);
      cuts = cuts_all (ms ++ ends ∷ []) text (drop position text) (cuts_ends ms text (drop position text) so_far) over;
      builds = (subst (λ es. Builds (enter root ∷ es) (cons (node root (forest_of inner)) nil)) (sym (steps_end ms text)) (balanced_builds root inner (opened 0 ms text ∙ closed ∙ ap Some z)), tt);
      root_is = refl;
      no_faults = ends_no_fault ms no_faults;
    }

closing : (root : SyntaxKind) (text : List ℕ) (s : Laying) → Kept root text s → s.rest ≡ [] → s.depth ≡ 0 → Laid root text (s.steps ++ ends ∷ [])
closing root text s h e z =
    subst (λ steps. Laid root text (steps ++ ends ∷ [])) (sym h.steps_are)
    (rooted root text s.rest s.cut s.position s.depth h.inner h.so_far h.ahead h.closed h.no_faults e z)

-- no token is left after as many moves
pass_on_rest : (ts : List RawToken) (s : Laying) → s.rest ≡ ts → length (pass_on ts s).rest ≡ length s.rest - 1
pass_on_rest [] s e = omega (arith, ap length e)
pass_on_rest (t ∷ ts) s e = omega (arith, ap length e)

passed_rest : (n : ℕ) (s : Laying) → length (pass_all_of n s).rest ≡ length s.rest - n
unfolding pass_all_of
passed_rest zero s = omega arith
passed_rest (suc n) s = omega (arith, passed_rest n s, pass_on_rest (pass_all_of n s).rest (pass_all_of n s) refl)

no_tokens : (ts : List RawToken) → length ts ≡ 0 → ts ≡ []
no_tokens [] h = refl
no_tokens (t ∷ ts) h = absurd (omega (arith, h))

exit_on_depth : (b : Bool) (s : Laying) → nat_lt 0 s.depth ≡ b → (if b then record s { depth = s.depth - 1; steps = s.steps ++ ends ∷ [] } else s).depth ≡ s.depth - 1
exit_on_depth true s e = refl
exit_on_depth false s e = let k : s.depth ≤ 0 = ltb-false 0 s.depth e in omega (arith, k)

exited_depth : (n : ℕ) (s : Laying) → (exit_all_of n s).depth ≡ s.depth - n
unfolding exit_all_of
exited_depth zero s = omega arith
exited_depth (suc n) s = omega (arith, exited_depth n s, exit_on_depth (nat_lt 0 (exit_all_of n s).depth) (exit_all_of n s) refl)

exit_on_rest : (b : Bool) (s : Laying) → (if b then record s { depth = s.depth - 1; steps = s.steps ++ ends ∷ [] } else s).rest ≡ s.rest
exit_on_rest true s = refl
exit_on_rest false s = refl

exited_rest : (n : ℕ) (s : Laying) → (exit_all_of n s).rest ≡ s.rest
unfolding exit_all_of
exited_rest zero s = refl
exited_rest (suc n) s = exit_on_rest (nat_lt 0 (exit_all_of n s).depth) (exit_all_of n s) ∙ exited_rest n s

-- the state before the root is closed
record Ended (root : SyntaxKind) (text : List ℕ) (s : Laying) : Type 0 where
  pub kept : Kept root text s
  pub no_rest : s.rest ≡ []
  pub no_depth : s.depth ≡ 0

ended : (root : SyntaxKind) (text : List ℕ) (s : Laying) → length text < 2 ^ 32 → Kept root text s → Ended root text (closed_of (pass_all_of (length s.rest) s))
ended root text s l h =
    let p = pass_all_of (length s.rest) s in
    let none : p.rest ≡ [] = no_tokens p.rest (omega (arith, passed_rest (length s.rest) s)) in
    record {
      kept = exit_all_kept root text p.depth p (pass_all_kept root text (length s.rest) s l h);
      no_rest = exited_rest p.depth p ∙ none;
      no_depth = omega (arith, exited_depth p.depth p);
    }

pub started : (root : SyntaxKind) (g : Given) (ts : List RawToken) → length g.bytes < 2 ^ 32 → IsCut ts g.bytes → Kept root g.bytes (start_of root g ts)
started root g ts l c = record {
  inner = [];
  steps_are = refl;
  closed = refl;
  no_faults = refl;
  within = omega arith;
  so_far = refl;
  ahead = from_start ts g.bytes l c;
  small = omega arith;
  lie = All-nil (λ f. f.position ≤ length g.bytes);
}

last : (root : SyntaxKind) (g : Given) (ts : List RawToken) → length g.bytes < 2 ^ 32 → IsCut ts g.bytes → Ended root g.bytes (closed_of (pass_all_of (length (moves (moves_of (length g.events)) g (start_of root g ts)).rest) (moves (moves_of (length g.events)) g (start_of root g ts))))
last root g ts l c = ended root g.bytes (moves (moves_of (length g.events)) g (start_of root g ts)) l (moves_kept root (moves_of (length g.events)) g (start_of root g ts) l (started root g ts l c))

pub laid : (root : SyntaxKind) (attaching : List SyntaxKind) (text : List ℕ) (ts : List RawToken) (es : List Event) → length text < 2 ^ 32 → IsCut ts text → Laid root text (laid_of root attaching text ts es).steps
laid root attaching text ts es l c =
    let g = given attaching text es in
    let e = last root g ts l c in
    closing root text (closed_of (pass_all_of (length (moves (moves_of (length es)) g (start_of root g ts)).rest) (moves (moves_of (length es)) g (start_of root g ts)))) e.kept e.no_rest e.no_depth

pub lie : (root : SyntaxKind) (attaching : List SyntaxKind) (text : List ℕ) (ts : List RawToken) (es : List Event) → length text < 2 ^ 32 → IsCut ts text → All (λ f. f.position ≤ length text) (laid_of root attaching text ts es).faults
lie root attaching text ts es l c = (last root (given attaching text es) ts l c).kept.lie
