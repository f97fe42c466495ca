-- The nodes of a tree of Rust that are pieces are those of sealed calls.
use Rattle.std.proofs.Common.{◌≡◌, ℕ, zero, suc, ◌<◌, ◌^◌, Bool, true, nat_lt, if◌then◌else◌, List, [], ◌∷◌, ◌++◌, length, map, take, drop, refl, sym, ap, subst, ◌∙◌, arith, append_assoc}
use Rattle.std.specs.Prelude.{Some, None, slice_get, reverse}
use Rattle.std.proofs.lemmas.Bool.Decides.{nat_tests}
use Rattle.std.proofs.lemmas.List.{reverse-append, reverse-reverse}
use Rattle.syntax_kind.specs.declared.syntax_kind.SyntaxKind.{SyntaxKind}
use Rattle.syntax_kind.specs.declared.syntax_kind.SyntaxKind.TheVariants.{Node}
use Rattle.syntax_kind.specs.declared.syntax_kind.node_kind.NodeKind.TheVariants as node
use Rattle.tree_model.specs.Tree.{Tree, Place}
use Rattle.tree_model.specs.Events.{Event as TreeEvent, enter, leaf, exit, BuildsNode}
use Rattle.ras_front_end.specs.declared.edition.Edition.{Edition}
use Rattle.ras_front_end.specs.declared.edition.Entry.TheVariants.{SourceFile}
use Rattle.ras_front_end.specs.declared.edition.Reparser.{Reparser}
use Rattle.ras_front_end.specs.Reading.{FrontStep, begins, takes, ends, reports, events_from}
use Rattle.token_layout.specs.Report.{report_by}
use Rattle.grammar_machine.specs.declared.event.Event.{Event}
use Rattle.grammar_machine.specs.declared.event.Event.TheVariants as event
use Rattle.grammar_machine.specs.declared.grammar.Sight.{Sight}
use Rattle.grammar_machine.specs.Running.{Tables, is_among, run_of, fuel_of, events_of}
use Rattle.event_layout.specs.Layout.{Laying, laid_of}
use Rattle.rust_grammar.specs.declared.tables.rules.Rule.TheVariants as rule
use Rattle.rust_grammar.specs.Rules.{first_op}
use Rattle.rust_grammar.specs.Seeing.{sights_of}
use Rattle.rust_grammar.specs.Tables.{rust_tables}
use Rattle.rust_lexer.specs.Lexing.{tokens_of}
use Rattle.rust_lexer.proofs.Kept.{lexed}
use Rattle.rust_front.specs.Front.{whole_of, parsed_of, reading_with, nothing_read}
use Rattle.rust_front.specs.Messages.{say_of}
use Rattle.rust_front.specs.Pieces.{exact_chosen_of}
use Rattle.rust_front.specs.Roots.{attaching_kinds}
use Rattle.document_laws.specs.Calls.{OnlyCallsSeal, IsOfCall}
use Rattle.document_laws.specs.Nodes.{MakesPlainTokens, IsOfEvent, StartsBehind}
use Rattle.document_laws.specs.Pieces.{events_in, IsCalledPiece, PiecesOfTreesAreCalls, PiecesStartAtTheirTokens}
use Rattle.document_laws.specs.Tables.{IsExactRule}
use Rattle.document_laws.proofs.Calling.{sealed_calls}
use Rattle.document_laws.proofs.Noding.{nodes_of_events}
use Rattle.document_laws.proofs.Plain.{runs_plain, rust_plain}
use Rattle.document_laws.proofs.Starting.{nodes_start}
use Rattle.document_laws.proofs.Tabling.{only_calls, exact_rules}

-- ---- errors are no events

abbrev Steps : Type 0
Steps = List FrontStep

none_reported : {A : Type 0} (say : A → List ℕ × ℕ) (fs : List A) (s : List ℕ) → events_from (map (report_by say) fs) s ≡ []
none_reported say [] s = refl
none_reported say (f ∷ fs) s = none_reported say fs s

pub with_reports : {A : Type 0} (say : A → List ℕ × ℕ) (fs : List A) (xs : Steps) (s : List ℕ) → events_from (xs ++ map (report_by say) fs) s ≡ events_from xs s
with_reports say fs [] s = none_reported say fs s
with_reports say fs (begins k ∷ xs) s = ap (λ (es : List TreeEvent). enter k ∷ es) (with_reports say fs xs s)
with_reports say fs (takes k n ∷ xs) s = ap (λ (es : List TreeEvent). leaf k (take n s) ∷ es) (with_reports say fs xs (drop n s))
with_reports say fs (ends ∷ xs) s = ap (λ (es : List TreeEvent). exit ∷ es) (with_reports say fs xs s)
with_reports say fs (reports m p ∷ xs) s = with_reports say fs xs s

abbrev pub laid_in : Edition → List ℕ → Laying
laid_in e text = laid_of (Node node.SOURCE_FILE) attaching_kinds text (tokens_of e text) (events_in e text)

pub parsed_events : (e : Edition) (text : List ℕ) → length text < 2 ^ 32 → events_from (parsed_of SourceFile e text).steps text ≡ events_from (laid_in e text).steps text
unfolding parsed_of reading_with
parsed_events e text h =
    let short : nat_lt (length text) (2 ^ 32) ≡ true = grind (arith, nat_tests, h) in
    ap (λ (b : Bool). events_from (if b then whole_of SourceFile e text else nothing_read).steps text) short
    ∙ with_reports (say_of (tokens_of e text)) (laid_in e text).faults (laid_in e text).steps text

-- ---- an event of a run

some_same : (a b : Event) → Some a ≡ Some b → a ≡ b
some_same a b e = cc

pub parts_at : (es : List Event) (n : ℕ) (x : Event) → slice_get es n ≡ Some x → es ≡ take n es ++ x ∷ drop (suc n) es
parts_at [] n x h = (let bad : None ≡ Some x = h in absurd (cc))
parts_at (e ∷ es) zero x h = ap (λ (y : Event). y ∷ es) (some_same e x h)
parts_at (e ∷ es) (suc n) x h = ap (λ (xs : List Event). e ∷ xs) (parts_at es n x h)

turned_at : (es : List Event) (n : ℕ) (x : Event) → slice_get es n ≡ Some x → reverse es ≡ reverse (drop (suc n) es) ++ x ∷ reverse (take n es)
turned_at es n x h =
    ap reverse (parts_at es n x h) ∙ reverse-append (take n es) (x ∷ drop (suc n) es)
    ∙ ap (λ (xs : List Event). xs ++ reverse (take n es)) (reverse-append (x ∷ []) (drop (suc n) es))
    ∙ append_assoc (reverse (drop (suc n) es)) (x ∷ []) (reverse (take n es))

pub called_there : (g : Tables) (ss : List Sight) (start : ℕ) (k : SyntaxKind) (n from : ℕ) → OnlyCallsSeal g → is_among g.sealed k ≡ true
    → slice_get (events_of g start ss) n ≡ Some (event.Node k from) → IsOfCall g ss start k from (reverse (take n (events_of g start ss)))
called_there g ss start k n from only listed h =
    let es : List Event = events_of g start ss in
    sealed_calls (fuel_of (length ss)) g ss start (reverse (drop (suc n) es)) k from (reverse (take n es)) only listed
    (sym (reverse-reverse (run_of g start ss).made.events) ∙ turned_at es n (event.Node k from) h)

-- the call of a node's event
called_piece : (e : Edition) (text : List ℕ) (t : Tree) (p : Place) (k : SyntaxKind) (r : Reparser) → exact_chosen_of k ≡ Some r
    → IsOfEvent (Node node.SOURCE_FILE) attaching_kinds text (tokens_of e text) (events_in e text) t p k → IsCalledPiece e text t p k r
called_piece e text t p k r chosen v =
    let x : IsExactRule k r = exact_rules k r chosen in
    let c = called_there rust_tables (sights_of e text (tokens_of e text)) (first_op rule.SourceFile) k v.number v.from only_calls x.listed v.event in
    record { exact = x; event = v; called = c; target = x.calls _ c.call.target c.call.found }

pub laid_tree : (e : Edition) (text : List ℕ) (t : Tree) → length text < 2 ^ 32 → BuildsNode (events_from (parsed_of SourceFile e text).steps text) t → BuildsNode (events_from (laid_in e text).steps text) t
laid_tree e text t small built = subst (λ (es : List TreeEvent). BuildsNode es t) (parsed_events e text small) built

pub pieces_called : PiecesOfTreesAreCalls
pieces_called e text t i p k f r u small few built at sub chosen =
    called_piece e text t (i ∷ p) k r chosen
    (nodes_of_events (Node node.SOURCE_FILE) attaching_kinds text (tokens_of e text) (events_in e text) t i p k f small (lexed e text u small).cut few (laid_tree e text t small built) at sub)

pub plain_events : (e : Edition) (text : List ℕ) → MakesPlainTokens (events_in e text)
plain_events e text = runs_plain rust_tables (first_op rule.SourceFile) (sights_of e text (tokens_of e text)) rust_plain

pub pieces_start : PiecesStartAtTheirTokens
unfolding called_piece
pieces_start e text t i p k l w f r u small few built at sub clear chosen =
    let v : StartsBehind (Node node.SOURCE_FILE) attaching_kinds text (tokens_of e text) (events_in e text) t (i ∷ p) k =
    nodes_start (Node node.SOURCE_FILE) attaching_kinds text (tokens_of e text) (events_in e text) t i p k l w f small (lexed e text u small).cut few
    (plain_events e text) (laid_tree e text t small built) at sub clear in
    record { piece = called_piece e text t (i ∷ p) k r chosen v.is_of; rest = v.rest }
