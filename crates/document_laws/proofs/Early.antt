-- A run makes few events of the tokens that it has taken.
use Rattle.std.proofs.Common.{◌≡◌, ℕ, zero, suc, ◌+◌, ◌*◌, ◌<◌, ◌≤◌, ◌^◌, Bool, true, false, nat_lt, if◌then◌else◌, List, [], ◌∷◌, ◌++◌, length, ap, sym, subst, refl, arith}
use Rattle.std.specs.Prelude.{All, Option, Some, None, slice_get}
use Rattle.std.proofs.lemmas.Bool.Decides.{nat_tests}
use Rattle.std.proofs.lemmas.List.{length-append}
use Rattle.std.proofs.lemmas.List.Elements.{All-head, All-tail, All-cons, All-nil}
use Rattle.syntax_kind.specs.Kinds.{is_trivia}
use Rattle.token_layout.specs.declared.span.Token.{Token as RawToken}
use Rattle.grammar_machine.specs.declared.event.Event.TheVariants as event
use Rattle.grammar_machine.specs.declared.grammar.Sight.{Sight}
use Rattle.grammar_machine.specs.declared.grammar.Op.{Op}
use Rattle.grammar_machine.specs.Running.{Tables, State, with_place, past_of, obey_of, step_on, runs, begin_of}
use Rattle.grammar_machine.proofs.Growing.{obey-grows}
use Rattle.grammar_machine.proofs.Potential.{kept_of, potential, obey-spends}
use Rattle.grammar_machine.proofs.Running.{step-at, runs-none, runs-suc}
use Rattle.event_layout.specs.Taking.{seen_tokens}
use Rattle.rust_grammar.specs.declared.tables.rules.Rule.TheVariants as rule
use Rattle.rust_grammar.specs.Rules.{first_op}
use Rattle.rust_grammar.specs.Seeing.{sights_of}
use Rattle.rust_grammar.specs.Tables.{rust_tables}
use Rattle.rust_lexer.specs.Laws.{HasBytes, IsLexed}
use Rattle.rust_lexer.specs.Lexing.{tokens_of}
use Rattle.rust_lexer.proofs.Kept.{lexed}
use Rattle.rust_front.specs.Pieces.{rule_by_number}
use Rattle.document_laws.specs.Few.{EventsSoFarAreFew, PiecesComeEarly, PiecesFit}
use Rattle.document_laws.proofs.Few.{obey-few, rust_few}
use Rattle.document_laws.proofs.Opening.{bytes_are}
use Rattle.document_laws.proofs.Owning.{few_tokens, short_text}

-- with the operations that may still come
abbrev Holds : State → Type 0
Holds s = length s.made.events + (s.place.credit + kept_of s.made.seals) ≤ 1200 + 2403 * s.place.at

step-on-holds : (g : Tables) (ts : List Sight) (o : Option Op) (s : State) → length ts + 3 < 2 ^ 64 → Holds s → Holds (step_on g ts o s)
step-on-holds g ts None s short h = h
step-on-holds g ts (Some o) s short h = by_test (nat_lt 0 s.place.credit) refl
  where
    by_test : (x : Bool) → nat_lt 0 s.place.credit ≡ x → Holds (if x then obey_of g ts o (with_place past_of s) else s)
    by_test true e =
        let some : 0 < s.place.credit = grind (arith, nat_tests, e) in
        let falls : potential ts (obey_of g ts o (with_place past_of s)) < potential ts s = obey-spends g ts o s short some in
        let grows = (obey-grows g ts o (with_place past_of s) short).at in
        let few = (obey-few g ts o (with_place past_of s) short).is in
        omega (arith, falls, grows, few, h)
    by_test false e = h

runs-hold : (n : ℕ) (g : Tables) (ts : List Sight) (s : State) → length ts + 3 < 2 ^ 64 → Holds s → Holds (runs n g ts s)
runs-hold zero g ts s short h = subst Holds (sym (runs-none g ts s)) h
runs-hold (suc n) g ts s short h =
    let r : State = runs n g ts s in
    subst Holds (sym (runs-suc n g ts s))
    (subst Holds (sym (step-at g ts r (slice_get g.ops r.place.next) refl)) (step-on-holds g ts (slice_get g.ops r.place.next) r short (runs-hold n g ts s short h)))

pub so_far_few : EventsSoFarAreFew
so_far_few n g rule ts short =
    let h : Holds (runs n g ts (begin_of rule)) = runs-hold n g ts (begin_of rule) short (omega arith) in
    omega (arith, h)

-- ---- pieces

seen_few : (ts : List RawToken) → length (seen_tokens ts) ≤ length ts
seen_few [] = omega arith
seen_few (t ∷ ts) = by (is_trivia t.kind) (seen_few ts)
  where
    by : (b : Bool) → length (seen_tokens ts) ≤ length ts → length (if b then seen_tokens ts else t ∷ seen_tokens ts) ≤ suc (length ts)
    by true h = omega (arith, h)
    by false h = omega (arith, h)

all_front : (xs ys : List RawToken) → All HasBytes (xs ++ ys) → All HasBytes xs
all_front [] ys h = All-nil HasBytes
all_front (x ∷ xs) ys h = All-cons HasBytes x xs (All-head HasBytes x (xs ++ ys) h) (all_front xs ys (All-tail HasBytes x (xs ++ ys) h))

pub come_early : PiecesComeEarly
come_early e text t p k r o u small =
    let ss : List Sight = sights_of e text (tokens_of e text) in
    let c = o.piece.called in
    let l : IsLexed e text = lexed e text u small in
    let few = so_far_few c.before rust_tables (first_op rule.SourceFile) ss (omega (arith, short_text e text u small)) in
    let bytes = few_tokens o.front (all_front o.front o.back (subst (All HasBytes) o.tokens l.none_empty)) in
    omega (arith, c.begins, few, o.count, seen_few o.front, bytes, bytes_are o.front, o.cut)

pub pieces_fit : PiecesFit
pieces_fit e text q t p k j r s reading o x u small v few =
    let short : length q < 2 ^ 32 = omega (arith, few) in
    let made = rust_few (rule_by_number s.number) e q v short in
    let count : length (x.own ++ event.Node j 0 ∷ []) ≡ length x.own + 1 = length-append x.own (event.Node j 0 ∷ []) in
    omega (arith, made, ap length x.events, count, come_early e text t p k r o u small, few)
