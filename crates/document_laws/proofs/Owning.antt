-- The events that the sealed call of a node made by itself.
use Rattle.std.proofs.Common.{◌≡◌, ℕ, suc, ◌+◌, ◌<◌, ◌≤◌, ◌^◌, Bool, true, false, if◌then◌else◌, List, [], ◌∷◌, ◌++◌, length, take, drop, ap, ◌∙◌, refl, subst, sym, arith, append_assoc}
use Rattle.std.specs.Prelude.{slice_get, reverse, All, IsUtf8, ◌==◌}
use Rattle.std.proofs.lemmas.List.{reverse-append, reverse-reverse, map-append, length-append, length-reverse}
use Rattle.std.proofs.lemmas.Option.{slice_get_within}
use Rattle.std.proofs.lemmas.List.Elements.{All-head, All-tail}
use Rattle.syntax_kind.specs.declared.syntax_kind.SyntaxKind.{SyntaxKind}
use Rattle.ras_front_end.specs.declared.edition.Edition.{Edition}
use Rattle.token_layout.specs.declared.span.Token.{Token as RawToken}
use Rattle.grammar_machine.specs.declared.event.Event.{Event}
use Rattle.grammar_machine.specs.declared.event.Event.TheVariants as event
use Rattle.grammar_machine.specs.declared.grammar.Sight.{Sight}
use Rattle.grammar_machine.specs.Running.{Tables, State, start_of, step_of, runs, begin_of}
use Rattle.grammar_machine.specs.Counting.{taken_by}
use Rattle.grammar_machine.specs.Exchanging.{CallsMakeTheirOwn, MakesItsOwn}
use Rattle.grammar_machine.specs.Framing.{moved_event, moved_events}
use Rattle.grammar_machine.specs.Sealing.{SealedCall, returned}
use Rattle.grammar_machine.specs.Seen.{AllSeen, IsSeen, HasParts}
use Rattle.grammar_machine.proofs.Running.{runs-suc}
use Rattle.grammar_machine.proofs.Counted.{runs-counted}
use Rattle.grammar_machine.proofs.Seen.{runs-seen}
use Rattle.event_layout.specs.Amid.{sum_len}
use Rattle.event_layout.proofs.Filled.{cut_sum}
use Rattle.rust_grammar.specs.declared.tables.rules.Rule.TheVariants as rule
use Rattle.rust_grammar.specs.Rules.{first_op}
use Rattle.rust_grammar.specs.Seeing.{number_of, number_on, seen_of, sight_of, sights_of}
use Rattle.rust_grammar.specs.Tables.{rust_tables}
use Rattle.rust_lexer.specs.Laws.{HasBytes, IsLexed}
use Rattle.rust_lexer.specs.Lexing.{tokens_of}
use Rattle.rust_lexer.proofs.Kept.{lexed}
use Rattle.document_laws.specs.Pieces.{events_in}
use Rattle.document_laws.specs.Own.{before_call, IsOwnCall, NodesHaveTheirOwn, PiecesHaveTheirOwn}
use Rattle.document_laws.proofs.Calling.{inside_at}
use Rattle.document_laws.proofs.Piecing.{parts_at}
use Rattle.document_laws.proofs.Tabling.{looks_short}

-- ---- a run takes no more tokens than there are, but for two

few_taken : (ts : List Sight) (es : List Event) → AllSeen ts es → taken_by es ≤ length ts + 2
few_taken ts [] h = omega arith
few_taken ts (event.Token k signs ∷ es) h =
    let seen : IsSeen ts (taken_by es) signs = h.0 in
    omega (arith, slice_get_within ts (taken_by es) seen.sight seen.there, seen.few)
few_taken ts (event.Piece p true ∷ es) h =
    let seen : HasParts ts (taken_by es) = h.0 in
    omega (arith, slice_get_within ts (taken_by es) seen.sight seen.there)
few_taken ts (event.Piece p false ∷ es) h = omega (arith, few_taken ts es h.1)
few_taken ts (event.Node k from ∷ es) h = omega (arith, few_taken ts es h.1)
few_taken ts (event.Error m ∷ es) h = omega (arith, few_taken ts es h.1)

pub few_at : (n : ℕ) (g : Tables) (ts : List Sight) (rule : ℕ) → length ts + 3 < 2 ^ 64 → (runs n g ts (begin_of rule)).place.at ≤ length ts + 2
few_at n g ts rule short =
    omega (arith, few_taken ts (runs n g ts (begin_of rule)).made.events (runs-seen n g ts rule short), runs-counted n g ts rule short)

-- ---- the call

-- where the call of a run returns, the run is
pub returned_at : (g : Tables) (ts : List Sight) (rule before : ℕ) (k : SyntaxKind) (c : SealedCall g ts k (runs before g ts (begin_of rule)))
    → returned c ≡ runs (suc (c.steps + suc before)) g ts (begin_of rule)
returned_at g ts rule before k c = ap (λ (s : State). step_of g ts s) (inside_at g ts rule c.steps before) ∙ sym (runs-suc (c.steps + suc before) g ts (begin_of rule))

pub tail_of : (x y : Event) (xs ys : List Event) → x ∷ xs ≡ y ∷ ys → xs ≡ ys
tail_of x y xs ys e = cc

pub own_call : CallsMakeTheirOwn → NodesHaveTheirOwn
own_call law g ts rule k from es c looks short few =
    let s : State = runs c.before g ts (begin_of rule) in
    let at : (returned c.call).place.at ≤ length ts + 2 =
    subst (λ (t : State). t.place.at ≤ length ts + 2) (sym (returned_at g ts rule c.before k c.call)) (few_at (suc (c.call.steps + suc c.before)) g ts rule (omega (arith, short))) in
    let count : length (returned c.call).made.events ≡ suc (length es) = ap length c.events in
    let m : MakesItsOwn c.call = law g ts k s c.call looks (omega (arith, short)) (record { at = omega (arith, at, short); events = omega (arith, count, few) }) in
    let mine : List Event = moved_events (length s.made.events) (reverse m.own) in
    let all : event.Node k (start_of s.made) ∷ (mine ++ s.made.events) ≡ event.Node k from ∷ es = sym (ap (λ (t : State). t.made.events) m.makes) ∙ c.events in
    let is : mine ++ s.made.events ≡ es = tail_of (event.Node k (start_of s.made)) (event.Node k from) (mine ++ s.made.events) es all in
    let long : length mine + length s.made.events ≡ length es = sym (length-append mine s.made.events) ∙ ap length is in
    let first : length s.made.events ≡ from = omega (arith, c.begins, long, few) in
    record {
      own = m.own;
      makes = m.makes;
      events = sym is ∙ ap (λ (n : ℕ). moved_events n (reverse m.own) ++ s.made.events) first;
      made_is = first;
      comes = record { steps = c.before; call = c.call.found; left = c.call.left; taken = refl; made_is = first };
    }

-- ---- a text of Rust

pub few_sights : (e : Edition) (text : List ℕ) (ts : List RawToken) → length (sights_of e text ts) ≤ length ts
few_sights e text [] = omega arith
few_sights e text (t ∷ ts) =
    let one : List Sight = seen_of e (take t.len text) (number_of t.kind) (number_on (slice_get ts 0)) (number_on (slice_get ts 1)) in
    omega (arith, length-append one (sights_of e (drop t.len text) ts), by (number_of t.kind == 0), few_sights e (drop t.len text) ts)
  where
    by : (b : Bool) → length (if b then [] else sight_of e (take t.len text) (number_of t.kind) (number_on (slice_get ts 0)) (number_on (slice_get ts 1)) ∷ []) ≤ 1
    by true = omega arith
    by false = omega arith

pub few_tokens : (ts : List RawToken) → All HasBytes ts → length ts ≤ sum_len ts
few_tokens [] h = omega arith
few_tokens (t ∷ ts) h = omega (arith, All-head HasBytes t ts h, few_tokens ts (All-tail HasBytes t ts h))

pub short_text : (e : Edition) (text : List ℕ) → IsUtf8 text → length text < 2 ^ 32 → length (sights_of e text (tokens_of e text)) < 2 ^ 32
short_text e text u small =
    let l : IsLexed e text = lexed e text u small in
    omega (arith, small, few_sights e text (tokens_of e text), few_tokens (tokens_of e text) l.none_empty, cut_sum (tokens_of e text) text l.cut)

pub map_turned : (n : ℕ) (es : List Event) → reverse (moved_events n es) ≡ moved_events n (reverse es)
map_turned n [] = refl
map_turned n (x ∷ es) =
    reverse-append (moved_event n x ∷ []) (moved_events n es) ∙ ap (λ (ys : List Event). ys ++ moved_event n x ∷ []) (map_turned n es)
    ∙ sym (ap (moved_events n) (reverse-append (x ∷ []) es) ∙ map-append (moved_event n) (reverse es) (x ∷ []))

pub pieces_own : CallsMakeTheirOwn → PiecesHaveTheirOwn
pieces_own law e text t p k r c u small few =
    let es : List Event = events_in e text in
    let n : ℕ = c.event.number in
    let from : ℕ = c.event.from in
    let all : es ≡ take n es ++ event.Node k from ∷ drop (suc n) es = parts_at es n (event.Node k from) c.event.event in
    let long : length es ≡ length (take n es) + suc (length (drop (suc n) es)) = ap length all ∙ length-append (take n es) (event.Node k from ∷ drop (suc n) es) in
    let o : IsOwnCall rust_tables (sights_of e text (tokens_of e text)) (first_op rule.SourceFile) k from (reverse (take n es)) c.called =
    own_call law rust_tables (sights_of e text (tokens_of e text)) (first_op rule.SourceFile) k from (reverse (take n es)) c.called looks_short
    (omega (arith, short_text e text u small)) (omega (arith, few, long, length-reverse (take n es))) in
    let before : List Event = (before_call c.called).made.events in
    let mine : List Event = moved_events from (reverse o.own) in
    let front : take n es ≡ reverse before ++ moved_events from o.own =
    sym (reverse-reverse (take n es)) ∙ ap reverse o.events ∙ reverse-append mine before
    ∙ ap (λ (ys : List Event). reverse before ++ ys) (map_turned from (reverse o.own) ∙ ap (moved_events from) (reverse-reverse o.own)) in
    record {
      is_own = o;
      later = drop (suc n) es;
      all =
          all ∙ ap (λ (ys : List Event). ys ++ event.Node k from ∷ drop (suc n) es) front
          ∙ append_assoc (reverse before) (moved_events from o.own) (event.Node k from ∷ drop (suc n) es);
    }
