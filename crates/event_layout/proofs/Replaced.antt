-- A text in which one piece is replaced is laid as the old one, but for the piece.
use Rattle.std.proofs.Common.{◌≡◌, ℕ, ◌+◌, ◌<◌, true, List, [], ◌∷◌, ◌++◌, map, length, ap, sym, subst, ◌∙◌, refl, arith, Some, if◌then◌else◌, append_assoc}
use Rattle.std.specs.Prelude.{reverse}
use Rattle.std.proofs.lemmas.List.Elements.{All-nil}
use Rattle.std.proofs.lemmas.List.{length-append, length-map, length-reverse, map-append, reverse-append, reverse-reverse}
use Rattle.syntax_kind.specs.declared.syntax_kind.SyntaxKind.{SyntaxKind}
use Rattle.token_layout.specs.declared.span.Token.{Token as RawToken}
use Rattle.grammar_machine.specs.declared.event.Event.{Event}
use Rattle.grammar_machine.specs.declared.event.Event.TheVariants.{Token, Piece, Node, Error}
use Rattle.grammar_machine.specs.Running.{Tables, runs, run_of, begin_of, events_of}
use Rattle.grammar_machine.specs.Framing.{moved_event, moved_events}
use Rattle.grammar_machine.specs.Filling.{event_later}
use Rattle.grammar_machine.specs.Reading.{IsSealedRule}
use Rattle.grammar_machine.specs.Exchanging.{ExchangedAt}
use Rattle.grammar_machine.proofs.Exchanging.{exchanged as exchanged_at}
use Rattle.event_layout.specs.Layout.{root_from, root_of, is_node_at}
use Rattle.event_layout.specs.Filled.{Stretch, Setting, LaidAround as FilledAround, IsSetting, IsPiece, IsShort, is_error_of, set_in, events_in, laid}
use Rattle.event_layout.specs.Ending.{EndsInToken}
use Rattle.event_layout.specs.Exchanged.{OneSetting, setting_of, made_before}
use Rattle.event_layout.specs.Replaced.{Part, sights_in, IsReadAlone, EndsInNode, IsSmall, LaidIn, ReplacedPiecesAreLaid}
use Rattle.event_layout.proofs.Turning.{root_behind}
use Rattle.event_layout.proofs.Filled.{pieces_laid}
use Rattle.event_layout.proofs.Ends.{ends_found}
use Rattle.event_layout.proofs.Exchanged.{exchanged}
use Rattle.event_layout.proofs.Placed.{runs_take, pieces_take}

-- ---- a node ends behind the piece

last_same : (xs ys : List Event) (x y : Event) → xs ++ x ∷ [] ≡ ys ++ y ∷ [] → x ≡ y
last_same xs ys x y e =
    let turned : x ∷ reverse xs ≡ y ∷ reverse ys = sym (reverse-append xs (x ∷ [])) ∙ ap reverse e ∙ reverse-append ys (y ∷ []) in
    cc

node_before : (e n : ℕ) (x : Event) (k : SyntaxKind) (from : ℕ) → event_later e n x ≡ Node k from → is_node_at (Some x) ≡ true
node_before e n (Node l i) k from h = refl
node_before e n (Token l i) k from h = (let bad : Token l i ≡ Node k from = h in cc)
node_before e n (Piece p last) k from h = (let bad : Piece p last ≡ Node k from = h in cc)
node_before e n (Error i) k from h = (let bad : Error i ≡ Node k from = h in cc)

root_one : (x : Event) → is_node_at (Some x) ≡ true → root_of (x ∷ []) ≡ 0
unfolding root_from
root_one x h = ap (λ b. if b then 0 else 1) h

root_last : (xs : List Event) (x : Event) → is_node_at (Some x) ≡ true → root_of (xs ++ x ∷ []) < length (xs ++ x ∷ [])
root_last xs x h =
    let one = root_one x h in
    let at = root_behind xs (x ∷ []) (omega (arith, one)) in
    let long = length-append xs (x ∷ []) in
    omega (arith, one, at, long)

-- the events of a setting, by what is behind
long_in : (s : Setting) (es : List Event) → length (events_in s es) ≡ length s.before.events + (length es + (1 + length s.behind.events))
long_in s es =
    let b = length s.before.events in
    let m = moved_events b es in
    let l = map (event_later b (length es)) s.behind.events in
    let one = length-append s.before.events (m ++ Node s.kind b ∷ l) in
    let two = length-append m (Node s.kind b ∷ l) in
    let own = length-map es (moved_event b) in
    let later = length-map s.behind.events (event_later b (length es)) in
    omega (arith, one, two, own, later)

around : (s : Setting) (es all : List Event) (n : ℕ) → n ≡ (length es + 1) + length s.before.events → all ≡ events_in s es → EndsInNode n all → root_of s.behind.events < length s.behind.events
around s es all n count is ends = by_turned (reverse s.behind.events) refl
  where
    by_turned : (rs : List Event) → reverse s.behind.events ≡ rs → root_of s.behind.events < length s.behind.events
    by_turned [] e =
        let none : length s.behind.events ≡ 0 = sym (length-reverse s.behind.events) ∙ ap length e in
        let long : length all ≡ length s.before.events + (length es + (1 + length s.behind.events)) = ap length is ∙ long_in s es in
        let behind = ends.behind in
        absurd (omega (arith, none, long, behind, count))
    by_turned (r ∷ rs) e =
        let b = length s.before.events in
        let later = event_later b (length es) in
        let d = Node s.kind b in
        let own : s.behind.events ≡ reverse rs ++ r ∷ [] = sym (reverse-reverse s.behind.events) ∙ ap reverse e ∙ reverse-append (r ∷ []) rs in
        let tail : map later s.behind.events ≡ map later (reverse rs) ++ later r ∷ [] = ap (map later) own ∙ map-append later (reverse rs) (r ∷ []) in
        let m = moved_events b es in
        let whole : events_in s es ≡ (s.before.events ++ (m ++ d ∷ map later (reverse rs))) ++ later r ∷ [] =
        ap (λ xs. s.before.events ++ (m ++ d ∷ xs)) tail
        ∙ ap (λ xs. s.before.events ++ xs) (sym (append_assoc m (d ∷ map later (reverse rs)) (later r ∷ [])))
        ∙ sym (append_assoc s.before.events (m ++ d ∷ map later (reverse rs)) (later r ∷ [])) in
        let last : later r ≡ Node ends.kind ends.from = last_same (s.before.events ++ (m ++ d ∷ map later (reverse rs))) ends.front (later r) (Node ends.kind ends.from) (sym whole ∙ sym is ∙ ends.is) in
        subst (λ xs. root_of xs < length xs) (sym own) (root_last (reverse rs) r (node_before b (length es) r ends.kind ends.from last))

-- ---- the pieces

some_tokens : (front : List RawToken) (t : RawToken) → 0 < length (front ++ t ∷ [])
some_tokens front t = let long = length-append front (t ∷ []) in omega (arith, long)

abbrev pub stretch_of : Part → List Event → Stretch
stretch_of p es = record { text = p.text; tokens = p.tokens; events = es }

pub piece_is : (k : SyntaxKind) (g : Tables) (rule part target : ℕ) (a p c : Part) (made : ℕ) (es : List Event) → IsSealedRule g part target k → IsSmall g rule a p c made es → IsReadAlone g part k p es → IsPiece (stretch_of p es)
piece_is k g rule part target a p c made es sealed small r =
    let end : EndsInToken es = ends_found k 0 es r.closes in
    let long = length-append a.sights (p.sights ++ c.sights) in
    let rest = length-append p.sights c.sights in
    let sights = small.sights in
    let few = small.events in
    record {
      cut = r.cut;
      some = subst (λ (ts : List RawToken). 0 < length ts) (sym r.last.is) (some_tokens r.last.front r.last.last);
      first = r.first;
      taken = pieces_take g part target k p.sights es p.tokens sealed r.alone (omega (arith, long, rest, sights)) (omega (arith, few)) r.sights r.last;
      body = end.body;
      kind = end.kind;
      signs = end.signs;
      errors = [];
      events = end.is;
      last = All-nil (λ e. is_error_of e ≡ true);
    }

-- one text, whose events are those of the setting
pub laid_in : (root k : SyntaxKind) (attaching : List SyntaxKind) (g : Tables) (rule : ℕ) (a p c : Part) (made : ℕ) (es before behind : List Event)
    → IsSmall g rule a p c made es → IsPiece (stretch_of p es)
    → (l : FilledAround root attaching (setting_of k (stretch_of a []) (stretch_of c []) before behind))
    → events_of g rule (sights_in a p c) ≡ events_in (setting_of k (stretch_of a []) (stretch_of c []) before behind) es
    → LaidIn root k attaching g rule a p c es l.before l.behind l.faults_before l.faults_behind
laid_in root k attaching g rule a p c made es before behind small piece l is =
    let fits = small.fits.events in
    let count : length (events_in (setting_of k (stretch_of a []) (stretch_of c []) before behind) es) ≡ length (run_of g rule (sights_in a p c)).made.events =
    ap length (sym is) ∙ length-reverse (run_of g rule (sights_in a p c)).made.events in
    let short : IsShort (set_in (setting_of k (stretch_of a []) (stretch_of c []) before behind) (stretch_of p es)) = record { text = small.text; events = omega (arith, count, fits) } in
    record {
      steps = ap (λ (xs : List Event). (laid root attaching (record { text = a.text ++ (p.text ++ c.text); tokens = a.tokens ++ (p.tokens ++ c.tokens); events = xs })).steps) is ∙ l.steps (stretch_of p es) piece short;
      bytes = l.bytes (stretch_of p es) piece short;
      faults = ap (λ (xs : List Event). (laid root attaching (record { text = a.text ++ (p.text ++ c.text); tokens = a.tokens ++ (p.tokens ++ c.tokens); events = xs })).faults) is ∙ l.faults (stretch_of p es) piece short;
      lie_before = l.lie_before (stretch_of p es) piece short;
      lie_behind = l.lie_behind (stretch_of p es) piece short;
    }

pub replaced : ReplacedPiecesAreLaid
replaced root k attaching g rule part target a p q c made es fs looks sealed place reads_p reads_q alike ends small_p small_q =
    let x : ExchangedAt g (sights_in a p c) (sights_in a q c) rule k (length a.sights) made es fs =
    exchanged_at g rule part target k a.sights p.sights q.sights c.sights made es fs sealed place.comes alike reads_p.alone reads_q.alone small_p.sights small_q.sights small_p.events small_q.events in
    let before = made_before x.exchange in
    let one : OneSetting g (sights_in a p c) (sights_in a q c) rule k x.exchange (stretch_of a []) (stretch_of c []) es fs =
    exchanged g (sights_in a p c) (sights_in a q c) rule k x.exchange (stretch_of a []) (stretch_of c []) es fs looks place.sealed small_p.sights small_q.sights small_p.fits small_q.fits x.was_makes x.now_makes in
    let s = setting_of k (stretch_of a []) (stretch_of c []) before one.behind in
    let count : length before ≡ made = length-reverse (runs x.exchange.steps g (sights_in a p c) (begin_of rule)).made.events ∙ x.made_is in
    let is : IsSetting attaching s = record {
      cut_before = place.cut_before;
      cut_behind = place.cut_behind;
      taken = runs_take x.exchange.steps g rule a.sights (p.sights ++ c.sights) a.tokens small_p.sights place.sights place.plain x.taken;
      around = around s es (events_of g rule (sights_in a p c)) ((length es + 1) + made) (omega (arith, count)) one.were ends;
      apart = place.apart;
    } in
    let l : FilledAround root attaching s = pieces_laid root attaching s is in
    record {
      before = l.before;
      behind = l.behind;
      faults_before = l.faults_before;
      faults_behind = l.faults_behind;
      was = laid_in root k attaching g rule a p c made es before one.behind small_p (piece_is k g rule part target a p c made es sealed small_p reads_p) l one.were;
      now = laid_in root k attaching g rule a q c made fs before one.behind small_q (piece_is k g rule part target a q c made fs sealed small_q reads_q) l one.are;
    }
