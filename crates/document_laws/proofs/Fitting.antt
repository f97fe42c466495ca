-- A text in which one piece is replaced is laid as the old one, but for the piece, where the
-- piece's node is not the root's.
use Rattle.std.proofs.Common.{◌≡◌, ℕ, zero, suc, ◌+◌, ◌<◌, ◌≤◌, Bool, true, false, nat_eq, nat_lt, List, [], ◌∷◌, ◌++◌, map, length, ap, ap₂, sym, ◌∙◌, refl, arith, Some, None, Option, if◌then◌else◌}
use Rattle.std.specs.Prelude.{option_map, slice_get}
use Rattle.std.proofs.lemmas.Bool.{eqb-false}
use Rattle.std.proofs.lemmas.Bool.Decides.{nat_tests}
use Rattle.std.proofs.lemmas.List.{length-append, length-map, length-reverse}
use Rattle.std.proofs.lemmas.Option.{slice_get-map, slice_get_within}
use Rattle.syntax_kind.specs.declared.syntax_kind.SyntaxKind.{SyntaxKind}
use Rattle.grammar_machine.specs.declared.event.Event.{Event}
use Rattle.grammar_machine.specs.declared.event.Event.TheVariants.{Token, Piece, Node, Error}
use Rattle.grammar_machine.specs.Running.{Tables, runs, begin_of, events_of}
use Rattle.grammar_machine.specs.Framing.{moved_event, moved_events}
use Rattle.grammar_machine.specs.Filling.{LooksAreShort, event_later}
use Rattle.grammar_machine.specs.Reading.{IsSealedRule}
use Rattle.grammar_machine.specs.Exchanging.{EndAlike, ExchangedAt}
use Rattle.grammar_machine.proofs.Exchanging.{exchanged as exchanged_at}
use Rattle.event_layout.specs.Layout.{root_from, root_of, is_node_at}
use Rattle.event_layout.specs.Filled.{Setting, LaidAround as FilledAround, IsSetting, events_in}
use Rattle.event_layout.specs.Exchanged.{OneSetting, setting_of, made_before}
use Rattle.event_layout.specs.Replaced.{Part, sights_in, IsReadAlone, IsPlace, IsSmall, LaidAround}
use Rattle.event_layout.proofs.Replaced.{stretch_of, piece_is, laid_in}
use Rattle.event_layout.proofs.Turning.{root_behind}
use Rattle.event_layout.proofs.Filled.{pieces_laid}
use Rattle.event_layout.proofs.Exchanged.{exchanged}
use Rattle.event_layout.proofs.Placed.{runs_take}

-- ---- the last node

root_zero : (es : List Event) → root_from es 0 ≡ length es
unfolding root_from
root_zero es = refl

root_suc : (es : List Event) (n : ℕ) → root_from es (suc n) ≡ (if is_node_at (slice_get es n) then n else root_from es n)
unfolding root_from
root_suc es n = refl

is_node_later : (e n : ℕ) (o : Option Event) → is_node_at (option_map (event_later e n) o) ≡ is_node_at o
is_node_later e n None = refl
is_node_later e n (Some (Node k from)) = refl
is_node_later e n (Some (Token k signs)) = refl
is_node_later e n (Some (Piece p last)) = refl
is_node_later e n (Some (Error m)) = refl

root_later_from : (e n : ℕ) (es : List Event) (m : ℕ) → root_from (map (event_later e n) es) m ≡ root_from es m
root_later_from e n es zero = root_zero (map (event_later e n) es) ∙ length-map es (event_later e n) ∙ sym (root_zero es)
root_later_from e n es (suc m) =
    root_suc (map (event_later e n) es) m
    ∙ ap₂ (λ b i. if b then m else i) (ap is_node_at (slice_get-map (event_later e n) es m) ∙ is_node_later e n (slice_get es m)) (root_later_from e n es m)
    ∙ sym (root_suc es m)

root_later : (e n : ℕ) (es : List Event) → root_of (map (event_later e n) es) ≡ root_of es
root_later e n es = ap (root_from (map (event_later e n) es)) (length-map es (event_later e n)) ∙ root_later_from e n es (length es)

no_none : is_node_at None ≡ true → ⊥
no_none h = (let bad : false ≡ true = h in cc)

-- an event that is there has a number below the length
node_within : (ys : List Event) (m : ℕ) → is_node_at (slice_get ys m) ≡ true → m < length ys
node_within ys m h = by (slice_get ys m) refl
  where
    by : (o : Option Event) → slice_get ys m ≡ o → m < length ys
    by (Some y) e = slice_get_within ys m y e
    by None e = absurd (no_none (sym (ap is_node_at e) ∙ h))

-- a node before events of which none is a node
first_from : (k : SyntaxKind) (from : ℕ) (ys : List Event) (n : ℕ) → length ys ≤ root_from ys n → root_from (Node k from ∷ ys) (suc n) ≡ 0
first_from k from ys zero h = root_suc (Node k from ∷ ys) 0
first_from k from ys (suc m) h = root_suc (Node k from ∷ ys) (suc m) ∙ by (is_node_at (slice_get ys m)) refl (first_from k from ys m)
  where
    by : (b : Bool) → is_node_at (slice_get ys m) ≡ b → (length ys ≤ root_from ys m → root_from (Node k from ∷ ys) (suc m) ≡ 0)
        → (if is_node_at (slice_get ys m) then suc m else root_from (Node k from ∷ ys) (suc m)) ≡ 0
    by true e more =
        let at : root_from ys (suc m) ≡ m = root_suc ys m ∙ ap (λ (b : Bool). if b then m else root_from ys m) e in
        absurd (omega (arith, h, at, node_within ys m e))
    by false e more =
        let at : root_from ys (suc m) ≡ root_from ys m = root_suc ys m ∙ ap (λ (b : Bool). if b then m else root_from ys m) e in
        ap (λ (b : Bool). if b then suc m else root_from (Node k from ∷ ys) (suc m)) e ∙ more (omega (arith, h, at))

first_node : (k : SyntaxKind) (from : ℕ) (ys : List Event) → length ys ≤ root_of ys → root_of (Node k from ∷ ys) ≡ 0
first_node k from ys h = first_from k from ys (length ys) h

-- where the node of a piece is not the last one, there is one behind it
around : (s : Setting) (es all : List Event) (n : ℕ) → n ≡ length es + length s.before.events → all ≡ events_in s es → nat_eq n (root_of all) ≡ false → root_of s.behind.events < length s.behind.events
around s es all n count is inner = by (nat_lt (root_of s.behind.events) (length s.behind.events)) refl
  where
    by : (b : Bool) → nat_lt (root_of s.behind.events) (length s.behind.events) ≡ b → root_of s.behind.events < length s.behind.events
    by true e = grind (arith, nat_tests, e)
    by false e =
        let b = length s.before.events in
        let m = moved_events b es in
        let l = map (event_later b (length es)) s.behind.events in
        let none : length s.behind.events ≤ root_of s.behind.events = grind (arith, nat_tests, e) in
        let over : length l ≤ root_of l = omega (arith, none, root_later b (length es) s.behind.events, length-map s.behind.events (event_later b (length es))) in
        let one : root_of (Node s.kind b ∷ l) ≡ 0 = first_node s.kind b l over in
        let two : root_of (m ++ Node s.kind b ∷ l) ≡ length m + root_of (Node s.kind b ∷ l) = root_behind m (Node s.kind b ∷ l) (omega (arith, one)) in
        let long : length (m ++ Node s.kind b ∷ l) ≡ length m + length (Node s.kind b ∷ l) = length-append m (Node s.kind b ∷ l) in
        let three : root_of (s.before.events ++ (m ++ Node s.kind b ∷ l)) ≡ length s.before.events + root_of (m ++ Node s.kind b ∷ l) =
        root_behind s.before.events (m ++ Node s.kind b ∷ l) (omega (arith, one, two, long)) in
        let root : root_of all ≡ n = omega (arith, ap root_of is, three, two, one, count, length-map es (moved_event b)) in
        absurd (eqb-false n (root_of all) inner (sym root))

-- ---- the law of `event_layout`, where it is known that the piece's node is not the last one
pub fitted : (root k : SyntaxKind) (attaching : List SyntaxKind) (g : Tables) (rule part target : ℕ) (a p q c : Part) (made : ℕ) (es fs : List Event)
    → LooksAreShort g → IsSealedRule g part target k → IsPlace g rule target k attaching a p c made
    → IsReadAlone g part k p es → IsReadAlone g part k q fs → EndAlike g p.sights q.sights
    → nat_eq (length es + made) (root_of (events_of g rule (sights_in a p c))) ≡ false
    → IsSmall g rule a p c made es → IsSmall g rule a q c made fs → LaidAround root k attaching g rule a p q c es fs
fitted root k attaching g rule part target a p q c made es fs looks sealed place reads_p reads_q alike inner small_p small_q =
    let x : ExchangedAt g (sights_in a p c) (sights_in a q c) rule k (length a.sights) made es fs =
    exchanged_at g rule part target k a.sights p.sights q.sights c.sights made es fs sealed place.comes alike reads_p.alone reads_q.alone small_p.sights small_q.sights small_p.events small_q.events in
    let before = made_before x.exchange in
    let one : OneSetting g (sights_in a p c) (sights_in a q c) rule k x.exchange (stretch_of a []) (stretch_of c []) es fs =
    exchanged g (sights_in a p c) (sights_in a q c) rule k x.exchange (stretch_of a []) (stretch_of c []) es fs looks place.sealed small_p.sights small_q.sights small_p.fits small_q.fits x.was_makes x.now_makes in
    let s = setting_of k (stretch_of a []) (stretch_of c []) before one.behind in
    let count : length before ≡ made = length-reverse (runs x.exchange.steps g (sights_in a p c) (begin_of rule)).made.events ∙ x.made_is in
    let is : IsSetting attaching s = record {
      cut_before = place.cut_before;
      cut_behind = place.cut_behind;
      taken = runs_take x.exchange.steps g rule a.sights (p.sights ++ c.sights) a.tokens small_p.sights place.sights place.plain x.taken;
      around = around s es (events_of g rule (sights_in a p c)) (length es + made) (omega (arith, count)) one.were inner;
      apart = place.apart;
    } in
    let l : FilledAround root attaching s = pieces_laid root attaching s is in
    record {
      before = l.before;
      behind = l.behind;
      faults_before = l.faults_before;
      faults_behind = l.faults_behind;
      was = laid_in root k attaching g rule a p c made es before one.behind small_p (piece_is k g rule part target a p c made es sealed small_p reads_p) l one.were;
      now = laid_in root k attaching g rule a q c made fs before one.behind small_q (piece_is k g rule part target a q c made fs sealed small_q reads_q) l one.are;
    }
