-- The runs over two texts that differ in one sealed piece.
use Rattle.std.proofs.Common.{◌≡◌, ℕ, ◌<◌, ◌≤◌, ◌+◌, ◌-◌, ◌^◌, List, [], ◌∷◌, ◌++◌, map, drop, length, ap, ap₂, ◌∙◌, sym, subst, refl, arith, Bool, true, false, nat_le, if◌then◌else◌}
use Rattle.std.specs.Prelude.{slice_get}
use Rattle.std.proofs.lemmas.List.{append-nil}
use Rattle.std.proofs.lemmas.Bool.Decides.{nat_tests}
use Rattle.std.proofs.Math.Nat.{min-le_left}
use Rattle.syntax_kind.specs.declared.syntax_kind.SyntaxKind.{SyntaxKind}
use Rattle.grammar_machine.specs.declared.event.Event.{Event}
use Rattle.grammar_machine.specs.declared.event.Event.TheVariants as event
use Rattle.grammar_machine.specs.declared.grammar.Sight.{Sight}
use Rattle.grammar_machine.specs.declared.made.Seal.{Seal}
use Rattle.grammar_machine.specs.Running.{Tables, State, start_of, runs, begin_of}
use Rattle.grammar_machine.specs.Filling.{later_than, event_later, seal_later, inserted, filled, LooksAreShort, Fits}
use Rattle.grammar_machine.specs.Sealing.{returned, behind_call, LeavesNothing}
use Rattle.grammar_machine.specs.Replacing.{hole_of, SealedPiecesAreReplaced}
use Rattle.grammar_machine.proofs.Growing.{runs-grow}
use Rattle.grammar_machine.proofs.Local.{runs-same}
use Rattle.grammar_machine.proofs.Filled.{runs-after, later-below, inserted-more}
use Rattle.grammar_machine.proofs.Sealed.{sealed-leave-nothing, returns-behind, from-place, length-from}
use Rattle.grammar_machine.proofs.Marked.{AtMost, IsMarked, runs-marks}

-- ---- what is below the piece stays as it is

marks-stay : (e n : ℕ) (ms : List ℕ) → AtMost e ms → map (later_than e n) ms ≡ ms
marks-stay e n [] h = refl
marks-stay e n (m ∷ ms) h = ap₂ (λ x xs. x ∷ xs) (later-below e n m h.0) (marks-stay e n ms h.1)

seals-stay : (e n : ℕ) (xs : List Seal) → AtMost e (map (λ (x : Seal). x.from) xs) → map (seal_later e n) xs ≡ xs
seals-stay e n [] h = refl
seals-stay e n (x ∷ xs) h = ap₂ (λ i ys. record x { from = i } ∷ ys) (later-below e n x.from h.0) (seals-stay e n xs h.1)

wrong : (x : Bool) → x ≡ true → x ≡ false → ⊥
wrong true p q = (let bad : true ≡ false = q in cc)
wrong false p q = (let bad : false ≡ true = p in cc)

under : (e : ℕ) (rest xs : List Event) → length xs ≤ e → inserted e rest xs ≡ rest ++ xs
unfolding inserted
under e rest [] h = sym (append-nil rest)
under e rest (x ∷ xs) h = by_test (nat_le (length (x ∷ xs)) e) refl
  where
    by_test : (t : Bool) → nat_le (length (x ∷ xs)) e ≡ t → inserted e rest (x ∷ xs) ≡ rest ++ (x ∷ xs)
    by_test true q = ap (λ t. if t then rest ++ (x ∷ xs) else event_later e (length rest) x ∷ inserted e rest xs) q
    by_test false q = (let bad : nat_le (length (x ∷ xs)) e ≡ true = grind (arith, nat_tests, h) in absurd (wrong (nat_le (length (x ∷ xs)) e) bad q))

-- the state behind a call is one in which the piece is one event, filled
is-filled : (k : SyntaxKind) (s : State) (at : ℕ) (es : List Event) → 1 ≤ at → IsMarked s.made → behind_call k s at es ≡ filled (hole_of s at es) (behind_call k s 1 [])
is-filled k s at es some h =
    let e = length s.made.events in
    let n = length es in
    let place : at ≡ 1 + (at - 1) = omega (arith, some) in
    let first : start_of s.made ≡ later_than e n (start_of s.made) = sym (later-below e n (start_of s.made) (min-le_left e (2 ^ 32 - 1))) in
    let over : e < length (event.Node k (start_of s.made) ∷ s.made.events) = omega arith in
    let made : event.Node k (start_of s.made) ∷ (es ++ s.made.events) ≡ inserted e es (event.Node k (start_of s.made) ∷ s.made.events) =
    ap₂ (λ i xs. event.Node k i ∷ xs) first (sym (under e es s.made.events (omega arith))) ∙ sym (inserted-more e es (event.Node k (start_of s.made)) s.made.events over) in
    ap₂ (λ i xs. record { place = record (behind_call k s at es).place { at = i }; made = record s.made { events = xs } }) place made
    ∙ ap₂ (λ ms xs. record { place = (filled (hole_of s at es) (behind_call k s 1 [])).place; made = record (filled (hole_of s at es) (behind_call k s 1 [])).made { marks = ms; seals = xs } })
    (sym (marks-stay e n s.made.marks h.0)) (sym (seals-stay e n s.made.seals h.1))

-- a run behind a call
goes : (g : Tables) (ts rest : List Sight) (k : SyntaxKind) (s x : State) (n : ℕ) → LooksAreShort g → length ts + 3 < 2 ^ 64 → length rest + 3 < 2 ^ 64
    → IsMarked s.made → (l : LeavesNothing k s x) → 1 ≤ x.place.at → rest ≡ drop (x.place.at - 1) ts → Fits (runs n g ts x)
    → runs n g ts x ≡ filled (hole_of s x.place.at l.events) (runs n g rest (behind_call k s 1 []))
goes g ts rest k s x n looks short few marked l some is fits =
    let hole = hole_of s x.place.at l.events in
    let here : x ≡ filled hole (behind_call k s 1 []) = l.is ∙ is-filled k s x.place.at l.events some marked in
    ap (runs n g ts) here
    ∙ runs-after n hole g rest ts (behind_call k s 1 []) (λ i. from-place (x.place.at - 1) i ts ∙ ap (λ us. slice_get us i) (sym is)) looks few short (omega arith) (omega arith)
    (subst (λ (y : State). Fits (runs n g ts y)) here fits)

-- a state that comes before another one fits if that one does
pub fits-before : (n : ℕ) (g : Tables) (ts : List Sight) (x : State) → length ts + 3 < 2 ^ 64 → Fits (runs n g ts x) → Fits x
fits-before n g ts x short fits =
    let grows = runs-grow n g ts x short in
    let at = grows.at in
    let events = grows.events in
    let last = fits.at in
    let most = fits.events in
    record { at = omega (arith, at, last); events = omega (arith, events, most) }

pub sealed-replaced : SealedPiecesAreReplaced
sealed-replaced g old new rule k x n looks short far fits_old fits_new =
    let s = runs x.steps g old (begin_of rule) in
    let within = x.was.token in
    let same : s ≡ runs x.steps g new (begin_of rule) = runs-same x.steps s.place.at g old new (begin_of rule) x.before x.brace (omega (arith, within, short)) short (omega arith) in
    let marked = runs-marks x.steps g old (begin_of rule) (tt, tt) in
    let l : LeavesNothing k s (returned x.was) = sealed-leave-nothing g old k s x.was looks short (fits-before n g old (returned x.was) short fits_old) in
    let m : LeavesNothing k s (returned x.now) =
    subst (λ (t : State). LeavesNothing k t (returned x.now)) (sym same) (sealed-leave-nothing g new k (runs x.steps g new (begin_of rule)) x.now looks far (fits-before n g new (returned x.now) far fits_new)) in
    let some = returns-behind g old k s x.was short in
    let also = returns-behind g new k (runs x.steps g new (begin_of rule)) x.now far in
    let fewer = length-from ((returned x.was).place.at - 1) old in
    record {
      were = l.events;
      was_call = l.is;
      are = m.events;
      now_call = m.is;
      old_is = goes g old (drop ((returned x.was).place.at - 1) old) k s (returned x.was) n looks short (omega (arith, short, fewer)) marked l (omega (arith, some)) refl fits_old;
      new_is = goes g new (drop ((returned x.was).place.at - 1) old) k s (returned x.now) n looks far (omega (arith, short, fewer)) marked m (omega (arith, also)) x.behind fits_new;
    }
