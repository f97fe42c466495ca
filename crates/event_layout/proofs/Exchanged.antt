-- The events of two runs that differ in one piece are those of one setting.
use Rattle.std.proofs.Common.{◌≡◌, ℕ, suc, ◌+◌, ◌-◌, ◌<◌, ◌≤◌, ◌^◌, List, [], ◌∷◌, ◌++◌, length, ap, ap₂, sym, subst, ◌∙◌, refl, arith}
use Rattle.std.specs.Prelude.{reverse, drop}
use Rattle.std.proofs.lemmas.List.{append_cancel_right, length-append, length-reverse, reverse-reverse}
use Rattle.std.proofs.Math.Nat.{min-eq_left}
use Rattle.syntax_kind.specs.declared.syntax_kind.SyntaxKind.{SyntaxKind}
use Rattle.grammar_machine.specs.declared.event.Event.{Event}
use Rattle.grammar_machine.specs.declared.event.Event.TheVariants.{Node}
use Rattle.grammar_machine.specs.declared.grammar.Sight.{Sight}
use Rattle.grammar_machine.specs.Running.{Tables, State, start_of, step_of, runs, run_of, begin_of, fuel_of}
use Rattle.grammar_machine.specs.Framing.{moved_event, moved_events}
use Rattle.grammar_machine.specs.Filling.{Fits, filled, inserted}
use Rattle.grammar_machine.specs.Sealing.{SealedCall, inside, returned, behind_call}
use Rattle.grammar_machine.specs.Replacing.{hole_of, common}
use Rattle.grammar_machine.specs.Lasting.{IsOver}
use Rattle.grammar_machine.proofs.Running.{runs-suc, runs-add}
use Rattle.grammar_machine.proofs.Local.{runs-same}
use Rattle.grammar_machine.proofs.Replaced.{sealed-replaced, fits-before}
use Rattle.grammar_machine.proofs.Lasting.{sealed-stay}
use Rattle.grammar_machine.proofs.Ended.{runs-end}
use Rattle.event_layout.specs.Filled.{Stretch, events_in}
use Rattle.event_layout.specs.Exchanged.{setting_of, ExchangedEventsAreSetIn}
use Rattle.event_layout.proofs.Inserting.{reverse_map, events_set_in}

-- behind a call a run is the run
behind_is : (m n : ℕ) (g : Tables) (ts : List Sight) (rule : ℕ) (k : SyntaxKind) (c : SealedCall g ts k (runs m g ts (begin_of rule))) → length ts + 3 < 2 ^ 64 → fuel_of (length ts) ≤ n
    → runs n g ts (returned c) ≡ run_of g rule ts
behind_is m n g ts rule k c short most =
    let start = begin_of rule in
    let one : step_of g ts (runs m g ts start) ≡ runs (suc m) g ts start = sym (runs-suc m g ts start) in
    let two : inside c.steps g ts (runs m g ts start) ≡ runs (c.steps + suc m) g ts start = ap (runs c.steps g ts) one ∙ sym (runs-add c.steps (suc m) g ts start) in
    let three : returned c ≡ runs (suc (c.steps + suc m)) g ts start = ap (step_of g ts) two ∙ sym (runs-suc (c.steps + suc m) g ts start) in
    ap (runs n g ts) three ∙ sym (runs-add n (suc (c.steps + suc m)) g ts start) ∙ runs-end (n + suc (c.steps + suc m)) g rule ts short (omega (arith, most))

-- what a call made, last first, in its place
own_is : (k : SyntaxKind) (s : State) (t : State) (were es : List Event) → t ≡ behind_call k s t.place.at were → t ≡ behind_call k s t.place.at (moved_events (length s.made.events) (reverse es))
    → were ≡ reverse (moved_events (length s.made.events) es)
own_is k s t were es one other =
    let n = length s.made.events in
    let same : Node k (start_of s.made) ∷ (were ++ s.made.events) ≡ Node k (start_of s.made) ∷ (moved_events n (reverse es) ++ s.made.events) = ap (λ (x : State). x.made.events) (sym one ∙ other) in
    let tail : were ++ s.made.events ≡ moved_events n (reverse es) ++ s.made.events = ap (λ xs. drop 1 xs) same in
    append_cancel_right were (moved_events n (reverse es)) s.made.events tail ∙ sym (reverse_map (moved_event n) es)

-- a run that is filled with the events of its call
set_in : (g : Tables) (rest : List Sight) (k : SyntaxKind) (s y : State) (at : ℕ) (were es later : List Event) (a c : Stretch)
    → were ≡ reverse (moved_events (length s.made.events) es) → length s.made.events < 2 ^ 32 - 1
    → y.made.events ≡ later ++ (Node k (start_of s.made) ∷ s.made.events)
    → reverse (filled (hole_of s at were) y).made.events ≡ events_in (setting_of k a c (reverse s.made.events) (reverse later)) es
set_in g rest k s y at were es later a c own few is =
    let b = reverse s.made.events in
    let n : length b ≡ length s.made.events = length-reverse s.made.events in
    let start : start_of s.made ≡ length b = (let low : length s.made.events ≤ 2 ^ 32 - 1 = omega (arith, few) in min-eq_left low) ∙ sym n in
    let under : y.made.events ≡ reverse (reverse later) ++ (Node k (length b) ∷ reverse b) =
    is ∙ ap₂ (λ xs ys. xs ++ ys) (sym (reverse-reverse later)) (ap₂ (λ i ys. Node k i ∷ ys) start (sym (reverse-reverse s.made.events))) in
    let rest_is : were ≡ reverse (moved_events (length b) es) = own ∙ ap (λ i. reverse (moved_events i es)) (sym n) in
    ap reverse (ap₂ (λ i ws. inserted i ws y.made.events) (sym n) rest_is ∙ ap (inserted (length b) (reverse (moved_events (length b) es))) under)
    ∙ events_set_in (setting_of k a c b (reverse later)) es

pub exchanged : ExchangedEventsAreSetIn
exchanged g old new rule k x a c es fs looks sealed short far fits_old fits_new made_old made_new =
    let s = runs x.steps g old (begin_of rule) in
    let n = fuel_of (length old) + fuel_of (length new) in
    let old_end : runs n g old (returned x.was) ≡ run_of g rule old = behind_is x.steps n g old rule k x.was short (omega arith) in
    let new_end : runs n g new (returned x.now) ≡ run_of g rule new = behind_is x.steps n g new rule k x.now far (omega arith) in
    let old_fits : Fits (runs n g old (returned x.was)) = subst (λ (t : State). Fits t) (sym old_end) fits_old in
    let new_fits : Fits (runs n g new (returned x.now)) = subst (λ (t : State). Fits t) (sym new_end) fits_new in
    let r = sealed-replaced g old new rule k x n looks short far old_fits new_fits in
    let over : IsOver (Node k (start_of s.made) ∷ s.made.events) (common x n).made =
    sealed-stay n g (drop ((returned x.was).place.at - 1) old) (behind_call k s 1 []) k (start_of s.made) s.made.events refl sealed in
    let call_fits = (fits-before n g old (returned x.was) short old_fits).events in
    let count : length (returned x.was).made.events ≡ suc (length (r.were ++ s.made.events)) = ap (λ (t : State). length t.made.events) r.was_call in
    let sum = length-append r.were s.made.events in
    let few : length s.made.events < 2 ^ 32 - 1 = omega (arith, call_fits, count, sum) in
    let own_old = own_is k s (returned x.was) r.were es r.was_call made_old in
    let within = x.was.token in
    let same : s ≡ runs x.steps g new (begin_of rule) = runs-same x.steps s.place.at g old new (begin_of rule) x.before x.brace (omega (arith, within, short)) short (omega arith) in
    let there : returned x.now ≡ behind_call k s (returned x.now).place.at (moved_events (length s.made.events) (reverse fs)) =
    subst (λ (t : State). returned x.now ≡ behind_call k t (returned x.now).place.at (moved_events (length t.made.events) (reverse fs))) (sym same) made_new in
    let own_new = own_is k s (returned x.now) r.are fs r.now_call there in
    record {
      behind = reverse over.later;
      were = ap (λ (t : State). reverse t.made.events) (sym old_end ∙ r.old_is) ∙ set_in g old k s (common x n) (returned x.was).place.at r.were es over.later a c own_old few over.is;
      are = ap (λ (t : State). reverse t.made.events) (sym new_end ∙ r.new_is) ∙ set_in g new k s (common x n) (returned x.now).place.at r.are fs over.later a c own_new few over.is;
    }
