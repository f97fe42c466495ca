-- One more move of a kind.
use Rattle.std.proofs.Common.{◌≡◌, ℕ, zero, suc, ◌+◌, ◌<◌, ◌≤◌, refl, add-one, ap, sym, ◌∙◌, arith, Bool, true, false, List, [], ◌∷◌, length, drop, drop-cons, get_or, if◌then◌else◌, slice_get}
use Rattle.event_layout.specs.Layout.{Given, Laying, pass_of, pass_all_of, pass_trivia_of, exit_of, exit_all_of, advance_of, moves, is_node_at, root_from}
use Rattle.std.proofs.lemmas.List.{drop_all}
use Rattle.event_layout.specs.Trivia.{lead}
use Rattle.syntax_kind.specs.Kinds.{is_trivia}
use Rattle.token_layout.specs.declared.span.Token.{Token}
use Rattle.grammar_machine.specs.declared.event.Event.{Event}

pub pass_all_none : (s : Laying) → pass_all_of 0 s ≡ s
unfolding pass_all_of
pass_all_none s = refl

pass_all_suc : (n : ℕ) (s : Laying) → pass_all_of (suc n) s ≡ pass_of (pass_all_of n s)
unfolding pass_all_of
pass_all_suc n s = refl

pub pass_all_more : (n : ℕ) (s : Laying) → pass_all_of (n + 1) s ≡ pass_of (pass_all_of n s)
pass_all_more n s = rw add-one (pass_all_suc n s)

pub exit_all_none : (s : Laying) → exit_all_of 0 s ≡ s
unfolding exit_all_of
exit_all_none s = refl

exit_all_suc : (n : ℕ) (s : Laying) → exit_all_of (suc n) s ≡ exit_of (exit_all_of n s)
unfolding exit_all_of
exit_all_suc n s = refl

pub exit_all_more : (n : ℕ) (s : Laying) → exit_all_of (n + 1) s ≡ exit_of (exit_all_of n s)
exit_all_more n s = rw add-one (exit_all_suc n s)

pub moves_none : (g : Given) (s : Laying) → moves 0 g s ≡ s
unfolding moves
moves_none g s = refl

moves_suc : (n : ℕ) (g : Given) (s : Laying) → moves (suc n) g s ≡ advance_of g (moves n g s)
unfolding moves
moves_suc n g s = refl

pub moves_more : (n : ℕ) (g : Given) (s : Laying) → moves (n + 1) g s ≡ advance_of g (moves n g s)
moves_more n g s = rw add-one (moves_suc n g s)

pub root_none : (es : List Event) (n : ℕ) → n ≡ 0 → root_from es n ≡ length es
unfolding root_from
root_none es zero h = refl
root_none es (suc n) h = absurd (omega (arith, h))

root_suc : (es : List Event) (n : ℕ) → root_from es (suc n) ≡ (if is_node_at (slice_get es n) then n else root_from es n)
unfolding root_from
root_suc es n = refl

on_true : (b : Bool) (m n : ℕ) → b ≡ true → (if b then m else n) ≡ m
on_true true m n h = refl
on_true false m n h = (let bad : false ≡ true = h in cc)

on_false : (b : Bool) (m n : ℕ) → b ≡ false → (if b then m else n) ≡ n
on_false false m n h = refl
on_false true m n h = (let bad : true ≡ false = h in cc)

pub root_here : (es : List Event) (n : ℕ) → is_node_at (slice_get es n) ≡ true → root_from es (n + 1) ≡ n
root_here es n h = ap (root_from es) (add-one n) ∙ root_suc es n ∙ on_true (is_node_at (slice_get es n)) n (root_from es n) h

pub root_back : (es : List Event) (n : ℕ) → is_node_at (slice_get es n) ≡ false → root_from es (n + 1) ≡ root_from es n
root_back es n h = ap (root_from es) (add-one n) ∙ root_suc es n ∙ on_false (is_node_at (slice_get es n)) n (root_from es n) h

-- one more token of those that are left
pub drop_at : (ts : List Token) (i : ℕ) (t : Token) → i < length ts → t ≡ get_or ts i t → drop i ts ≡ t ∷ drop (i + 1) ts
drop_at ts i t h e = drop-cons ts i t h ∙ ap (λ u. u ∷ drop (suc i) ts) (sym e) ∙ ap (λ n. t ∷ drop n ts) (sym (add-one i))

lead_cons : (t : Token) (ts : List Token) → lead (t ∷ ts) ≡ (if is_trivia t.kind then lead ts + 1 else 0)
unfolding lead
lead_cons t ts = refl

lead_nil : lead [] ≡ 0
unfolding lead
lead_nil = refl

pub lead_stops : (ts : List Token) (i : ℕ) (t : Token) → i < length ts → t ≡ get_or ts i t → is_trivia t.kind ≡ false → lead (drop i ts) ≡ 0
lead_stops ts i t h e b = ap lead (drop_at ts i t h e) ∙ lead_cons t (drop (i + 1) ts) ∙ on_false (is_trivia t.kind) (lead (drop (i + 1) ts) + 1) 0 b

pub lead_goes : (ts : List Token) (i : ℕ) (t : Token) → i < length ts → t ≡ get_or ts i t → is_trivia t.kind ≡ true → lead (drop i ts) ≡ lead (drop (i + 1) ts) + 1
lead_goes ts i t h e b = ap lead (drop_at ts i t h e) ∙ lead_cons t (drop (i + 1) ts) ∙ on_true (is_trivia t.kind) (lead (drop (i + 1) ts) + 1) 0 b

pub lead_ends : (ts : List Token) (i : ℕ) → length ts ≤ i → lead (drop i ts) ≡ 0
lead_ends ts i h = ap lead (drop_all i ts h) ∙ lead_nil

-- no trivia to pass
pub trivia_none : (s : Laying) → lead s.rest ≡ 0 → s ≡ pass_trivia_of s
trivia_none s h = sym (ap (λ n. pass_all_of n s) h ∙ pass_all_none s)
