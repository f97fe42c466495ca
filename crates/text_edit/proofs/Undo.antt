-- The inverse of an edit gives the old text back.
use Rattle.std.proofs.Common.{◌≡◌, ℕ, ◌+◌, ◌-◌, ◌<◌, ◌≤◌, List, [], ◌∷◌, ◌++◌, length, take, drop, sym, ap, ◌∙◌, arith, get_or, length-append, append_assoc, append-nil}
use Rattle.std.proofs.lemmas.List.{length-take-le, length-drop, drop_more, drop_all}
use Rattle.std.proofs.Math.Seq.{take_at}
use Rattle.text_edit.specs.Replacements.{Replacement, edited, InOrder}
use Rattle.text_edit.specs.Inverse.{between, inverse_at, inverted_from, inverted, InverseUndoes}
use Rattle.text_edit.proofs.Pass.{passed, EndWithin, all_within, edited_passed_within, passed_whole, after_front, rejoin}

pub inverted_in_order : (s : List ℕ) (at new : ℕ) (es : List Replacement) → InOrder new (inverted_from s at new es)
inverted_in_order s at new [] = tt
inverted_in_order s at new (e ∷ es) = (omega arith, omega arith, inverted_in_order s e.delete.end (new + (e.delete.start - at) + length e.insert) es)

-- the new text N from byte `new` on is what the pass from byte `at` makes
record Stands (s N : List ℕ) (at new : ℕ) (es : List Replacement) : Type 0 where
  within : new ≤ length N
  is : drop new N ≡ passed s at es

record Next (s N : List ℕ) (at new : ℕ) (e : Replacement) (es : List Replacement) : Type 0 where
  front : take ((new + (e.delete.start - at)) - new) (drop new N) ≡ take (e.delete.start - at) (drop at s)
  rest : Stands s N e.delete.end (new + (e.delete.start - at) + length e.insert) es

next : (s N : List ℕ) (at new : ℕ) (e : Replacement) (es : List Replacement) → at ≤ e.delete.start → e.delete.start ≤ length s → Stands s N at new (e ∷ es) → Next s N at new e es
next s N at new e es h w st =
    let k : ℕ = e.delete.start - at in
    let K : List ℕ = take k (drop at s) in
    let R : List ℕ = passed s e.delete.end es in
    let long : length K ≡ k = length-take-le k (drop at s) (omega (arith, length-drop at s, h, w)) in
    let same : (new + k) - new ≡ k = omega arith in
    let first : drop (new + length K) N ≡ e.insert ++ R = after_front N K (e.insert ++ R) new st.is in
    let second : drop ((new + length K) + length e.insert) N ≡ R = after_front N e.insert R (new + length K) first in
    let sum : (new + length K) + length e.insert ≡ new + k + length e.insert = omega (arith, long) in
    record {
      front = ap (λ n. take n (drop new N)) same ∙ ap (take k) st.is ∙ take_at K (e.insert ++ R) k long;
      rest = record {
        within = omega (arith, ap length st.is, length-drop new N, st.within, long, length-append K (e.insert ++ R), length-append e.insert R);
        is = ap (λ n. drop n N) (sym sum) ∙ second;
      };
    }

undo_from : (s N : List ℕ) (at new : ℕ) (es : List Replacement) → InOrder at es → EndWithin (length s) es → Stands s N at new es → passed N new (inverted_from s at new es) ≡ drop at s
undo_from s N at new [] o w st = st.is
undo_from s N at new (e ∷ es) o w st =
    let n : Next s N at new e es = next s N at new e es o.0 (omega (arith, o.1, w.0)) st in
    let stop : ℕ = new + (e.delete.start - at) + length e.insert in
    ap (λ l. l ++ (between s e.delete.start e.delete.end ++ passed N stop (inverted_from s e.delete.end stop es))) n.front
    ∙ ap (λ l. take (e.delete.start - at) (drop at s) ++ (between s e.delete.start e.delete.end ++ l)) (undo_from s N e.delete.end stop es o.2 w.1 n.rest)
    ∙ ap (λ l. take (e.delete.start - at) (drop at s) ++ l) (rejoin s e.delete.start e.delete.end o.1)
    ∙ rejoin s at e.delete.start o.0

within_new : (s N : List ℕ) (at new : ℕ) (es : List Replacement) → InOrder at es → EndWithin (length s) es → Stands s N at new es → EndWithin (length N) (inverted_from s at new es)
within_new s N at new [] o w st = tt
within_new s N at new (e ∷ es) o w st =
    let n : Next s N at new e es = next s N at new e es o.0 (omega (arith, o.1, w.0)) st in
    (n.rest.within, within_new s N e.delete.end (new + (e.delete.start - at) + length e.insert) es o.2 w.1 n.rest)

pub inverse_undoes : InverseUndoes
inverse_undoes s es o fits =
    let N : List ℕ = edited s es in
    let w : EndWithin (length s) es = all_within s es fits in
    let st : Stands s N 0 0 es = record { within = omega arith; is = passed_whole s es o fits } in
    let order : InOrder 0 (inverted s es) = inverted_in_order s 0 0 es in
    (order, edited_passed_within N 0 (inverted s es) (omega arith) order (within_new s N 0 0 es o w st) ∙ undo_from s N 0 0 es o w st)

-- ---- the loop that makes it

pub inverse_step : (s : List ℕ) (at new : ℕ) (items : List Replacement) (i : ℕ) (e made : Replacement) (out out' whole : List Replacement) → i < length items → get_or items i e ≡ e
    → made ≡ inverse_at s (new + (e.delete.start - at)) e → out' ≡ out ++ made ∷ [] → out ++ inverted_from s at new (drop i items) ≡ whole
    → out' ++ inverted_from s e.delete.end (new + (e.delete.start - at) + length e.insert) (drop (i + 1) items) ≡ whole
inverse_step s at new items i e made out out' whole lt is is_made added h =
    let cut : drop i items ≡ e ∷ drop (i + 1) items = drop_more items i e lt ∙ ap (λ x. x ∷ drop (i + 1) items) is in
    let rest : List Replacement = inverted_from s e.delete.end (new + (e.delete.start - at) + length e.insert) (drop (i + 1) items) in
    ap (λ l. l ++ rest) added ∙ append_assoc out (made ∷ []) rest ∙ ap (λ x. out ++ (x ∷ rest)) is_made ∙ ap (λ l. out ++ inverted_from s at new l) (sym cut) ∙ h

pub inverse_end : (s : List ℕ) (at new : ℕ) (items : List Replacement) (i : ℕ) (out whole : List Replacement) → length items ≤ i → out ++ inverted_from s at new (drop i items) ≡ whole → out ≡ whole
inverse_end s at new items i out whole h e = sym (append-nil out) ∙ ap (λ l. out ++ inverted_from s at new l) (sym (drop_all i items h)) ∙ e
