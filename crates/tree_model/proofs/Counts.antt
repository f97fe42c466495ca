-- Each refusal in its own words: counts of enters and exits over fronts of the events, and what the
-- events build.
use Rattle.std.proofs.Common.{◌≡◌, ℕ, zero, suc, ◌+◌, ◌<◌, ◌≤◌, ◌^◌, List, [], ◌∷◌, ◌++◌, refl, sym, ap, subst, ◌∙◌, arith}
use Rattle.std.specs.Prelude.{Option, None, Some, nat_lt, if◌then◌else◌, MatchOption}
use Rattle.std.proofs.lemmas.Bool.Decides.{nat_tests}
use native.Mathlib.Decide.{dec_lt}
use Rattle.tree_model.specs.declared.error.FinishError.{FinishError}
use Rattle.tree_model.specs.declared.error.FinishError.TheVariants.{TooLong, OverClosed, Unclosed, Empty, ManyRoots, TokenRoot, ErrorPastText, Memory}
use Rattle.tree_model.specs.Tree.{node, token, Forest, nil, cons}
use Rattle.tree_model.specs.Events.{Event, enter, leaf, exit, Builds, text_len, open_after, forest_of, root_refusal, balance_refusal, enters, exits, HasOverClosedFront, Holds, refusal_number, IsFirstRefusal, IsAccepted, RefusalsHold}
use Rattle.tree_model.proofs.Balance.{builds-events_of, builds_one, events_of-forest_of}

over_front : (es : List Event) (d : ℕ) → open_after d es ≡ None → HasOverClosedFront d es
over_front [] d h = (let no : Some d ≡ None = h in cc)
over_front (enter k ∷ es) d h = let w = over_front es (suc d) h in record { front = enter k ∷ w.front; rest = w.rest; is = ap (λ l. enter k ∷ l) w.is; more_exits = omega (arith, w.more_exits) }
over_front (leaf k t ∷ es) d h = let w = over_front es d h in record { front = leaf k t ∷ w.front; rest = w.rest; is = ap (λ l. leaf k t ∷ l) w.is; more_exits = w.more_exits }
over_front (exit ∷ es) zero h = record { front = exit ∷ []; rest = es; is = refl; more_exits = omega arith }
over_front (exit ∷ es) (suc d) h = let w = over_front es d h in record { front = exit ∷ w.front; rest = w.rest; is = ap (λ l. exit ∷ l) w.is; more_exits = omega (arith, w.more_exits) }

front_over : (front rest : List Event) (d : ℕ) → d + enters front < exits front → open_after d (front ++ rest) ≡ None
front_over [] rest d h = absurd (omega arith)
front_over (enter k ∷ es) rest d h = front_over es rest (suc d) (omega (arith, h))
front_over (leaf k t ∷ es) rest d h = front_over es rest d h
front_over (exit ∷ es) rest zero h = refl
front_over (exit ∷ es) rest (suc d) h = front_over es rest d (omega (arith, h))

pub counted : (es : List Event) (d m : ℕ) → open_after d es ≡ Some m → d + enters es ≡ exits es + m
counted [] d m h = let same : Some d ≡ Some m = h in let e : d ≡ m = cc in omega (arith, e)
counted (enter k ∷ es) d m h = omega (arith, counted es (suc d) m h)
counted (leaf k t ∷ es) d m h = counted es d m h
counted (exit ∷ es) zero m h = (let no : None ≡ Some m = h in cc)
counted (exit ∷ es) (suc d) m h = omega (arith, counted es d m h)

pub never_over : (es : List Event) (m : ℕ) → open_after 0 es ≡ Some m → HasOverClosedFront 0 es → ⊥
never_over es m h w = (let no : Some m ≡ None = sym h ∙ ap (open_after 0) w.is ∙ front_over w.front w.rest 0 w.more_exits in cc)

builds_forest : (es : List Event) → open_after 0 es ≡ Some 0 → Builds es (forest_of es)
builds_forest es h = subst (λ l. Builds l (forest_of es)) (events_of-forest_of es h) (builds-events_of (forest_of es))

below_limit : {A : Type 0} (n : ℕ) (x y : A) → n < 2 ^ 32 → (if nat_lt n (2 ^ 32) then x else y) ≡ x
below_limit n x y h = grind (arith, nat_tests)

above_limit : {A : Type 0} (n : ℕ) (x y : A) → 2 ^ 32 ≤ n → (if nat_lt n (2 ^ 32) then x else y) ≡ y
above_limit n x y h = grind (arith, nat_tests)

Answered : List Event → Option FinishError → Type 0
Answered es r = MatchOption r (IsAccepted es) (IsFirstRefusal es)

module _ (es : List Event) (short : text_len es < 2 ^ 32) where
  over_closed : open_after 0 es ≡ None → IsFirstRefusal es OverClosed
  over_closed h = record { holds = over_front es 0 h; first = earlier }
    where
      earlier : (d : FinishError) → refusal_number d < 2 → Holds d es → ⊥
      earlier TooLong lt k = absurd (omega (arith, k, short))
      earlier OverClosed lt k = absurd (omega (arith, lt))
      earlier Unclosed lt k = absurd (omega (arith, lt))
      earlier Empty lt k = absurd (omega (arith, lt))
      earlier ManyRoots lt k = absurd (omega (arith, lt))
      earlier TokenRoot lt k = absurd (omega (arith, lt))
      earlier ErrorPastText lt k = k
      earlier Memory lt k = absurd (omega (arith, lt))

  unclosed : (m : ℕ) → open_after 0 es ≡ Some (suc m) → IsFirstRefusal es Unclosed
  unclosed m h = record { holds = omega (arith, counted es 0 (suc m) h); first = earlier }
    where
      earlier : (d : FinishError) → refusal_number d < 3 → Holds d es → ⊥
      earlier TooLong lt k = absurd (omega (arith, k, short))
      earlier OverClosed lt k = never_over es (suc m) h k
      earlier Unclosed lt k = absurd (omega (arith, lt))
      earlier Empty lt k = absurd (omega (arith, lt))
      earlier ManyRoots lt k = absurd (omega (arith, lt))
      earlier TokenRoot lt k = absurd (omega (arith, lt))
      earlier ErrorPastText lt k = k
      earlier Memory lt k = absurd (omega (arith, lt))

  module _ (h : open_after 0 es ≡ Some 0) where
    -- of the first refusals none holds of balanced events
    balanced : (d : FinishError) → refusal_number d < 4 → Holds d es → ⊥
    balanced TooLong lt k = absurd (omega (arith, k, short))
    balanced OverClosed lt k = never_over es 0 h k
    balanced Unclosed lt k = absurd (omega (arith, k, counted es 0 0 h))
    balanced Empty lt k = absurd (omega (arith, lt))
    balanced ManyRoots lt k = absurd (omega (arith, lt))
    balanced TokenRoot lt k = absurd (omega (arith, lt))
    balanced ErrorPastText lt k = k
    balanced Memory lt k = absurd (omega (arith, lt))

    by_root : (f : Forest) → Builds es f → Answered es (root_refusal f)
    unfolding Answered
    by_root nil b = record { holds = b; first = balanced }
    by_root (cons (token k t) nil) b = record { holds = record { kind = k; its_text = t; builds = b }; first = earlier }
      where
        earlier : (d : FinishError) → refusal_number d < 6 → Holds d es → ⊥
        earlier TooLong lt w = balanced TooLong (omega arith) w
        earlier OverClosed lt w = balanced OverClosed (omega arith) w
        earlier Unclosed lt w = balanced Unclosed (omega arith) w
        earlier Empty lt w = (let no : cons (token k t) nil ≡ nil = builds_one b w in cc)
        earlier ManyRoots lt w = (let no : cons (token k t) nil ≡ cons w.first (cons w.second w.later) = builds_one b w.builds in cc)
        earlier TokenRoot lt w = absurd (omega (arith, lt))
        earlier ErrorPastText lt w = w
        earlier Memory lt w = absurd (omega (arith, lt))
    by_root (cons (node k c) nil) b = record { short = short; root = node k c; builds = (b, tt) }
    by_root (cons t (cons u r)) b = record { holds = record { first = t; second = u; later = r; builds = b }; first = earlier }
      where
        earlier : (d : FinishError) → refusal_number d < 5 → Holds d es → ⊥
        earlier TooLong lt w = balanced TooLong (omega arith) w
        earlier OverClosed lt w = balanced OverClosed (omega arith) w
        earlier Unclosed lt w = balanced Unclosed (omega arith) w
        earlier Empty lt w = (let no : cons t (cons u r) ≡ nil = builds_one b w in cc)
        earlier ManyRoots lt w = absurd (omega (arith, lt))
        earlier TokenRoot lt w = absurd (omega (arith, lt))
        earlier ErrorPastText lt w = w
        earlier Memory lt w = absurd (omega (arith, lt))

  by_balance : (o : Option ℕ) → open_after 0 es ≡ o → Answered es (balance_refusal o es)
  unfolding Answered
  by_balance None h = over_closed h
  by_balance (Some (suc m)) h = unclosed m h
  by_balance (Some zero) h = by_root h (forest_of es) (builds_forest es h)

too_long : (es : List Event) → 2 ^ 32 ≤ text_len es → IsFirstRefusal es TooLong
too_long es long = record { holds = long; first = earlier }
  where
    earlier : (d : FinishError) → refusal_number d < 1 → Holds d es → ⊥
    earlier TooLong lt k = absurd (omega (arith, lt))
    earlier OverClosed lt k = absurd (omega (arith, lt))
    earlier Unclosed lt k = absurd (omega (arith, lt))
    earlier Empty lt k = absurd (omega (arith, lt))
    earlier ManyRoots lt k = absurd (omega (arith, lt))
    earlier TokenRoot lt k = absurd (omega (arith, lt))
    earlier ErrorPastText lt k = k
    earlier Memory lt k = absurd (omega (arith, lt))

pub refusals_hold : RefusalsHold
unfolding Answered
refusals_hold es =
    elim (dec_lt (text_len es) (2 ^ 32)) [
      | yes short ↦ subst (Answered es) (sym (below_limit (text_len es) (balance_refusal (open_after 0 es) es) (Some TooLong) short)) (by_balance es short (open_after 0 es) refl)
      | no long ↦ subst (Answered es) (sym (above_limit (text_len es) (balance_refusal (open_after 0 es) es) (Some TooLong) (omega arith))) (too_long es (omega arith))
    ]
