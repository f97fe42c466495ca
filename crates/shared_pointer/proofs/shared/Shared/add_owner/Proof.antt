-- `add_owner` opens the invariant, adds 1 to the count unless it is full, and shuts it: the till
-- gives a ticket either way.
use mathlib.Core.Path.{◌≡◌, refl, sym, ap}
use mathlib.Core.Bool.{true, false}
use mathlib.Core.List.{[], ◌∷◌}
use Prim.Native.Nat.{◌+◌, ◌<◌, ◌^◌}
use native.Mathlib.Omega.{arith}
use seplogic.Ra.Ura.{Ura}
use mir.Syntax.{Fn, named}
use mir.MapTy.{inst_fn}
use base.Logic.{emp, SProp, ent, id⊢}
use base.Fml.{fsep, flft, fhide, ftok}
use base.Mask.{every}
use prog.Memory.{Memory}
use prog.Routine.{Routine}
use prog.Wp.{Env, Calls, Loops, WpFn}
use contract.Monad.{Fun, fact_i}
use types.Logic.{Logic}
use types.Kit.{by, Item, ⋆, ‵, raw, ◌⊛◌, at_ret, ◌$◌, ◌∵◌, !, qed, move, keep, use1, split, join, fsplit, fjoin, suffices, frame}
use types.Run.{look, store, stop, fld, load, lit, neg_lit, bin, of_opd, and_then, no_more, assigns_last, first, blocks, skips, branches, exec, returns, enter}
use types.Part.{look_in, sub, whole, agg}
use types.ByLocal.{alloc_all, pass_all, free_all, look_at, get, through, sets, is, env}
use denote.Builtin.{RefOf}
use denote.Exit.{yes}
use denote.Memory.{hidden_shr}
use denote.RattleType.{owns}
use denote.RawPtr.{ptr_val}
use denote.Ref.{shr_vals, shr_Tells}
use denote.Signature.{types_at, plain}
use denote.Steps.{nothing}
use denote.Triple.Clauses.{Clauses, Ended}
use denote.Triple.Walked.{says, walk_of, walked, ends_at, Goes-dropped}
use Rattle.std.proofs.BoxSteps.Form.{Bx, args}
use Rattle.std.proofs.RcSteps.{is_not, is_so, word, word-Good, word_made, Word}
use Rattle.std.proofs.VecSteps.Shapes.{after}
use Rattle.shared_pointer.specs.SharedOwnership.{full_count}
use Rattle.shared_pointer.proofs.Turns.{with_turn, tables_with_turn, meets_in_turn}
use Rattle.shared_pointer.proofs.SharedBlock.{Lent, Owned}
use Rattle.shared_pointer.proofs.SharedSteps.{borrow_opened, borrow_shut, count_opened, count_shut, one_more, one_more_at_full, owner_joined}
use Rattle.shared_pointer.proofs.BySelf.{Row, ν, by_self, stayed, begun}
use Rattle.shared_pointer.specs.contracts.shared.Shared.add_owner as F
use Rattle.shared_pointer.specs.contracts.shared.Shared.add_owner.Key.{name as #self}
use Rattle.shared_pointer.proofs.shared.Shared.add_owner.Statement as stated
use Rattle.shared_pointer.proofs.shared.Shared.add_owner.Code as code
use Rattle.shared_pointer.proofs.shared.Shared.add_owner.Code.{code}

module _ (E : Bx) where
  abbrev fn' : Fn
  fn' = inst_fn (args E) code.function

  abbrev ended : Ended
  ended = by_self E (plain (λ _. Row E))

module _ (E : Bx) {M : Type 1} {𝓤 : Ura M} (𝓛 : Logic 𝓤) (at_mem : Memory → SProp 𝓤) (run : Routine → Fun 𝓤) where
  open 𝓛 use {H, A}

  abbrev held : Clauses 𝓤 (ended E)
  held = with_turn 𝓛 (ended E) (F.clauses E.row E.al.row E.al.g E.al.d E.al.drops 𝓛 at_mem run)

  module _ (C : Calls 𝓤 H) (Λ : Loops 𝓤 H) (z : (walk_of 𝓛 (ended E) (stayed E) held).Ghost) where
    open begun E (ended E).signature.result 𝓛 held z use {c, x, b, o, us, κ, q, others, bound, Post}

    abbrev asked : Item 𝓤
    asked = raw ((F.clauses E.row E.al.row E.al.g E.al.d E.al.drops 𝓛 at_mem run z.0.0 z.0.3).requires z.1)

    -- the new owner, as the call's result
    abbrev result : (Row E).Denot
    result = record { ptr = c; value = x }

    exits : ent 𝓤 (⋆ 𝓛 (‵ (fsep ((Word E (ν E)).own_val (c, tt) (word c ∷ [])) (Owned E c x)) ∷ ‵ (flft κ q) ∷ others ∷
        ‵ (ftok every) ∷ [])) (Post (word c))
    exits =
        qed 𝓛 (‵ (fsep ((Word E (ν E)).own_val (c, tt) (word c ∷ [])) (Owned E c x)) ∷ ‵ (flft κ q) ∷ others ∷ ‵ (ftok every) ∷ []) ∵
        suffices ! _ (ends_at 𝓛 (ended E) (stayed E) held bound (word c) result (tt, tt) (tt, tt)) $
        nothing ! $ nothing ! $ fjoin ! $ join ! $ move ! (1 ∷ 2 ∷ []) $ join ! $ join ! $
        frame ! $ frame ! $ says ! refl $ by ! (fact_i 𝓤 (x ≡ x) (emp 𝓤) refl)

    walks : ent 𝓤 ((walk_of 𝓛 (ended E) (stayed E) held).pre bound) (WpFn 𝓤 H C Λ (fn' E) us Post)
    walks =
        qed 𝓛 (((‵ (flft κ q) ⊛ others) ⊛ ‵ (owns (types_at (ended E).signature.params z.0.0) z.0.3 (us, tt))) ∷
        (‵ (ftok every) ⊛ asked) ∷ []) ∵
        split ! $ split ! $ move ! (3 ∷ []) $ split ! $ move ! (4 ∷ []) $ fsplit ! $ fsplit ! $
        keep ! (1 ∷ 5 ∷ 3 ∷ 6 ∷ []) $
        use1 𝓛 (‵ (hidden_shr (Word E (ν E)) κ (c, tt) b o) ⊛ ‵ (fhide (Lent E c x κ))) (id⊢ 𝓤 _) $ split ! $
        enter ! C Λ (fn' E) us _ $ alloc_all ! (λ l. pass_all ! refl ((tt, tt), tt) $
        let En : Env 𝓤 H = env (fn' E).locals l in
        borrow_opened E c x (ν E) κ q b o ! tt (λ a s q'. move ! (1 ∷ 0 ∷ 6 ∷ []) $
        count_opened E c x a ! tt every refl s (λ y n cb co e fits some_n.
        -- [the count; the vault; what shuts; the part; the word; the way back; the invariant; what
        -- is shown; the other tokens] `let ptr = self.ptr.cast_mut();`
        sets ! (is ! (of_opd ! (load ! (through ! refl (fld ! refl (stop !))) (look_in ! 4 (sub ! 0 refl (whole !)))))
        (ap ptr_val e)) refl (tt, tt) $
        sets ! (of_opd ! (get ! refl)) refl (tt, tt) $ first ! $ blocks ! $
        -- `let count = (*ptr).count;  if count != usize::MAX`
        sets ! (of_opd ! (load ! (through ! refl (fld ! refl (stop !))) (look ! 0 refl))) refl (tt, record { fits = fits }) $
        sets ! (bin ! (get ! refl) (neg_lit ! tt) tt) refl (tt, tt) $ branches ! (get ! refl)
        (λ room.
        let fits₁ : n + 1 < 2 ^ 64 = omega (arith, is_not n full_count room) in
        -- `(*ptr).count = count + 1;`
        sets ! (bin ! (get ! refl) (lit ! tt) (record { fits = fits₁ })) refl (tt, record { fits = fits₁ }) $
        assigns_last ! (of_opd ! (get ! refl)) (through ! refl (fld ! refl (stop !))) (store ! 0 refl (tt, record { fits = fits₁ })) $
        -- `Shared { ptr }`
        exec ! C Λ En (after 3 (fn' E).body) (at_ret En Post) $
        sets ! (is ! (agg ! (and_then ! (get ! refl) (no_more !))) (ap word (sym e))) refl (word-Good (ν E) c) $
        move ! (1 ∷ []) $ one_more E c x a ! y n fits₁ $
        move ! (2 ∷ 0 ∷ 3 ∷ []) $ count_shut E c x a ! tt every refl true (n + 1) cb co e fits₁ $
        -- [the thread's token; the ticket; the part; the word; the way back; the invariant; what is
        -- shown; the other tokens]
        move ! (2 ∷ 3 ∷ 4 ∷ []) $ borrow_shut E c x (ν E) κ q b o ! tt a s q' $
        move ! (2 ∷ 3 ∷ 4 ∷ []) $ owner_joined E c x ! a $ word_made E (ν E) c ! $ fjoin ! $
        returns ! (look_at ! 0 refl) $ free_all ! refl $ keep ! (0 ∷ 1 ∷ 3 ∷ 2 ∷ []) $ by ! exits)
        (λ at_full.
        -- the count stays: `Shared { ptr }`
        skips ! $ exec ! C Λ En (after 3 (fn' E).body) (at_ret En Post) $
        sets ! (is ! (agg ! (and_then ! (get ! refl) (no_more !))) (ap word (sym e))) refl (word-Good (ν E) c) $
        move ! (1 ∷ []) $ one_more_at_full E c x a ! tt y n (is_so n full_count at_full) $
        move ! (2 ∷ 0 ∷ 3 ∷ []) $ count_shut E c x a ! tt every refl false n cb co e fits $
        move ! (2 ∷ 3 ∷ 4 ∷ []) $ borrow_shut E c x (ν E) κ q b o ! tt a s q' $
        move ! (2 ∷ 3 ∷ 4 ∷ []) $ owner_joined E c x ! a $ word_made E (ν E) c ! $ fjoin ! $
        returns ! (look_at ! 0 refl) $ free_all ! refl $ keep ! (0 ∷ 1 ∷ 3 ∷ 2 ∷ []) $ by ! exits))))

pub add_owner_spec : {M : Type 1} → stated.statement M
unfolding code
add_owner_spec 𝓤 𝓛 𝓜 𝓡 wired Y Z L LZ g d dd met md =
    let E : Bx = record { row = Y; laws = L; al = record { row = Z; laws = LZ; g = g; d = d; drops = dd } } in
    let c = F.clauses Y Z g d dd 𝓛 𝓜.mem 𝓡.returns in let 𝓣 = tables_with_turn 𝓛 (ended E) c (stayed E) 𝓜 𝓡 in let k = #self (args E) in
    meets_in_turn 𝓛 (ended E) c (stayed E) 𝓜 𝓡 k (fn' E) (wired.0.0 k refl)
    (Goes-dropped 𝓛 3 (RefOf (0 ∷ []) tt (plain (λ _. Row E)) (λ _. tt)) yes (λ κs x f. refl), tt)
    (walked 𝓛 (ended E) (stayed E) (with_turn 𝓛 (ended E) c) (WpFn 𝓤 𝓛.H 𝓣.C 𝓣.Λ (fn' E)) (λ κs. (shr_vals, tt))
    (λ κs. (shr_Tells (named 0) κs.0 (Row E), tt))
    (λ κs qs bounds a g are. walks E 𝓛 𝓜.mem 𝓡.returns 𝓣.C 𝓣.Λ ((κs, qs, bounds, a, (shr_vals a.0, tt)), g)))
