-- `is_last` opens the invariant, reads the count, and shuts it.
use mathlib.Core.Path.{refl, ap}
use mathlib.Core.Bool.{Bool}
use mathlib.Core.List.{List, [], ◌∷◌}
use seplogic.Ra.Ura.{Ura}
use lib.Dec.{eqb}
use mir.Syntax.{Fn, named}
use mir.MapTy.{inst_fn}
use mir.Val.{Val, vbool}
use base.Logic.{SProp, ent, id⊢}
use base.Fml.{flft, fhide, ftok}
use base.Mask.{every}
use prog.Memory.{Memory}
use prog.Routine.{Routine}
use prog.Wp.{Env, Calls, Loops, WpFn}
use contract.Monad.{Fun}
use types.Logic.{Logic}
use types.Kit.{by, Item, ⋆, ‵, raw, ◌⊛◌, at_ret, ◌$◌, ◌∵◌, !, qed, move, keep, use1, split, join, fsplit, fjoin, suffices, frame, done, group, feq_i}
use types.Run.{look, stop, fld, load, lit, bin, of_opd, first, blocks, exec, returns, enter}
use types.Part.{look_in, sub, whole}
use types.ByLocal.{alloc_all, pass_all, free_all, look_at, get, through, sets, sets_last, is, env}
use denote.Builtin.{RefOf, bool}
use denote.Exit.{yes}
use denote.Memory.{hidden_shr}
use denote.RattleType.{owns}
use denote.RawPtr.{ptr_val}
use denote.Ref.{shr_vals, shr_Tells}
use denote.Signature.{types_at, plain}
use denote.Steps.{nothing}
use denote.Triple.Clauses.{Clauses, Ended}
use denote.Triple.Walked.{walk_of, walked, ends_at, Goes-dropped}
use Rattle.std.proofs.BoxSteps.Form.{Bx, args}
use Rattle.std.proofs.RcSteps.{Word}
use Rattle.std.proofs.VecSteps.Shapes.{after}
use Rattle.shared_pointer.proofs.Turns.{with_turn, tables_with_turn, meets_in_turn}
use Rattle.shared_pointer.proofs.SharedBlock.{Lent}
use Rattle.shared_pointer.proofs.SharedSteps.{borrow_opened, borrow_shut, count_opened, count_shut}
use Rattle.shared_pointer.proofs.BySelf.{Row, ν, by_self, stayed, begun}
use Rattle.shared_pointer.specs.contracts.shared.Shared.is_last as F
use Rattle.shared_pointer.specs.contracts.shared.Shared.is_last.Key.{name as #self}
use Rattle.shared_pointer.proofs.shared.Shared.is_last.Statement as stated
use Rattle.shared_pointer.proofs.shared.Shared.is_last.Code as code
use Rattle.shared_pointer.proofs.shared.Shared.is_last.Code.{code}

module _ (E : Bx) where
  abbrev fn' : Fn
  fn' = inst_fn (args E) code.function

  abbrev ended : Ended
  ended = by_self E (plain (λ _. bool))

module _ (E : Bx) {M : Type 1} {𝓤 : Ura M} (𝓛 : Logic 𝓤) (at_mem : Memory → SProp 𝓤) (run : Routine → Fun 𝓤) where
  open 𝓛 use {H, A}

  abbrev held : Clauses 𝓤 (ended E)
  held = with_turn 𝓛 (ended E) (F.clauses E.row E.al.row E.al.g E.al.d E.al.drops 𝓛 at_mem run)

  module _ (C : Calls 𝓤 H) (Λ : Loops 𝓤 H) (z : (walk_of 𝓛 (ended E) (stayed E) held).Ghost) where
    open begun E (ended E).signature.result 𝓛 held z use {c, x, b, o, us, κ, q, others, bound, Post}

    abbrev asked : Item 𝓤
    asked = raw ((F.clauses E.row E.al.row E.al.g E.al.d E.al.drops 𝓛 at_mem run z.0.0 z.0.3).requires z.1)

    exits : (y : Bool) → ent 𝓤 (⋆ 𝓛 (‵ (flft κ q) ∷ others ∷ ‵ (ftok every) ∷ [])) (Post (vbool y))
    exits y =
        qed 𝓛 (‵ (flft κ q) ∷ others ∷ ‵ (ftok every) ∷ []) ∵
        suffices ! _ (ends_at 𝓛 (ended E) (stayed E) held bound (vbool y) y (tt, tt) (tt, tt)) $
        group ! 2 $ feq_i ! (List Val) (vbool y ∷ []) (vbool y ∷ []) refl $ nothing ! $ nothing ! $ fjoin ! $
        join ! $ move ! (1 ∷ 0 ∷ []) $ join ! $
        frame ! $ frame ! $ done !

    walks : ent 𝓤 ((walk_of 𝓛 (ended E) (stayed E) held).pre bound) (WpFn 𝓤 H C Λ (fn' E) us Post)
    walks =
        qed 𝓛 (((‵ (flft κ q) ⊛ others) ⊛ ‵ (owns (types_at (ended E).signature.params z.0.0) z.0.3 (us, tt))) ∷
        (‵ (ftok every) ⊛ asked) ∷ []) ∵
        split ! $ split ! $ move ! (3 ∷ []) $ split ! $ move ! (4 ∷ []) $ fsplit ! $ fsplit ! $
        keep ! (1 ∷ 5 ∷ 3 ∷ 6 ∷ []) $
        use1 𝓛 (‵ (hidden_shr (Word E (ν E)) κ (c, tt) b o) ⊛ ‵ (fhide (Lent E c x κ))) (id⊢ 𝓤 _) $ split ! $
        enter ! C Λ (fn' E) us _ $ alloc_all ! (λ l. pass_all ! refl ((tt, tt), tt) $
        let En : Env 𝓤 H = env (fn' E).locals l in
        borrow_opened E c x (ν E) κ q b o ! tt (λ a s q'. move ! (1 ∷ 0 ∷ 6 ∷ []) $
        count_opened E c x a ! tt every refl s (λ y n cb co e fits some_n.
        -- [the count; the vault; what shuts; the part; the word; the way back; the invariant; what
        -- is shown; the other tokens] `let ptr = self.ptr.cast_mut();`
        sets ! (is ! (of_opd ! (load ! (through ! refl (fld ! refl (stop !))) (look_in ! 4 (sub ! 0 refl (whole !)))))
        (ap ptr_val e)) refl (tt, tt) $
        sets ! (of_opd ! (get ! refl)) refl (tt, tt) $ first ! $ blocks ! $
        -- `let count = (*ptr).count;  count == 1`
        sets ! (of_opd ! (load ! (through ! refl (fld ! refl (stop !))) (look ! 0 refl))) refl (tt, record { fits = fits }) $
        sets_last ! (bin ! (get ! refl) (lit ! tt) tt) refl (tt, tt) $
        exec ! C Λ En (after 3 (fn' E).body) (at_ret En Post) $ sets ! (of_opd ! (get ! refl)) refl (tt, tt) $
        count_shut E c x a ! tt every refl y n cb co e fits $
        move ! (1 ∷ 2 ∷ 3 ∷ []) $ borrow_shut E c x (ν E) κ q b o ! tt a s q' $
        returns ! (look_at ! 0 refl) $ free_all ! refl $ keep ! (0 ∷ 4 ∷ 1 ∷ []) $ by ! (exits (eqb n 1)))))

pub is_last_spec : {M : Type 1} → stated.statement M
unfolding code
is_last_spec 𝓤 𝓛 𝓜 𝓡 wired Y Z L LZ g d dd met md =
    let E : Bx = record { row = Y; laws = L; al = record { row = Z; laws = LZ; g = g; d = d; drops = dd } } in
    let c = F.clauses Y Z g d dd 𝓛 𝓜.mem 𝓡.returns in let 𝓣 = tables_with_turn 𝓛 (ended E) c (stayed E) 𝓜 𝓡 in let k = #self (args E) in
    meets_in_turn 𝓛 (ended E) c (stayed E) 𝓜 𝓡 k (fn' E) (wired.0.0 k refl)
    (Goes-dropped 𝓛 3 (RefOf (0 ∷ []) tt (plain (λ _. Row E)) (λ _. tt)) yes (λ κs x f. refl), tt)
    (walked 𝓛 (ended E) (stayed E) (with_turn 𝓛 (ended E) c) (WpFn 𝓤 𝓛.H 𝓣.C 𝓣.Λ (fn' E)) (λ κs. (shr_vals, tt))
    (λ κs. (shr_Tells (named 0) κs.0 (Row E), tt))
    (λ κs qs bounds a g are. walks E 𝓛 𝓜.mem 𝓡.returns 𝓣.C 𝓣.Λ ((κs, qs, bounds, a, (shr_vals a.0, tt)), g)))
