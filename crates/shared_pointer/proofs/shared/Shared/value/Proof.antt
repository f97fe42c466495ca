-- `value` hands out what every owner sees. The count is not touched, so the invariant stays shut.
use mathlib.Core.Path.{refl, sym}
use mathlib.Core.List.{List, [], ◌∷◌}
use Prim.Native.Nat.{◌+◌}
use seplogic.Ra.Ura.{Ura}
use mir.Syntax.{Fn, named}
use mir.MapTy.{inst_fn}
use mir.Val.{Val, vptr}
use base.Logic.{SProp, ent, fst∗, never, id⊢}
use base.Fml.{fat, flft, fhide}
use prog.Memory.{Memory}
use prog.Routine.{Routine}
use prog.Wp.{Env, Calls, Loops, WpFn}
use contract.Monad.{Fun}
use contract.Running.{tables}
use types.Logic.{Logic, sem}
use types.Kit.{Item, ‵, raw, ◌⊛◌, at_ret, ◌$◌, ◌∵◌, !, qed, move, keep, drop, use1, split, join, fsplit, fjoin, feq_i, rewrite, suffices, done}
use types.Run.{stop, hop, fld, addr, of_opd, first, blocks, exec, returns, enter}
use types.Part.{look_in, sub, whole}
use types.ByLocal.{alloc_all, pass_all, free_all, look_at, get, through, sets, sets_last, env}
use denote.Builtin.{RefOf}
use denote.Exit.{yes}
use denote.Memory.{shared_of, hidden_shr}
use denote.Opens.{unhide, hide}
use denote.RattleType.{owns}
use denote.Ref.{shr_vals, shr_Tells}
use denote.RawPtr.{Ptr, in_a_block, ◌+ₚ◌}
use denote.Signature.{types_at, plain}
use denote.Steps.{nothing}
use denote.Struct.Lending.{lent_at, lent_at_shr_laws}
use denote.Triple.Clauses.{Clauses, Ended}
use denote.Triple.Walked.{says, walk_of, ends_at, Goes-dropped}
use Rattle.std.proofs.BoxSteps.Form.{Bx, args, R}
use Rattle.std.proofs.RcSteps.{word, word_ty, Word, reads, read}
use Rattle.std.proofs.raw_atomic.Walks.{proved}
use Rattle.std.proofs.VecSteps.Shapes.{after}
use Rattle.shared_pointer.proofs.SharedLending.{sees}
use Rattle.shared_pointer.proofs.SharedBlock.{tag, value_at, counter, contents, view, Lent}
use Rattle.shared_pointer.proofs.BySelf.{Row, ν, by_self, stayed, begun}
use Rattle.shared_pointer.specs.contracts.shared.Shared.value as F
use Rattle.shared_pointer.specs.contracts.shared.Shared.value.Key.{name as #self}
use Rattle.shared_pointer.proofs.shared.Shared.value.Statement as stated
use Rattle.shared_pointer.proofs.shared.Shared.value.Code as code

module _ (E : Bx) where
  abbrev fn' : Fn
  fn' = inst_fn (args E) code.function

  abbrev ended : Ended
  ended = by_self E (RefOf (0 ∷ []) tt (plain (λ _. R E)) (λ _. tt))

module _ (E : Bx) {M : Type 1} {𝓤 : Ura M} (𝓛 : Logic 𝓤) (at_mem : Memory → SProp 𝓤) (run : Routine → Fun 𝓤) where
  open 𝓛 use {H, A}

  abbrev held : Clauses 𝓤 (ended E)
  held = F.clauses E.row E.al.row E.al.g E.al.d E.al.drops 𝓛 at_mem run

  module _ (C : Calls 𝓤 H) (Λ : Loops 𝓤 H) (z : (walk_of 𝓛 (ended E) (stayed E) held).Ghost) where
    open begun E (ended E).signature.result 𝓛 held z use {c, x, b, o, us, κ, q, others, bound, Post}

    abbrev asked : Item 𝓤
    asked = raw ((F.clauses E.row E.al.row E.al.g E.al.d E.al.drops 𝓛 at_mem run z.0.0 z.0.3).requires z.1)

    walks : ent 𝓤 ((walk_of 𝓛 (ended E) (stayed E) held).pre bound) (WpFn 𝓤 H C Λ (fn' E) us Post)
    walks =
        qed 𝓛 (((‵ (flft κ q) ⊛ others) ⊛ ‵ (owns (types_at (ended E).signature.params z.0.0) z.0.3 (us, tt))) ∷ asked ∷ []) ∵
        split ! $ split ! $ move ! (2 ∷ []) $ fsplit ! $ fsplit ! $ keep ! (1 ∷ 3 ∷ 4 ∷ []) $
        use1 𝓛 (‵ (hidden_shr (Word E (ν E)) κ (c, tt) b o) ⊛ ‵ (fhide (Lent E c x κ))) (id⊢ 𝓤 _) $ split ! $
        move ! (1 ∷ []) $ unhide ! $
        use1 𝓛 (‵ (view E c x κ)) (sees (counter E c x) (contents E c x) (tag E c x) (view E c x) 𝓛
        (lent_at_shr_laws (R E) E.laws.shr_laws (c +ₚ value_at E) x) κ) $
        in_a_block ! c (λ r. lent_at (R E) (r +ₚ value_at E) x κ) (fst∗ 𝓤 (never 𝓤) (sem 𝓛 (shared_of (R E) x 0 0 κ)))
        (λ cb co e. fsplit ! $
        drop ! $ hide ! $
        -- [what is shown; the word; κ's token; the other tokens]
        enter ! C Λ (fn' E) us _ $ alloc_all ! (λ l. pass_all ! refl ((tt, tt), tt) $
        let En : Env 𝓤 H = env (fn' E).locals l in
        let at : Val = vptr cb (co + value_at E) in
        move ! (1 ∷ 2 ∷ []) $
        reads E (ν E) c ! tt b o (λ q'. rewrite ! 0 (λ (r : Ptr). ‵ (fat q' (word_ty (ν E)) b o (word r))) e refl $
        -- `&(*self.ptr).value`
        first ! $ blocks ! $
        sets_last ! (addr ! (through ! refl
        (fld ! refl (hop ! (look_in ! 0 (sub ! 0 refl (whole !))) (fld ! refl (stop !)))))) refl (tt, tt) $
        exec ! C Λ En (after 1 (fn' E).body) (at_ret En Post) $ sets ! (of_opd ! (get ! refl)) refl (tt, tt) $
        rewrite ! 0 (λ (r : Ptr). ‵ (fat q' (word_ty (ν E)) b o (word r))) (sym e) refl $
        read E (ν E) c ! tt b o q' $
        move ! (1 ∷ []) $ feq_i ! (List Val) (at ∷ []) (at ∷ []) refl $ fjoin ! $ returns ! (look_at ! 0 refl) $
        free_all ! refl $ keep ! (0 ∷ 1 ∷ 2 ∷ []) $
        suffices ! _ (ends_at 𝓛 (ended E) (stayed E) held bound at (record { ref_ptr = (cb, co + value_at E); now = x })
        (tt, tt) (tt, tt)) $
        says ! refl $ nothing ! $ nothing ! $ fjoin ! $ join ! $ move ! (1 ∷ 2 ∷ []) $ join ! $ join ! $
        done !)))

pub value_spec : {M : Type 1} → stated.statement M
value_spec 𝓤 𝓛 𝓜 𝓡 wired Y Z L LZ g d dd met md =
    let E : Bx = record { row = Y; laws = L; al = record { row = Z; laws = LZ; g = g; d = d; drops = dd } } in
    let 𝓣 = tables 𝓤 𝓛.H 𝓜 𝓡 𝓡.env in
    proved 𝓛 (ended E) (stayed E) (F.clauses Y Z g d dd 𝓛 𝓜.mem 𝓡.returns) 𝓜 𝓡
    (Goes-dropped 𝓛 3 (RefOf (0 ∷ []) tt (plain (λ _. Row E)) (λ _. tt)) yes (λ κs x f. refl), tt)
    (#self (args E)) (fn' E) (code.unfolded 𝓤 𝓛.H 𝓜 𝓡 wired (Y, (Z, tt)) d dd) (λ κs. (shr_vals, tt))
    (λ κs. (shr_Tells (named 0) κs.0 (Row E), tt))
    (λ κs qs bounds a g' are. walks E 𝓛 𝓜.mem 𝓡.returns 𝓣.C 𝓣.Λ ((κs, qs, bounds, a, (shr_vals a.0, tt)), g'))
