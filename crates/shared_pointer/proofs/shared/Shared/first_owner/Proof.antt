-- `first_owner` fills the block, which makes the first owner.
use mathlib.Core.Path.{refl, sym, subst}
use mathlib.Core.List.{List, [], ◌∷◌, ◌++◌}
use Prim.Native.Nat.{ℕ}
use seplogic.Ra.Ura.{Ura}
use lib.Dec.{lit<}
use mir.Syntax.{Fn, w64, ty_int}
use mir.MapTy.{inst_fn}
use mir.Val.{Val, vint}
use base.Logic.{SProp, ent}
use base.Fml.{Lft, Incl-refl, Share, ftrue, froom, flft}
use prog.Memory.{Memory}
use prog.Routine.{Routine}
use prog.Wp.{Env, Calls, Loops, WpFn}
use contract.BorrowLft.{◌⊑◌}
use contract.Monad.{Fun}
use contract.Running.{tables}
use types.Logic.{Logic}
use types.Kit.{Item, ⋆, ‵, given, later, ◌⊛◌, at_ret, ◌$◌, ◌∵◌, !, qed, by, move, keep, drop, use1, learn, await, group, split, join, fsplit3, fjoin, suffices, done}
use types.Run.{init, stop, fld, lit, of_opd, and_then, no_more, assigns_last, first, blocks, exec, returns, enter}
use types.Part.{sub, whole, agg}
use types.ByLocal.{alloc_all, pass_all, free_all, look_at, get, get_in, through, sets, env}
use denote.Exit.{no}
use denote.RattleType.{RattleType, owns}
use denote.Memory.{lone}
use denote.RawPtr.{Ptr, block_ptr}
use denote.Signature.{types_at, plain}
use denote.Steps.{nothing}
use denote.Struct.Struct.{as_fields}
use denote.Triple.Clauses.{Clauses, Ended}
use denote.Triple.Walked.{says, Stays, stay_dropped, walk_of, ends_at, Goes-dropped}
use Rattle.std.proofs.alloc.Calls.{α, Fits, Goes-blank}
use Rattle.std.proofs.RawLayout.{as_written}
use Rattle.std.proofs.BoxSteps.Form.{Bx, args, X, R, P, τ, own}
use Rattle.std.proofs.BoxSteps.Steps.{el_tells}
use Rattle.std.proofs.RcSteps.{Good, word, word-Good, word_made}
use Rattle.std.proofs.raw_atomic.Walks.{proved_at}
use Rattle.std.proofs.VecSteps.Shapes.{after}
use Rattle.std_alloc.proofs.OfVacant.{Vacant, vacant_val, vacant_typed, Vacant-had}
use Rattle.shared_pointer.proofs.SharedLending.{first_owner_made}
use Rattle.shared_pointer.proofs.SharedBlock.{tag, block_ty, block_val, counter, contents, view, Owned, contents_lend, block_filled, right_to_free}
use Rattle.shared_pointer.proofs.BySelf.{ν}
use Rattle.shared_pointer.specs.contracts.shared.Block as BL
use Rattle.shared_pointer.specs.contracts.shared.Shared.first_owner as F
use Rattle.shared_pointer.specs.contracts.shared.Shared.first_owner.Key.{name as #self}
use Rattle.shared_pointer.proofs.shared.Shared.first_owner.Statement as stated
use Rattle.shared_pointer.proofs.shared.Shared.first_owner.Code as code

module _ (E : Bx) where
  abbrev fn' : Fn
  fn' = inst_fn (args E) code.function

  abbrev ended : Ended
  ended = F.ended E.row E.al.row E.al.g E.al.d E.al.drops

  abbrev Block : RattleType
  Block = BL.the_row (R E) (P E)

  abbrev Room : RattleType
  Room = Vacant E.al Block

  abbrev stayed : Stays ended.signature.params ended.kept
  stayed = (stay_dropped (plain (λ _. Room)) no, (stay_dropped (plain (λ _. R E)) no, tt))

module _ (E : Bx) {M : Type 1} {𝓤 : Ura M} (𝓛 : Logic 𝓤) (at_mem : Memory → SProp 𝓤) (run : Routine → Fun 𝓤) where
  open 𝓛 use {H}

  abbrev held : Clauses 𝓤 (ended E)
  held = F.clauses E.row E.al.row E.al.g E.al.d E.al.drops 𝓛 at_mem run

  module _ (C : Calls 𝓤 H) (Λ : Loops 𝓤 H) (z : (walk_of 𝓛 (ended E) (stayed E) held).Ghost) where
    abbrev us : List Val
    us = z.0.4.0

    abbrev vs : List Val
    vs = z.0.4.1.0

    abbrev Post : Val → SProp 𝓤
    Post = (walk_of 𝓛 (ended E) (stayed E) held).post z

    abbrev h : E.al.row.Denot
    h = z.0.3.0.alloc

    abbrev x : X E
    x = z.0.3.1.0

    abbrev κ : Lft
    κ = z.0.0.0

    abbrev q : Share
    q = z.0.1.0

    abbrev others : Item 𝓤
    others = ‵ (flft z.0.0.1.0 z.0.1.1.0) ⊛ ‵ ftrue

    -- the empty block, the right to free it, the allocator and the value
    abbrev Had : ℕ → ℕ → Val → Val → List (Item 𝓤)
    Had b o hv v =
        ‵ (froom (block_ty E) b o) ∷ ‵ (right_to_free E h b o) ∷ ‵ (E.al.row.own_val h (hv ∷ [])) ∷ ‵ (own E x (v ∷ []))
        ∷ ‵ (flft κ q) ∷ others ∷ []

    walk : (b o : ℕ) (hv v : Val) → κ ⊑ E.row.lives → Fits E.al hv → Good (τ E) v
        → ent 𝓤 (⋆ 𝓛 (Had b o hv v)) (WpFn 𝓤 H C Λ (fn' E) (vacant_val hv b o ∷ v ∷ []) Post)
    walk b o hv v lt fa good =
        let c : Ptr = block_ptr b o in
        let one : Good (ty_int w64) (vint w64 1) = (tt, record { fits = lit< tt }) in
        let typed : Good (lone (Block E).mir) (block_val E hv v) =
        as_fields (ty_int w64 ∷ α E.al ∷ τ E ∷ []) (vint w64 1 ∷ hv ∷ v ∷ []) (one, (fa, (good, tt))) in
        qed 𝓛 (Had b o hv v) ∵ enter ! C Λ (fn' E) (vacant_val hv b o ∷ v ∷ []) _ $
        alloc_all ! (λ l. pass_all ! refl (vacant_typed E.al (Block E) hv b o fa, (good, tt)) $
        let En : Env 𝓤 H = env (fn' E).locals l in
        as_written ! (lone (Block E).mir) b o $
        -- `let Vacant { ptr, alloc } = block;`
        sets ! (of_opd ! (get_in ! (fld ! refl (stop !)) (sub ! 0 refl (whole !)))) refl (tt, tt) $
        sets ! (of_opd ! (get_in ! (fld ! refl (stop !)) (sub ! 1 refl (whole !)))) refl fa $ first ! $
        blocks ! $
        -- `ptr.write(Block { .. })`
        sets ! (of_opd ! (get ! refl)) refl fa $ sets ! (of_opd ! (get ! refl)) refl good $
        sets ! (agg ! (and_then ! (lit ! tt) (and_then ! (get ! refl) (and_then ! (get ! refl) (no_more !))))) refl typed $
        assigns_last ! (of_opd ! (get ! refl)) (through ! refl (stop !)) (init ! 0 refl typed) $
        exec ! C Λ En (after 3 (fn' E).body) (at_ret En Post) $
        -- `Shared { ptr }`
        sets ! (agg ! (and_then ! (get ! refl) (no_more !))) refl (word-Good (ν E) c) $
        -- [the block; the token; what the allocator owns; what the value owns; κ's token; the other
        -- tokens]
        group ! 4 $
        use1 𝓛 (‵ (counter E c x 1) ⊛ ‵ (contents E c x)) (block_filled E 𝓛 (BL.the_type (R E) (P E)).name b o h x hv v) $
        split ! $ group ! 3 $
        use1 𝓛 (later (‵ (Owned E c x) ⊛ ‵ (flft κ q)))
        (first_owner_made (counter E c x) (contents E c x) (tag E c x) (view E c x) 𝓛 κ (contents_lend E c x 𝓛 κ lt) κ q
        (Incl-refl κ)) $
        await ! tt $ split ! $
        word_made E (ν E) c ! $ fjoin ! $
        returns ! (look_at ! 0 refl) $ free_all ! refl $ move ! (1 ∷ 2 ∷ []) $ join ! $ keep ! (1 ∷ 0 ∷ []) $
        suffices ! _ (ends_at 𝓛 (ended E) (stayed E) held z (word c) (record { ptr = c; value = x })
        ((tt, (tt, tt)), (tt, tt)) (tt, (tt, tt))) $
        says ! refl $ nothing ! $ nothing ! $ fjoin ! $ nothing ! $ fjoin ! $ join ! $ move ! (1 ∷ 0 ∷ []) $
        join ! $ done !)

    walks : ent 𝓤 ((walk_of 𝓛 (ended E) (stayed E) held).pre z) (WpFn 𝓤 H C Λ (fn' E) (us ++ (vs ++ [])) Post)
    walks =
        qed 𝓛 (((‵ (flft κ q) ⊛ others) ⊛ ‵ (owns (types_at (ended E).signature.params z.0.0) z.0.3 (us, (vs, tt))))
        ∷ (given (κ ⊑ E.row.lives) (‵ ftrue) ⊛ given (z.0.0.1.0 ⊑ E.al.row.lives) (‵ ftrue) ⊛ ‵ ftrue) ∷ []) ∵
        move ! (1 ∷ []) $ split ! $ learn ! (λ lt. drop ! $ drop ! $ split ! $ split ! $ move ! (2 ∷ []) $
        fsplit3 ! $ move ! (1 ∷ []) $ el_tells E ! x vs (λ v ev good.
        move ! (1 ∷ []) $
        Vacant-had E.al (Block E) ! z.0.3.0 us (λ b o hv e eu fa. keep ! (0 ∷ 1 ∷ 2 ∷ 3 ∷ 5 ∷ 6 ∷ []) $
        by ! (subst (λ (ws : List Val). ent 𝓤 (⋆ 𝓛 (Had b o hv v)) (WpFn 𝓤 H C Λ (fn' E) (ws ++ (vs ++ [])) Post)) (sym eu)
        (subst (λ (ws : List Val). ent 𝓤 (⋆ 𝓛 (Had b o hv v))
        (WpFn 𝓤 H C Λ (fn' E) (vacant_val hv b o ∷ (ws ++ [])) Post)) (sym ev) (walk b o hv v lt fa good))))))

pub first_owner_spec : {M : Type 1} → stated.statement M
first_owner_spec 𝓤 𝓛 𝓜 𝓡 wired Y Z L LZ g d dd met md =
    let E : Bx = record { row = Y; laws = L; al = record { row = Z; laws = LZ; g = g; d = d; drops = dd } } in
    let 𝓣 = tables 𝓤 𝓛.H 𝓜 𝓡 𝓡.env in
    proved_at 𝓛 (ended E) (stayed E) (F.clauses Y Z g d dd 𝓛 𝓜.mem 𝓡.returns) 𝓜 𝓡
    (Goes-blank 𝓛 2 (plain (λ _. Room E)) no (λ κs x f. tt), (Goes-dropped 𝓛 2 (plain (λ _. R E)) no (λ κs x f. refl), tt))
    (#self (args E)) (fn' E) (code.unfolded 𝓤 𝓛.H 𝓜 𝓡 wired (Y, (Z, tt)) d dd) (λ y are. walks E 𝓛 𝓜.mem 𝓡.returns 𝓣.C 𝓣.Λ y)
