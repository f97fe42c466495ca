-- `remove_owner` opens the invariant and takes 1 from the count. The last owner gets the value and
-- the block, and at the full count no one does.
use mathlib.Core.Path.{refl, sym, subst, ap}
use mathlib.Core.Bool.{true}
use mathlib.Core.List.{List, [], ◌∷◌, ◌++◌}
use Prim.Native.Nat.{◌-◌, ◌<◌, ◌^◌}
use native.Mathlib.Omega.{arith}
use seplogic.Ra.Ura.{Ura}
use lib.Dec.{lit<}
use mir.Syntax.{Fn}
use mir.MapTy.{inst_fn}
use mir.Val.{Val, vcons, vnil}
use base.Logic.{SProp, ent}
use base.Fml.{ftok}
use base.Mask.{every}
use prog.Memory.{Memory}
use prog.Routine.{Routine}
use prog.Wp.{Env, Calls, Loops, Wp, WpFn, after_block, after_seq, at_return}
use contract.Monad.{Fun}
use types.Logic.{Logic}
use types.Kit.{Item, Post as Posts, ⋆, ‵, raw, ◌⊛◌, at_ret, any_q, ◌$◌, ◌∵◌, !, qed, by, move, keep, use0, use1, use2, split, join, fsplit, fjoin, fpick, suffices, frame, done}
use types.Run.{look, store, stop, fld, addr, load, lit, neg_lit, bin, of_opd, and_then, no_more, assigns, first, blocks, skips, branches, exec, returns, returns_within, enter}
use types.Part.{sub, whole, agg}
use types.Match.{live}
use types.ByLocal.{alloc_all, pass_all, free_all, look_at, get, get_in, through, sets, sets_last, is, env}
use denote.Exit.{no}
use denote.Memory.{lone}
use denote.RattleType.{RattleType, owns}
use denote.RawPtr.{Ptr, block_ptr, ptr_val}
use denote.Signature.{types_at, plain}
use denote.Steps.{nothing}
use denote.Struct.Tuple.{Tuple}
use denote.Triple.Clauses.{Clauses, Ended}
use denote.Triple.Entry.{alive}
use denote.Triple.Walked.{says, Stays, stay_dropped, walk_of, ends_at, Goes-dropped}
use Rattle.std.specs.contracts.option.Option as Opt
use Rattle.std.specs.declared.option.Option.TheVariants.{None, Some}
use Rattle.std.proofs.BoxSteps.Form.{Bx, args, X, R, P, τ}
use Rattle.std.proofs.RcSteps.{Good, some_Good, is_not, is_so, word, word-Good, word_had, Some-of, none_of}
use Rattle.std.proofs.VecSteps.Shapes.{after, head, inside}
use Rattle.std_alloc.proofs.OfVacant.{Vacant, vacant_ty, vacant_val, vacant_typed, Vacant-made}
use Rattle.std_alloc.proofs.Pairs.{pair_val, pair_Typed, pair_of}
use Rattle.shared_pointer.specs.SharedOwnership.{full_count, ticket}
use Rattle.shared_pointer.proofs.SharedTickets.{ticket_in}
use Rattle.shared_pointer.proofs.SharedBlock.{Owned, contents_split, block_joined}
use Rattle.shared_pointer.proofs.SharedSteps.{owner_split, count_opened, count_shut, one_less, last_one}
use Rattle.shared_pointer.proofs.Turns.{with_turn, tables_with_turn, meets_in_turn}
use Rattle.shared_pointer.proofs.BySelf.{Row, ν}
use Rattle.shared_pointer.specs.contracts.shared.Block as BL
use Rattle.shared_pointer.specs.contracts.shared.Shared.remove_owner as F
use Rattle.shared_pointer.specs.contracts.shared.Shared.remove_owner.Key.{name as #self}
use Rattle.shared_pointer.proofs.shared.Shared.remove_owner.Statement as stated
use Rattle.shared_pointer.proofs.shared.Shared.remove_owner.Code as code
use Rattle.shared_pointer.proofs.shared.Shared.remove_owner.Code.{code}

module _ (E : Bx) where
  abbrev fn' : Fn
  fn' = inst_fn (args E) code.function

  abbrev ended : Ended
  ended = F.ended E.row E.al.row E.al.g E.al.d E.al.drops

  abbrev stayed : Stays ended.signature.params ended.kept
  stayed = (stay_dropped (plain (λ _. Row E)) no, tt)

  abbrev Block : RattleType
  Block = BL.the_row (R E) (P E)

  abbrev Room : RattleType
  Room = Vacant E.al Block

  abbrev Pair : RattleType
  Pair = Tuple (R E ∷ Room ∷ [])

module _ (E : Bx) {M : Type 1} {𝓤 : Ura M} (𝓛 : Logic 𝓤) (at_mem : Memory → SProp 𝓤) (run : Routine → Fun 𝓤) where
  open 𝓛 use {H, A}

  abbrev held : Clauses 𝓤 (ended E)
  held = with_turn 𝓛 (ended E) (F.clauses E.row E.al.row E.al.g E.al.d E.al.drops 𝓛 at_mem run)

  module _ (C : Calls 𝓤 H) (Λ : Loops 𝓤 H) (z : (walk_of 𝓛 (ended E) (stayed E) held).Ghost) where
    abbrev Post : Val → SProp 𝓤
    Post = (walk_of 𝓛 (ended E) (stayed E) held).post z

    abbrev c : Ptr
    c = z.0.3.0.ptr

    abbrev x : X E
    x = z.0.3.0.value

    abbrev asked : Item 𝓤
    asked = raw ((F.clauses E.row E.al.row E.al.g E.al.d E.al.drops 𝓛 at_mem run z.0.0 z.0.3).requires z.1)

    abbrev us : List Val
    us = z.0.4.0

    abbrev toks : Item 𝓤
    toks = raw (alive 𝓛 (ended E).signature z.0.0 z.0.1)

    abbrev Had : List (Item 𝓤)
    Had = ‵ (Owned E c x) ∷ toks ∷ ‵ (ftok every) ∷ []

    -- the end of a walk that hands nothing out
    exits_with_none : ent 𝓤 (⋆ 𝓛 (‵ ((Opt.the_row (Pair E)).own_val None (live 0 vnil ∷ [])) ∷ toks ∷ ‵ (ftok every) ∷
        [])) (Post (live 0 vnil))
    exits_with_none =
        qed 𝓛 (‵ ((Opt.the_row (Pair E)).own_val None (live 0 vnil ∷ [])) ∷ toks ∷ ‵ (ftok every) ∷ []) ∵
        suffices ! _ (ends_at 𝓛 (ended E) (stayed E) held z (live 0 vnil) None (tt, tt) (tt, tt)) $
        nothing ! $ nothing ! $ fjoin ! $ join ! $ move ! (1 ∷ 0 ∷ []) $ join ! $ frame ! $ says ! tt $ done !

    walk : ent 𝓤 (⋆ 𝓛 Had) (WpFn 𝓤 H C Λ (fn' E) (word c ∷ []) Post)
    walk =
        qed 𝓛 Had ∵ enter ! C Λ (fn' E) (word c ∷ []) _ $
        alloc_all ! (λ l. pass_all ! refl (word-Good (ν E) c, tt) $
        let En : Env 𝓤 H = env (fn' E).locals l in
        let Within : Posts 𝓤 H = any_q (after_block 𝓤 H
        (after_seq 𝓤 H (Wp 𝓤 H C Λ En (after 3 (fn' E).body) (at_return 𝓤 H En Post)) (at_return 𝓤 H En Post))) in
        owner_split E c x ! (λ a. fpick ! (λ s. fsplit ! $ move ! (2 ∷ 0 ∷ 5 ∷ []) $
        count_opened E c x a ! tt every refl s (λ y n cb co e fits some_n.
        move ! (3 ∷ 4 ∷ []) $ use2 𝓛 (‵ (ticket a)) (ticket_in 𝓛 a s) $ move ! (1 ∷ 2 ∷ 3 ∷ 0 ∷ []) $
        -- [the count; the vault; what shuts; the ticket; what is shown; the tokens]
        -- `let Shared { ptr } = self;`
        sets ! (is ! (of_opd ! (get_in ! (fld ! refl (stop !)) (sub ! 0 refl (whole !)))) (ap ptr_val e)) refl (tt, tt) $
        sets ! (of_opd ! (get ! refl)) refl (tt, tt) $ first ! $ blocks ! $
        -- `let count = (*ptr).count;  if count == usize::MAX`
        sets ! (of_opd ! (load ! (through ! refl (fld ! refl (stop !))) (look ! 0 refl))) refl (tt, record { fits = fits }) $
        sets ! (bin ! (get ! refl) (neg_lit ! tt) tt) refl (tt, tt) $ first ! $ branches ! (get ! refl)
        (λ at_full.
        -- `return None;` and the ticket is thrown away
        sets ! (agg ! (and_then ! (lit ! tt) (no_more !))) refl (tt, (record { fits = lit< tt }, tt)) $
        count_shut E c x a ! tt every refl y n cb co e fits $
        use0 𝓛 (‵ ((Opt.the_row (Pair E)).own_val None (live 0 vnil ∷ []))) (none_of 𝓛 (Pair E)) $
        returns_within ! Post refl (look_at ! 0 refl) $ free_all ! refl $ keep ! (0 ∷ 4 ∷ 1 ∷ []) $
        by ! exits_with_none)
        (λ room. skips ! $ exec ! C Λ En (after 3 (inside (head (after 2 (fn' E).body)))) Within $
        -- `if count != 1`
        sets ! (bin ! (get ! refl) (lit ! tt) tt) refl (tt, tt) $ first ! $ branches ! (get ! refl)
        (λ many.
        let more : 1 < n = omega (arith, is_not n 1 many) in
        let fits₁ : n - 1 < 2 ^ 64 = omega arith in
        -- `(*ptr).count = count - 1;  return None;`
        sets ! (bin ! (get ! refl) (lit ! tt) some_n) refl (tt, record { fits = fits₁ }) $
        assigns ! (of_opd ! (get ! refl)) (through ! refl (fld ! refl (stop !))) (store ! 0 refl (tt, record { fits = fits₁ })) $
        sets ! (agg ! (and_then ! (lit ! tt) (no_more !))) refl (tt, (record { fits = lit< tt }, tt)) $
        move ! (1 ∷ 3 ∷ []) $ one_less E c x a ! y n (is_not n full_count room) more $ move ! (1 ∷ 0 ∷ 2 ∷ []) $
        count_shut E c x a ! tt every refl true (n - 1) cb co e fits₁ $
        use0 𝓛 (‵ ((Opt.the_row (Pair E)).own_val None (live 0 vnil ∷ []))) (none_of 𝓛 (Pair E)) $
        returns_within ! Post refl (look_at ! 0 refl) $ free_all ! refl $ keep ! (0 ∷ 3 ∷ 1 ∷ []) $
        by ! exits_with_none)
        (λ last.
        -- the last owner: the invariant is shut for good, and what it lent comes back
        skips ! $ exec ! C Λ En (after 5 (inside (head (after 2 (fn' E).body)))) Within $
        move ! (1 ∷ 3 ∷ 2 ∷ []) $ last_one E c x a ! tt every refl y n (is_so n 1 last) $
        contents_split E c x ! cb co e (λ v h hv good fa.
        -- [the value's cell; the allocator's; what each owns; the right to free; the way back; the
        -- thread's token; the count; what is shown; the tokens]
        let freed : (Room E).Denot = record { ptr = block_ptr cb co; alloc = h } in
        let room_val : Val = vacant_val hv cb co in
        let room_typed = vacant_typed E.al (Block E) hv cb co fa in
        let both : Val = pair_val v room_val in
        let typed : Good (lone (Pair E).mir) both = pair_Typed (τ E) (vacant_ty E.al (Block E)) v room_val good room_typed in
        let some_typed = some_Good (lone (Pair E).mir) both typed in
        -- `let value = (&raw const (*ptr).value).read();`
        -- `let alloc = (&raw const (*ptr).alloc).read();`
        sets ! (addr ! (through ! refl (fld ! refl (stop !)))) refl (tt, tt) $
        sets ! (of_opd ! (load ! (through ! refl (stop !)) (look ! 0 refl))) refl good $
        sets ! (addr ! (through ! refl (fld ! refl (stop !)))) refl (tt, tt) $
        sets ! (of_opd ! (load ! (through ! refl (stop !)) (look ! 1 refl))) refl fa $
        -- `Some((value, Vacant { ptr, alloc }))`
        sets ! (of_opd ! (get ! refl)) refl good $ sets ! (of_opd ! (get ! refl)) refl fa $
        sets ! (agg ! (and_then ! (get ! refl) (and_then ! (get ! refl) (no_more !)))) refl room_typed $
        sets ! (agg ! (and_then ! (get ! refl) (and_then ! (get ! refl) (no_more !)))) refl typed $
        sets_last ! (agg ! (and_then ! (lit ! tt) (and_then ! (get ! refl) (no_more !)))) refl some_typed $
        exec ! C Λ En (after 3 (fn' E).body) (at_ret En Post) $ sets ! (of_opd ! (get ! refl)) refl some_typed $
        move ! (7 ∷ 1 ∷ 0 ∷ 5 ∷ []) $ block_joined E c x ! n cb co v hv $ move ! (0 ∷ 3 ∷ 2 ∷ []) $
        Vacant-made E.al (Block E) ! h cb co $
        move ! (1 ∷ 0 ∷ []) $
        use2 𝓛 (‵ ((Pair E).own_val (x, freed) (both ∷ []))) (pair_of 𝓛 (R E) (Room E) x freed v room_val) $
        use1 𝓛 (‵ ((Opt.the_row (Pair E)).own_val (Some (x, freed)) (live 1 (vcons both vnil) ∷ []))) (Some-of 𝓛 (Pair E) (x, freed) both) $
        returns ! (look_at ! 0 refl) $ free_all ! refl $ keep ! (0 ∷ 3 ∷ 1 ∷ []) $
        suffices ! _ (ends_at 𝓛 (ended E) (stayed E) held z (live 1 (vcons both vnil)) (Some (x, freed)) (tt, tt) (tt, tt)) $
        nothing ! $ nothing ! $ fjoin ! $ join ! $ move ! (1 ∷ 0 ∷ []) $ join ! $ frame ! $ says ! refl $
        done !)))))))

    walks : ent 𝓤 ((walk_of 𝓛 (ended E) (stayed E) held).pre z) (WpFn 𝓤 H C Λ (fn' E) (us ++ []) Post)
    walks =
        qed 𝓛 ((toks ⊛ ‵ (owns (types_at (ended E).signature.params z.0.0) z.0.3 (us, tt))) ∷ (‵ (ftok every) ⊛ asked) ∷ []) ∵ split ! $
        move ! (2 ∷ []) $ split ! $ move ! (3 ∷ []) $ fsplit ! $ fsplit ! $
        word_had E (ν E) c ! us (λ is. keep ! (0 ∷ 4 ∷ 2 ∷ []) $
        by ! (subst (λ (ws : List Val). ent 𝓤 (⋆ 𝓛 Had) (WpFn 𝓤 H C Λ (fn' E) (ws ++ []) Post)) (sym is) walk))

pub remove_owner_spec : {M : Type 1} → stated.statement M
unfolding code
remove_owner_spec 𝓤 𝓛 𝓜 𝓡 wired Y Z L LZ g d dd met md =
    let E : Bx = record { row = Y; laws = L; al = record { row = Z; laws = LZ; g = g; d = d; drops = dd } } in
    let c = F.clauses Y Z g d dd 𝓛 𝓜.mem 𝓡.returns in let 𝓣 = tables_with_turn 𝓛 (ended E) c (stayed E) 𝓜 𝓡 in let k = #self (args E) in
    meets_in_turn 𝓛 (ended E) c (stayed E) 𝓜 𝓡 k (fn' E) (wired.0.0 k refl)
    (Goes-dropped 𝓛 2 (plain (λ _. Row E)) no (λ κs x f. refl), tt) (λ z. walks E 𝓛 𝓜.mem 𝓡.returns 𝓣.C 𝓣.Λ z)
