-- `open` gives the pointer its type back, where the owner is full.
use Rattle.std.proofs.Common.{◌≡◌, List, [], ◌∷◌, ◌++◌, refl, sym, subst, true, false, lit<}
use mir.Syntax.{impl, tnil, dnil, ty_ptr}
use mir.Val.{Val, vbool, vptr, vcons, vnil, has_ty}
use base.Logic.{SProp, ent, emp, id⊢}
use base.Fml.{ftrue, fsep}
use prog.Wp.{WpFn}
use types.Kit.{‵, raw, ◌⊛◌, at_ret, ◌$◌, ◌∵◌, !, qed, by, move, keep, split, fsplit, fjoin, suffices, use0, use1}
use types.Run.{stop, fld, of_opd, lit, no_more, and_then, first, branches, skips, exec, returns, returns_within, enter}
use types.ByLocal.{alloc_all, pass_all, free_all, look_at, get, get_in, sets, env}
use types.Part.{agg, sub, whole}
use types.Match.{live}
use contract.Monad.{fact, fact_i}
use contract.Running.{tables}
use denote.Exit.{yes}
use denote.RattleType.{RattleType}
use denote.Signature.{type_at, plain}
use denote.RawPtr.{block_ptr, ptr_val}
use denote.Steps.{nothing}
use denote.Param.{layout}
use denote.Triple.Walked.{Stays, stay_dropped, walk_of, Goes-dropped}
use Rattle.core.specs.declared.option.Option.TheVariants.{None, Some}
use Rattle.core.proofs.option.Made.{Some-of, none_of}
use Rattle.core.proofs.alloc.Calls.{Al, handle_tells}
use Rattle.core.proofs.alloc.Shapes.{after}
use Rattle.core.proofs.atomic.Steps.{Ptr-Good}
use Rattle.core.proofs.cell.Inside.{Good}
use Rattle.std_alloc.proofs.ResultValues.{and_tt}
use Rattle.std.proofs.raw_atomic.Walks.{proved_at, leaves}
use Rattle.std.specs.contracts.alloc.Global as heap
use Rattle.std.proofs.alloc.Global.TheLaws as heap_laws
use Rattle.std.specs.contracts.impls.GlobalAllocator.TheImpl.{ghosts}
use Rattle.ras_c.specs.Owned.{flat_row}
use Rattle.ras_c.proofs.LooseValues.{both, Loose, loose_good, loose_in}
use Rattle.ras_c.proofs.OwnerValues.{Ow, owner_out}
use Rattle.ras_c.specs.contracts.owner.open.{ended, clauses}
use Rattle.ras_c.specs.contracts.owner.open.Key.{name as #self}
use Rattle.ras_c.proofs.owner.open.Statement.{statement}
use Rattle.ras_c.proofs.owner.open.Code as code

pub open_spec : {M : Type 1} → statement M
open_spec 𝓤 𝓛 𝓜 𝓡 wired =
    let H = 𝓛.H in let 𝓣 = tables 𝓤 H 𝓜 𝓡 𝓡.env in let R : RattleType = flat_row in let Z : RattleType = heap.the_row in let LZ = heap_laws.the_row_laws in
    let A : Al = record { row = Z; laws = LZ; g = ghosts; d = impl [] tnil dnil; drops = impl [] tnil dnil } in let Lr : RattleType = Loose R Z LZ ghosts in
    let c = clauses 𝓛 𝓜.mem 𝓡.returns in let fn = code.function in let Out : RattleType = type_at ended.signature.result tt in
    let hs : Stays ended.signature.params ended.kept = (stay_dropped (plain (λ _. Z)) yes, (stay_dropped (plain (λ _. Ow)) yes, tt)) in
    proved_at 𝓛 ended hs c 𝓜 𝓡 (Goes-dropped 𝓛 0 (plain (λ _. Z)) yes (λ κs x f. refl), (Goes-dropped 𝓛 0 (plain (λ _. Ow)) yes (λ κs x f. refl), tt)) #self fn (code.unfolded 𝓤 H 𝓜 𝓡 wired) (λ z are.
    let a = z.0.3.0 in let d = z.0.3.1.0 in let Post : Val → SProp 𝓤 = (walk_of 𝓛 ended hs c).post z in let Run : List Val → SProp 𝓤 = λ ws. WpFn 𝓤 H 𝓣.C 𝓣.Λ fn ws Post in
    qed 𝓛 ((‵ ftrue ⊛ ‵ (fsep (Z.own_val a z.0.4.0) (fsep (Ow.own_val d z.0.4.1.0) ftrue))) ∷ ‵ ftrue ∷ []) ∵ split ! $ move ! (1 ∷ []) $ fsplit ! $ handle_tells A ! a z.0.4.0 (λ h ea fits. move ! (1 ∷ []) $ fsplit ! $
    owner_out ! d z.0.4.1.0
    (λ b o x is ws. let us : List Val = h ∷ both (vbool true) (vptr b o) ∷ [] in
    let made : Val = both (vptr b o) h in let typed = loose_good R Z LZ ghosts b o h fits in let l : Lr.Denot = record { at = block_ptr b o; alloc = a; value = x } in let v₁ : Val = live 1 (vcons made vnil) in
    let good : Good (layout Out) v₁ = (and_tt _ typed.0, (record { fits = lit< tt }, (typed.1, tt))) in
    suffices ! (Run us) (subst (λ (ts : List Val). ent 𝓤 (Run us) (Run ts)) (sym (λ i. ea i ++ (ws i ++ []))) (id⊢ 𝓤 (Run us))) $
    enter ! 𝓣.C 𝓣.Λ fn us Post $ alloc_all ! (λ n. pass_all ! refl (fits, ((tt, (tt, (tt, tt))), tt)) $
    sets ! (of_opd ! (get_in ! (fld ! refl (stop !)) (sub ! 0 refl (whole !)))) refl (tt, tt) $ sets ! (of_opd ! (get_in ! (fld ! refl (stop !)) (sub ! 1 refl (whole !)))) refl (tt, tt) $
    sets ! (of_opd ! (get ! refl)) refl (tt, tt) $ first ! $ branches ! (get ! refl)
    (λ _. sets ! (of_opd ! (get ! refl)) refl (tt, tt) $ sets ! (agg ! (and_then ! (get ! refl) (and_then ! (get ! refl) (no_more !)))) refl typed $
    sets ! (agg ! (and_then ! (lit ! tt) (and_then ! (get ! refl) (no_more !)))) refl good $
    move ! (0 ∷ 2 ∷ []) $ loose_in R Z LZ ghosts ! b o h a x $ use1 𝓛 (‵ (Out.own_val (Some l) (v₁ ∷ []))) (Some-of 𝓛 Lr l made) $
    use0 𝓛 (raw (fact 𝓤 (d.flat ≡ Some x))) (fact_i 𝓤 (d.flat ≡ Some x) (emp 𝓤) is) $ nothing ! $ nothing ! $ fjoin ! $ nothing ! $ fjoin ! $
    returns_within ! Post refl (look_at ! 0 refl) $ free_all ! refl $ keep ! (4 ∷ 0 ∷ 2 ∷ 1 ∷ []) $ by ! (leaves 𝓛 ended hs c z v₁ (Some l) (tt, (tt, tt)) (tt, (tt, tt))))
    (λ wrong. absurd wrong)))
    (λ is_empty ws. let us : List Val = h ∷ both (vbool false) (ptr_val d.at) ∷ [] in let pg = Ptr-Good d.at in
    suffices ! (Run us) (subst (λ (ts : List Val). ent 𝓤 (Run us) (Run ts)) (sym (λ i. ea i ++ (ws i ++ []))) (id⊢ 𝓤 (Run us))) $
    enter ! 𝓣.C 𝓣.Λ fn us Post $ alloc_all ! (λ n. pass_all ! refl (fits, ((and_tt (has_ty ty_ptr (ptr_val d.at)) pg.0, (tt, (pg.1, tt))), tt)) $
    sets ! (of_opd ! (get_in ! (fld ! refl (stop !)) (sub ! 0 refl (whole !)))) refl (tt, tt) $ sets ! (of_opd ! (get_in ! (fld ! refl (stop !)) (sub ! 1 refl (whole !)))) refl pg $
    sets ! (of_opd ! (get ! refl)) refl (tt, tt) $ first ! $ branches ! (get ! refl)
    (λ wrong. absurd wrong)
    (λ _. skips ! $ exec ! 𝓣.C 𝓣.Λ (env fn.locals n) (after 4 fn.body) (at_ret (env fn.locals n) Post) $
    sets ! (agg ! (and_then ! (lit ! tt) (no_more !))) refl (tt, (record { fits = lit< tt }, tt)) $
    use0 𝓛 (‵ (Out.own_val None (live 0 vnil ∷ []))) (none_of 𝓛 Lr) $
    use0 𝓛 (raw (fact 𝓤 (d.flat ≡ None))) (fact_i 𝓤 (d.flat ≡ None) (emp 𝓤) is_empty) $ nothing ! $ nothing ! $ fjoin ! $ nothing ! $ fjoin ! $
    returns ! (look_at ! 0 refl) $ free_all ! refl $ keep ! (5 ∷ 0 ∷ 2 ∷ 1 ∷ []) $ by ! (leaves 𝓛 ended hs c z (live 0 vnil) None (tt, (tt, tt)) (tt, (tt, tt))))))))
