-- `ptr_eq` lowers the count through the first owner, and sees it through the second just where both
-- lead to one block. Two owners with one key know one name, so they have one place and one value.
-- With two keys both invariants can be open at once, and two cells at one place are never both
-- there: so the places are two.
use mathlib.Core.Path.{◌≡◌, refl, sym, subst, ap, ◌∙◌}
use mathlib.Core.Bool.{Bool, true, false, not}
use mathlib.Core.List.{List, [], ◌∷◌, ◌++◌}
use mathlib.Core.Logic.{◌↔◌}
use Prim.Native.Nat.{ℕ, ◌+◌, ◌-◌, ◌<◌, ◌^◌}
use native.Mathlib.Omega.{arith}
use seplogic.Ra.Ura.{Ura}
use lib.Dec.{T, eqb, eqb→eq, eqb_refl}
use mir.Syntax.{Fn, named, w64, ty_int}
use mir.MapTy.{inst_fn}
use mir.Val.{Val, vptr, vint, vbool}
use base.Fraction.{full_share}
use base.Logic.{emp, SProp, ent, sep, wand, guard, via, mono_l, id⊢, never, never_e}
use base.Fml.{Lft, Key, Share, Mask, ftrue, flft, fhide, fres, ftok}
use base.Mask.{every, just, Key-Dec, less, less_other}
use base.Stored.{coded×}
use prog.Memory.{Memory}
use prog.Model.{Model}
use prog.Routine.{Routine}
use prog.Wp.{Env, Calls, Loops, WpFn}
use contract.Monad.{Fun, fact_i}
use types.Logic.{Logic, sem}
use types.Kit.{by, Item, ⋆, Seq, ‵, raw, given, ◌⊛◌, at_ret, Goal, ◌$◌, ◌∵◌, !, qed, move, keep, drop, use1, use2, learn, rewrite, group, split, split3, join, fsplit, fjoin, feq_i, suffices, frame}
use types.Run.{look, store, stop, fld, load, lit, bin, of_opd, assigns, first, blocks, exec, returns, enter}
use types.Part.{look_in, sub, whole}
use types.ByLocal.{alloc_all, pass_all, free_all, look_at, get, through, sets, sets_last, is, env}
use denote.Builtin.{RefOf}
use denote.Exit as exit
use denote.Memory.{hidden_shr}
use denote.RattleType.{owns}
use denote.Ref.{shr_vals, shr_Tells}
use denote.RawPtr.{Ptr, coded_ptr, block_of, count_of, ptr_val}
use denote.Signature.{types_at, plain}
use denote.Steps.{nothing}
use denote.Triple.Clauses.{Clauses, Ended}
use denote.Triple.Walked.{says, Stays, stay_dropped, walk_of, walked, ends_at, Goes-dropped}
use Rattle.std.proofs.BoxSteps.Form.{Bx, args, X, R}
use Rattle.std.proofs.RcSteps.{Word}
use Rattle.std.proofs.VecSteps.Shapes.{after}
use Rattle.shared_pointer.specs.SharedOwnership.{Marks, key, Invariant}
use Rattle.shared_pointer.proofs.SharedInvariant.{same_value}
use Rattle.shared_pointer.proofs.SharedBlock.{cell, tag, counter, contents, Lent}
use Rattle.shared_pointer.proofs.SharedSteps.{Shutting, borrow_opened, borrow_shut, count_opened, count_shut}
use Rattle.shared_pointer.proofs.Turns.{with_turn, tables_with_turn, meets_in_turn}
use Rattle.shared_pointer.proofs.BySelf.{Row, ν}
use Rattle.shared_pointer.specs.contracts.shared.Shared.ptr_eq as F
use Rattle.shared_pointer.specs.contracts.shared.Shared.ptr_eq.Key.{name as #self}
use Rattle.shared_pointer.proofs.shared.Shared.ptr_eq.Statement as stated
use Rattle.shared_pointer.proofs.shared.Shared.ptr_eq.Code as code
use Rattle.shared_pointer.proofs.shared.Shared.ptr_eq.Code.{code}

so : (b : Bool) → (T b → ⊥) → not b ≡ true
so true n = absurd (n tt)
so false n = refl

not_so : (b : Bool) → T b → not b ≡ true → ⊥
not_so true t e = subst T (sym e) tt
not_so false t e = t

-- a count that was lowered is not what it was
lowered : (n : ℕ) → 0 < n → not (eqb n (n - 1)) ≡ true
lowered n some_n = so (eqb n (n - 1)) (λ t. let e : n ≡ n - 1 = eqb→eq n (n - 1) t in omega arith)

-- one cell is not there twice
module _ {M : Type 1} {𝓤 : Ura M} (𝓛 : Logic 𝓤) (𝓜 : Model 𝓤 𝓛.H) where
  open 𝓛 use {H}

  cell_once : (b o n m : ℕ) → ent 𝓤 (sep 𝓤 (sem 𝓛 (cell b o n)) (sem 𝓛 (cell b o m))) (never 𝓤)
  cell_once b o n m =
      via 𝓤 _ (mono_l 𝓤 (sem 𝓛 (cell b o m)) (𝓛.laws.at_room (ty_int w64) b (o + 0) (vint w64 n)))
      (𝓜.room_at (ty_int w64) (ty_int w64) b (o + 0) (o + 0) (o + 0) full_share (vint w64 m) (omega arith, omega arith)
      (omega arith, omega arith))

module _ (E : Bx) where
  abbrev fn' : Fn
  fn' = inst_fn (args E) code.function

  abbrev ended : Ended
  ended = F.ended E.row E.al.row E.al.g E.al.d E.al.drops

  abbrev stayed : Stays ended.signature.params ended.kept
  stayed = (
    stay_dropped (RefOf (0 ∷ []) tt (plain (λ _. Row E)) (λ _. tt)) exit.yes,
    (stay_dropped (RefOf (1 ∷ []) tt (plain (λ _. Row E)) (λ _. tt)) exit.yes, tt),
  )

  -- what shuts an invariant, less the rest of the token
  abbrev Way : {M : Type 1} {𝓤 : Ura M} (𝓛 : Logic 𝓤) (c : Ptr) (x : X E) → Marks → SProp 𝓤
  Way {𝓤 = 𝓤} 𝓛 c x a = wand 𝓤 (sem 𝓛 (Invariant (counter E c x) (contents E c x) a)) (𝓛.H.⇛ (𝓛.A.tok (just (key a))))

module _ (E : Bx) {M : Type 1} {𝓤 : Ura M} (𝓛 : Logic 𝓤) (𝓜 : Model 𝓤 𝓛.H) (at_mem : Memory → SProp 𝓤) (run : Routine → Fun 𝓤) where
  open 𝓛 use {H, A}

  abbrev held : Clauses 𝓤 (ended E)
  held = with_turn 𝓛 (ended E) (F.clauses E.row E.al.row E.al.g E.al.d E.al.drops 𝓛 at_mem run)

  module _ (C : Calls 𝓤 H) (Λ : Loops 𝓤 H) (z : (walk_of 𝓛 (ended E) (stayed E) held).Ghost) where
    abbrev c : Ptr
    c = z.0.3.0.now.ptr

    abbrev x : X E
    x = z.0.3.0.now.value

    abbrev d : Ptr
    d = z.0.3.1.0.now.ptr

    abbrev w : X E
    w = z.0.3.1.0.now.value

    abbrev b : ℕ
    b = z.0.3.0.ref_ptr.0

    abbrev o : ℕ
    o = z.0.3.0.ref_ptr.1

    abbrev b₂ : ℕ
    b₂ = z.0.3.1.0.ref_ptr.0

    abbrev o₂ : ℕ
    o₂ = z.0.3.1.0.ref_ptr.1

    abbrev us : List Val
    us = vptr b o ∷ []

    abbrev vs : List Val
    vs = vptr b₂ o₂ ∷ []

    abbrev κ : Lft
    κ = z.0.0.0

    abbrev q : Share
    q = z.0.1.0

    abbrev μ : Lft
    μ = z.0.0.1.0

    abbrev r : Share
    r = z.0.1.1.0

    abbrev others : Item 𝓤
    others = ‵ (flft z.0.0.1.1.0 z.0.1.1.1.0) ⊛ ‵ (flft z.0.0.1.1.1.0 z.0.1.1.1.1.0) ⊛ ‵ ftrue

    abbrev asked : Item 𝓤
    asked = raw ((F.clauses E.row E.al.row E.al.g E.al.d E.al.drops 𝓛 at_mem run z.0.0 z.0.3).requires z.1)

    abbrev bound : (walk_of 𝓛 (ended E) (stayed E) held).Ghost
    bound = ((z.0.0, z.0.1, z.0.2, z.0.3, (us, (vs, tt))), z.1)

    abbrev Post : Val → SProp 𝓤
    Post = (walk_of 𝓛 (ended E) (stayed E) held).post bound

    exits : (y : Bool) → (y ≡ true ↔ c ≡ d) → (y ≡ true → x ≡ w)
        → ent 𝓤 (⋆ 𝓛 (‵ (flft κ q) ∷ ‵ (flft μ r) ∷ others ∷ ‵ (ftok every) ∷ [])) (Post (vbool y))
    exits y place value =
        qed 𝓛 (‵ (flft κ q) ∷ ‵ (flft μ r) ∷ others ∷ ‵ (ftok every) ∷ []) ∵
        suffices ! _ (ends_at 𝓛 (ended E) (stayed E) held bound (vbool y) y (tt, (tt, tt)) (tt, (tt, tt))) $
        group ! 3 $ feq_i ! (List Val) (vbool y ∷ []) (vbool y ∷ []) refl $ nothing ! $ nothing ! $ fjoin ! $
        nothing ! $ fjoin ! $ join ! $ move ! (1 ∷ 0 ∷ []) $ join ! $
        frame ! $ frame ! $ says ! value $ by ! (fact_i 𝓤 (y ≡ true ↔ c ≡ d) (emp 𝓤) place)

    by_keys : {K : Type 0} {Γ : List (Item 𝓤)} {G : Goal 𝓤 H} {φ : Type 0} → Dec φ → K → (φ → Seq K 𝓛 Γ G)
        → ((φ → ⊥) → Seq K 𝓛 Γ G) → Seq K 𝓛 Γ G
    by_keys (yes p) t k₁ k₂ = k₁ p
    by_keys (no n) t k₁ k₂ = k₂ n

    walks : ent 𝓤 ((walk_of 𝓛 (ended E) (stayed E) held).pre bound) (WpFn 𝓤 H C Λ (fn' E) (us ++ vs) Post)
    walks =
        qed 𝓛 (((‵ (flft κ q) ⊛ ‵ (flft μ r) ⊛ others) ⊛
        ‵ (owns (types_at (ended E).signature.params z.0.0) z.0.3 (us, (vs, tt)))) ∷ (‵ (ftok every) ⊛ asked) ∷ []) ∵
        split ! $ split3 ! $ move ! (3 ∷ []) $ fsplit ! $ fsplit ! $ move ! (2 ∷ []) $ fsplit ! $ fsplit ! $
        move ! (8 ∷ []) $ split ! $ keep ! (6 ∷ 7 ∷ 3 ∷ 8 ∷ 9 ∷ 0 ∷ []) $
        use1 𝓛 (‵ (hidden_shr (Word E (ν E)) κ (c, tt) b o) ⊛ ‵ (fhide (Lent E c x κ))) (id⊢ 𝓤 _) $ split ! $
        enter ! C Λ (fn' E) (vptr b o ∷ vptr b₂ o₂ ∷ []) _ $
        alloc_all ! (λ l. pass_all ! refl ((tt, tt), ((tt, tt), tt)) $
        let En : Env 𝓤 H = env (fn' E).locals l in
        borrow_opened E c x (ν E) κ q b o ! tt (λ a s q'. move ! (6 ∷ []) $
        use1 𝓛 (‵ (hidden_shr (Word E (ν E)) μ (d, tt) b₂ o₂) ⊛ ‵ (fhide (Lent E d w μ))) (id⊢ 𝓤 _) $ split ! $
        move ! (0 ∷ 1 ∷ 8 ∷ []) $
        borrow_opened E d w (ν E) μ r b₂ o₂ ! tt (λ a₂ s₂ q₂.
        -- [the second's part; invariant; word; way back; invariant; what is shown; the first's six;
        -- the other tokens; the thread's token]
        by_keys (Key-Dec (key a) (key a₂)) !
        -- One key: the name tells one place and one value, and the count that is lowered is the
        -- count that is read.
        (λ same. move ! (11 ∷ 5 ∷ []) $ fsplit ! $ move ! (2 ∷ []) $ fsplit ! $
        rewrite ! 0 (λ (γ : ℕ). ‵ (fres γ (tag E d w))) (sym (ap (λ (k : Key). k.1) same)) refl $
        move ! (2 ∷ 0 ∷ []) $
        use2 𝓛 (given (tag E c x ≡ tag E d w) (raw (emp 𝓤))) (same_value 𝓛 a.name (tag E c x) (tag E d w)) $
        learn ! (λ one_code. drop ! $ drop ! $ drop ! $
        let both : ◌≡◌ {A = Ptr × X E} (c, x) (d, w) = (coded× coded_ptr (R E).coded).inj (c, x) (d, w) one_code in
        let place : c ≡ d = ap (λ (u : Ptr × X E). u.0) both in
        let value : x ≡ w = ap (λ (u : Ptr × X E). u.1) both in
        move ! (6 ∷ 5 ∷ 11 ∷ []) $
        count_opened E c x a ! tt every refl s (λ y n cb co e fits some_n.
        let fits₁ : n - 1 < 2 ^ 64 = omega arith in
        -- [the count; the vault; what shuts; the first's part; the second's part; invariant; word;
        -- way back; invariant; the first's word; way back; invariant; the other tokens]
        -- `let here = this.ptr.cast_mut();`
        sets ! (is ! (of_opd ! (load ! (through ! refl (fld ! refl (stop !))) (look_in ! 9 (sub ! 0 refl (whole !)))))
        (ap ptr_val e)) refl (tt, tt) $
        sets ! (of_opd ! (get ! refl)) refl (tt, tt) $
        -- `let there = other.ptr.cast_mut();`
        sets ! (is ! (of_opd ! (load ! (through ! refl (fld ! refl (stop !))) (look_in ! 6 (sub ! 0 refl (whole !)))))
        (ap ptr_val (sym place ∙ e))) refl (tt, tt) $
        sets ! (of_opd ! (get ! refl)) refl (tt, tt) $ first ! $ blocks ! $
        -- `let count = (*here).count;  let before = (*there).count;`
        sets ! (of_opd ! (load ! (through ! refl (fld ! refl (stop !))) (look ! 0 refl))) refl (tt, record { fits = fits }) $
        sets ! (of_opd ! (load ! (through ! refl (fld ! refl (stop !))) (look ! 0 refl))) refl (tt, record { fits = fits }) $
        -- `(*here).count = count - 1;`
        sets ! (bin ! (get ! refl) (lit ! tt) some_n) refl (tt, record { fits = fits₁ }) $
        assigns ! (of_opd ! (get ! refl)) (through ! refl (fld ! refl (stop !))) (store ! 0 refl (tt, record { fits = fits₁ })) $
        -- `let after = (*there).count;  (*here).count = count;  before != after`
        sets ! (of_opd ! (load ! (through ! refl (fld ! refl (stop !))) (look ! 0 refl))) refl (tt, record { fits = fits₁ }) $
        assigns ! (of_opd ! (get ! refl)) (through ! refl (fld ! refl (stop !))) (store ! 0 refl (tt, record { fits = fits })) $
        sets_last ! (bin ! (get ! refl) (get ! refl) tt) refl (tt, tt) $
        exec ! C Λ En (after 5 (fn' E).body) (at_ret En Post) $ sets ! (of_opd ! (get ! refl)) refl (tt, tt) $
        count_shut E c x a ! tt every refl y n cb co e fits $ move ! (1 ∷ 7 ∷ 8 ∷ []) $
        borrow_shut E c x (ν E) κ q b o ! tt a s q' $ move ! (2 ∷ 4 ∷ 5 ∷ []) $
        borrow_shut E d w (ν E) μ r b₂ o₂ ! tt a₂ s₂ q₂ $
        returns ! (look_at ! 0 refl) $ free_all ! refl $ keep ! (1 ∷ 0 ∷ 6 ∷ 2 ∷ []) $
        by ! (exits (not (eqb n (n - 1))) ((λ _. place), (λ _. lowered n some_n)) (λ _. value)))))
        -- Two keys: both invariants are opened. The places are two, and the second count stays.
        (λ differ. move ! (7 ∷ 6 ∷ 13 ∷ []) $
        count_opened E c x a ! tt every refl s (λ y n cb co e fits some_n.
        let fits₁ : n - 1 < 2 ^ 64 = omega arith in
        let left : Mask = less every (key a) in
        let has : left (key a₂) ≡ true = less_other every (key a) (key a₂) differ in
        move ! (2 ∷ []) $ use1 𝓛 (raw (Way E 𝓛 c x a) ⊛ ‵ (ftok (less every (key a)))) (id⊢ 𝓤 _) $ split ! $
        move ! (6 ∷ 5 ∷ 1 ∷ []) $
        count_opened E d w a₂ ! tt (less every (key a)) has s₂ (λ y₂ m db dp e₂ fm some_m.
        -- [the second's count; the vault; what shuts; the part; what shuts the first's; its count;
        -- the vault; the part; the second's word; way back; invariant; what is shown; the first's
        -- word; way back; invariant; what is shown; the other tokens]
        by_keys (Key-Dec (cb, co) (db, dp)) !
        (λ one_place. move ! (5 ∷ 0 ∷ []) $ rewrite ! 0 (λ (k : Key). ‵ (cell k.0 k.1 n)) one_place refl $
        use2 𝓛 (given ⊥ (raw (emp 𝓤))) (via 𝓤 (never 𝓤) (cell_once 𝓛 𝓜 db dp n m) (never_e 𝓤 (guard 𝓤 ⊥ (emp 𝓤)))) $
        learn ! (λ no. absurd no))
        (λ two_places.
        -- `let here = this.ptr.cast_mut();`
        sets ! (is ! (of_opd ! (load ! (through ! refl (fld ! refl (stop !))) (look_in ! 12 (sub ! 0 refl (whole !)))))
        (ap ptr_val e)) refl (tt, tt) $
        sets ! (of_opd ! (get ! refl)) refl (tt, tt) $
        -- `let there = other.ptr.cast_mut();`
        sets ! (is ! (of_opd ! (load ! (through ! refl (fld ! refl (stop !))) (look_in ! 8 (sub ! 0 refl (whole !)))))
        (ap ptr_val e₂)) refl (tt, tt) $
        sets ! (of_opd ! (get ! refl)) refl (tt, tt) $ first ! $ blocks ! $
        -- `let count = (*here).count;  let before = (*there).count;`
        sets ! (of_opd ! (load ! (through ! refl (fld ! refl (stop !))) (look ! 5 refl))) refl (tt, record { fits = fits }) $
        sets ! (of_opd ! (load ! (through ! refl (fld ! refl (stop !))) (look ! 0 refl))) refl (tt, record { fits = fm }) $
        -- `(*here).count = count - 1;`
        sets ! (bin ! (get ! refl) (lit ! tt) some_n) refl (tt, record { fits = fits₁ }) $
        assigns ! (of_opd ! (get ! refl)) (through ! refl (fld ! refl (stop !))) (store ! 5 refl (tt, record { fits = fits₁ })) $
        -- `let after = (*there).count;  (*here).count = count;  before != after`
        sets ! (of_opd ! (load ! (through ! refl (fld ! refl (stop !))) (look ! 0 refl))) refl (tt, record { fits = fm }) $
        assigns ! (of_opd ! (get ! refl)) (through ! refl (fld ! refl (stop !))) (store ! 5 refl (tt, record { fits = fits })) $
        sets_last ! (bin ! (get ! refl) (get ! refl) tt) refl (tt, tt) $
        exec ! C Λ En (after 5 (fn' E).body) (at_ret En Post) $ sets ! (of_opd ! (get ! refl)) refl (tt, tt) $
        count_shut E d w a₂ ! tt (less every (key a)) has y₂ m db dp e₂ fm $ move ! (2 ∷ 0 ∷ []) $ join ! $
        use1 𝓛 (Shutting E c x 𝓛 a every) (id⊢ 𝓤 _) $ move ! (2 ∷ 3 ∷ 0 ∷ []) $
        count_shut E c x a ! tt every refl y n cb co e fits $
        move ! (2 ∷ 7 ∷ 8 ∷ []) $ borrow_shut E c x (ν E) κ q b o ! tt a s q' $ move ! (2 ∷ 3 ∷ 4 ∷ []) $
        borrow_shut E d w (ν E) μ r b₂ o₂ ! tt a₂ s₂ q₂ $
        returns ! (look_at ! 0 refl) $ free_all ! refl $ keep ! (1 ∷ 0 ∷ 7 ∷ 2 ∷ []) $
        let no : not (eqb m m) ≡ true → ⊥ = not_so (eqb m m) (eqb_refl m) in
        by ! (exits (not (eqb m m)) (
          (λ t. absurd (no t)),
          (λ p. absurd (two_places (ap (λ (u : Ptr). (block_of u, count_of u)) (sym e ∙ p ∙ e₂)))),
        )
        (λ t. absurd (no t))))))))))

pub ptr_eq_spec : {M : Type 1} → stated.statement M
unfolding code
ptr_eq_spec 𝓤 𝓛 𝓜 𝓡 wired Y Z L LZ g d dd met md =
    let E : Bx = record { row = Y; laws = L; al = record { row = Z; laws = LZ; g = g; d = d; drops = dd } } in
    let c = F.clauses Y Z g d dd 𝓛 𝓜.mem 𝓡.returns in let 𝓣 = tables_with_turn 𝓛 (ended E) c (stayed E) 𝓜 𝓡 in let k = #self (args E) in
    meets_in_turn 𝓛 (ended E) c (stayed E) 𝓜 𝓡 k (fn' E) (wired.0.0 k refl) (
      Goes-dropped 𝓛 4 (RefOf (0 ∷ []) tt (plain (λ _. Row E)) (λ _. tt)) exit.yes (λ κs x f. refl),
      (Goes-dropped 𝓛 4 (RefOf (1 ∷ []) tt (plain (λ _. Row E)) (λ _. tt)) exit.yes (λ κs x f. refl), tt),
    )
    (walked 𝓛 (ended E) (stayed E) (with_turn 𝓛 (ended E) c) (WpFn 𝓤 𝓛.H 𝓣.C 𝓣.Λ (fn' E))
    (λ κs. (shr_vals, (shr_vals, tt)))
    (λ κs. (shr_Tells (named 0) κs.0 (Row E), (shr_Tells (named 1) κs.1.0 (Row E), tt)))
    (λ κs qs bounds a g are. walks E 𝓛 𝓜 𝓜.mem 𝓡.returns 𝓣.C 𝓣.Λ ((κs, qs, bounds, a, (shr_vals a.0, (shr_vals a.1.0, tt))), g)))
