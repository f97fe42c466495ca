-- The machine values of an owner of a tree. Assumes `Logic`.
use Rattle.std.proofs.Common.{◌≡◌, ℕ, List, [], ◌∷◌, ◌++◌, refl, subst}
use Rattle.std.specs.Prelude.{Option, None, Some}
use mathlib.Core.Bool.{Bool, true, false}
use seplogic.Ra.Ura.{Ura}
use mir.Val.{Val, vbool, vptr, vstruct, of_list}
use types.Logic.{Logic, sem}
use types.Kit.{Item, Goal, Seq, Step, step, given, learn, use1, ‵, ◌$◌, drop, fsplit, fjoin, fpick, fpack, feq_i, feq_l}
use base.Fml.{ftrue, ffalse}
use base.Logic.{never, never_e, fst∗}
use denote.RattleType.{RattleType, Valss}
use denote.Builtin.{RawPtr, bool}
use denote.Memory.{lone}
use denote.RawPtr.{Ptr, block_ptr, null_ptr, ptr_val, in_a_block}
use denote.Steps.{nothing}
use denote.Struct.Struct.{within}
use denote.Struct.Owning.{shape}
use mir.Raw.{raw as bare}
use Rattle.std_alloc.specs.Box.Ownership.{box_owns}
use Rattle.ras_c.specs.Held.{heap_token}
use Rattle.ras_c.specs.Owned.{Flat, flat_row, owned}
use Rattle.ras_c.specs.contracts.owner.TreeOwner as owner
use Rattle.ras_c.proofs.LooseValues.{both}

abbrev pub Ow : RattleType
Ow = owner.the_row

module _ {M : Type 1} {𝓤 : Ura M} {𝓛 : Logic 𝓤} {K : Type 0} {Γ : List (Item 𝓤)} {G : Goal 𝓤 𝓛.H} where
  pub owner_in : K → (y : Bool) (p : Ptr) (o : Option Flat)
      → Step K 𝓛 (‵ (Ow.own_val (record { full = y; at = p; flat = o }) (both (vbool y) (ptr_val p) ∷ [])) ∷ Γ) G
      (‵ (owned y p o) ∷ Γ) G
  owner_in t y p o = step (λ s. let v : Val = both (vbool y) (ptr_val p) in
      nothing t $ feq_i t (List Val) (ptr_val p ∷ []) (ptr_val p ∷ []) refl $ fjoin t $
      feq_i t (List Val) (vbool y ∷ []) (vbool y ∷ []) refl $ fjoin t $ feq_i t (List Val) (v ∷ []) (v ∷ []) refl $ fjoin t $
      fpack t (Valss (bool ∷ RawPtr ∷ [])) (within (shape (owner.the_type)) (y, (p, tt)) (v ∷ [])) (vbool y ∷ [], (ptr_val p ∷ [], tt)) $ fjoin t $ s)

  never_so : K → Seq K 𝓛 (‵ ffalse ∷ Γ) G
  never_so t = use1 𝓛 (given ⊥ (‵ ftrue)) (never_e 𝓤 _) $ learn t (λ z. absurd z)

  cases : K → (y : Bool) (p : Ptr) (o : Option Flat) (vs : List Val) → vs ≡ both (vbool y) (ptr_val p) ∷ []
      → ((b i : ℕ) (x : Flat) → o ≡ Some x → vs ≡ both (vbool true) (vptr b i) ∷ [] → Seq K 𝓛 (‵ (box_owns heap_token flat_row (block_ptr b i) x) ∷ Γ) G)
      → (o ≡ None → vs ≡ both (vbool false) (ptr_val p) ∷ [] → Seq K 𝓛 Γ G)
      → Seq K 𝓛 (‵ (owned y p o) ∷ Γ) G
  cases t true p (Some x) vs e full none = in_a_block t p (λ p. box_owns heap_token flat_row p x) (fst∗ 𝓤 (never 𝓤) (sem 𝓛 (heap_token (bare (lone flat_row.mir)) null_ptr)))
      (λ b i e'. full b i x refl (subst (λ (q : Ptr). vs ≡ both (vbool true) (ptr_val q) ∷ []) e' e))
  cases t true p None vs e full none = never_so t
  cases t false p (Some x) vs e full none = never_so t
  cases t false p None vs e full none = drop t $ none refl e

  -- it has a tree, and owns that at its pointer, or has none
  pub owner_out : K → (d : Ow.Denot) (vs : List Val)
      → ((b i : ℕ) (x : Flat) → d.flat ≡ Some x → vs ≡ both (vbool true) (vptr b i) ∷ [] → Seq K 𝓛 (‵ (box_owns heap_token flat_row (block_ptr b i) x) ∷ Γ) G)
      → (d.flat ≡ None → vs ≡ both (vbool false) (ptr_val d.at) ∷ [] → Seq K 𝓛 Γ G)
      → Seq K 𝓛 (‵ (Ow.own_val d vs) ∷ Γ) G
  owner_out t d vs full none =
      fsplit t $ fpick t (λ vss. fsplit t $ feq_l t (λ ev. fsplit t $ feq_l t (λ eb. fsplit t $ feq_l t (λ ep. drop t $
      cases t d.full d.at d.flat vs
      (subst (λ (ps : List Val). vs ≡ vstruct (of_list (vbool d.full ∷ (ps ++ []))) ∷ []) ep (subst (λ (bs : List Val). vs ≡ vstruct (of_list (bs ++ (vss.1.0 ++ []))) ∷ []) eb ev)) full none))))
