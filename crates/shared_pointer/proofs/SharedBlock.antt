-- The block of a `Shared`: its three fields as cells, and the names of what is in it. Assumes
-- `Logic`.
--     block_filled a block that was just written is a count of 1 and what the last owner gets
--     contents_lend what the last owner gets may be lent: it shows the value contents_split the
--     same, as cells block_joined the emptied cells are one block again
use mathlib.Core.Path.{◌≡◌, refl}
use mathlib.Core.Bool.{Bool}
use Prim.Native.Nat.{ℕ, ◌+◌, ◌^◌}
use mathlib.Core.List.{List, [], ◌∷◌}
use seplogic.Ra.Ura.{Ura}
use lib.Dec.{lit<}
use base.Fraction.{full_share}
use base.Stored.{Gv}
use mir.Syntax.{Ty, Tys, Sym, w64, ty_int, ty_struct, tcons, tnil}
use mir.Val.{Val, Vals, vint, vstruct, vcons, vnil}
use mir.Raw.{raw as bare}
use base.Logic.{SProp, ent, sep, all, wand, via, mono_r, apply∗}
use base.Fml.{Lft, Incl, Fml, ftrue, fex, fat, froom}
use prog.Model.{fields_at, rooms_at}
use types.Logic.{Logic, sem}
use contract.Monad.{conj_r}
use types.Kit.{Item, Goal, Seq, Step, step, ‵, raw, some, given, ◌⊛◌, ◌$◌, ◌∵◌, !, qed, by, move, keep, use1, use2, pick, learn, group, split, split3, frame, assume, rewrite, done, fsplit, fsplit3, fjoin, fjoin3, fpick, fpack, flt_i}
use denote.Memory.{part_at}
use denote.RawPtr.{Ptr, block_ptr, lies_at, ◌+ₚ◌}
use denote.Param.Laws.{param_laws}
use denote.Shares.{Shares-less}
use denote.Steps.{nothing}
use denote.Struct.Lending.{Lends, Lends-lies, Lends-first}
use borrow.Table.OneValue.{part_in, part_out}
use Rattle.std.proofs.alloc.Calls.{α, token, Fits}
use Rattle.std.proofs.BoxSteps.Form.{Bx, X, τ, own, R, P}
use Rattle.std.proofs.BoxSteps.Steps.{el_out, el_in}
use Rattle.std.proofs.RawLayout.{as_raw, as_written}
use Rattle.std.proofs.RcSteps.{Good}
use Rattle.shared_pointer.specs.SharedOwnership.{Marks, tag_of, shown, vault, guarded, owned, lends, count_at, block_type, allocator_offset, value_offset, rejoin, freed_by, contents_of, view_of}

-- the count's cell, with n in it
abbrev pub cell : ℕ → ℕ → ℕ → Fml
cell b o n = fat full_share (ty_int w64) b (o + 0) (vint w64 n)

-- E is the value's type with the allocator's
module _ (E : Bx) where
  abbrev pub allocator_at : ℕ
  allocator_at = allocator_offset (P E) (R E)

  abbrev pub value_at : ℕ
  value_at = value_offset (P E) (R E)

  abbrev pub block_ty : Ty
  block_ty = block_type (P E) (R E)

  -- a block with one owner
  abbrev pub block_val : Val → Val → Val
  block_val hv v = vstruct (vcons (vint w64 1) (vcons hv (vcons v vnil)))

  -- the cells of the allocator and of the value
  abbrev pub allocator_cell : ℕ → ℕ → Val → Fml
  allocator_cell b o hv = fat full_share (α E.al) b (o + allocator_at) hv

  abbrev pub value_cell : ℕ → ℕ → Val → Fml
  value_cell b o v = fat full_share (τ E) b (o + value_at) v

  -- the right of the allocator h to free the block
  abbrev pub right_to_free : E.al.row.Denot → ℕ → ℕ → Fml
  right_to_free h b o = token E.al h block_ty (block_ptr b o)

  abbrev pub rejoined : ℕ → ℕ → Fml
  rejoined b o = rejoin (P E) (R E) (block_ptr b o)

  -- the node or token at c, where the value x lies
  module _ (c : Ptr) (x : X E) where
    abbrev pub counter : ℕ → Fml
    counter = count_at c

    abbrev pub contents : Fml
    contents = contents_of (P E) (token E.al) (R E) c x

    abbrev pub view : Lft → Fml
    view = view_of (P E) (token E.al) (R E) c x

    abbrev pub tag : Gv
    tag = tag_of (P E) (token E.al) (R E) c x

    abbrev pub shown_by : Marks → Lft → Fml
    shown_by = shown counter contents tag view

    abbrev pub guarded_by : Marks → Fml
    guarded_by = guarded counter contents

    abbrev pub vault_by : Marks → Bool → ℕ → Fml
    vault_by = vault counter contents

    abbrev pub Owned : Fml
    Owned = owned counter contents tag view

    abbrev pub Lent : Lft → Fml
    Lent = lends counter contents tag view

    pub contents_lend : {M : Type 1} {𝓤 : Ura M} (𝓛 : Logic 𝓤) (l : Lft) → Incl l E.row.lives
        → Lends 𝓛 contents view l
    contents_lend 𝓛 l within =
        let at : Ptr = c +ₚ value_at in
        Lends-first 𝓛 (lies_at (R E) full_share at x) (fex (P E).Denot (freed_by (P E) (R E) (token E.al) c)) view l
        (Lends-lies 𝓛 (R E) l at x (Shares-less 𝓛 (R E) (R E).lives l within ((param_laws 0 E.row E.laws).shares 𝓛) x))

module _ (E : Bx) {M : Type 1} {𝓤 : Ura M} (𝓛 : Logic 𝓤) (ν : Sym) (b o : ℕ) where
  open 𝓛 use {H}

  abbrev fields : Tys
  fields = tcons (ty_int w64) (tcons (α E.al) (tcons (τ E) tnil))

  abbrev Block : Ty
  Block = ty_struct ν fields

  abbrev Joins : SProp 𝓤
  Joins = wand 𝓤 (rooms_at 𝓤 H fields 0 b o) (H.room Block b o)

  rejoins : ent 𝓤 Joins (sem 𝓛 (rejoined E b o))
  rejoins =
      qed 𝓛 (raw Joins ∷ []) ∵
      assume ! (‵ (froom (ty_int w64) b (o + 0)) ⊛ ‵ (froom (bare (α E.al)) b (o + allocator_at E)) ⊛
      ‵ (froom (bare (τ E)) b (o + value_at E))) $
      split3 ! $ move ! (1 ∷ []) $ as_written ! (α E.al) b (o + allocator_at E) $
      move ! (2 ∷ []) $ as_written ! (τ E) b (o + value_at E) $ nothing ! $
      move ! (3 ∷ 2 ∷ 1 ∷ 0 ∷ []) $ group ! 4 $
      use2 𝓛 (‵ (froom Block b o)) (apply∗ 𝓤 (rooms_at 𝓤 H fields 0 b o) (H.room Block b o)) $
      by ! (𝓛.laws.room-raw Block b o)

  -- what was written, field by field, and the way back to the whole block
  cells_apart : (vs : Vals)
      → ent 𝓤 (H.at full_share Block b o (vstruct vs)) (sep 𝓤 (fields_at 𝓤 H full_share fields 0 b o vs) Joins)
  cells_apart vs =
      via 𝓤 _ (𝓛.laws.at_fields_free ν fields b o vs)
      (mono_r 𝓤 (fields_at 𝓤 H full_share fields 0 b o vs)
      (conj_r 𝓤 (all 𝓤 (λ (ws : Vals). wand 𝓤 (fields_at 𝓤 H full_share fields 0 b o ws) (H.at full_share Block b o (vstruct ws)))) Joins))

  pub block_filled : (h : E.al.row.Denot) (x : X E) (hv v : Val)
      → ent 𝓤 (sep 𝓤 (H.at full_share Block b o (block_val E hv v))
      (sep 𝓤 (sem 𝓛 (right_to_free E h b o)) (sep 𝓤 (sem 𝓛 (E.al.row.own_val h (hv ∷ []))) (sem 𝓛 (own E x (v ∷ []))))))
      (sep 𝓤 (sem 𝓛 (counter E (block_ptr b o) x 1)) (sem 𝓛 (contents E (block_ptr b o) x)))
  block_filled h x hv v =
      let vs : Vals = vcons (vint w64 1) (vcons hv (vcons v vnil)) in
      qed 𝓛 (‵ (fat full_share Block b o (block_val E hv v)) ∷ ‵ (right_to_free E h b o) ∷
      ‵ (E.al.row.own_val h (hv ∷ [])) ∷ ‵ (own E x (v ∷ [])) ∷ []) ∵
      use1 𝓛 ((‵ (cell b o 1) ⊛ ‵ (allocator_cell E b o hv) ⊛ ‵ (value_cell E b o v) ⊛ ‵ ftrue) ⊛ raw Joins) (cells_apart vs) $
      split ! $ split3 ! $ flt_i ! 1 (2 ^ 64) (lit< tt) $ fjoin ! $ frame ! $
      -- [the allocator's cell; the value's, and nothing; the way back; the right; what the
      -- allocator owns; what the value owns]
      move ! (1 ∷ []) $ split ! $
      move ! (0 ∷ 6 ∷ []) $ use2 𝓛 (‵ (part_at (R E) full_share x b (o + value_at E))) (el_in E 𝓛 x b (o + value_at E) v) $
      move ! (2 ∷ 5 ∷ []) $
      use2 𝓛 (‵ (part_at (P E) full_share h b (o + allocator_at E))) (part_in 𝓛 (P E) refl full_share h b (o + allocator_at E) hv) $
      move ! (3 ∷ []) $ use1 𝓛 (‵ (rejoined E b o)) rejoins $
      move ! (1 ∷ 4 ∷ 0 ∷ []) $ fjoin3 ! $
      fpack ! E.al.row.Denot (freed_by (P E) (R E) (token E.al) (block_ptr b o)) h $
      keep ! (1 ∷ 0 ∷ []) $ fjoin ! $ done !

-- the value's cell, the allocator's, what each owns, the right to free the block, and the way back
-- to it
abbrev pub Apart : (E : Bx) → X E → {M : Type 1} {𝓤 : Ura M} (𝓛 : Logic 𝓤)
    → ℕ → ℕ → Val → E.al.row.Denot → Val → List (Item 𝓤) → List (Item 𝓤)
Apart E x 𝓛 b o v h hv rest =
    ‵ (value_cell E b o v) ∷ ‵ (allocator_cell E b o hv) ∷ ‵ (own E x (v ∷ [])) ∷ ‵ (E.al.row.own_val h (hv ∷ []))
    ∷ ‵ (right_to_free E h b o) ∷ ‵ (rejoined E b o) ∷ rest

module _ (E : Bx) (c : Ptr) (x : X E) {M : Type 1} {𝓤 : Ura M} {𝓛 : Logic 𝓤} {K : Type 0} {Γ : List (Item 𝓤)} {G : Goal 𝓤 𝓛.H} where
  open 𝓛 use {H}

  pub contents_split : K → (b o : ℕ) → c ≡ block_ptr b o
      → ((v : Val) (h : E.al.row.Denot) (hv : Val) → Good (τ E) v → Fits E.al hv → Seq K 𝓛 (Apart E x 𝓛 b o v h hv Γ) G)
      → Seq K 𝓛 (‵ (contents E c x) ∷ Γ) G
  contents_split w b o e k =
      rewrite w 0 (λ (r : Ptr). ‵ (contents E r x)) e refl $ fsplit w $
      use1 𝓛 (some (λ (v : Val). given (Good (τ E) v) (‵ (value_cell E b o v) ⊛ ‵ (own E x (v ∷ [])))))
      (el_out E 𝓛 x b (o + value_at E)) $ pick w (λ v. learn w (λ good. split w $
      -- [the value's cell; what it owns; the allocator, and the rest]
      move w (2 ∷ []) $ fpick w (λ h. fsplit3 w $
      use1 𝓛 (some (λ (u : Val). ‵ (allocator_cell E b o u) ⊛ ‵ (E.al.row.own_val h (u ∷ []))))
      (part_out 𝓛 (P E) refl full_share h b (o + allocator_at E)) $ pick w (λ hv. split w $
      use1 𝓛 (given (Fits E.al hv) (‵ (allocator_cell E b o hv)))
      (𝓛.laws.at_wt full_share (α E.al) b (o + allocator_at E) hv) $ learn w (λ fits.
      move w (4 ∷ 0 ∷ 5 ∷ 1 ∷ 2 ∷ 3 ∷ []) $ k v h hv good fits)))))

  pub block_joined : K → (n b o : ℕ) (v hv : Val)
      → Step K 𝓛 (‵ (froom (block_ty E) b o) ∷ Γ) G
      (‵ (cell b o n) ∷ ‵ (allocator_cell E b o hv) ∷ ‵ (value_cell E b o v) ∷ ‵ (rejoined E b o) ∷ Γ) G
  block_joined w n b o v hv = step (λ next.
      use1 𝓛 (‵ (froom (ty_int w64) b (o + 0))) (𝓛.laws.at_room (ty_int w64) b (o + 0) (vint w64 n)) $
      move w (1 ∷ []) $
      use1 𝓛 (‵ (froom (α E.al) b (o + allocator_at E))) (𝓛.laws.at_room (α E.al) b (o + allocator_at E) hv) $
      as_raw w (α E.al) b (o + allocator_at E) $
      move w (2 ∷ []) $
      use1 𝓛 (‵ (froom (τ E) b (o + value_at E))) (𝓛.laws.at_room (τ E) b (o + value_at E) v) $
      as_raw w (τ E) b (o + value_at E) $
      move w (2 ∷ 1 ∷ 0 ∷ []) $ group w 3 $
      use2 𝓛 (‵ (froom (block_ty E) b o))
      (apply∗ 𝓤 (sep 𝓤 (H.room (ty_int w64) b (o + 0))
      (sep 𝓤 (H.room (bare (α E.al)) b (o + allocator_at E)) (H.room (bare (τ E)) b (o + value_at E))))
      (H.room (block_ty E) b o)) $
      next)
