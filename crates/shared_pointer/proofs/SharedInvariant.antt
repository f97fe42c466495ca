-- The invariant of a count: opened by any part of the value's lifetime, and shut again. Assumes
-- `Logic`.
--     opens the invariant gives the count's cell and the vault shut, shut_gone it is shut with them
--     again, or for good, once the value's lifetime is over same_value two owners that know one
--     name see one value at one place
use mathlib.Core.Path.{◌≡◌}
use mathlib.Core.Bool.{Bool, true, false}
use Prim.Native.Nat.{ℕ}
use mathlib.Core.List.{[], ◌∷◌}
use seplogic.Ra.Ura.{Ura}
use base.Stored.{Gv}
use base.Logic.{SProp, ent, sep, wand, ex, guard, via, emp, apply∗}
use base.Fml.{GName, Mask, Share, Fml, fres, ftok}
use base.Mask.{just, less as without, take}
use contract.Monad.{sep→conj}
use types.Logic.{Logic, sem}
use types.Kit.{‵, raw, ◌⊛◌, later, ◌$◌, ◌∵◌, !, qed, by, use1, use2, move, keep, split, join, show, updating, now, await, done, fsplit, fjoin, fpick, fpack}
use types.Na.{na_inv_acc}
use Rattle.shared_pointer.specs.SharedOwnership.{Marks, key, part_of, gone, vault, count_and_vault, state, Invariant, guarded}
use Rattle.shared_pointer.proofs.SharedTickets.{not_dead}

pub same_value : {M : Type 1} {𝓤 : Ura M} (𝓛 : Logic 𝓤) (γ : GName) (u v : Gv)
    → ent 𝓤 (sep 𝓤 (sem 𝓛 (fres γ u)) (sem 𝓛 (fres γ v))) (guard 𝓤 (u ≡ v) (emp 𝓤))
same_value {𝓤 = 𝓤} 𝓛 γ u v =
    via 𝓤 _ (sep→conj 𝓤 (sem 𝓛 (fres γ u)) (sem 𝓛 (fres γ v))) (𝓛.names.res_one γ u v)

-- E is the thread's token before the invariant is opened, as the keys that are shut
module _ (count : ℕ → Fml) (contents : Fml) {M : Type 1} {𝓤 : Ura M} (𝓛 : Logic 𝓤) (a : Marks) (E : Mask) where
  open 𝓛 use {H, A}

  abbrev Inv : Fml
  Inv = Invariant count contents a

  abbrev Vault : Bool → ℕ → Fml
  Vault = vault count contents a

  -- the token of this key, and of the others
  abbrev Own : Fml
  Own = ftok (just (key a))

  abbrev Others : Fml
  Others = ftok (without E (key a))

  -- the way back to this key's token
  abbrev Way : SProp 𝓤
  Way = wand 𝓤 (sem 𝓛 Inv) (H.⇛ (sem 𝓛 Own))

  -- what shuts the invariant, and the token that is left meanwhile
  abbrev pub Shut : SProp 𝓤
  Shut = sep 𝓤 Way (sem 𝓛 Others)

  -- the cell, the vault, the part that opened them, and what shuts the invariant
  abbrev pub Open : Share → Bool × ℕ → SProp 𝓤
  Open s u = sep 𝓤 (sem 𝓛 (count u.1)) (sep 𝓤 (sem 𝓛 (Vault u.0 u.1)) (sep 𝓤 (sem 𝓛 (part_of a s)) Shut))

  -- the value isn't gone, since there is a part of its lifetime
  in_state : (s : Share) (y : Bool)
      → ent 𝓤 (sep 𝓤 (sem 𝓛 (state count contents a y)) (sep 𝓤 (sem 𝓛 (part_of a s)) Shut)) (ex 𝓤 (Open s))
  in_state s true =
      qed 𝓛 (‵ (state count contents a true) ∷ ‵ (part_of a s) ∷ raw Shut ∷ []) ∵
      fpick ! (λ u. fsplit ! $ show ! (Open s) u $ done !)
  in_state s false =
      qed 𝓛 (‵ (state count contents a false) ∷ ‵ (part_of a s) ∷ raw Shut ∷ []) ∵
      keep ! (1 ∷ 0 ∷ []) $ by ! (not_dead 𝓛 a (a.alive ∷ []) s (ex 𝓤 (Open s)))

  module _ (has : E (key a) ≡ true) where
    pub opens : (s : Share)
        → ent 𝓤 (sep 𝓤 (sem 𝓛 (guarded count contents a)) (sep 𝓤 (sem 𝓛 (part_of a s)) (sem 𝓛 (ftok E)))) (H.⇛ (ex 𝓤 (Open s)))
    opens s =
        qed 𝓛 (‵ (guarded count contents a) ∷ ‵ (part_of a s) ∷ ‵ (ftok E) ∷ []) ∵
        updating ! $ move ! (2 ∷ []) $
        use1 𝓛 (‵ Own ⊛ ‵ Others) (𝓛.invs.tok_cut E (just (key a)) (without E (key a)) (take E (key a) has)) $ split ! $
        move ! (2 ∷ 0 ∷ []) $ use2 𝓛 (later (‵ Inv ⊛ raw Way)) (na_inv_acc 𝓛 (key a) Inv) $
        await ! tt $ split ! $ now ! $
        -- [the invariant; the way back; the other keys' token; the part]
        move ! (1 ∷ 2 ∷ []) $ join ! $ move ! (1 ∷ []) $ fpick ! (λ y. move ! (0 ∷ 2 ∷ 1 ∷ []) $ by ! (in_state s y))

    closes : ent 𝓤 (sep 𝓤 (sem 𝓛 Inv) Shut) (H.⇛ (sem 𝓛 (ftok E)))
    closes =
        qed 𝓛 (‵ Inv ∷ (raw Way ⊛ ‵ Others) ∷ []) ∵
        updating ! $ move ! (1 ∷ []) $ split ! $
        move ! (2 ∷ 0 ∷ []) $ use2 𝓛 (later (‵ Own)) (apply∗ 𝓤 (sem 𝓛 Inv) (H.⇛ (sem 𝓛 Own))) $ await ! tt $ now ! $
        by ! (𝓛.invs.tok_glue E (just (key a)) (without E (key a)) (take E (key a) has))

    pub shut : (y : Bool) (n : ℕ)
        → ent 𝓤 (sep 𝓤 (sem 𝓛 (count n)) (sep 𝓤 (sem 𝓛 (Vault y n)) Shut)) (H.⇛ (sem 𝓛 (ftok E)))
    shut y n =
        qed 𝓛 (‵ (count n) ∷ ‵ (Vault y n) ∷ raw Shut ∷ []) ∵
        fjoin ! $ fpack ! (Bool × ℕ) (count_and_vault count contents a) (y, n) $
        fpack ! Bool (state count contents a) true $ by ! closes

    pub shut_gone : ent 𝓤 (sep 𝓤 (sem 𝓛 (gone a)) Shut) (H.⇛ (sem 𝓛 (ftok E)))
    shut_gone =
        qed 𝓛 (‵ (gone a) ∷ raw Shut ∷ []) ∵ fpack ! Bool (state count contents a) false $ by ! closes
