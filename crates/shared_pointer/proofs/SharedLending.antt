-- The first owner, and what a `&` to an owner may do. Assumes `Logic`.
--     first_owner_made     a full cell and the value make an owner
--     lends_laws           a `&` to an owner may be copied, and kept for less long
--     sees                 it shows the value
--     lending              an owner may be lent out
use mathlib.Core.Bool.{Bool, true}
use Prim.Native.Nat.{ℕ}
use mathlib.Core.List.{[], ◌∷◌}
use seplogic.Ra.Ura.{Ura}
use lib.Dec.{lit<}
use base.Fraction.{full_share}
use base.FractionLaws.{Counts-all}
use base.Stored.{Gv}
use base.Before.{before}
use base.Logic.{ent, sep, wand, upd_i, id⊢, snd∗, apply∗}
use base.Fml.{Lft, GName, Incl, Incl-trans, Share, Fml, ftrue, fsep, fseps, fwand, fupd, fdead, fbor, flft, fres}
use contract.BorrowLft.{meet_⊑_left, meet_⊑_right}
use ghost.Rules.{span, thinned}
use types.Logic.{Logic, sem, lfts}
use types.Kit.{‵, raw, ◌⊛◌, some as exists, later, ◌$◌, ◌∵◌, !, qed, by, use1, use2, use3, move, keep, drop, split, split3, join, updating, now, assume, suffices, pick, await, done, fsplit, fsplit3, fjoin, fjoin3, fpick, fpack}
use types.Tokens.{name_new, name_done, lft_new, bor_new, bor_open, obor_alter, bor_fracture, one_token}
use types.Na.{na_inv_new, na_inv_dup}
use types.RcWeak.{part, rest, part_in, cut}
use denote.Hidden.{kept, kept_shr_laws}
use denote.Moves.{moves_from}
use denote.Sharing.{ShrLaws, one, beside, held}
use denote.SharingLaws.{contraction, some_shr_laws, beside_shr_laws, one_shr_laws, held_shr_laws}
use denote.Steps.{nothing}
use denote.Struct.Lending.{Lends}
use Rattle.shared_pointer.specs.SharedOwnership.{Marks, key, shown, part_of, stands, ticket, count_and_vault, state, Invariant, guarded, owner, lent, owned, lends}
use Rattle.shared_pointer.proofs.SharedTickets.{ticket_in, part_ticket}

module _ (count : ℕ → Fml) (contents : Fml) (tag : Gv) (view : Lft → Fml) where
  abbrev Owned : Fml
  Owned = owned count contents tag view

  abbrev Lent : Lft → Fml
  Lent = lends count contents tag view

  abbrev Inv : Marks → Fml
  Inv = Invariant count contents

  abbrev Guarded : Marks → Fml
  Guarded = guarded count contents

  abbrev Shown : Marks → Lft → Fml
  Shown = shown count contents tag view

  -- a name's value is known for good
  named_laws : (γ : GName) → ShrLaws (λ _. fres γ tag)
  named_laws γ = record {
    contraction = λ M 𝓤 𝓛 κ. 𝓛.names.res_dup γ tag;
    mono = λ M 𝓤 𝓛 κ' κ. snd∗ 𝓤 (sem 𝓛 (before κ' κ)) (sem 𝓛 (fres γ tag));
  }

  shown_laws : ShrLaws view → (a : Marks) → ShrLaws (Shown a)
  shown_laws L a = beside_shr_laws (λ _. fres a.name tag) view (named_laws a.name) L

  lent_laws : ShrLaws view → (a : Marks) → ShrLaws (lent count contents tag view a)
  lent_laws L a =
      beside_shr_laws (one (part_of a)) (beside (kept (key a) (Inv a)) (held (a.alive ∷ []) (Shown a))) (one_shr_laws (part_of a))
      (beside_shr_laws (kept (key a) (Inv a)) (held (a.alive ∷ []) (Shown a)) (kept_shr_laws (key a) (Inv a))
      (held_shr_laws (a.alive ∷ []) (Shown a) (shown_laws L a)))

  pub lends_laws : ShrLaws view → ShrLaws Lent
  lends_laws L = some_shr_laws Marks (lent count contents tag view) (lent_laws L)

  module _ {M : Type 1} {𝓤 : Ura M} (𝓛 : Logic 𝓤) where
    open 𝓛 use {H, A}

    -- The two lifetimes and the name are new; all parts but the first owner's go into the till.
    pub first_owner_made : (l : Lft) → Lends 𝓛 contents view l → (μ : Lft) (q : Share) → Incl μ l
        → ent 𝓤 (sep 𝓤 (sem 𝓛 (count 1)) (sep 𝓤 (sem 𝓛 contents) (A.lft μ q))) (H.⇛ (sep 𝓤 (sem 𝓛 Owned) (A.lft μ q)))
    first_owner_made l shares μ q inc =
        qed 𝓛 (‵ (count 1) ∷ ‵ contents ∷ ‵ (flft μ q) ∷ []) ∵
        updating ! $ name_new ! tt tag (λ δ. name_done ! tt $ move ! (1 ∷ 2 ∷ 3 ∷ 4 ∷ []) $ drop ! $
        lft_new ! tt (λ j. lft_new ! tt (λ i.
        let a : Marks = record { alive = i; counting = j; name = δ } in
        use1 𝓛 (‵ (rest 64 i 1) ⊛ ‵ (part 64 i)) (cut 64 𝓛 i 0 full_share (lit< tt) (Counts-all 64)) $ split ! $
        -- [the till's parts; the owner's part; counting; the count; the contents; μ's token; the
        -- name's value]
        move ! (4 ∷ []) $ bor_new ! tt (i ∷ []) $ move ! (2 ∷ 4 ∷ []) $ fjoin ! $ move ! (0 ∷ 2 ∷ []) $ fjoin ! $
        move ! (3 ∷ 0 ∷ []) $ fjoin ! $ fpack ! (Bool × ℕ) (count_and_vault count contents a) (true, 1) $
        fpack ! Bool (state count contents a) true $
        use1 𝓛 (later (‵ (Guarded a))) (na_inv_new 𝓛 (key a) (Inv a)) $ await ! tt $
        -- [the invariant; the contents, borrowed; the owner's part; μ's token; the name's value]
        move ! (2 ∷ []) $ fpick ! (λ e. fpick ! (λ c. move ! (0 ∷ 3 ∷ []) $ join ! $ move ! (2 ∷ 0 ∷ []) $
        use2 𝓛 (later (‵ (view (i ∷ [])) ⊛ ‵ (flft (i ∷ []) e) ⊛ ‵ (flft μ q)))
        (shares (i ∷ []) ((i ∷ [], e) ∷ (μ, q) ∷ []) (Incl-trans (meet_⊑_right (i ∷ []) μ) inc) (meet_⊑_left (i ∷ []) μ)) $
        await ! tt $ split3 ! $
        -- [the value, lent; the owner's part; μ's token; the invariant; the name's value]
        move ! (1 ∷ []) $ use1 𝓛 (‵ (part 64 i)) (part_in 64 𝓛 i e c) $ use1 𝓛 (‵ (ticket a)) (part_ticket 𝓛 a) $
        move ! (4 ∷ 1 ∷ []) $ fjoin ! $ move ! (1 ∷ 3 ∷ 0 ∷ []) $ fjoin3 ! $
        fpack ! Marks (owner count contents tag view) a $ now ! $ done !)))))

    module _ (L : ShrLaws view) (κ : Lft) where
      -- the way back to the owner, once κ is over, from its part of the token
      abbrev WayBack : Marks → Share → Fml
      WayBack a e = fwand (fsep (fdead κ) (fseps (part_of a e ∷ []))) (fupd Owned)

      way_back : (a : Marks) (e : Share)
          → ent 𝓤 (sep 𝓤 (sem 𝓛 (stands a e)) (sep 𝓤 (sem 𝓛 (Guarded a)) (sem 𝓛 (Shown a (a.alive ∷ []))))) (sem 𝓛 (WayBack a e))
      unfolding fseps
      way_back a e =
          qed 𝓛 (‵ (stands a e) ∷ ‵ (Guarded a) ∷ ‵ (Shown a (a.alive ∷ [])) ∷ []) ∵
          assume ! (‵ (fsep (fdead κ) (fsep (part_of a e) ftrue))) $
          suffices ! (sem 𝓛 Owned) (upd_i 𝓤 (sem 𝓛 Owned)) $
          fsplit3 ! $ move ! (1 ∷ 3 ∷ []) $ use2 𝓛 (‵ (ticket a)) (ticket_in 𝓛 a e) $
          keep ! (0 ∷ 3 ∷ 4 ∷ []) $ fjoin3 ! $ fpack ! Marks (owner count contents tag view) a $ done !

      -- A borrow of an owner becomes a borrow of its part, which is then handed out in shares.
      shared_out : (q : Share)
          → ent 𝓤 (sep 𝓤 (A.bor κ Owned) (A.lft κ q)) (H.⇛ (sep 𝓤 (sem 𝓛 (Lent κ)) (A.lft κ q)))
      unfolding fseps
      shared_out q =
          qed 𝓛 (‵ (fbor κ Owned) ∷ ‵ (flft κ q) ∷ []) ∵
          updating ! $ bor_open ! tt $ move ! (1 ∷ []) $ fpick ! (λ a. fsplit3 ! $ fpick ! (λ e. fsplit ! $
          -- [the part; why it is a ticket; the invariant; what is shown; the open borrow]
          move ! (2 ∷ []) $ use1 𝓛 (‵ (Guarded a) ⊛ ‵ (Guarded a)) (na_inv_dup 𝓛 (key a) (Inv a)) $ split ! $
          move ! (4 ∷ []) $
          use1 𝓛 (‵ (Shown a (a.alive ∷ [])) ⊛ ‵ (Shown a (a.alive ∷ []))) (contraction 𝓛 (Shown a) (shown_laws L a) (a.alive ∷ [])) $
          split ! $
          move ! (5 ∷ 2 ∷ 0 ∷ []) $ use3 𝓛 (‵ (WayBack a e)) (way_back a e) $ nothing ! $ move ! (4 ∷ 0 ∷ []) $ fjoin ! $
          move ! (4 ∷ 0 ∷ 1 ∷ []) $ obor_alter ! tt (part_of a e ∷ []) $
          use1 𝓛 (‵ (fbor κ (part_of a e)) ⊛ ‵ ftrue) (id⊢ 𝓤 _) $ split ! $ bor_fracture ! tt (part_of a) e $
          move ! (0 ∷ 4 ∷ 3 ∷ []) $ fjoin3 ! $ fpack ! Marks (λ b. lent count contents tag view b κ) a $
          now ! $ keep ! (0 ∷ 2 ∷ []) $ done !))

      pub sees : ent 𝓤 (sem 𝓛 (Lent κ)) (sem 𝓛 (view κ))
      sees =
          qed 𝓛 (‵ (Lent κ) ∷ []) ∵
          fpick ! (λ a. fsplit3 ! $ keep ! (2 ∷ 0 ∷ []) $ fsplit ! $ drop ! $ move ! (1 ∷ 0 ∷ []) $
          by ! (moves_from 𝓛 view L κ (a.alive ∷ []) (a.alive ∷ []) (meet_⊑_left (a.alive ∷ []) κ)))

    pub lending : ShrLaws view → (l : Lft) → Lends 𝓛 Owned Lent l
    lending L l κ ts inc sp =
        qed 𝓛 (‵ (fbor κ Owned) ∷ raw (lfts 𝓛 ts) ∷ []) ∵
        updating ! $ move ! (1 ∷ []) $
        use1 𝓛 (exists (λ (q : Share). ‵ (flft (span ts) q) ⊛ raw (wand 𝓤 (A.lft (span ts) q) (lfts 𝓛 ts)))) (one_token 𝓛 ts) $
        pick ! (λ q. split ! $
        use1 𝓛 (‵ (flft κ (thinned κ q)) ⊛ raw (wand 𝓤 (A.lft κ (thinned κ q)) (A.lft (span ts) q))) (𝓛.lfts.lft-incl (span ts) κ q sp) $
        split ! $
        -- [κ's token; the way back to the span's; the way back to all; the borrow]
        move ! (3 ∷ 0 ∷ []) $
        use2 𝓛 (later (‵ (Lent κ) ⊛ ‵ (flft κ (thinned κ q)))) (shared_out L κ (thinned κ q)) $ await ! tt $ split ! $
        move ! (1 ∷ 2 ∷ []) $ use2 𝓛 (‵ (flft (span ts) q)) (apply∗ 𝓤 (A.lft κ (thinned κ q)) (A.lft (span ts) q)) $
        move ! (0 ∷ 2 ∷ []) $ use2 𝓛 (raw (lfts 𝓛 ts)) (apply∗ 𝓤 (A.lft (span ts) q) (lfts 𝓛 ts)) $
        now ! $ move ! (1 ∷ 0 ∷ []) $ done !)
