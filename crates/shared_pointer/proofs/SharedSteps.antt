-- What the walks of `Shared` have in common: a step opens something in the walk's context, or puts
-- it back. Assumes `Logic`.
--     count_opened, count_shut the invariant: the count's cell, what is beside it, and what shuts
--     it again one_more, one_more_at_full an owner more, below the full count and at it one_less,
--     last_one an owner less, and the last one owner_split, owner_joined an owner by value
--     borrow_opened, borrow_shut an owner after a `&`
use mathlib.Core.Path.{◌≡◌, refl, sym}
use mathlib.Core.Bool.{Bool, true, false}
use Prim.Native.Nat.{ℕ, ◌+◌, ◌-◌, ◌<◌, ◌^◌}
use mathlib.Core.List.{List, [], ◌∷◌}
use seplogic.Ra.Ura.{Ura}
use base.Share
use mir.Syntax.{Sym}
use base.Logic.{never, id⊢}
use base.Fml.{Lft, Share, fhide, fat, flft, fobor, ftok, Mask}
use types.Logic.{Logic}
use types.Kit.{Item, Goal, Seq, Soaks, Step, step, ‵, raw, some, later, given, ◌⊛◌, ◌$◌, move, drop, use1, use2, use3, pick, learn, await, group, split, split3, join, rewrite, fsplit, fsplit3, fjoin, fjoin3, fpick, fpack, flt_i, flt_l}
use types.Tokens.{shr_bor-open, obor_close, lent_back}
use types.Within.{tokens_halve}
use types.Na.{na_inv_dup}
use denote.Memory.{part_at, hidden_shr}
use denote.Opens.{unhide, Shut as Shuts}
use denote.RawPtr.{Ptr, block_ptr, in_a_block}
use Rattle.std.proofs.BoxSteps.Form.{Bx, X}
use Rattle.std.proofs.RcSteps.{word, word_ty, Word, reads, read}
use Rattle.shared_pointer.specs.SharedOwnership.{Marks, key, full_count, part_of, gone, ticket, till, Invariant, owner, count_at}
use Rattle.shared_pointer.proofs.SharedTickets.{some_out, issue, issue_at_full, hand_back, last_ticket}
use Rattle.shared_pointer.proofs.SharedInvariant.{Shut, opens, shut, shut_gone}
use Rattle.shared_pointer.proofs.SharedBlock.{cell, counter, contents, view, tag, shown_by, guarded_by, vault_by, Owned, Lent}

module _ (E : Bx) (c : Ptr) (x : X E) where
  -- what shuts the invariant, and the token that is left meanwhile
  abbrev pub Shutting : {M : Type 1} {𝓤 : Ura M} (𝓛 : Logic 𝓤) → Marks → Mask → Item 𝓤
  Shutting 𝓛 a m = raw (Shut (counter E c x) (contents E c x) 𝓛 a m)

  -- the way back to a `&`, by its part of the lifetime's token and its word
  abbrev pub WayBack : {M : Type 1} {𝓤 : Ura M} (𝓛 : Logic 𝓤)
      → Sym → Lft → Share → ℕ → ℕ → Marks → Share → Share → Item 𝓤
  WayBack 𝓛 ν κ q b o a s q' =
      ‵ (fobor κ (Share.left q) (part_of a s)) ⊛ Shuts 𝓛 κ (Share.right q) (part_at (Word E ν) q' (c, tt) b o)

  -- the invariant, opened: the count's cell, the vault, what shuts it, and the part that opened it
  abbrev pub Counting : {M : Type 1} {𝓤 : Ura M} (𝓛 : Logic 𝓤)
      → Marks → Mask → Share → Bool → ℕ → ℕ → ℕ → List (Item 𝓤) → List (Item 𝓤)
  Counting 𝓛 a m s y n b o rest =
      ‵ (cell b o n) ∷ ‵ (vault_by E c x a y n) ∷ Shutting 𝓛 a m ∷ ‵ (part_of a s) ∷ rest

  -- what an owner is made of
  abbrev pub Owner : {M : Type 1} {𝓤 : Ura M} (𝓛 : Logic 𝓤) → Marks → List (Item 𝓤) → List (Item 𝓤)
  Owner 𝓛 a rest = ‵ (ticket a) ∷ ‵ (guarded_by E c x a) ∷ ‵ (shown_by E c x a (a.alive ∷ [])) ∷ rest

  -- a `&`, opened: a part and the invariant, its word and the way back, and for a new owner the
  -- invariant and what is shown
  abbrev pub Borrowed : {M : Type 1} {𝓤 : Ura M} (𝓛 : Logic 𝓤)
      → Sym → Lft → Share → ℕ → ℕ → Marks → Share → Share → List (Item 𝓤) → List (Item 𝓤)
  Borrowed 𝓛 ν κ q b o a s q' rest =
      ‵ (part_of a s) ∷ ‵ (guarded_by E c x a) ∷ ‵ (fat q' (word_ty ν) b o (word c)) ∷ WayBack 𝓛 ν κ q b o a s q'
      ∷ ‵ (guarded_by E c x a) ∷ ‵ (shown_by E c x a (a.alive ∷ [])) ∷ rest

module _ (E : Bx) (c : Ptr) (x : X E) {M : Type 1} {𝓤 : Ura M} {𝓛 : Logic 𝓤} {K : Type 0} {Γ : List (Item 𝓤)} {G : Goal 𝓤 𝓛.H} where
  open 𝓛 use {H}

  pub guarded_twice : K → (a : Marks)
      → Step K 𝓛 (‵ (guarded_by E c x a) ∷ ‵ (guarded_by E c x a) ∷ Γ) G (‵ (guarded_by E c x a) ∷ Γ) G
  guarded_twice w a = step (λ next.
      use1 𝓛 (‵ (guarded_by E c x a) ⊛ ‵ (guarded_by E c x a))
      (na_inv_dup 𝓛 (key a) (Invariant (counter E c x) (contents E c x) a)) $ split w $ next)

module _ (E : Bx) (c : Ptr) (x : X E) {M : Type 1} {𝓤 : Ura M} {𝓛 : Logic 𝓤} {K : Type 0} {Γ : List (Item 𝓤)} {G : Goal 𝓤 𝓛.H} where
  open 𝓛 use {H}

  module _ (a : Marks) where
    pub count_opened : K → Soaks G → (m : Mask) → m (key a) ≡ true → (s : Share)
        → ((y : Bool) (n b o : ℕ) → c ≡ block_ptr b o → n < 2 ^ 64 → 0 < n → Seq K 𝓛 (Counting E c x 𝓛 a m s y n b o Γ) G)
        → Seq K 𝓛 (‵ (guarded_by E c x a) ∷ ‵ (part_of a s) ∷ ‵ (ftok m) ∷ Γ) G
    count_opened w z m has s k =
        use3 𝓛 (later (some (λ (u : Bool × ℕ). ‵ (counter E c x u.1) ⊛ ‵ (vault_by E c x a u.0 u.1) ⊛ ‵ (part_of a s) ⊛
        Shutting E c x 𝓛 a m)))
        (opens (counter E c x) (contents E c x) 𝓛 a m has s) $
        await w z $ pick w (λ u. split3 w $ move w (2 ∷ []) $ split w $
        -- [the part; what shuts; the count; the vault]
        move w (3 ∷ []) $ fsplit w $ use1 𝓛 (given (0 < u.1) (‵ (till a u.0 u.1))) (some_out 𝓛 a u.0 u.1) $
        learn w (λ some_n. fjoin w $
        -- [the vault; the part; what shuts; the count]
        move w (3 ∷ []) $ in_a_block w c (λ r. count_at r u.1) (id⊢ 𝓤 (never 𝓤)) (λ b o e. fsplit w $ flt_l w (λ fits.
        move w (0 ∷ 1 ∷ 3 ∷ 2 ∷ []) $ k u.0 u.1 b o e fits some_n))))

    pub count_shut : K → Soaks G → (m : Mask) → m (key a) ≡ true
        → (y : Bool) (n b o : ℕ) → c ≡ block_ptr b o → n < 2 ^ 64
        → Step K 𝓛 (‵ (ftok m) ∷ Γ) G (‵ (cell b o n) ∷ ‵ (vault_by E c x a y n) ∷ Shutting E c x 𝓛 a m ∷ Γ) G
    count_shut w z m has y n b o e fits = step (λ next.
        flt_i w n (2 ^ 64) fits $ fjoin w $ rewrite w 0 (λ (r : Ptr). ‵ (count_at r n)) (sym e) refl $ group w 3 $
        use1 𝓛 (later (‵ (ftok m))) (shut (counter E c x) (contents E c x) 𝓛 a m has y n) $ await w z $ next)

    pub one_more : K → (y : Bool) (n : ℕ) → n + 1 < 2 ^ 64
        → Step K 𝓛 (‵ (vault_by E c x a true (n + 1)) ∷ ‵ (ticket a) ∷ Γ) G (‵ (vault_by E c x a y n) ∷ Γ) G
    one_more w y n fits = step (λ next.
        fsplit w $ use1 𝓛 (‵ (till a true (n + 1)) ⊛ ‵ (ticket a)) (issue 𝓛 a y n fits) $ split w $
        move w (0 ∷ 2 ∷ []) $ fjoin w $ next)

    pub one_more_at_full : K → Soaks G → (y : Bool) (n : ℕ) → n ≡ full_count
        → Step K 𝓛 (‵ (vault_by E c x a false n) ∷ ‵ (ticket a) ∷ Γ) G (‵ (vault_by E c x a y n) ∷ Γ) G
    one_more_at_full w z y n is_full = step (λ next.
        fsplit w $ use1 𝓛 (later (‵ (till a false n) ⊛ ‵ (ticket a))) (issue_at_full 𝓛 a y n is_full) $ await w z $ split w $
        move w (0 ∷ 2 ∷ []) $ fjoin w $ next)

    pub one_less : K → (y : Bool) (n : ℕ) → ¬ (n ≡ full_count) → 1 < n
        → Step K 𝓛 (‵ (vault_by E c x a true (n - 1)) ∷ Γ) G (‵ (vault_by E c x a y n) ∷ ‵ (ticket a) ∷ Γ) G
    one_less w y n not_full many = step (λ next.
        fsplit w $ move w (0 ∷ 2 ∷ []) $
        use2 𝓛 (‵ (till a true (n - 1))) (hand_back 𝓛 a y n not_full many) $ fjoin w $ next)

    -- the last owner gets what was lent until `alive` is over
    pub last_one : K → Soaks G → (m : Mask) → m (key a) ≡ true → (y : Bool) (n : ℕ) → n ≡ 1
        → Step K 𝓛 (‵ (contents E c x) ∷ ‵ (ftok m) ∷ Γ) G
        (‵ (vault_by E c x a y n) ∷ ‵ (ticket a) ∷ Shutting E c x 𝓛 a m ∷ Γ) G
    last_one w z m has y n one = step (λ next.
        fsplit w $ move w (0 ∷ 2 ∷ []) $ use2 𝓛 (later (‵ (gone a))) (last_ticket 𝓛 a y n one) $ await w z $
        use1 𝓛 (‵ (gone a) ⊛ ‵ (gone a)) (𝓛.lfts.dead_dup (a.alive ∷ [])) $ split w $
        -- [gone; gone; what was lent; what shuts]
        move w (0 ∷ 2 ∷ []) $ lent_back w z $
        move w (1 ∷ 2 ∷ []) $ use2 𝓛 (later (‵ (ftok m))) (shut_gone (counter E c x) (contents E c x) 𝓛 a m has) $ await w z $
        move w (1 ∷ []) $ next)

  pub owner_split : K → ((a : Marks) → Seq K 𝓛 (Owner E c x 𝓛 a Γ) G) → Seq K 𝓛 (‵ (Owned E c x) ∷ Γ) G
  owner_split w k = fpick w (λ a. fsplit3 w $ k a)

  pub owner_joined : K → (a : Marks) → Step K 𝓛 (‵ (Owned E c x) ∷ Γ) G (Owner E c x 𝓛 a Γ) G
  owner_joined w a = step (λ next.
      fjoin3 w $ fpack w Marks (owner (counter E c x) (contents E c x) (tag E c x) (view E c x)) a $ next)

  module _ (ν : Sym) (κ : Lft) (q : Share) (b o : ℕ) where
    pub borrow_opened : K → Soaks G → ((a : Marks) (s q' : Share) → Seq K 𝓛 (Borrowed E c x 𝓛 ν κ q b o a s q' Γ) G)
        → Seq K 𝓛 (‵ (hidden_shr (Word E ν) κ (c, tt) b o) ∷ ‵ (fhide (Lent E c x κ)) ∷ ‵ (flft κ q) ∷ Γ) G
    borrow_opened w z k =
        move w (2 ∷ []) $
        use1 𝓛 (‵ (flft κ (Share.left q)) ⊛ ‵ (flft κ (Share.right q))) (𝓛.lfts.lft_split κ q) $ split w $
        move w (2 ∷ 1 ∷ []) $ reads E ν c w z b o (λ q'.
        -- [the word; its way back; a half of the token; what is lent]
        move w (3 ∷ []) $ unhide w $ fpick w (λ a. fsplit3 w $
        move w (0 ∷ 5 ∷ []) $ shr_bor-open w z (tokens_halve 𝓛 (a.alive ∷ [])) (λ s.
        move w (0 ∷ 5 ∷ []) $ join w $ move w (2 ∷ []) $ guarded_twice E c x w a $
        move w (3 ∷ 0 ∷ 5 ∷ 2 ∷ 1 ∷ 4 ∷ []) $ k a s q')))

    pub borrow_shut : K → Soaks G → (a : Marks) (s q' : Share)
        → Step K 𝓛 (‵ (flft κ q) ∷ Γ) G
        (‵ (part_of a s) ∷ ‵ (fat q' (word_ty ν) b o (word c)) ∷ WayBack E c x 𝓛 ν κ q b o a s q' ∷ Γ) G
    borrow_shut w z a s q' = step (λ next.
        move w (2 ∷ []) $ split w $ move w (0 ∷ 2 ∷ []) $ obor_close w z $ drop w $
        move w (2 ∷ 1 ∷ []) $ read E ν c w z b o q' $
        move w (1 ∷ 0 ∷ []) $ use2 𝓛 (‵ (flft κ q)) (𝓛.lfts.lft_join κ q) $ next)
