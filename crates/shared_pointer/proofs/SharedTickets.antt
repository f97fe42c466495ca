-- Tickets: how an owner's part of the value's lifetime comes out of the till, and goes back.
-- Assumes `Logic`.
--     some_out some part is out, so the count is not 0 issue, issue_at_full a ticket for one more
--     owner: below the full count, and at it hand_back, last_ticket a ticket less; the last one,
--     after which the value's lifetime is over
use mathlib.Core.Path.{◌≡◌, refl}
use mathlib.Core.Bool.{Bool, true, false}
use Prim.Native.Nat.{ℕ, ◌+◌, ◌-◌, ◌^◌, ◌<◌}
use native.Mathlib.Omega.{arith}
use mathlib.Core.List.{[], ◌∷◌}
use seplogic.Ra.Ura.{Ura}
use base.Fraction.{full_share}
use base.FractionLaws.{Counts}
use base.Share
use base.Logic.{SProp, ent, sep, guard, never, never_e, via}
use base.Fml.{Lft, Share, ftrue, fsep, fex}
use types.Logic.{Logic, sem}
use types.Kit.{‵, ◌⊛◌, ◌$◌, ◌∵◌, !, qed, by, use1, use2, move, keep, drop, split, check, updating, now, rewrite, done, fsplit, fjoin, fpick, fpack}
use types.Tokens.{lft_end}
use types.RcWeak.{Fine, part, rest, part_in, takes, gives, whole as all_parts}
use denote.Steps.{nothing}
use Rattle.shared_pointer.specs.SharedOwnership.{Marks, full_count, part_of, any_part, counts, full_for_good, gone, standing, stands, ticket_of, ticket, till}

module _ {M : Type 1} {𝓤 : Ura M} (𝓛 : Logic 𝓤) (a : Marks) where
  open 𝓛 use {H, A}

  -- a part of a lifetime's token, and its end, are never both there
  pub not_dead : (κ : Lft) (s : Share) (X : SProp 𝓤) → ent 𝓤 (sep 𝓤 (A.lft κ s) (A.dead κ)) X
  not_dead κ s X = via 𝓤 (never 𝓤) (𝓛.lfts.lft-dead κ s) (never_e 𝓤 X)

  pub ticket_in : (e : Share) → ent 𝓤 (sep 𝓤 (sem 𝓛 (part_of a e)) (sem 𝓛 (stands a e))) (sem 𝓛 (ticket a))
  ticket_in e =
      qed 𝓛 (‵ (part_of a e) ∷ ‵ (stands a e) ∷ []) ∵
      fjoin ! $ fpack ! Share (ticket_of a) e $ done !

  -- one counted part is a ticket
  pub part_ticket : ent 𝓤 (sem 𝓛 (part 64 a.alive)) (sem 𝓛 (ticket a))
  part_ticket =
      qed 𝓛 (‵ (part 64 a.alive) ∷ []) ∵
      fpick ! (λ e. fpick ! (λ one.
      nothing ! $ fpack ! (Counts 64 e 1) (λ _. ftrue) one $ fpack ! Bool (standing a e) true $
      move ! (1 ∷ 0 ∷ []) $ by ! (ticket_in e)))

  pub some_out : (y : Bool) (n : ℕ) → ent 𝓤 (sem 𝓛 (till a y n)) (guard 𝓤 (0 < n) (sem 𝓛 (till a y n)))
  some_out true n =
      qed 𝓛 (‵ (till a true n) ∷ []) ∵
      fsplit ! $ fpick ! (λ r. fpick ! (λ fine. check ! fine.0 $
      fpack ! (Fine 64 n r) (λ _. part_of a r) fine $ fpack ! Share (λ s. fex (Fine 64 n s) (λ _. part_of a s)) r $
      fjoin ! $ done !))
  some_out false n =
      qed 𝓛 (‵ (till a false n) ∷ []) ∵
      fpick ! (λ is_full. check ! (omega arith) $
      fpack ! (n ≡ full_count) (λ _. fsep (full_for_good a) (any_part a)) is_full $ done !)

  -- below the full count the till gives one of its parts
  pub issue : (y : Bool) (n : ℕ) → n + 1 < 2 ^ 64
      → ent 𝓤 (sem 𝓛 (till a y n)) (sep 𝓤 (sem 𝓛 (till a true (n + 1))) (sem 𝓛 (ticket a)))
  issue true n fits =
      qed 𝓛 (‵ (till a true n) ∷ []) ∵
      fsplit ! $ use1 𝓛 (‵ (rest 64 a.alive (n + 1)) ⊛ ‵ (part 64 a.alive)) (takes 64 𝓛 a.alive n fits) $ split ! $
      -- [the parts that stay; the part that goes out; counting]
      move ! (1 ∷ []) $ use1 𝓛 (‵ (ticket a)) part_ticket $ move ! (1 ∷ 2 ∷ []) $ fjoin ! $ done !
  issue false n fits = qed 𝓛 (‵ (till a false n) ∷ []) ∵ fpick ! (λ is_full. absurd (omega arith))

  -- Once nothing is counted, any part s makes a till and a ticket: each gets a half.
  halve : (n : ℕ) → n ≡ full_count → (s : Share)
      → ent 𝓤 (sep 𝓤 (sem 𝓛 (part_of a s)) (sem 𝓛 (full_for_good a))) (sep 𝓤 (sem 𝓛 (till a false n)) (sem 𝓛 (ticket a)))
  halve n is_full s =
      qed 𝓛 (‵ (part_of a s) ∷ ‵ (full_for_good a) ∷ []) ∵
      use1 𝓛 (‵ (part_of a (Share.left s)) ⊛ ‵ (part_of a (Share.right s))) (𝓛.lfts.lft_split (a.alive ∷ []) s) $
      split ! $ fpack ! Share (part_of a) (Share.left s) $ move ! (2 ∷ []) $
      use1 𝓛 (‵ (full_for_good a) ⊛ ‵ (full_for_good a)) (𝓛.lfts.dead_dup (a.counting ∷ [])) $ split ! $
      -- [full for good; full for good; the till's half; the owner's half]
      fpack ! Bool (standing a (Share.right s)) false $ move ! (3 ∷ 0 ∷ []) $
      use2 𝓛 (‵ (ticket a)) (ticket_in (Share.right s)) $ move ! (1 ∷ 2 ∷ []) $ fjoin ! $
      fpack ! (n ≡ full_count) (λ _. fsep (full_for_good a) (any_part a)) is_full $ done !

  -- At the full count: the first time, `counting` ends; from then on the till's part is halved.
  pub issue_at_full : (y : Bool) (n : ℕ) → n ≡ full_count
      → ent 𝓤 (sem 𝓛 (till a y n)) (H.⇛ (sep 𝓤 (sem 𝓛 (till a false n)) (sem 𝓛 (ticket a))))
  issue_at_full true n is_full =
      qed 𝓛 (‵ (till a true n) ∷ []) ∵
      updating ! $ fsplit ! $ move ! (1 ∷ []) $ lft_end ! tt $ move ! (1 ∷ []) $
      fpick ! (λ s. fpick ! (λ fine. now ! $ by ! (halve n is_full s)))
  issue_at_full false n is_full =
      qed 𝓛 (‵ (till a false n) ∷ []) ∵
      updating ! $ fpick ! (λ _. fsplit ! $ move ! (1 ∷ []) $ fpick ! (λ s. now ! $ by ! (halve n is_full s)))

  abbrev Counted : SProp 𝓤
  Counted = sep 𝓤 (sem 𝓛 (part 64 a.alive)) (sem 𝓛 (counts a))

  by_standing : (e : Share) (y : Bool)
      → ent 𝓤 (sep 𝓤 (sem 𝓛 (standing a e y)) (sep 𝓤 (sem 𝓛 (counts a)) (sem 𝓛 (part_of a e)))) Counted
  by_standing e true =
      qed 𝓛 (‵ (standing a e true) ∷ ‵ (counts a) ∷ ‵ (part_of a e) ∷ []) ∵
      fpick ! (λ one. drop ! $ move ! (1 ∷ []) $ use1 𝓛 (‵ (part 64 a.alive)) (part_in 64 𝓛 a.alive e one) $ done !)
  by_standing e false =
      qed 𝓛 (‵ (standing a e false) ∷ ‵ (counts a) ∷ ‵ (part_of a e) ∷ []) ∵
      keep ! (1 ∷ 0 ∷ []) $ by ! (not_dead (a.counting ∷ []) full_share Counted)

  -- while there is counting, a ticket is one counted part
  counted_ticket : ent 𝓤 (sep 𝓤 (sem 𝓛 (ticket a)) (sem 𝓛 (counts a))) Counted
  counted_ticket =
      qed 𝓛 (‵ (ticket a) ∷ ‵ (counts a) ∷ []) ∵
      fpick ! (λ e. fsplit ! $ move ! (1 ∷ 2 ∷ 0 ∷ []) $ fpick ! (λ y. by ! (by_standing e y)))

  pub hand_back : (y : Bool) (n : ℕ) → ¬ (n ≡ full_count) → 1 < n
      → ent 𝓤 (sep 𝓤 (sem 𝓛 (till a y n)) (sem 𝓛 (ticket a))) (sem 𝓛 (till a true (n - 1)))
  hand_back true n not_full many =
      qed 𝓛 (‵ (till a true n) ∷ ‵ (ticket a) ∷ []) ∵
      fsplit ! $ move ! (2 ∷ 1 ∷ []) $ use2 𝓛 (‵ (part 64 a.alive) ⊛ ‵ (counts a)) counted_ticket $ split ! $
      -- [the part; counting; the parts in the till]
      move ! (2 ∷ 0 ∷ []) $ use2 𝓛 (‵ (rest 64 a.alive (n - 1))) (gives 64 𝓛 a.alive n many) $ fjoin ! $ done !
  hand_back false n not_full many =
      qed 𝓛 (‵ (till a false n) ∷ ‵ (ticket a) ∷ []) ∵ fpick ! (λ is_full. absurd (not_full is_full))

  -- with the last part the token is whole, and `alive` ends
  pub last_ticket : (y : Bool) (n : ℕ) → n ≡ 1
      → ent 𝓤 (sep 𝓤 (sem 𝓛 (till a y n)) (sem 𝓛 (ticket a))) (H.⇛ (sem 𝓛 (gone a)))
  last_ticket true n one =
      qed 𝓛 (‵ (till a true n) ∷ ‵ (ticket a) ∷ []) ∵
      updating ! $ fsplit ! $
      move ! (2 ∷ 1 ∷ []) $ use2 𝓛 (‵ (part 64 a.alive) ⊛ ‵ (counts a)) counted_ticket $ split ! $
      move ! (2 ∷ 0 ∷ []) $ rewrite ! 0 (λ (j : ℕ). ‵ (rest 64 a.alive j)) one refl $
      use2 𝓛 (‵ (part_of a full_share)) (all_parts 64 𝓛 a.alive) $ lft_end ! tt $ keep ! (0 ∷ []) $ now ! $ done !
  last_ticket false n one =
      qed 𝓛 (‵ (till a false n) ∷ ‵ (ticket a) ∷ []) ∵ fpick ! (λ is_full. absurd (omega arith))
