-- What a `Shared` owns, and what a `&` to one lends.
--
-- The value is in its block as long as a lifetime `alive` lasts. Its token is cut into 2 ^ 64
-- counted parts. An owner holds one part, its ticket, so `alive` can't end, and the value can't go,
-- while there is an owner. An invariant holds the count's cell and the till: all parts that no
-- owner holds. With the last owner the till is whole again, `alive` ends, and the value and the
-- block come back.
--
-- A count of 2 ^ 64 - 1 leaves no part to hand out. So there a second lifetime, `counting`, ends
-- for good, and with it the rule that a ticket is a counted part: any part is a ticket then. The
-- till keeps some part, and for each new owner it is halved, so that there can be owners without
-- end. The parts don't add up again, and the value is never freed. Below the full count the till
-- holds the whole token of `counting`: it shows that each ticket is a counted part.
use Rattle.std.specs.Prelude.{◌≡◌, ℕ, ◌+◌, ◌-◌, ◌^◌, Bool, true, false, [], ◌∷◌}
use base.Fraction.{full_share}
use base.FractionLaws.{Counts}
use base.Stored.{Gv, coded×}
use base.Fml.{Lft, Key, GName, Share, Fml, ftrue, ffalse, fsep, fex, fwand, flt, fat, flft, fdead, flent, fres}
use mir.Syntax.{Ty, w64, ty_int, ty_struct, tcons, tnil}
use mir.Val.{vint}
use mir.Raw.{raw}
use prog.Memory.{size, align, up}
use types.Na.{na_inv}
use types.RcWeak.{rest}
use denote.RattleType.{RattleType}
use denote.Hidden.{kept}
use denote.Memory.{lone}
use denote.RawPtr.{Ptr, coded_ptr, block_ptr, null_ptr, lies_at, room_for, ◌+ₚ◌}
use denote.Sharing.{beside, some, one, held}
use denote.Struct.Lending.{lent_at}

-- what the owners of one value have in common
pub record Marks : Type 0 where
  -- the lifetime of the value
  pub alive : ℕ
  -- a lifetime that ends once the count is full
  pub counting : ℕ
  -- a name for the address of the value together with the value
  pub name : GName

-- The invariant's key. It names no place: so two invariants of one place could be open together,
-- which no memory allows, and two owners of one place are found to have one key.
abbrev pub key : Marks → Key
key a = (a.alive, a.name)

-- the largest count, which is never left again
abbrev pub full_count : ℕ
full_count = 2 ^ 64 - 1

-- a part of the token of `alive`, and `alive` is over
abbrev pub part_of : Marks → Share → Fml
part_of a e = flft (a.alive ∷ []) e

abbrev pub any_part : Marks → Fml
any_part a = fex Share (part_of a)

abbrev pub gone : Marks → Fml
gone a = fdead (a.alive ∷ [])

-- the whole token of `counting`, and `counting` is over
abbrev pub counts : Marks → Fml
counts a = flft (a.counting ∷ []) full_share

abbrev pub full_for_good : Marks → Fml
full_for_good a = fdead (a.counting ∷ [])

-- why the part e is a ticket: it is one counted part, or nothing is counted any more
abbrev pub standing : Marks → Share → Bool → Fml
standing a e true = fex (Counts 64 e 1) (λ _. ftrue)
standing a e false = full_for_good a

abbrev pub stands : Marks → Share → Fml
stands a e = fex Bool (standing a e)

-- what an owner holds of the token of `alive`
abbrev pub ticket_of : Marks → Share → Fml
ticket_of a e = fsep (part_of a e) (stands a e)

abbrev pub ticket : Marks → Fml
ticket a = fex Share (ticket_of a)

-- The till beside a count of n. While there is counting, it has the parts that are left of 2 ^ 64
-- when n are out, and then some part.
abbrev pub till : Marks → Bool → ℕ → Fml
till a true n = fsep (rest 64 a.alive n) (counts a)
till a false n = fex (n ≡ full_count) (λ _. fsep (full_for_good a) (any_part a))

-- `count n` is the count's cell with n in it, and `contents` is what the last owner gets
module _ (count : ℕ → Fml) (contents : Fml) where
  -- what is beside the count: the till, and `contents`, lent out until `alive` ends
  abbrev pub vault : Marks → Bool → ℕ → Fml
  vault a y n = fsep (till a y n) (flent (a.alive ∷ []) contents)

  abbrev pub count_and_vault : Marks → Bool × ℕ → Fml
  count_and_vault a u = fsep (count u.1) (vault a u.0 u.1)

  -- the value is there and its owners are counted, or it is gone
  abbrev pub state : Marks → Bool → Fml
  state a true = fex (Bool × ℕ) (count_and_vault a)
  state a false = gone a

  abbrev pub Invariant : Marks → Fml
  Invariant a = fex Bool (state a)

  abbrev pub guarded : Marks → Fml
  guarded a = na_inv (key a) (Invariant a)

-- `tag` is the code of the place and the value, and `view` is what a `&` to the value holds
module _ (count : ℕ → Fml) (contents : Fml) (tag : Gv) (view : Lft → Fml) where
  -- the fact that every owner has: which value the name is for, and the value
  abbrev pub shown : Marks → Lft → Fml
  shown a = beside (λ _. fres a.name tag) view

  abbrev pub owner : Marks → Fml
  owner a = fsep (ticket a) (fsep (guarded count contents a) (shown a (a.alive ∷ [])))

  -- a `&` to an owner: a share of its part, and what it sees while that is held
  abbrev pub lent : Marks → Lft → Fml
  lent a =
      beside (one (part_of a))
      (beside (kept (key a) (Invariant count contents a)) (held (a.alive ∷ []) (shown a)))

  abbrev pub owned : Fml
  owned = fex Marks owner

  abbrev pub lends : Lft → Fml
  lends = some Marks lent

-- the block's first field, with the count n
abbrev pub count_at : Ptr → ℕ → Fml
count_at (block_ptr b o) n = fsep (flt n (2 ^ 64)) (fat full_share (ty_int w64) b (o + 0) (vint w64 n))
count_at null_ptr n = ffalse

-- a block with an allocator of the row Z and a value of the row R
module _ (Z R : RattleType) where
  -- the type of `Block`, as the machine sees it
  abbrev pub block_type : Ty
  block_type = ty_struct [] (tcons (ty_int w64) (tcons (raw (lone Z.mir)) (tcons (raw (lone R.mir)) tnil)))

  abbrev pub allocator_offset : ℕ
  allocator_offset = up (align (lone Z.mir)) 8

  abbrev pub value_offset : ℕ
  value_offset = up (align (lone R.mir)) (allocator_offset + size (lone Z.mir))

  -- the three fields, given back empty, make the whole block
  abbrev pub rejoin : Ptr → Fml
  rejoin c =
      fwand
      (fsep (room_for (ty_int w64) (c +ₚ 0))
      (fsep (room_for (raw (lone Z.mir)) (c +ₚ allocator_offset)) (room_for (raw (lone R.mir)) (c +ₚ value_offset))))
      (room_for block_type c)

  -- the allocator h in its field, its right to free the block, and the way back to the whole block
  abbrev pub freed_by : (Z.Denot → Ty → Ptr → Fml) → Ptr → Z.Denot → Fml
  freed_by holds c h = fsep (lies_at Z full_share (c +ₚ allocator_offset) h) (fsep (holds h block_type c) (rejoin c))

-- an owner that points to c, where the value x is
module _ (Z : RattleType) (holds : Z.Denot → Ty → Ptr → Fml) (R : RattleType) (c : Ptr) (x : R.Denot) where
  -- what the last owner gets: the value, and what frees the block
  abbrev pub contents_of : Fml
  contents_of = fsep (lies_at R full_share (c +ₚ value_offset Z R) x) (fex Z.Denot (freed_by Z R holds c))

  abbrev pub tag_of : Gv
  tag_of = (coded× coded_ptr R.coded).code (c, x)

  -- what a `&` to the value holds
  abbrev pub view_of : Lft → Fml
  view_of = lent_at R (c +ₚ value_offset Z R) x

  abbrev pub shared_owns : Fml
  shared_owns = owned (count_at c) contents_of tag_of view_of

  abbrev pub shared_lends : Lft → Fml
  shared_lends = lends (count_at c) contents_of tag_of view_of
