-- The memory that an owner of a tree owns: the text and the rows at its pointer, and the right to
-- free their block.
use Rattle.std.specs.Prelude.{Bool, true, false, Option, None, Some}
use Rattle.std.specs.Coded.{Coded}
use Rattle.std_alloc.specs.Box.Ownership.{box_owns}
use base.Fml.{Fml, ftrue, ffalse}
use denote.RattleType.{RattleType}
use denote.RawPtr.{Ptr}
use Rattle.ras_c.specs.Held.{heap_token}
use Rattle.ras_c.specs.contracts.flat.FlatTree as flat

-- the text and the rows in memory
abbrev pub flat_row : RattleType
flat_row = flat.the_row

abbrev pub Flat : Type 0
Flat = flat_row.Denot

abbrev pub flat_code : Coded Flat
flat_code = flat_row.coded

-- an owner is full if it has a tree
abbrev pub owned : Bool → Ptr → Option Flat → Fml
owned true p (Some x) = box_owns heap_token flat_row p x
owned true p None = ffalse
owned false p (Some x) = ffalse
owned false p None = ftrue
