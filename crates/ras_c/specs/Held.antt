-- The memory that a handle with a parse owns: the parse at its pointer, and the right to free its
-- block.
use Rattle.std.specs.Prelude.{Bool, true, false, Option, None, Some}
use Rattle.std.specs.contracts.impls.GlobalAllocator.TheImpl.{ghosts}
use Rattle.std_alloc.specs.Box.Ownership.{box_owns}
use base.Fml.{Fml, ftrue, ffalse}
use denote.RattleType.{RattleType}
use denote.RawPtr.{Ptr}
use mir.Syntax.{Ty}
use Rattle.ras_c.specs.Kept.{Kept}
use Rattle.ras_c.specs.contracts.kept.KeptParse as kept

-- a parse in memory
abbrev pub parse_row : RattleType
parse_row = kept.the_row

-- the right to free a block of the heap
abbrev pub heap_token : Ty → Ptr → Fml
heap_token = ghosts.dealloc_token (record { memory = record { seal = tt } })

-- a handle is full if it has a parse
abbrev pub held : Bool → Ptr → Option Kept → Fml
held true p (Some x) = box_owns heap_token parse_row p x
held true p None = ffalse
held false p (Some x) = ffalse
held false p None = ftrue
