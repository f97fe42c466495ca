-- A `&` to a `Shared` holds a share of its owner's part, and may be copied and kept for less long.
-- Assumes `Logic`.
use denote.RattleType.{RattleType}
use denote.Param.Laws.{Laws}
use denote.Param.Shared.{copy_shared}
use denote.Struct.Field.{RawPtr-field}
use denote.Struct.Laws.{RawPtr-copy}
use denote.Struct.Lending.{of_Lends, lent_at_shr_laws}
use denote.RawPtr.{Ptr, ◌+ₚ◌}
use Rattle.std.specs.declared.alloc.Allocator.{Ghosts}
use Rattle.shared_pointer.specs.contracts.shared.Shared as C
use Rattle.shared_pointer.proofs.shared.Shared.TheLaw.Statement.{statement}
use Rattle.shared_pointer.specs.SharedOwnership.{count_at, value_offset, contents_of, tag_of, view_of}
use Rattle.shared_pointer.proofs.SharedLending.{lends_laws, lending}

pub shares : (T B : RattleType) (g : Ghosts B.Denot) (L : Laws T) (K : Laws B) → statement T B g L K
shares T B g L K =
    let holds = g.dealloc_token in
    let laws = λ (c : Ptr) (x : T.Denot). lent_at_shr_laws T L.shr_laws (c +ₚ value_offset B T) x in
    of_Lends (C.struct T B g) (C.the_codes T.Denot B.Denot T.coded B.coded) (C.the_heap T B g) (C.the_lent T B g)
    (λ d p.
    lends_laws (count_at d.ptr) (contents_of B holds T d.ptr d.value) (tag_of B holds T d.ptr d.value)
    (view_of B holds T d.ptr d.value) (laws d.ptr d.value))
    (copy_shared RawPtr-field RawPtr-copy, tt)
    (λ M 𝓤 𝓛 d p.
    lending (count_at d.ptr) (contents_of B holds T d.ptr d.value) (tag_of B holds T d.ptr d.value)
    (view_of B holds T d.ptr d.value) 𝓛 (laws d.ptr d.value) (C.the_row T B g).lives)
