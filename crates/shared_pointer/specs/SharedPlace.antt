-- The place of the value of a `Shared`.
use denote.RawPtr.{Ptr}
use Rattle.shared_pointer.specs.declared.shared.Shared.{Shared}

module _ {X Z : Type 0} where
  -- the place of its block, which all owners that were made of one first owner have in common
  abbrev pub place_of : Shared X Z → Ptr
  place_of it = it.ptr
