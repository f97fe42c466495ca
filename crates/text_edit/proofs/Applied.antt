-- Of an edit that can be made, only memory is a reason to refuse it.
use Rattle.std.proofs.Common.{◌≡◌, ℕ, ◌<◌, ◌≤◌, List, length, refl, subst, arith}
use Rattle.std.specs.Prelude.{All}
use Rattle.std.specs.List.{Any}
use Rattle.text_edit.specs.Replacements.{Replacement, IsRangeOf, IsPastEnd, IsInsideCharacter, IsEditOf, IsRefused}
use Rattle.text_edit.specs.declared.error.ApplyError.{ApplyError}
use Rattle.text_edit.specs.declared.error.ApplyError.TheVariants.{PastEnd, InsideCharacter, TooLong, Memory}
use Rattle.text_edit.specs.Applied.{OnlyMemoryRefuses}

none_past_end : (s : List ℕ) (es : List Replacement) → All (IsRangeOf s) es → Any (IsPastEnd s) es → ⊥
none_past_end s es h (k, e, lt, is, past) = let w : IsRangeOf s e = subst (IsRangeOf s) is (h k e lt) in omega (arith, w.within, past)

none_inside : (s : List ℕ) (es : List Replacement) → All (IsRangeOf s) es → Any (IsInsideCharacter s) es → ⊥
none_inside s es h (k, e, lt, is, inside) = let w : IsRangeOf s e = subst (IsRangeOf s) is (h k e lt) in inside (w.start_boundary, w.end_boundary)

pub only_memory_refuses : OnlyMemoryRefuses
only_memory_refuses s es PastEnd h r = absurd (none_past_end s es h.ranges r)
only_memory_refuses s es InsideCharacter h r = absurd (none_inside s es h.ranges r.1)
only_memory_refuses s es TooLong h r = absurd (omega (arith, h.short, r.1))
only_memory_refuses s es Memory h r = refl
