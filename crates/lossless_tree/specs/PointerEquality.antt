-- When two pointers are equal, and what their hash is made of.
use Rattle.std.proofs.Common.{◌≡◌, ◌==◌, ◌&&◌, true, Bool, Decides, ap, ◌∙◌}
use Rattle.std.specs.Prelude.{IsTrue, ◌↔◌, ℕ, List, ◌++◌}
use Rattle.std.specs.Cmp.{decided, unsigned_Decides, IsEquivalence}
use Rattle.std.specs.Hash as fed
use Rattle.syntax_kind.specs.Kinds.{is_same_kind, kind_raw}
use Rattle.tree_model.specs.EqualityLaws.{and_Decides, kind_Decides}
use Rattle.tree_model.specs.Pointer.{Pointer}

-- the same kind and the same range
abbrev pub is_same_pointer : Pointer → Pointer → Bool
is_same_pointer p q = is_same_kind p.kind q.kind && (p.range.start == q.range.start && p.range.end == q.range.end)

-- the kind, and the ends of the range
abbrev pub pointer_hash : Pointer → List (List ℕ)
pointer_hash p = fed.u32 (kind_raw p.kind) ++ (fed.u32 p.range.start ++ fed.u32 p.range.end)

-- the test is true of a pointer and itself, and of no others
abbrev pub PointerEqualityIsSameness : Type 0
PointerEqualityIsSameness = (p q : Pointer) → IsTrue (is_same_pointer p q) ↔ (p ≡ q)

pub pointer_Decides : (p q : Pointer) → Decides (is_same_pointer p q) (p ≡ q)
pointer_Decides p q =
    and_Decides (is_same_kind p.kind q.kind) (p.range.start == q.range.start && p.range.end == q.range.end) (kind_Decides p.kind q.kind)
    (and_Decides (p.range.start == q.range.start) (p.range.end == q.range.end) (unsigned_Decides p.range.start q.range.start) (unsigned_Decides p.range.end q.range.end) (λ a b. (a, b)) (λ e. e))
    (λ a b. made a b.0 b.1) (λ e. (ap (λ r. r.kind) e, (ap (λ r. r.range.start) e, ap (λ r. r.range.end) e)))
  where
    made : p.kind ≡ q.kind → p.range.start ≡ q.range.start → p.range.end ≡ q.range.end → p ≡ q
    made a b c =
        ap (λ k. record { kind = k; range = p.range }) a
        ∙ ap (λ s. record { kind = q.kind; range = record { start = s; end = p.range.end } }) b
        ∙ ap (λ e. record { kind = q.kind; range = record { start = q.range.start; end = e } }) c

pub pointer_equivalence : IsEquivalence is_same_pointer
pointer_equivalence = decided is_same_pointer pointer_Decides

-- equal pointers hash alike
pub pointers_alike : (p q : Pointer) → is_same_pointer p q ≡ true → pointer_hash p ≡ pointer_hash q
pointers_alike p q e = ap pointer_hash ((pointer_Decides p q).0 e)
