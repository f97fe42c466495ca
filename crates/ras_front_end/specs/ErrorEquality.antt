-- Whether two errors are the same, and what their hash is made of.
use Rattle.std.proofs.Common.{◌≡◌, ℕ, List, ◌==◌, ◌&&◌, ◌++◌, true, false, Bool, Decides, refl, ap, ◌∙◌}
use Rattle.std.specs.Cmp.{decided, unsigned_Decides, IsEquivalence}
use Rattle.std.specs.Cmp.Lexicographic.{pointwise, pointwise_decides}
use Rattle.std.specs.Hash as fed
use Rattle.ras_front_end.specs.ErrorModel.{ErrorModel}

-- the same message at the same range
abbrev pub is_same_fault : ErrorModel → ErrorModel → Bool
is_same_fault a b = pointwise ◌==◌ a.message b.message && (a.range.start == b.range.start && a.range.end == b.range.end)

-- two tests that decide two facts, one after another
and_Decides : {P Q R : Type 0} (a b : Bool) → Decides a P → Decides b Q → (P → Q → R) → (R → P × Q) → Decides (a && b) R
and_Decides true b p q make split = (λ e. make (p.0 refl) (q.0 e), λ r. q.1 (split r).1)
and_Decides false b p q make split = (λ e. (let bad : false ≡ true = e in cc), λ r. p.1 (split r).0)

fault_Decides : (a b : ErrorModel) → Decides (is_same_fault a b) (a ≡ b)
fault_Decides a b =
    and_Decides (pointwise ◌==◌ a.message b.message) (a.range.start == b.range.start && a.range.end == b.range.end) (pointwise_decides unsigned_Decides a.message b.message)
    (and_Decides (a.range.start == b.range.start) (a.range.end == b.range.end) (unsigned_Decides a.range.start b.range.start) (unsigned_Decides a.range.end b.range.end) (λ p q. (p, q)) (λ e. e))
    (λ p q. made p q.0 q.1)
    (λ e. (ap (λ f. f.message) e, (ap (λ f. f.range.start) e, ap (λ f. f.range.end) e)))
  where
    made : a.message ≡ b.message → a.range.start ≡ b.range.start → a.range.end ≡ b.range.end → a ≡ b
    made p q s =
        ap (λ m. record { message = m; range = record { start = a.range.start; end = a.range.end } }) p
        ∙ ap (λ n. record { message = b.message; range = record { start = n; end = a.range.end } }) q
        ∙ ap (λ n. record { message = b.message; range = record { start = b.range.start; end = n } }) s

pub faults_equivalence : IsEquivalence is_same_fault
faults_equivalence = decided is_same_fault fault_Decides

-- the message and the ends of the range
abbrev pub fault_hash : ErrorModel → List (List ℕ)
fault_hash f = fed.str f.message ++ (fed.u32 f.range.start ++ fed.u32 f.range.end)

-- equal errors hash alike
pub faults_alike : (a b : ErrorModel) → is_same_fault a b ≡ true → fault_hash a ≡ fault_hash b
faults_alike a b e = ap fault_hash ((fault_Decides a b).0 e)
