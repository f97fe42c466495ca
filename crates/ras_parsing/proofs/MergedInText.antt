-- Merged errors lie in the edited text.
use Rattle.std.proofs.Common.{◌≡◌, ℕ, zero, suc, ◌+◌, ◌-◌, ◌<◌, ◌≤◌, List, [], ◌∷◌, map, length, get_or, refl, arith, Bool, true, false}
use Rattle.std.specs.Prelude.{All, nat_le, if◌then◌else◌}
use Rattle.std.proofs.lemmas.Bool.Decides.{nat_tests}
use Rattle.std.proofs.lemmas.List.Elements.{All-append}
use Rattle.text_size.specs.TextRange.{Bounds}
use Rattle.ras_parsing.specs.Edit.{Edit}
use Rattle.ras_front_end.specs.ErrorModel.{ErrorModel, LiesIn}
use Rattle.ras_parsing.specs.Reparse.{kept_fault, kept_faults, moved, merged}

pub none : (P : ErrorModel → Type 0) → All P []
none P = λ k d h. absurd (omega (arith, h))

one_at : (P : ErrorModel → Type 0) (x : ErrorModel) → P x → (k : ℕ) (d : ErrorModel) → k < 1 → P (get_or (x ∷ []) k d)
one_at P x p zero d h = p
one_at P x p (suc k) d h = absurd (omega (arith, h))

pub one : (P : ErrorModel → Type 0) (x : ErrorModel) → P x → All P (x ∷ [])
one P x p = λ k d h. one_at P x p k d h

pub le_true : (a b : ℕ) → nat_le a b ≡ true → a ≤ b
le_true a b e = grind (arith, nat_tests)

pub by_test : (x : Bool) (P : List ErrorModel → Type 0) (p q : List ErrorModel) → (x ≡ true → P p) → (x ≡ false → P q) → P (if x then p else q)
by_test true P p q f g = f refl
by_test false P p q f g = g refl

-- an edit inside of a replaced range in a text of n bytes, of which m are left
pub record Fits (replaced : Bounds) (edit : Edit) (n m : ℕ) : Type 0 where
  pub begun : replaced.start ≤ edit.delete.start
  pub forwards : edit.delete.start ≤ edit.delete.end
  pub ended : edit.delete.end ≤ replaced.end
  pub within : replaced.end ≤ n
  pub new_length : m ≡ (n + length edit.insert) - (edit.delete.end - edit.delete.start)

kept_in : (replaced : Bounds) (edit : Edit) (n m : ℕ) → Fits replaced edit n m → (f : ErrorModel) → LiesIn n f → All (LiesIn m) (kept_fault replaced edit f)
kept_in replaced edit n m w f v =
    by_test (nat_le f.range.end replaced.start) (All (LiesIn m)) _ _
    (λ t. one (LiesIn m) f (record { forwards = v.forwards; within = omega (arith, w.new_length, w.begun, w.forwards, w.ended, w.within, le_true f.range.end replaced.start t) }))
    (λ _. by_test (nat_le replaced.end f.range.start) (All (LiesIn m)) _ _
    (λ t. one (LiesIn m) _ (record { forwards = omega (arith, v.forwards); within = omega (arith, w.new_length, w.forwards, w.ended, v.within, v.forwards, le_true replaced.end f.range.start t) }))
    (λ _. none (LiesIn m)))

kept_all : (replaced : Bounds) (edit : Edit) (n m : ℕ) → Fits replaced edit n m → (fs : List ErrorModel) → All (LiesIn n) fs → All (LiesIn m) (kept_faults replaced edit fs)
kept_all replaced edit n m w [] v = none (LiesIn m)
kept_all replaced edit n m w (f ∷ fs) v =
    All-append (LiesIn m) (kept_fault replaced edit f) (kept_faults replaced edit fs)
    (kept_in replaced edit n m w f (v 0 f (omega arith)))
    (kept_all replaced edit n m w fs (λ k d h. v (suc k) d (omega (arith, h))))

pub moved_all : (from p m : ℕ) → from + p ≤ m → (fs : List ErrorModel) → All (LiesIn p) fs → All (LiesIn m) (map (moved from) fs)
moved_all from p m h [] w = none (LiesIn m)
moved_all from p m h (f ∷ fs) w =
    let v : LiesIn p f = w 0 f (omega arith) in
    let u : LiesIn m (moved from f) = record { forwards = omega (arith, v.forwards); within = omega (arith, v.within) } in
    All-append (LiesIn m) (moved from f ∷ []) (map (moved from) fs) (one (LiesIn m) (moved from f) u) (moved_all from p m h fs (λ k d h. w (suc k) d (omega (arith, h))))

pub merged_in_text : (replaced : Bounds) (edit : Edit) (n p m : ℕ) (old new : List ErrorModel) → Fits replaced edit n m
    → p ≡ ((replaced.end - replaced.start) + length edit.insert) - (edit.delete.end - edit.delete.start)
    → All (LiesIn n) old → All (LiesIn p) new → All (LiesIn m) (merged old new replaced edit)
merged_in_text replaced edit n p m old new w e u v =
    All-append (LiesIn m) (kept_faults replaced edit old) (map (moved replaced.start) new)
    (kept_all replaced edit n m w old u)
    (moved_all replaced.start p m (omega (arith, e, w.new_length, w.begun, w.forwards, w.ended, w.within)) new v)
