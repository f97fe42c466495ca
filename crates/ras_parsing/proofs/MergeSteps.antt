-- One more old error, and one more new one.
use Rattle.std.proofs.Common.{◌≡◌, ℕ, zero, suc, ◌+◌, ◌<◌, List, [], ◌∷◌, ◌++◌, take, length, get_or, sym, ap, ◌∙◌, arith, append-nil, append_assoc}
use Rattle.text_size.specs.TextRange.{Bounds}
use Rattle.ras_parsing.specs.Edit.{Edit}
use Rattle.ras_front_end.specs.ErrorModel.{ErrorModel}
use Rattle.ras_parsing.specs.Reparse.{kept_fault, kept_faults}

pub kept_more : (replaced : Bounds) (edit : Edit) (fs : List ErrorModel) (i : ℕ) (d : ErrorModel) → i < length fs
    → kept_faults replaced edit (take (i + 1) fs) ≡ kept_faults replaced edit (take i fs) ++ kept_fault replaced edit (get_or fs i d)
kept_more replaced edit [] i d h = absurd (omega (arith, h))
kept_more replaced edit (f ∷ fs) zero d h = append-nil (kept_fault replaced edit f)
kept_more replaced edit (f ∷ fs) (suc i) d h =
    let e : suc i + 1 ≡ suc (i + 1) = omega arith in
    ap (λ n. kept_faults replaced edit (take n (f ∷ fs))) e
    ∙ ap (λ l. kept_fault replaced edit f ++ l) (kept_more replaced edit fs i d (omega (arith, h)))
    ∙ sym (append_assoc (kept_fault replaced edit f) (kept_faults replaced edit (take i fs)) (kept_fault replaced edit (get_or fs i d)))
