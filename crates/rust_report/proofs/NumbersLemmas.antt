-- Digits with commas, one after the other.
use Rattle.std.proofs.Common.{◌≡◌, ◌∙◌, ℕ, ◌+◌, ◌-◌, ◌<◌, ◌≤◌, List, ◌++◌, length, drop, ◌^◌, IsAscii, decimal, refl, sym, ap, arith, append_assoc, append-nil, slice_index}
use Rattle.std.proofs.lemmas.List.{drop_more, length-drop, at_drop_all}
use Rattle.std.proofs.lemmas.Fmt.{IsAscii-decimal}
use Rattle.rust_report.specs.Numbers.{with_comma, with_commas}

pub stepped : (ds old new : List ℕ) (at : ℕ) → at < length ds → new ≡ old ++ with_comma (slice_index ds at) (length ds - at - 1)
    → old ++ with_commas (drop at ds) ≡ with_commas ds → new ++ with_commas (drop (at + 1) ds) ≡ with_commas ds
stepped ds old new at h is inv =
    let left : length ds - at - 1 ≡ length (drop (at + 1) ds) = omega (arith, length-drop (at + 1) ds) in
    let next : with_commas (drop at ds) ≡ with_comma (slice_index ds at) (length ds - at - 1) ++ with_commas (drop (at + 1) ds) = rw (left, drop_more ds at 0 h) refl in
    ap (λ z. z ++ with_commas (drop (at + 1) ds)) is ∙ append_assoc old _ _ ∙ ap (λ z. old ++ z) (sym next) ∙ inv

pub ended : (ds text : List ℕ) (at : ℕ) → length ds ≤ at → text ++ with_commas (drop at ds) ≡ with_commas ds → text ≡ with_commas ds
ended ds text at h inv = sym (append-nil text) ∙ ap (λ z. text ++ z) (sym (at_drop_all with_commas ds at h)) ∙ inv

pub ascii : (n : ℕ) → n < 2 ^ 64 → IsAscii (decimal n)
ascii = IsAscii-decimal
