-- One step of the scan, as the loop makes it.
use Rattle.std.proofs.Common.{◌≡◌, ℕ, zero, suc, ◌+◌, ◌-◌, ◌<◌, List, ◌∷◌, length, drop, get_or, refl, sym, ◌∙◌, arith, true, false, add-one, []}
use Rattle.std.proofs.Math.Seq.{drop-cons}
use Rattle.std.specs.Prelude.{Option}
use Rattle.syntax_kind.specs.declared.syntax_kind.SyntaxKind.{SyntaxKind}
use Rattle.tree_model.specs.declared.error.FinishError.{FinishError}
use Rattle.tree_rows.specs.declared.builder_event.BuilderEvent.{BuilderEvent}
use Rattle.tree_rows.specs.declared.builder_event.BuilderEvent.TheVariants.{Enter, Token, Exit}
use Rattle.tree_rows.specs.Builder.{events_from}
use Rattle.tree_model.specs.Scan.{after_top, scan}
use Rattle.tree_model.proofs.At.{cong₂}

-- the scan reads no text
pub scan-texts : (es : List BuilderEvent) (d : ℕ) (r : Option FinishError) (s t : List ℕ) → scan d r (events_from es s) ≡ scan d r (events_from es t)
scan-texts [] d r s t = refl
scan-texts (Enter k ∷ es) zero r s t = scan-texts es 1 (after_top r false) s t
scan-texts (Enter k ∷ es) (suc d) r s t = scan-texts es (suc (suc d)) r s t
scan-texts (Token k n ∷ es) zero r s t = scan-texts es zero (after_top r true) (drop n s) (drop n t)
scan-texts (Token k n ∷ es) (suc d) r s t = scan-texts es (suc d) r (drop n s) (drop n t)
scan-texts (Exit ∷ es) zero r s t = refl
scan-texts (Exit ∷ es) (suc d) r s t = scan-texts es d r s t

pub drop_at : (xs : List BuilderEvent) (i : ℕ) (x e : BuilderEvent) → i < length xs → get_or xs i x ≡ e → drop i xs ≡ e ∷ drop (i + 1) xs
drop_at xs i x e h is = drop-cons xs i x h ∙ cong₂ (λ a j. a ∷ drop j xs) is (sym (add-one i))

same_scan : (es : List BuilderEvent) (d d' : ℕ) (r r' : Option FinishError) → d ≡ d' → r ≡ r' → scan d r (events_from es []) ≡ scan d' r' (events_from es [])
same_scan es d d' r r' p q = cong₂ (λ x y. scan x y (events_from es [])) p q

pub scan_enter_top : (k : SyntaxKind) (es : List BuilderEvent) (d d' : ℕ) (r r' : Option FinishError) → d ≡ 0 → d' ≡ d + 1 → r' ≡ after_top r false → scan d' r' (events_from es []) ≡ scan d r (events_from (Enter k ∷ es) [])
scan_enter_top k es zero d' r r' z is_d is_r = same_scan es d' 1 r' (after_top r false) (omega (arith, is_d)) is_r
scan_enter_top k es (suc d) d' r r' z is_d is_r = absurd (omega (arith, z))

pub scan_enter_in : (k : SyntaxKind) (es : List BuilderEvent) (d d' : ℕ) (r r' : Option FinishError) → (d ≡ 0 → ⊥) → d' ≡ d + 1 → r' ≡ r → scan d' r' (events_from es []) ≡ scan d r (events_from (Enter k ∷ es) [])
scan_enter_in k es zero d' r r' z is_d is_r = absurd (z refl)
scan_enter_in k es (suc d) d' r r' z is_d is_r = same_scan es d' (suc (suc d)) r' r (omega (arith, is_d)) is_r

pub scan_token_top : (k : SyntaxKind) (n : ℕ) (es : List BuilderEvent) (d d' : ℕ) (r r' : Option FinishError) → d ≡ 0 → d' ≡ d → r' ≡ after_top r true → scan d' r' (events_from es []) ≡ scan d r (events_from (Token k n ∷ es) [])
scan_token_top k n es zero d' r r' z is_d is_r = same_scan es d' 0 r' (after_top r true) is_d is_r ∙ scan-texts es 0 (after_top r true) [] (drop n [])
scan_token_top k n es (suc d) d' r r' z is_d is_r = absurd (omega (arith, z))

pub scan_token_in : (k : SyntaxKind) (n : ℕ) (es : List BuilderEvent) (d d' : ℕ) (r r' : Option FinishError) → (d ≡ 0 → ⊥) → d' ≡ d → r' ≡ r → scan d' r' (events_from es []) ≡ scan d r (events_from (Token k n ∷ es) [])
scan_token_in k n es zero d' r r' z is_d is_r = absurd (z refl)
scan_token_in k n es (suc d) d' r r' z is_d is_r = same_scan es d' (suc d) r' r is_d is_r ∙ scan-texts es (suc d) r [] (drop n [])

pub scan_exit_in : (es : List BuilderEvent) (d d' : ℕ) (r r' : Option FinishError) → (d ≡ 0 → ⊥) → d' ≡ d - 1 → r' ≡ r → scan d' r' (events_from es []) ≡ scan d r (events_from (Exit ∷ es) [])
scan_exit_in es zero d' r r' z is_d is_r = absurd (z refl)
scan_exit_in es (suc d) d' r r' z is_d is_r = same_scan es d' d r' r (omega (arith, is_d)) is_r
