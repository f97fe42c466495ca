-- One more mark, and no more.
use Rattle.std.proofs.Common.{◌≡◌, ℕ, zero, suc, ◌+◌, ◌-◌, ◌<◌, ◌≤◌, List, [], ◌∷◌, ◌++◌, length, refl, sym, ap, ◌∙◌, subst, arith, append_assoc, append-nil, length-append}
use Rattle.std.specs.Prelude.{Bool}
use Rattle.rule_plan.specs.declared.answer.Answer.{Answer}
use Rattle.rule_plan.specs.Answers.{is_taken, first_answer, further, taken}

one_less : (n : ℕ) → n ≡ suc n - 1
one_less n = omega arith

turned : (n : ℕ) (answers : List Answer) → 0 < n → taken n answers ≡ is_taken (first_answer answers) ∷ taken (n - 1) (further answers)
turned zero answers h = absurd (omega (arith, h))
turned (suc n) answers h = ap (λ k. is_taken (first_answer answers) ∷ taken k (further answers)) (one_less n)

same_left : (n k : ℕ) → n - (k + 1) ≡ (n - k) - 1
same_left n k = omega arith

len_one : (marks : List Bool) (x : Bool) → length (marks ++ x ∷ []) ≡ length marks + 1
len_one marks x = length-append marks (x ∷ [])

after_one : (n : ℕ) (marks : List Bool) (answers whole : List Answer) → length marks < n
    → marks ++ taken (n - length marks) answers ≡ taken n whole
    → (marks ++ is_taken (first_answer answers) ∷ []) ++ taken (n - length (marks ++ is_taken (first_answer answers) ∷ [])) (further answers) ≡ taken n whole
after_one n marks answers whole h o =
    ap (λ k. (marks ++ is_taken (first_answer answers) ∷ []) ++ taken (n - k) (further answers)) (len_one marks (is_taken (first_answer answers)))
    ∙ append_assoc marks (is_taken (first_answer answers) ∷ []) (taken (n - (length marks + 1)) (further answers))
    ∙ ap (λ k. marks ++ (is_taken (first_answer answers) ∷ taken k (further answers))) (same_left n (length marks))
    ∙ ap (λ l. marks ++ l) (sym (turned (n - length marks) answers (omega (arith, h))))
    ∙ o

pub one_more : (n : ℕ) (marks new : List Bool) (answers whole : List Answer) → length marks < n
    → marks ++ taken (n - length marks) answers ≡ taken n whole → new ≡ marks ++ is_taken (first_answer answers) ∷ []
    → (length new ≤ n) × (new ++ taken (n - length new) (further answers) ≡ taken n whole)
one_more n marks new answers whole h o e =
    subst (λ l. (length l ≤ n) × (l ++ taken (n - length l) (further answers) ≡ taken n whole)) (sym e)
    (omega (arith, h, len_one marks (is_taken (first_answer answers))), after_one n marks answers whole h o)

none_left : (n k : ℕ) → n ≤ k → n - k ≡ 0
none_left n k h = omega (arith, h)

pub no_more : (n : ℕ) (marks : List Bool) (answers whole : List Answer) → n ≤ length marks
    → marks ++ taken (n - length marks) answers ≡ taken n whole → marks ≡ taken n whole
no_more n marks answers whole h o =
    sym (append-nil marks) ∙ sym (ap (λ k. marks ++ taken k answers) (none_left n (length marks) h)) ∙ o
