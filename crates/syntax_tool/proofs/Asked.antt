-- The answer to the lines of a request by their parts.
use Rattle.std.proofs.Common.{◌≡◌, ℕ, List, ◌⊎◌, inl, inr, sym, subst, Option, Some}
use Rattle.std.specs.Prelude.{Result, Ok, Err, MatchResult}
use Rattle.syntax_tool.specs.declared.refusal.Refusal.{Refusal}
use Rattle.syntax_tool.specs.declared.refusal.Refusal.TheVariants.{Memory}
use Rattle.syntax_tool.specs.Escapes.{unescaped}
use Rattle.syntax_tool.specs.Lines.{IsCut}
use Rattle.syntax_tool.specs.Requests.{number_of, AnswersRange, AnswersRequest, AnswersLines}

request : (n m : Option ℕ) (o : Option (List ℕ)) (s e : ℕ) (insert whole : List ℕ) (r : Result (List ℕ) Refusal) → n ≡ Some s → m ≡ Some e → o ≡ Some insert → AnswersRange whole s e insert r → AnswersRequest n m o whole r
request n m o s e insert whole r p q t h =
    subst (λ x. AnswersRequest x m o whole r) (sym p) (subst (λ y. AnswersRequest (Some s) y o whole r) (sym q) (subst (λ z. AnswersRequest (Some s) (Some e) z whole r) (sym t) h))

module _ (first second whole start end : List ℕ) (s e : ℕ) (insert : List ℕ) (numbers : IsCut 32 first start end)
    (starts : number_of start ≡ Some s) (ends : number_of end ≡ Some e) (puts : unescaped second ≡ Some insert) where
  asked : (r : Result (List ℕ) Refusal) → AnswersRange whole s e insert r → AnswersLines first second whole r
  asked r h = record { start = start; end = end; numbers = numbers; answers = request (number_of start) (number_of end) (unescaped second) s e insert whole r starts ends puts h }

  pub answered : {A : Type 0} (out : A → List ℕ) (r : Result A Refusal)
      → MatchResult r (λ x. AnswersRange whole s e insert (Ok (out x))) (λ x. (x ≡ Memory) ⊎ AnswersRange whole s e insert (Err x))
      → MatchResult r (λ x. AnswersLines first second whole (Ok (out x))) (λ x. (x ≡ Memory) ⊎ AnswersLines first second whole (Err x))
  answered out (Ok x) h = asked (Ok (out x)) h
  answered out (Err x) (inl memory) = inl memory
  answered out (Err x) (inr h) = inr (asked (Err x) h)
