-- One more step, for the error whose turn it is.
use Rattle.std.proofs.Common.{◌≡◌, ◌∙◌, ◌+◌, ◌<◌, ◌++◌, ◌∷◌, [], ap, sym, append_assoc, get_or, length, List, map, take, ℕ}
use Rattle.std.proofs.lemmas.List.{map_more}
use Rattle.ras_front_end.specs.Reading.{FrontStep}
use Rattle.event_layout.specs.declared.layout.ParserError.{ParserError}

pub one_more : (start : List FrontStep) (step : FrontStep) (f : ParserError → FrontStep) (xs : List ParserError) (i : ℕ) (x : ParserError) → i < length xs → x ≡ get_or xs i x → step ≡ f x → (start ++ map f (take i xs)) ++ step ∷ [] ≡ start ++ map f (take (i + 1) xs)
one_more start step f xs i x lt is same =
    append_assoc start (map f (take i xs)) (step ∷ [])
    ∙ ap (λ k. start ++ k) (ap (λ y. map f (take i xs) ++ y ∷ []) (same ∙ ap f is) ∙ sym (map_more f xs i x lt))
