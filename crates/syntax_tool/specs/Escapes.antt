-- The escapes in the text of a `token` line: a backslash before `n`, `r`, `t` or another backslash.
use Rattle.std.specs.Prelude.{ℕ, List, [], ◌∷◌, Option, None, Some, option_map, ◌==◌, if◌then◌else◌}
use Rattle.std.specs.Option.{option_and_then}

-- what the letter after a backslash stands for
abbrev pub escape_of : ℕ → Option ℕ
escape_of b =
    if b == 110 then Some 10
    else (if b == 114 then Some 13
    else (if b == 116 then Some 9
    else (if b == 92 then Some 92
    else None)))

-- the text that is meant, if every backslash begins an escape
abbrev pub unescaped : List ℕ → Option (List ℕ)
unescaped [] = Some []
unescaped (b ∷ []) = if b == 92 then None else Some (b ∷ [])
unescaped (b ∷ (c ∷ bs)) =
    if b == 92 then option_and_then (λ e. option_map (λ t. e ∷ t) (unescaped bs)) (escape_of c)
    else option_map (λ t. b ∷ t) (unescaped (c ∷ bs))
