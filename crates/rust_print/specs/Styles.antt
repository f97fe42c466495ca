-- Colours of a terminal, and texts that stay in their line.
use Rattle.std.specs.Prelude.{ℕ, List, [], ◌∷◌, codes}
use Rattle.rust_print.specs.declared.style.Style.{Style}
use Rattle.rust_print.specs.declared.style.Style.TheVariants.{Plain, Colours}

-- an escape of a terminal: ESC, and what follows it (ECMA-48, section 5.4)
abbrev pub escape : List ℕ → List ℕ
escape s = 27 ∷ s

-- what is written of an escape: nothing without colours
abbrev pub in_style : Style → List ℕ → List ℕ
in_style Plain s = []
in_style Colours s = s
