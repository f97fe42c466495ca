-- How many rows steps make, and how much text they have.
use Rattle.std.specs.Prelude.{ℕ, suc, ◌+◌, List, ◌∷◌, []}
use Rattle.tree_rows.specs.declared.builder_event.BuilderEvent.{BuilderEvent}
use Rattle.tree_rows.specs.declared.builder_event.BuilderEvent.TheVariants.{Enter, Token, Exit}

-- each step makes a row but an exit
abbrev pub row_count : List BuilderEvent → ℕ
row_count [] = 0
row_count (Enter k ∷ es) = suc (row_count es)
row_count (Token k n ∷ es) = suc (row_count es)
row_count (Exit ∷ es) = row_count es

-- the bytes of the tokens together
abbrev pub text_len : List BuilderEvent → ℕ
text_len [] = 0
text_len (Enter k ∷ es) = text_len es
text_len (Token k n ∷ es) = n + text_len es
text_len (Exit ∷ es) = text_len es
