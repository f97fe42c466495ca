-- The rows of a raw content, one by one.
use Rattle.std.proofs.Common.{◌≡◌, ℕ, ◌+◌, List, [], ◌∷◌, ◌++◌, length, ap, sym, ◌∙◌, arith, append_assoc, append-nil}
use Rattle.std.specs.Prelude.{encode_utf8}
use Rattle.std.specs.Char.{len_utf8}
use Rattle.std.specs.Str.{IsUtf8, chars}
use Rattle.std.proofs.lemmas.Str.{chars_past_char, chars-nil}
use Rattle.ras_c.specs.declared.units.UnitRow.{UnitRow}
use Rattle.ras_c.specs.Units.{char_row, char_rows}

-- with one character more, the rows so far and those that are left are the same
pub one_more : (at c : ℕ) (bs rest : List ℕ) (rows more all : List UnitRow) → IsUtf8 bs → bs ≡ encode_utf8 c ++ rest
    → more ≡ rows ++ char_row at (at + len_utf8 c) c ∷ [] → rows ++ char_rows at (chars bs) ≡ all
    → more ++ char_rows (at + len_utf8 c) (chars rest) ≡ all
one_more at c bs rest rows more all u e is before =
    let left = char_rows (at + len_utf8 c) (chars rest) in
    ap (λ l. l ++ left) is ∙ append_assoc rows (char_row at (at + len_utf8 c) c ∷ []) left
    ∙ ap (λ cs. rows ++ char_rows at cs) (sym (chars_past_char bs rest c u e)) ∙ before

-- where no character is left, they are all
pub none_left : (at : ℕ) (bs : List ℕ) (rows all : List UnitRow) → length bs ≡ 0 → rows ++ char_rows at (chars bs) ≡ all → rows ≡ all
none_left at [] rows all e before = sym (append-nil rows) ∙ ap (λ cs. rows ++ char_rows at cs) (sym chars-nil) ∙ before
none_left at (b ∷ bs) rows all e before = absurd (omega (arith, e))
