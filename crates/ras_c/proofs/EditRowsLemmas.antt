-- A row that is not added to an edit.
use Rattle.std.proofs.Common.{◌≡◌, ℕ, ◌-◌, ◌<◌, List, length, take, drop, get_or, inl, inr, ap, sym, ◌∙◌, subst, arith}
use Rattle.std.proofs.Math.Seq.{drop-cons}
use Rattle.std.specs.List.{slice_range}
use Rattle.std.specs.Str.{IsCharBoundary}
use Rattle.text_edit.specs.Replacements.{Replacement}
use Rattle.ras_c.specs.declared.edit_rows.EditRow.{EditRow}
use Rattle.ras_c.specs.EditRows.{IsNotAdded, AreNotAdded}

-- so nor are the rows from it on
pub not_from : (es : List Replacement) (rows : List EditRow) (i status : ℕ) (d : EditRow) (bytes insert : List ℕ) → i < length rows → IsCharBoundary bytes (get_or rows i d).insert
    → insert ≡ slice_range bytes 0 (get_or rows i d).insert → IsNotAdded es (get_or rows i d) insert status → AreNotAdded es (drop i rows) bytes status
not_from es rows i status d bytes insert lt boundary is no_row =
    let row = get_or rows i d in
    let all : row.insert - 0 ≡ row.insert = omega arith in
    let front : insert ≡ take row.insert bytes = is ∙ ap (λ n. take n bytes) all in
    subst (λ l. AreNotAdded es l bytes status) (sym (drop-cons rows i d lt)) (inr (inl (boundary, subst (λ t. IsNotAdded es row t status) front no_row)))
