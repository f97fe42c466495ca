-- Equal cursors are at one row.
use Rattle.std.proofs.Common.{◌≡◌, ℕ, ◌<◌, Bool, true, false, sym, ap, subst, ◌∙◌}
use Rattle.tree_model.specs.Tree.{Tree, size}
use Rattle.tree_model.specs.Rows.{place_at}
use Rattle.tree_model.specs.Cursor.{cursor_at}
use Rattle.tree_model.proofs.StepLemmas.{same_place_same_row}

pub same_rows : (t u : Tree) (n m : ℕ) → n < size t → m < size u → cursor_at t n ≡ cursor_at u m → n ≡ m
same_rows t u n m h k e =
    let trees : t ≡ u = ap (λ c. c.tree) e in
    let places : place_at t n ≡ place_at u m = ap (λ c. c.place) e in
    same_place_same_row t n m h (subst (λ x. m < size x) (sym trees) k) (places ∙ ap (λ x. place_at x m) (sym trees))

pub not_both : (b : Bool) → b ≡ true → b ≡ false → ⊥
not_both b p q = (let no : true ≡ false = sym p ∙ q in cc)
