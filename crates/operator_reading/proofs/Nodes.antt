-- What code reads off a node, said of the tree.
use Rattle.std.proofs.Common.{◌≡◌, ℕ, ◌+◌, Bool, true, false, ◌&&◌, not, cond, Some, length, refl}
use Rattle.tree_model.specs.Tree.{Tree, node, token, Forest, nil, cons, kind_of, text, forest_of_children, IsNode}
use Rattle.operator_trees.specs.declared.form.Form.{Form}
use Rattle.operator_trees.specs.declared.form.Form.TheVariants as form
use Rattle.operator_trees.specs.Forms.{form_of}
use Rattle.operator_trees.specs.Shown.{is_right, means}
use Rattle.operator_trees.specs.Shape.{assumed, shape}
use Rattle.operator_powers.specs.declared.look.Wanted.{Wanted}
use Rattle.operator_powers.specs.declared.look.Wanted.TheVariants as want
use Rattle.operator_powers.specs.Rules.{token_start, wants, powers_or, form_powers, is_term_form}
use Rattle.operator_reading.specs.Reads.{node_fits, asks_from}

pub shape_told : (u : Tree) → IsNode u → is_right (means (form_of (kind_of u)) (assumed (forest_of_children u))) ≡ is_right (shape u)
shape_told (node k c) h = refl
shape_told (token k t) h = absurd h

pub fits_told : (u : Tree) → IsNode u → not (is_term_form (form_of (kind_of u)) && asks_from (form_of (kind_of u)) (form_powers (form_of (kind_of u)) (forest_of_children u) 0) true (forest_of_children u)) ≡ node_fits u
fits_told (node k c) h = refl
fits_told (token k t) h = absurd h

-- the powers don't depend on where the children start
kind_found : (w : Wanted) (c : Forest) (a b : ℕ) → powers_or (token_start w c a) ≡ powers_or (token_start w c b)
kind_found w nil a b = refl
kind_found w (cons (token k t) r) a b = by (wants w k) (kind_found w r (a + length t) (b + length t))
  where
    by : (y : Bool) → powers_or (token_start w r (a + length t)) ≡ powers_or (token_start w r (b + length t)) → powers_or (cond y (Some (a, k)) (token_start w r (a + length t))) ≡ powers_or (cond y (Some (b, k)) (token_start w r (b + length t)))
    by true e = refl
    by false e = e
kind_found w (cons (node k c) r) a b = kind_found w r (a + length (text (node k c))) (b + length (text (node k c)))

pub powers_anywhere : (f : Form) (c : Forest) (a b : ℕ) → form_powers f c a ≡ form_powers f c b
powers_anywhere form.Binary c a b = kind_found want.Operator c a b
powers_anywhere _ c a b = refl
