-- Steps of the loops over siblings.
use Rattle.std.proofs.Common.{◌≡◌, ◌+◌, Bool, true, false, length, refl, sym, ◌∙◌}
use Rattle.tree_model.specs.Tree.{node, token, Forest, nil, cons, text}
use Rattle.lossless_tree.specs.Trees.{Siblings, is_done, first_of, rest_of, behind_first}
use Rattle.operator_trees.specs.Forms.{form_of}
use Rattle.operator_powers.specs.Rules.{opening_start, is_list, is_arguments}

pub opening_step : (s : Siblings) (x : Bool) → is_done s.trees ≡ false → x ≡ is_list (first_of s.trees) → x ≡ false → opening_start (behind_first s).trees (behind_first s).start ≡ opening_start s.trees s.start
opening_step s x h is n = by s.trees h (sym is ∙ n)
  where
    by : (f : Forest) → is_done f ≡ false → is_list (first_of f) ≡ false → opening_start (rest_of f) (s.start + length (text (first_of f))) ≡ opening_start f s.start
    by nil h g = absurd (let bad : true ≡ false = h in cc)
    by (cons (token k t) r) h g = refl
    by (cons (node k c) r) h g = rw (let e : is_arguments (form_of k) ≡ false = g in e) refl
