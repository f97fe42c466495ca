-- How many siblings a list takes.
use Rattle.std.proofs.Common.{◌≡◌, ℕ, suc, ◌+◌, false, refl, sym, ap, ◌∙◌, arith}
use Rattle.std.specs.Prelude.{if◌then◌else◌, Option, Some, None, option_map}
use Rattle.tree_model.specs.Tree.{Forest, nil, cons}
use Rattle.tree_match.specs.Lists.{has_more, is_listed, extent}

none_more : (behind : ℕ) (f : Forest) → has_more behind f ≡ false → extent behind f ≡ Some 0
none_more behind nil h = refl
none_more behind (cons t r) h =
    ap (λ x. if x then (if is_listed t then option_map suc (extent behind r) else None) else Some 0) h

-- where there are no more nodes, those that were counted are all
pub counted : (behind count : ℕ) (f : Forest) (e : Option ℕ) → has_more behind f ≡ false
    → option_map (λ n. count + n) (extent behind f) ≡ e → Some count ≡ e
counted behind count f e h i =
    ap Some (let z : count ≡ count + 0 = omega arith in z) ∙ sym (ap (option_map (λ n. count + n)) (none_more behind f h)) ∙ i
