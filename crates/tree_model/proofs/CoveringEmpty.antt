-- What covers an empty range below a row of which no child holds it.
use Rattle.std.proofs.Common.{◌≡◌, suc, ◌<◌, refl, arith}
use Rattle.tree_model.specs.Tree.{Tree, node, token, nil, cons, size, forest_size, forest_of_children, child_count}

-- ---- the last of the last

pub size_of_children : (t : Tree) → 1 < size t → (size t ≡ suc (forest_size (forest_of_children t))) × (0 < child_count (forest_of_children t))
size_of_children (token k x) h = absurd (omega arith)
size_of_children (node k nil) h = absurd (omega arith)
size_of_children (node k (cons u r)) h = (refl, omega arith)

-- ---- down to first children

-- ---- the row before a child
