use Rattle.std.proofs.Common.{rules}
use Rattle.lossless_tree.proofs.over.tree_of_rows.Goals as goal

pub root-requires : goal.root-requires
root-requires c = (c.in_ok-table.ensures c.requires.made.steps c.requires.made.made c.requires.made.one_tree).1

pub returns : goal.returns
returns c = λ steps made one_tree.
    let builds = c.in_ok-table.ensures steps made one_tree in
    let root = c.in_ok-root.ensures in
    search rules
