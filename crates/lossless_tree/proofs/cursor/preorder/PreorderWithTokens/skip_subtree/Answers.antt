use Rattle.std.proofs.Common.{◌∙◌, ap}
use Rattle.lossless_tree.specs.Skip.{from_leave}
use Rattle.lossless_tree.proofs.SkipLemmas.{skips}
use Rattle.lossless_tree.proofs.cursor.preorder.PreorderWithTokens.skip_subtree.Goals as goal

-- what the skip leaves, at the row that is innermost
pub row_behind-self-inside-requires : goal.row_behind-self-inside-requires
row_behind-self-inside-requires c =
    rw c.deref.ensures (skips c.self.inside.table.value c.self.inside.start c.self.inside.next c.self.inside.innermost c.unwrap_or-row.result c.unwrap_or-row.ensures c.self.invariant).0

pub invariant_of-self : goal.invariant_of-self
invariant_of-self c =
    let s = skips c.self.inside.table.value c.self.inside.start c.self.inside.next c.self.inside.innermost c.unwrap_or-row.result c.unwrap_or-row.ensures c.self.invariant in
    rw (c.row_behind-self-inside.ensures, c.deref.ensures) s.2

pub returns : goal.returns
returns c =
    let s = skips c.self.inside.table.value c.self.inside.start c.self.inside.next c.self.inside.innermost c.unwrap_or-row.result c.unwrap_or-row.ensures c.self.invariant in
    rw (c.row_behind-self-inside.ensures, c.deref.ensures) (s.1 ∙ ap (from_leave 0) c.self.view_is)
