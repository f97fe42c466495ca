use Rattle.syntax_kind.specs.KindLaws.{is_same_kind-equal}
use Rattle.tree_rows.proofs.table.search.same_kind.Goals as goal

pub returns : goal.returns
returns c = rw (c.to_raw.ensures, c.to_raw-2.ensures) (is_same_kind-equal c.args.kind c.args.other)
