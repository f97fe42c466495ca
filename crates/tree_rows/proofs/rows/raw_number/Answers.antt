use Rattle.std.proofs.Common.{◌∙◌, ap, sym, subst}
use Rattle.syntax_kind.specs.Kinds.{IsKind}
use Rattle.tree_rows.specs.Stored.{kind_numbered}
use Rattle.tree_rows.proofs.Stored.{kind_numbered-kind_raw}
use Rattle.tree_rows.proofs.rows.raw_number.Goals as goal

pub returns-in-Token-clause-kind : goal.returns-in-Token-clause-kind
returns-in-Token-clause-kind c = ap kind_numbered c.to_raw.ensures ∙ kind_numbered-kind_raw c.args.kind (subst IsKind (sym c.in-Token.is) tt)

pub returns-in-Node-clause-kind : goal.returns-in-Node-clause-kind
returns-in-Node-clause-kind c = ap kind_numbered c.to_raw-in-Node.ensures ∙ kind_numbered-kind_raw c.args.kind (subst IsKind (sym c.in-Node.is) tt)
