use Rattle.std.proofs.Common.{drop}
use Rattle.tree_match.proofs.RootLemmas.{Adding}
use Rattle.tree_match.proofs.roots.add_forms.Given as goal

abbrev pub invariant-loop-form : goal.invariant-loop-form
invariant-loop-form l = Adding (drop l.form-index l.forms) l.fn.forms l.fn.kinds.items l.kinds.items
