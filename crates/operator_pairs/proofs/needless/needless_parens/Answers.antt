use Rattle.std.proofs.Common.{Some, subst}
use Rattle.tree_model.specs.Cursor.{focus}
use Rattle.operator_trees.specs.Shown.{shown}
use Rattle.operator_reading.specs.Reads.{ReadsBack}
use Rattle.operator_pairs.proofs.Found.{reading_pairs, unread_none, unshown_none}
use Rattle.operator_pairs.proofs.needless.needless_parens.Goals as goal

pub returns-in_ok-found-in-Some-true : goal.returns-in_ok-found-in-Some-true
returns-in_ok-found-in-Some-true c =
    reading_pairs c.args.root.now c.in_ok-found-in-Some-true.found.items (subst (λ b. ReadsBack (Some b) (shown (focus c.args.root.now))) c.in-Some-true.field-0-test c.in-Some-true.ensures.reads) c.in_ok-found-in-Some-true.ensures

pub returns-in-Some-false : goal.returns-in-Some-false
returns-in-Some-false c = unread_none c.args.root.now (subst (λ b. ReadsBack (Some b) (shown (focus c.args.root.now))) c.in-Some-false.field-0-test c.in-Some-false.ensures.reads)

pub returns-in-None : goal.returns-in-None
returns-in-None c = unshown_none c.args.root.now c.in-None.ensures.reads
