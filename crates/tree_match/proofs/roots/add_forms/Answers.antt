use Rattle.std.proofs.Common.{◌+◌, drop, arith}
use Rattle.tree_match.proofs.PlaceLemmas.{drop_item, drop_none}
use Rattle.tree_match.proofs.RootLemmas.{begun, added, ended}
use Rattle.tree_match.proofs.roots.add_forms.Goals as goal

pub loop-form-preserved : goal.loop-form-preserved
loop-form-preserved c =
    added (drop c.loop-form.form-index c.args.forms.now) (drop (c.loop-form.form-index + 1) c.args.forms.now) c.args.forms.now
    c.form-item.result c.args.kinds.now.items c.loop-form.kinds.items c.add.new.kinds.items c.loop-form.invariant
    (drop_item c.args.forms.now c.loop-form.form-index c.form-item.result c.loop-form-test.true c.form-item.is) c.in_ok-add.ensures

pub loop-form-init : goal.loop-form-init
loop-form-init c = begun c.args.forms.now c.args.kinds.now.items

pub returns : goal.returns
returns c =
    ended (drop c.loop-form.form-index c.args.forms.now) c.args.forms.now c.args.kinds.now.items
    c.loop-form.kinds.items c.loop-form.invariant
    (drop_none c.args.forms.now c.loop-form.form-index (omega (arith, c.loop-form-test.false)))
