use Rattle.std.proofs.Common.{◌+◌, List, drop, subst, arith}
use Rattle.tree_match.specs.declared.rule.Form.{Form}
use Rattle.tree_match.specs.Roots.{HaveForms}
use Rattle.tree_match.proofs.PlaceLemmas.{drop_item, drop_none}
use Rattle.tree_match.proofs.RootLemmas.{no_rules, one_rule, all_rules}
use Rattle.tree_match.proofs.roots.kinds_of.Goals as goal

pub loop-rule-preserved : goal.loop-rule-preserved
loop-rule-preserved c =
    one_rule (drop c.loop-rule.rule-index c.args.rules.now) (drop (c.loop-rule.rule-index + 1) c.args.rules.now) c.args.rules.now
    c.rule-item.result c.loop-rule.kinds.items c.add_forms.new.kinds.items c.loop-rule.invariant
    (drop_item c.args.rules.now c.loop-rule.rule-index c.rule-item.result c.loop-rule-test.true c.rule-item.is)
    (subst (λ (fs : List Form). HaveForms fs c.loop-rule.kinds.items c.add_forms.new.kinds.items) c.deref.ensures.value c.in_ok-add_forms.ensures)

pub loop-rule-init : goal.loop-rule-init
loop-rule-init c = no_rules c.args.rules.now _

pub returns : goal.returns
returns c =
    all_rules (drop c.loop-rule.rule-index c.args.rules.now) c.args.rules.now
    c.loop-rule.kinds.items c.loop-rule.invariant
    (drop_none c.args.rules.now c.loop-rule.rule-index (omega (arith, c.loop-rule-test.false)))
