use Rattle.std.proofs.Common.{◌∙◌, sym, ap, arith}
use Rattle.std.specs.Prelude.{option_map}
use Rattle.tree_match.specs.Matching.{first_from}
use Rattle.tree_match.proofs.AmongLemmas.{found_rule}
use Rattle.tree_match.proofs.PlaceLemmas.{drop_item, drop_none}
use Rattle.tree_match.proofs.SignLemmas.{next_rule}
use Rattle.tree_match.proofs.matching.first_rule.Goals as goal

pub loop-number-preserved : goal.loop-number-preserved
loop-number-preserved c = (
  next_rule c.args.rules.now c.loop-number.number c.index-rules-number.result c.args.kind c.args.inside.now _
      (drop_item c.args.rules.now c.loop-number.number c.index-rules-number.result c.loop-number-test.true c.index-rules-number.is)
      (sym (ap (option_map (λ f. (f, c.match_rule.new.values.items))) c.in_default.is) ∙ c.in_ok-form.ensures)
      c.loop-number.invariant.0,
  omega (arith, c.loop-number-test.true),
)

pub returns-in-Some : goal.returns-in-Some
returns-in-Some c =
    found_rule c.args.rules.now c.loop-number.number c.index-rules-number.result _ _ c.args.kind
    c.args.inside.now _
    (drop_item c.args.rules.now c.loop-number.number c.index-rules-number.result
    c.loop-number-test.true c.index-rules-number.is)
    (sym (ap (option_map (λ f. (f, c.match_rule.new.values.items))) c.in-Some.is)
    ∙ c.in_ok-form.ensures)
    c.loop-number.invariant.0

pub returns : goal.returns
returns c =
    ap (λ rs. first_from c.loop-number.number rs c.args.kind c.args.inside.now)
    (sym (drop_none c.args.rules.now c.loop-number.number
    (omega (arith, c.loop-number-test.false))))
    ∙ c.loop-number.invariant.0
