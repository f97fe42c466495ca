use Rattle.std.proofs.Common.{sym, ap, ◌∙◌, arith}
use Rattle.tree_model.specs.Tree.{forest_size}
use Rattle.lossless_tree.specs.Trees.{Siblings}
use Rattle.tree_match.specs.Leads.{lead_of}
use Rattle.tree_match.proofs.LeadLemmas.{led_on, led_here, led_smaller}
use Rattle.tree_match.proofs.lead.lead_of.Goals as goal

pub loop-rest-init : goal.loop-rest-init
loop-rest-init c = ap (λ (s : Siblings). lead_of s.trees) c.all-rest.ensures

pub loop-rest-smaller : goal.loop-rest-smaller
loop-rest-smaller c =
    omega (
      arith,
      ap (λ (s : Siblings). forest_size s.trees) c.inside-rest.ensures,
      led_smaller c.loop-rest.rest (sym c.is_leading.ensures ∙ c.loop-rest-test.true),
    )

pub loop-rest-preserved : goal.loop-rest-preserved
loop-rest-preserved c =
    ap (λ (s : Siblings). lead_of s.trees) c.inside-rest.ensures
    ∙ led_on c.loop-rest.rest (sym c.is_leading.ensures ∙ c.loop-rest-test.true)
    ∙ c.loop-rest.invariant

pub returns : goal.returns
returns c =
    c.lead_here.ensures
    ∙ led_here c.loop-rest.rest (sym c.is_leading.ensures ∙ c.loop-rest-test.false)
    ∙ c.loop-rest.invariant
