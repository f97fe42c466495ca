use Rattle.std.proofs.Common.{sym, ap, ◌∙◌, arith}
use Rattle.tree_model.specs.Tree.{forest_size}
use Rattle.lossless_tree.specs.Trees.{Siblings}
use Rattle.tree_match.specs.Bare.{bare}
use Rattle.tree_match.proofs.BareLemmas.{bare_step, bare_stop, held_smaller}
use Rattle.tree_match.proofs.bare.bare.Goals as goal

pub loop-comments-init : goal.loop-comments-init
loop-comments-init c = ap (bare c.args.comments) c.all-inner.ensures

pub loop-comments-smaller : goal.loop-comments-smaller
loop-comments-smaller c =
    omega (
      arith,
      ap (λ (s : Siblings). forest_size s.trees) c.held-inner.ensures,
      held_smaller c.args.comments c.loop-comments.inner
          (sym c.is_pair.ensures ∙ c.loop-comments-test.true),
    )

pub loop-comments-preserved : goal.loop-comments-preserved
loop-comments-preserved c =
    ap (bare c.args.comments) c.held-inner.ensures
    ∙ bare_step c.args.comments c.loop-comments.inner
    (sym c.is_pair.ensures ∙ c.loop-comments-test.true)
    ∙ c.loop-comments.invariant

pub returns : goal.returns
returns c =
    bare_stop c.args.comments c.loop-comments.inner
    (sym c.is_pair.ensures ∙ c.loop-comments-test.false)
    ∙ c.loop-comments.invariant
