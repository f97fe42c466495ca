use Rattle.std.proofs.Common.{◌∙◌, sym, ap, length, arith}
use Rattle.std.specs.Prelude.{option_map}
use Rattle.tree_model.specs.Cursor.{ancestors_from}
use Rattle.ras_node_ext.specs.Path.{outward}
use Rattle.ras_node_ext.proofs.PathChains.{outside, no_segment, one}
use Rattle.ras_node_ext.proofs.segments.SegmentsIterator.next.Goals as goal

pub returns-then-not-is_path_within-clause-steps : goal.returns-then-not-is_path_within-clause-steps
returns-then-not-is_path_within-clause-steps g c = (
  outside g.P.AstNode.casts g.S.AstNode.casts c.self.inside.range _ _ c.in_ok-path.path c.self.view_is (sym c.take.ensures.value ∙ c.in_ok-path.was) c.is_path_within.result c.is_path_within.ensures c.if-not-is_path_within.true,
  ap (λ o. outward g.P.AstNode.casts g.S.AstNode.casts c.self.inside.range (ancestors_from o)) c.take.ensures.after,
)

pub returns-in_err-segment-clause-steps : goal.returns-in_err-segment-clause-steps
returns-in_err-segment-clause-steps g c =
    rw c.from_residual-in_err-segment.ensures (
      no_segment g.P.AstNode.casts g.S.AstNode.casts c.self.inside.range _ _ c.in_ok-path.path c.self.view_is (sym c.take.ensures.value ∙ c.in_ok-path.was) c.is_path_within.result c.is_path_within.ensures c.if-not-is_path_within.false (ap (option_map g.S.AstNode.node) (sym c.in_err-segment.was) ∙ c.child.ensures),
      ap (λ o. outward g.P.AstNode.casts g.S.AstNode.casts c.self.inside.range (ancestors_from o)) c.take.ensures.after,
    )

pub returns-clause-steps : goal.returns-clause-steps
returns-clause-steps g c = one g.P.AstNode.casts g.S.AstNode.casts c.self.inside.range _ _ c.in_ok-path.path c.self.view_is (sym c.take.ensures.value ∙ c.in_ok-path.was) (g.S.AstNode.node c.in_ok-segment.segment) c.parent.result c.is_path_within.result c.parent.ensures c.is_path_within.ensures c.if-not-is_path_within.false (ap (option_map g.S.AstNode.node) (sym c.in_ok-segment.was) ∙ c.child.ensures)

pub returns-clause-goes : goal.returns-clause-goes
returns-clause-goes g c = record {
  on = λ _. (tt, tt, omega (arith, ap length (one g.P.AstNode.casts g.S.AstNode.casts c.self.inside.range _ _ c.in_ok-path.path c.self.view_is (sym c.take.ensures.value ∙ c.in_ok-path.was) (g.S.AstNode.node c.in_ok-segment.segment) c.parent.result c.is_path_within.result c.parent.ensures c.is_path_within.ensures c.if-not-is_path_within.false (ap (option_map g.S.AstNode.node) (sym c.in_ok-segment.was) ∙ c.child.ensures))));
  keeps = tt;
  rests = λ _. tt;
}
