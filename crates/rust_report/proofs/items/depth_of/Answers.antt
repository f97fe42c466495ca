use Rattle.std.proofs.Common.{◌≡◌, ◌+◌, ◌-◌, ◌^◌, min, length, [], ap, sym, ◌∙◌, arith}
use Rattle.std.proofs.Math.Nat.{min-eq_left}
use Rattle.std.specs.List.{filter}
use Rattle.ras_node.specs.Nodes.{has_kind_in}
use Rattle.rust_report.specs.Outlines.{is_listed}
use Rattle.rust_report.proofs.items.depth_of.Goals as goal

pub returns : goal.returns
returns c =
    let ended : c.loop-node.above ≡ [] = c.in_default.ensures.steps.0 in
    let plain : c.loop-node.depth + 0 ≡ c.loop-node.depth = omega arith in
    sym (min-eq_left c.loop-node.invariant.3)
    ∙ ap (λ n. min n (2 ^ 64 - 1)) (sym plain)
    ∙ ap (λ l. min (c.loop-node.depth + length (filter (has_kind_in is_listed) l)) (2 ^ 64 - 1)) (sym ended)
    ∙ c.loop-node.invariant.2
