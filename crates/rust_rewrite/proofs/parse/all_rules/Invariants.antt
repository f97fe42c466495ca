use Rattle.std.proofs.Common.{◌≡◌, ◌+◌, length, drop, map, count_by}
use Rattle.rust_rewrite.specs.Rules.{has_rule, rule_lines}
use Rattle.rust_rewrite.proofs.parse.all_rules.Given as goal

abbrev pub invariant-loop-line : goal.invariant-loop-line
invariant-loop-line g l =
    length l.rules.items + count_by has_rule (map (λ line. line.now) (drop l.line-index l.line-items)) ≡ rule_lines l.text
