use Rattle.std.proofs.Common.{◌≡◌, ◌-◌, ◌≤◌, length, drop}
use Rattle.tree_match.specs.Matching.{form_from, match_rule}
use Rattle.tree_match.proofs.matching.first_form.Given as goal

abbrev pub invariant-loop-number : goal.invariant-loop-number
invariant-loop-number l =
    (form_from l.number l.rule.holes.items (drop l.number l.rule.forms.items) l.kind l.inside ≡ match_rule l.rule l.kind l.inside)
    × (l.number ≤ length l.rule.forms.items)

abbrev pub decreases-loop-number : goal.decreases-loop-number
decreases-loop-number l = length l.rule.forms.items - l.number
