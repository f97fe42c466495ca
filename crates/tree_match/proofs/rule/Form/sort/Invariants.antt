use Rattle.std.proofs.Common.{◌≡◌, drop}
use Rattle.tree_match.specs.Matching.{sort_in}
use Rattle.tree_match.proofs.rule.Form.sort.Given as goal

abbrev pub invariant-loop-part : goal.invariant-loop-part
invariant-loop-part l = sort_in l.number (drop l.part-index l.fn.self.template.items) ≡ sort_in l.number l.fn.self.template.items
