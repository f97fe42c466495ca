use Rattle.std.proofs.Common.{◌≡◌, drop, ◌++◌}
use Rattle.grammar_front.specs.Sights.{sights_by}
use Rattle.grammar_front.proofs.sights.sights_by_kind.Given as goal

-- the sights of the tokens that are left come after those that are there
abbrev pub invariant-loop-token : goal.invariant-loop-token
invariant-loop-token l = l.sights.items ++ sights_by l.numbers (drop l.token-index l.tokens) ≡ sights_by l.numbers l.tokens
