use Rattle.std.proofs.Common.{◌≡◌, ◌≤◌, drop, map}
use Rattle.ras_front_end.specs.Balanced.{open_after}
use Rattle.token_layout.specs.declared.span.Token.{Token}
use Rattle.token_layout.proofs.balanced.balances.Given as goal

abbrev pub invariant-loop-token : goal.invariant-loop-token
invariant-loop-token l = record { same : open_after l.open (map (λ (t : Token). t.kind) (drop l.token-index l.tokens)) ≡ open_after 0 (map (λ (t : Token). t.kind) l.tokens); few : l.open ≤ l.token-index }
