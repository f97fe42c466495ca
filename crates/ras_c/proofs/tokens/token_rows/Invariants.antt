use Rattle.std.proofs.Common.{◌≡◌, take, map}
use Rattle.ras_c.specs.Tokens.{token_row}
use Rattle.ras_c.proofs.tokens.token_rows.Given as goal

abbrev pub invariant-loop-token : goal.invariant-loop-token
invariant-loop-token l = l.rows.items ≡ map token_row (take l.token-index l.tokens)
