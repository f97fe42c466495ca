use Rattle.std.proofs.Common.{arith}
use Rattle.event_layout.proofs.Moves.{lead_stops, lead_goes, lead_ends}
use Rattle.event_layout.proofs.trivia.lead.Goals as goal

pub returns-then-not-is_trivia : goal.returns-then-not-is_trivia
returns-then-not-is_trivia c =
    let e = lead_stops c.args.tokens.now c.loop-i.i c.index-tokens-i.result (omega arith) c.index-tokens-i.is cc in
    omega (arith, e)

pub loop-i-preserved : goal.loop-i-preserved
loop-i-preserved c =
    let e = lead_goes c.args.tokens.now c.loop-i.i c.index-tokens-i.result (omega arith) c.index-tokens-i.is cc in
    omega (arith, e)

pub returns : goal.returns
returns c =
    let e = lead_ends c.args.tokens.now c.loop-i.i (omega arith) in
    omega (arith, e)
