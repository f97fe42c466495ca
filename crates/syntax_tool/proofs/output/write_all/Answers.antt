use Rattle.std.proofs.Common.{◌++◌, take, refl}
use Rattle.syntax_tool.proofs.OutputLemmas.{appends-appends, appends-keeps, cut_again, front_written, some_left, nothing_more}
use Rattle.syntax_tool.proofs.output.write_all.Goals as goal

pub loop-rest-preserved : goal.loop-rest-preserved
loop-rest-preserved g c = (
  c.loop-rest.invariant.0 ++ take c.in-Ok.count c.loop-rest.rest.now,
  cut_again c.args.bytes.now c.loop-rest.invariant.0 c.loop-rest.rest.now c.in-Ok.count _ refl c.loop-rest.invariant.1,
  appends-appends _ _ _ c.loop-rest.invariant.0 (take c.in-Ok.count c.loop-rest.rest.now) c.loop-rest.invariant.2 c.in-Ok.ensures.bytes,
)

pub returns-in-Ok-eq0 : goal.returns-in-Ok-eq0
returns-in-Ok-eq0 g c =
    front_written _ _ c.args.bytes.now c.loop-rest.invariant.0 c.loop-rest.rest.now c.loop-rest.invariant.1 (some_left _ c.loop-rest-test.ensures)
    (nothing_more _ _ _ c.loop-rest.invariant.0 c.loop-rest.rest.now c.in-Ok-eq0.field-0 c.in-Ok-eq0.field-0-test c.loop-rest.invariant.2 c.in-Ok-eq0.ensures.bytes)

pub returns-in-Err : goal.returns-in-Err
returns-in-Err g c =
    front_written _ _ c.args.bytes.now c.loop-rest.invariant.0 c.loop-rest.rest.now c.loop-rest.invariant.1 (some_left _ c.loop-rest-test.ensures) (appends-keeps _ _ _ c.loop-rest.invariant.0 c.loop-rest.invariant.2 c.in-Err.ensures.bytes)
