use Rattle.ras_c.proofs.ReadLemmas.{message_fits}
use Rattle.ras_c.proofs.read.error_rows.Goals as goal

pub error_row-requires : goal.error_row-requires
error_row-requires c = message_fits c.args.errors.now c.loop-error.error-index _ c.error-item.result c.loop-error-test.true c.error-item.is c.requires
