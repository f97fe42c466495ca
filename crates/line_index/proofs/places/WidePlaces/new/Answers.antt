use Rattle.line_index.proofs.WideLemmas.{wide_start}
use Rattle.line_index.proofs.places.WidePlaces.new.Goals as goal

pub invariant_of-result : goal.invariant_of-result
invariant_of-result c = wide_start c.args.encoding c.args.index c.is_utf8.ensures
