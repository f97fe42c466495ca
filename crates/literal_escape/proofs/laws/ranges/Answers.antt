use Rattle.literal_escape.proofs.Ranges as lemmas
use Rattle.literal_escape.proofs.laws.ranges.Goals as goal

pub returns : goal.returns
returns c mode content pieces h = lemmas.ranges mode content pieces h
