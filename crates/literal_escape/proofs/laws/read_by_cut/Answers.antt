use Rattle.literal_escape.proofs.Within as lemmas
use Rattle.literal_escape.proofs.laws.read_by_cut.Goals as goal

pub returns : goal.returns
returns c mode content pieces h = lemmas.read_by_cut mode content pieces h
