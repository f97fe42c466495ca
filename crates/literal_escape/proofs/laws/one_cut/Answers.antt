use Rattle.literal_escape.proofs.OneCut as cuts
use Rattle.literal_escape.proofs.laws.one_cut.Goals as goal

pub returns : goal.returns
returns c mode content = cuts.one_cut mode content
