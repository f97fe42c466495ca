use Rattle.event_layout.proofs.Amid.{walked_amid}
use Rattle.event_layout.proofs.laws.parts_are_laid_alike.Goals as goal

pub returns : goal.returns
returns c = λ text whole attaching a os s inside room fits stay. walked_amid text whole attaching a inside room os s fits stay
