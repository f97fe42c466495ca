use Rattle.document_laws.proofs.Near.{runs_leave}
use Rattle.document_laws.proofs.laws.runs_leave_their_tokens.Goals as goal

pub returns : goal.returns
returns c n root g rule ss ts text s short sights there word = runs_leave n root g rule ss ts text s short sights there word
