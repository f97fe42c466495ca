use Rattle.document_laws.proofs.Replacing.{replaced_trees}
use Rattle.document_laws.proofs.laws.replaced_pieces_are_trees.Goals as goal

pub returns : goal.returns
returns x root k attaching g rule a p q c es fs t old new l bytes cut_old cut_new few_old few_new whole own other =
    replaced_trees root k attaching g rule a p q c es fs t old new l bytes cut_old cut_new few_old few_new whole own other
