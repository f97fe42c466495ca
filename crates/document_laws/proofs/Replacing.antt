-- The tree of a text in which a piece was replaced.
use Rattle.std.proofs.Common.{List, ◌++◌, sym, subst}
use Rattle.tree_model.specs.Events.{BuildsNode}
use Rattle.tree_model.specs.Edit.{replace}
use Rattle.ras_front_end.specs.Reading.{FrontStep, events_from}
use Rattle.event_layout.specs.Filled.{laid}
use Rattle.event_layout.specs.Replaced.{piece_of}
use Rattle.event_layout.proofs.Laying.{laid as laid_tree}
use Rattle.document_laws.specs.Replacing.{ReplacedPiecesAreTrees}
use Rattle.document_laws.specs.Steps.{IsBehind}
use Rattle.document_laws.proofs.Taking.{steps_at}

pub replaced_trees : ReplacedPiecesAreTrees
replaced_trees root k attaching g rule a p q c es fs t old new l small cut_old cut_new few_old few_new whole own other =
    let old_steps : List FrontStep = (laid k attaching (piece_of k p es)).steps in
    let new_steps : List FrontStep = (laid k attaching (piece_of k q fs)).steps in
    let w : IsBehind a.text c.text l.before l.behind t old =
    steps_at a.text p.text c.text l.before old_steps l.behind t old (l.was.bytes small) (laid_tree k attaching p.text p.tokens (piece_of k p es).events few_old cut_old).cuts
    (subst (λ (xs : List FrontStep). BuildsNode (events_from xs (a.text ++ (p.text ++ c.text))) t) l.was.steps whole) own in
    record {
      place = w.place;
      is_place = w.is_place;
      is_old = w.is_old;
      starts = w.starts;
      is_new =
          subst (λ (xs : List FrontStep). BuildsNode (events_from xs (a.text ++ (q.text ++ c.text))) (replace t w.place new)) (sym l.now.steps)
          (w.replaced q.text new_steps new (laid_tree k attaching q.text q.tokens (piece_of k q fs).events few_new cut_new).cuts other);
    }
