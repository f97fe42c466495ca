use Rattle.document_laws.proofs.Editing.{edited_parsed}
use Rattle.document_laws.proofs.laws.edited_trees_are_parsed.Goals as goal

pub returns : goal.returns
returns c e a w q rest ts us k r was now es fs t i p l first f piece parts around chosen x is y other few short built at sub some starts new =
    edited_parsed e a w q rest ts us k r was now es fs t i p l first f piece parts around chosen x is y other few short built at sub some starts new
