-- A text has one parse by a front end in an edition.
use Rattle.std.proofs.Common.{◌≡◌, ◌∙◌, List, ap, ap₂, sym}
use Rattle.tree_model.specs.Tree.{Tree, Forest, nil, cons}
use Rattle.tree_model.proofs.Balance.{builds_one}
use Rattle.ras_front_end.specs.ErrorModel.{ErrorModel}
use Rattle.document_laws.specs.Exactly.{TextsHaveOneParse}

first_tree : Tree → Forest → Tree
first_tree other nil = other
first_tree other (cons t f) = t

pub one_parse : TextsHaveOneParse
unfolding first_tree
one_parse front edition s p q m n was now =
    let forest : cons p.tree nil ≡ cons q.tree nil = builds_one was.is_parse.builds.0 now.is_parse.builds.0 in
    let tree : p.tree ≡ q.tree = ap (first_tree p.tree) forest in
    let errors : p.errors ≡ q.errors = was.is_parse.errors_are ∙ sym now.is_parse.errors_are in
    let parse : p ≡ q = ap₂ (λ (t : Tree) (fs : List ErrorModel). record { tree = t; errors = fs }) tree errors in
    (parse, was.count_is ∙ sym now.count_is)
