-- Where places end.
use Rattle.std.proofs.Common.{[], ◌++◌, length, ap, arith, length-append}
use Rattle.tree_model.specs.Tree.{text, subtree}
use Rattle.tree_model.specs.Edit.{text_before, text_behind, PlacesEndWithin, RootIsPlace}
use Rattle.tree_model.proofs.EditLaws.{text_around}
use Rattle.tree_model.proofs.PlaceLemmas.{places_are_reached}

pub places_end_within : PlacesEndWithin
places_end_within t p h =
    let w = text_around t p h in
    omega (arith, w.1, ap length w.0, length-append (text_before t p) (text (subtree t p) ++ text_behind t p), length-append (text (subtree t p)) (text_behind t p))

pub root_is_place : RootIsPlace
root_is_place t = (places_are_reached t []).1 tt
