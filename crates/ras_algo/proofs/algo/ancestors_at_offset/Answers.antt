use Rattle.std.proofs.Common.{◌∙◌, List, sym, ap}
use Rattle.std.specs.Prelude.{Option, None}
use Rattle.tree_model.specs.Cursor.{Cursor, ancestors_from, parent_of}
use Rattle.lossless_tree.specs.TokenAtOffset.{found_tokens}
use Rattle.ras_algo.specs.Algo.{merged, merged_above}
use Rattle.ras_algo.proofs.Merging.{merged-nothing}
use Rattle.ras_algo.proofs.algo.ancestors_at_offset.Goals as goal
use Rattle.ras_algo.proofs.algo.ancestors_at_offset.Goals.{in-None, in-Single, in-Between}

chains : Option Cursor × Option Cursor → List Cursor
chains p = merged (ancestors_from p.0) (ancestors_from p.1)

pub returns : goal.returns
unfolding chains
returns c =
    elim c.match-token_at_offset.branch [
      | in-None w ↦ ap chains w.left-is ∙ ap merged_above (sym (ap found_tokens w.in-None.is) ∙ c.token_at_offset.ensures)
      | in-Single w ↦
          ap chains w.left-is ∙ ap (λ p. chains (p, None)) w.parent.ensures
          ∙ ap merged_above (sym (ap found_tokens w.in-Single.is) ∙ c.token_at_offset.ensures)
      | in-Between w ↦
          ap chains w.left-is ∙ ap (λ p. chains (p, w.parent-in-Between-2.result)) w.parent-in-Between.ensures
          ∙ ap (λ p. chains (parent_of w.in-Between.left, p)) w.parent-in-Between-2.ensures
          ∙ ap (merged (ancestors_from (parent_of w.in-Between.left))) (sym (merged-nothing (ancestors_from (parent_of w.in-Between.right))))
          ∙ ap merged_above (sym (ap found_tokens w.in-Between.is) ∙ c.token_at_offset.ensures)
    ]
