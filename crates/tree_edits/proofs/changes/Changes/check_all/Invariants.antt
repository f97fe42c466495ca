use Rattle.std.proofs.Common.{drop}
use Rattle.tree_model.specs.Tree.{size}
use Rattle.tree_edits.specs.declared.error.ChangeError.{ChangeError}
use Rattle.tree_edits.specs.Run.{AreBelow, AreTaken, IsFirstRefused}
use Rattle.tree_edits.proofs.changes.Changes.check_all.Given as goal

abbrev pub invariant-loop-row : goal.invariant-loop-row
invariant-loop-row l = record {
  below : AreBelow (size l.self.tree) (drop l.row-index l.rows);
  taken : AreTaken l.self (drop l.row-index l.rows) → AreTaken l.self l.rows;
  refused : (e : ChangeError) → IsFirstRefused l.self (drop l.row-index l.rows) e → IsFirstRefused l.self l.rows e;
}
