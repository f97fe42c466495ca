-- The text of the tree without a pair.
use Rattle.std.proofs.Common.{subst}
use Rattle.std.specs.Prelude.{Option}
use Rattle.tree_model.specs.Cursor.{Cursor}
use Rattle.syntax_make.specs.Replaced.{IsBareOrNot}
use Rattle.syntax_make.proofs.PairLemmas.{put_bare}
use Rattle.syntax_make.proofs.replace.replace_expr.Goals as goal

pub returns-in-Some-clause-text : goal.returns-in-Some-clause-text
returns-in-Some-clause-text g c =
    let front = g.F.FrontEnd.answers c.args.front.now in
    put_bare front c.args.edition c.args.old.now c.args.new.now c.in-Some.root c.placed.ensures.placed
    (subst (λ (o : Option Cursor). IsBareOrNot front c.args.edition c.args.old.now c.args.new.now o) c.in-Some.is c.in_ok-root.ensures.some)
