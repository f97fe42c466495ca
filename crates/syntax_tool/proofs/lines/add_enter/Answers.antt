use Rattle.std.proofs.Common.{inr, refl}
use Rattle.std.proofs.lemmas.Result.{err_from_is_err_and}
use Rattle.tree_model.specs.Events.{enter}
use Rattle.syntax_tool.proofs.LineLemmas.{entered, kind_not_entered}
use Rattle.syntax_tool.proofs.lines.add_enter.Goals as goal

pub returns-in_err-kind-clause-err : goal.returns-in_err-kind-clause-err
returns-in_err-kind-clause-err c =
    let p = err_from_is_err_and c.from_residual.result c.from_residual.ensures.1 in
    rw (p.1, p.2, c.in_err-kind.ensures.err.0) (inr (kind_not_entered c.args.name.now (c.if-not-is_word.ensures.0 refl) c.in_err-kind.ensures.err.1))

pub returns-clause-ok : goal.returns-clause-ok
returns-clause-ok c =
    (enter c.in_ok-kind.kind, entered c.args.name.now c.in_ok-kind.kind (c.if-not-is_word.ensures.0 refl) c.in_ok-kind.ensures.ok.0 c.in_ok-kind.ensures.ok.1, c.in_ok-start_node.ensures.ok)
