use Rattle.std.proofs.Common.{◌∙◌, inr, sym, ap}
use Rattle.std.specs.Prelude.{Some, string_bytes}
use Rattle.std.proofs.lemmas.Result.{err_from_is_err_and}
use Rattle.tree_model.specs.Events.{leaf}
use Rattle.syntax_tool.proofs.Cuts.{some_bytes, no_bytes}
use Rattle.syntax_tool.proofs.LineLemmas.{not_a_token, token_refused, token_read, kind_not_read}
use Rattle.syntax_tool.proofs.lines.add_token.Goals as goal

pub returns-then-is_empty-clause-err : goal.returns-then-is_empty-clause-err
returns-then-is_empty-clause-err c = inr (not_a_token c.args.rest.now c.cut.result.0.now c.cut.result.1.now c.cut.ensures (no_bytes c.cut.result.0.now c.is_empty.result c.if-is_empty.true c.is_empty.ensures))

pub returns-in_err-unescape-clause-err : goal.returns-in_err-unescape-clause-err
returns-in_err-unescape-clause-err c =
    let p = err_from_is_err_and c.from_residual.result c.from_residual.ensures.1 in
    rw (p.1, p.2) (token_refused c.args.rest.now c.cut.result.0.now c.cut.result.1.now c.in_err-unescape.field-0.0 c.cut.ensures c.in_err-unescape.ensures.err)

pub returns-in_err-kind-clause-err : goal.returns-in_err-kind-clause-err
returns-in_err-kind-clause-err c =
    let p = err_from_is_err_and c.from_residual-in_err-kind.result c.from_residual-in_err-kind.ensures.1 in
    rw (p.1, p.2, c.in_err-kind.ensures.err.0)
    (inr (kind_not_read c.args.rest.now c.cut.result.0.now c.cut.result.1.now (string_bytes c.unescape.new.out) c.cut.ensures (some_bytes c.cut.result.0.now c.is_empty.result c.if-is_empty.false c.is_empty.ensures) c.in_ok-unescape.ensures.ok c.in_err-kind.ensures.err.1))

pub returns-clause-ok : goal.returns-clause-ok
returns-clause-ok c = (
  leaf c.in_ok-kind.kind c.as_str.result.now,
  token_read c.args.rest.now c.cut.result.0.now c.cut.result.1.now c.as_str.result.now c.in_ok-kind.kind c.cut.ensures (some_bytes c.cut.result.0.now c.is_empty.result c.if-is_empty.false c.is_empty.ensures)
      (c.in_ok-unescape.ensures.ok ∙ ap Some (sym c.as_str.ensures.value)) c.in_ok-kind.ensures.ok.0 c.in_ok-kind.ensures.ok.1,
  c.in_ok-token.ensures.ok,
)
