use Rattle.std.proofs.Common.{◌∙◌, sym, ap}
use Rattle.std.specs.Prelude.{string_bytes, Some}
use Rattle.syntax_tool.proofs.Asked.{answered}
use Rattle.syntax_tool.proofs.reparse.lines_answer.Goals as goal

pub returns : goal.returns
returns c =
    answered c.args.first.now c.args.second.now c.args.whole.now c.cut.result.0.now c.cut.result.1.now c.in-Some-Some.start c.in-Some-Some.end c.as_str.result.now
    c.cut.ensures (sym c.number.ensures ∙ c.in-Some-Some.is-0) (sym c.number-2.ensures ∙ c.in-Some-Some.is-1) (c.in_ok-unescape.ensures.ok ∙ ap Some (sym c.as_str.ensures.value))
    string_bytes c.range_answer.result c.range_answer.ensures
