use Rattle.std.proofs.Common.{Some, ◌∙◌, arith}
use Rattle.std.proofs.lemmas.Str.Pattern.{split_once_first}
use Rattle.rust_report.proofs.TextsLemmas.{first_of_cut}
use Rattle.rust_report.proofs.texts.first_line.Goals as goal

pub returns-in-Some : goal.returns-in-Some
returns-in-Some c =
    let cut = split_once_first 10 c.args.text.now (Some (c.in-Some.line, c.in-Some.field-0-1)) c.in-Some.ensures.cases (omega arith) in
    c.without_return.ensures ∙ first_of_cut c.args.text.now c.in-Some.line.now cut.0 cut.1
