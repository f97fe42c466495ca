use Rattle.std.proofs.Common.{arith}
use Rattle.std.proofs.lemmas.Str.Pattern.{contains_char}
use Rattle.syntax_tool.proofs.Cuts.{word_by_tests, some_bytes}
use Rattle.syntax_tool.proofs.lines.is_word.Goals as goal

pub returns-then-not-is_empty : goal.returns-then-not-is_empty
returns-then-not-is_empty c =
    let p = contains_char 32 c.args.text.now c.contains.result c.contains.ensures.cases (omega arith) in
    word_by_tests c.args.text.now c.contains.result (some_bytes c.args.text.now c.is_empty.result c.if-not-is_empty.true c.is_empty.ensures) p.0 p.1
