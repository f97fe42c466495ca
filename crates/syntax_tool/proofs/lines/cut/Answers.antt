use Rattle.std.proofs.Common.{inl, inr, refl}
use Rattle.std.proofs.lemmas.Str.Pattern.{split_parts}
use Rattle.syntax_tool.proofs.Cuts.{has_no_by_index}
use Rattle.syntax_tool.proofs.lines.cut.Goals as goal

pub returns-in-Some : goal.returns-in-Some
returns-in-Some c =
    let parts = rw c.in-Some.is at (split_parts c.args.at c.args.text.now c.split_once.result c.split_once.ensures.cases c.requires) in
    (has_no_by_index c.args.at c.in-Some.parts.0.now parts.1, inl parts.0)

pub returns-in-None : goal.returns-in-None
returns-in-None c =
    let none = rw c.in-None.is at (split_parts c.args.at c.args.text.now c.split_once.result c.split_once.ensures.cases c.requires) in
    (has_no_by_index c.args.at c.args.text.now none, inr (refl, refl))
