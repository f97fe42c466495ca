use Rattle.std.proofs.Common.{subst}
use Rattle.std.specs.Prelude.{None}
use Rattle.ras_front_end.specs.declared.edition.Edition.TheVariants.{Edition2024}
use Rattle.ras_parsing.specs.Edit.{Edit}
use Rattle.ras_parsing.specs.Reparse.{IsIncremental}
use Rattle.tiny_front.specs.Front.{tiny_front}
use Rattle.syntax_tool.proofs.reparse.edit_parse.Goals as goal

pub returns-in_ok-new-in-None-clause-read : goal.returns-in_ok-new-in-None-clause-read
returns-in_ok-new-in-None-clause-read c =
    let edit : Edit = record { delete = c.args.delete; insert = c.args.insert.now } in
    let none : IsIncremental tiny_front Edition2024 c.args.old.now edit None = subst (IsIncremental tiny_front Edition2024 c.args.old.now edit) c.in-None.is c.in_ok-new.ensures.answer in
    (none, c.in_ok-new-in-None.ensures.answer)
