use Rattle.std.proofs.Common.{sym}
use Rattle.grammar_machine.proofs.Hiding.{reverse-take}
use Rattle.grammar_machine.proofs.made.Made.unseal.Goals as goal

pub returns : goal.returns
returns c = rw (sym (reverse-take c.args.self.now.floor c.args.self.now.marks.items)) (rw (sym c.truncate.ensures.items) c.make.ensures)
