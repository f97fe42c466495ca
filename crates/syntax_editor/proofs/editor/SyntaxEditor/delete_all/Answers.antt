use Rattle.std.proofs.Common.{ap}
use Rattle.lossless_tree.specs.Element.{cursor_of}
use Rattle.syntax_editor.proofs.RunLemmas.{run_refused_at}
use Rattle.syntax_editor.proofs.editor.SyntaxEditor.delete_all.Goals as goal

pub returns-clause-refused : goal.returns-clause-refused
returns-clause-refused c =
    run_refused_at c.put_run-2.result c.args.self.now (cursor_of c.args.first.now) (cursor_of c.args.last.now) c.in_ok-first.first.row c.in_ok-last.last.row c.in_ok-first.ensures.taken c.in_ok-last.ensures.taken
    (ap (λ p. p.row) c.in_ok-first.ensures.ok) (ap (λ p. p.row) c.in_ok-last.ensures.ok) c.put_run-2.ensures.refused
