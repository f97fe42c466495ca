use Rattle.std.proofs.Common.{sym, subst, arith, refl}
use Rattle.tree_model.specs.Tree.{kind_of}
use Rattle.ras_front_end.specs.Keeps.{IsRootOf}
use Rattle.ras_front_end.specs.Parsed.{Parsed}
use Rattle.ras_parsing.proofs.BuildLemmas.{root_kept}
use Rattle.ras_parsing.proofs.parse.read.Goals as goal

pub returns-clause-root : goal.returns-clause-root
returns-clause-root g c =
    let keeps = (g.met.F.FrontEnd.kept c.args.front.now).entry_kept c.args.entry c.args.edition c.args.text.now c.utf8.text (omega arith) in
    let p : Parsed = record { tree = c.in_ok-read.read.root.tree; errors = c.in_ok-read.read.errors.items } in
    subst (λ (q : Parsed). IsRootOf c.args.entry (kind_of q.tree)) (sym c.in_ok-from_parts.ensures)
    (root_kept (IsRootOf c.args.entry) c.args.text.now _ _ p keeps refl c.in_ok-read.ensures.parsed)
