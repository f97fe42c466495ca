use Rattle.std.proofs.Common.{◌∙◌, ◌++◌, ap, subst, sym, arith}
use Rattle.text_edit.specs.Replacements.{InOrder, with_all}
use Rattle.text_edit.proofs.Order.{with_all-length}
use Rattle.text_edit.proofs.merge.merge.Goals as goal

pub loop-indel-init : goal.loop-indel-init
loop-indel-init c = record {
  order = subst (λ l. InOrder 0 l) (sym c.from-theirs.ensures.0) c.requires.theirs;
  whole = ap (λ l. l ++ with_all c.from-mine.result.items c.from-theirs.result.items) c.requires.empty ∙ ap (λ l. with_all l c.from-theirs.result.items) c.from-mine.ensures.0 ∙ ap (with_all c.args.mine.items) c.from-theirs.ensures.0;
  room = omega (arith, with_all-length c.args.mine.items c.args.theirs.items, c.args.mine.ok.0, c.args.theirs.ok.0, c.requires.room);
}
