use Rattle.std.proofs.Common.{◌<◌, ◌∙◌, ap, sym, arith, length, get_or}
use Rattle.tree_rows.specs.Rows.{no_row}
use Rattle.tree_rows.specs.StartsMoved.{starts_moved}
use Rattle.tree_rows.proofs.KeptLemmas.{length-moved, moved_moves, moved_twice}
use Rattle.tree_rows.proofs.kept.Kept.restarted.Goals as goal

pub invariant_of-result-then-self-from : goal.invariant_of-result-then-self-from
invariant_of-result-then-self-from c = λ k lt there.
    let a = c.self.inside in
    let base = a.rows.value in
    let same = c.share-then-self-from.ensures.value in
    let len = length-moved a.at a.from a.to base in
    let in_base : k < length base.rows = omega (arith, there, ap (λ v. length v.rows) same) in
    let here = ap (λ r. r.start) (ap (λ v. get_or v.rows k no_row) (sym c.self.view_is) ∙ moved_moves a.at a.from a.to base k no_row (omega (arith, lt, c.if-self-n.true)) in_base) in
    omega (arith, c.requires.fits k lt (omega (arith, there, ap (λ v. length v.rows) same, len, ap (λ v. length v.rows) c.self.view_is)), here, ap (λ v. (get_or v.rows k no_row).start) same, c.if-self-from.true)

pub returns-then-self-from : goal.returns-then-self-from
returns-then-self-from c =
    let a = c.self.inside in
    let base = a.rows.value in
    ap (λ v. starts_moved c.args.n a.from c.args.to v) c.share-then-self-from.ensures.value
    ∙ sym (moved_twice c.args.n a.from a.to c.args.to base)
    ∙ ap (λ m. starts_moved c.args.n m c.args.to (starts_moved c.args.n a.from a.to base)) c.if-self-from.true
    ∙ ap (λ i. starts_moved c.args.n c.args.from c.args.to (starts_moved i a.from a.to base)) (sym c.if-self-n.true)
    ∙ ap (starts_moved c.args.n c.args.from c.args.to) c.self.view_is
