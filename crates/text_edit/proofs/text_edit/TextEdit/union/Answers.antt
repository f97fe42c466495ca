use Rattle.std.proofs.Common.{◌∙◌, ap, sym, subst}
use Rattle.text_edit.specs.Replacements.{InOrder, Overlap, with_all}
use Rattle.text_edit.proofs.Order.{union_in_order, fails}
use Rattle.text_edit.proofs.text_edit.TextEdit.union.Goals as goal

pub invariant_of-self : goal.invariant_of-self
invariant_of-self c =
    let mine = c.self.inside.indels.items in
    let theirs = c.other.inside.indels.items in
    let none : Overlap mine theirs → ⊥ =
    subst (λ l. Overlap l theirs → ⊥) c.as_slice.ensures.value (subst (λ l. Overlap c.as_slice.result.now l → ⊥) c.as_slice-2.ensures.value (fails c.overlap.result _ c.overlap.ensures c.if-overlap.false)) in
    subst (λ l. InOrder 0 l) (sym (c.merge.ensures ∙ ap (λ v. with_all v.items theirs) c.replace-mine.ensures.value)) (union_in_order mine theirs c.self.invariant c.other.invariant none)
