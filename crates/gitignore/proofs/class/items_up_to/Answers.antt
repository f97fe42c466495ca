use Rattle.std.proofs.Common.{◌≡◌, ◌∷◌, [], ◌++◌, ◌||◌, not, true, None, sym, ap, ◌∙◌, subst, arith, vec_len, length}
use Rattle.gitignore.specs.Classes.{ItemsAt, is_end, last_among, item_at}
use Rattle.gitignore.proofs.ClassLemmas.{one_more, last_more, is_now, empty_first, end_not}
use Rattle.gitignore.proofs.class.items_up_to.Goals as goal
use Rattle.gitignore.proofs.class.items_up_to.Goals.{then-is_empty, else-is_empty+then-not-is_end}

pub loop-last-preserved : goal.loop-last-preserved
loop-last-preserved c =
    let items = c.loop-last.items.items in
    let goes : (is_now true items || not (is_end c.loop-last.rest.now)) ≡ true =
    elim c.if-is_empty.branch [
      | then-is_empty w ↦ empty_first items (is_end c.loop-last.rest.now) (vec_len c.loop-last.items) (let same : vec_len c.loop-last.items ≡ length items = omega (arith, c.loop-last.items.ok.0) in same) (sym c.is_empty.ensures ∙ w.if-is_empty.true)
      | else-is_empty+then-not-is_end w ↦ end_not (is_now true items) (is_end c.loop-last.rest.now) (sym w.is_end.ensures ∙ w.if-not-is_end.true)
    ] in
    let read : item_at (last_among None items) c.loop-last.rest.now ≡ _ = ap (λ l. item_at l c.loop-last.rest.now) (sym c.loop-last.invariant.1) ∙ sym c.item_at.ensures.value ∙ c.in-Some.is in
    let moved : c.push.new.self.items ≡ items ++ c.in-Some.item ∷ [] = c.in_ok-push.ensures.items in (
      subst (λ l. ItemsAt true None c.args.text.now l c.split_at.result.1.now) (sym moved)
          (subst (λ r. ItemsAt true None c.args.text.now (items ++ c.in-Some.item ∷ []) r) (sym c.split_at.ensures.back)
          (one_more true None c.args.text.now c.loop-last.rest.now items c.in-Some.item c.in-Some.used c.loop-last.invariant.0 goes read)),
      c.last_of-last.ensures ∙ last_more None items c.in-Some.item ∙ ap (last_among None) (sym moved),
      omega (arith, c.loop-last.invariant.2, c.split_at.ensures.back_len),
    )
