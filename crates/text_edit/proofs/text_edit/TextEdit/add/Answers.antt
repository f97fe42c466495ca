use Rattle.std.proofs.Common.{◌≡◌, ◌<◌, ◌≤◌, ◌-◌, ◌∙◌, ap, subst, arith, length, refl, List}
use Rattle.std.specs.List.{Any, insert}
use Rattle.text_edit.specs.Replacements.{Replacement, Overlaps, with_one, begin_at, end_at}
use Rattle.text_edit.proofs.Order.{place_found, IsPlaceFor, NoneOverlaps, none_overlaps, overlap_found, inserted_is, ok_along, no_overlap_error, kept_in_order}
use Rattle.text_edit.proofs.text_edit.TextEdit.add.Goals as goal
use Rattle.text_edit.proofs.text_edit.TextEdit.add.Goals.{After-insert_at}

place : (c : After-insert_at) → IsPlaceFor c.self.inside.indels.items c.args.indel c.place_for-at.result
place c =
    let v = c.as_slice.ensures.value in
    let items : List Replacement = c.self.inside.indels.items in
    let e : Replacement = c.args.indel in
    place_found items e c.place_for-at.result c.self.invariant (subst (λ l. c.place_for-at.result ≤ length l) v c.place_for-at.ensures.within)
    (λ h. subst (λ l. end_at l (c.place_for-at.result - 1) e ≤ e.delete.start) v (omega (arith, c.place_for-at.ensures.before e h, c.start-start.ensures.value)))
    (λ h. subst (λ l. c.place_for-at.result < length l → e.delete.start < end_at l c.place_for-at.result e) v (λ k. omega (arith, c.place_for-at.ensures.after e k, c.start-start.ensures.value)) h)

free : (c : After-insert_at) → NoneOverlaps c.args.indel c.self.inside.indels.items
free c =
    let v = c.as_slice-2.ensures.value in
    let items : List Replacement = c.self.inside.indels.items in
    let e : Replacement = c.args.indel in
    none_overlaps items e c.place_for-at.result c.self.invariant (place c)
    (λ h. subst (λ l. c.place_for-at.result < length l → e.delete.end ≤ begin_at l c.place_for-at.result e) v (λ k. omega (arith, c.starts_before.ensures.no e c.if-starts_before.false k, c.end-end.ensures.value)) h)

made : (c : After-insert_at) → insert c.self.inside.indels.items c.place_for-at.result c.args.indel ≡ with_one c.self.inside.indels.items c.args.indel
made c = inserted_is c.self.inside.indels.items c.args.indel c.place_for-at.result (place c)

pub invariant_of-self : goal.invariant_of-self
invariant_of-self c =
    let w = (goal.at.invariant_of-self c).After-insert_at in
    kept_in_order c.insert_at.result c.self.inside.indels.items c.insert_at.new.indels.items c.args.indel (ok_along c.insert_at.result _ _ (λ h. h ∙ made w) c.insert_at.ensures.ok) c.insert_at.ensures.err c.self.invariant (omega (arith, c.start-start.ensures.ordered)) (free w)

pub returns-clause-ok : goal.returns-clause-ok
returns-clause-ok c =
    let w = (goal.at.returns-clause-ok c).After-insert_at in
    ok_along c.insert_at.result (c.insert_at.new.indels.items ≡ insert c.self.inside.indels.items c.place_for-at.result c.args.indel) (c.insert_at.new.indels.items ≡ with_one c.args.self.now c.args.indel)
    (λ h. h ∙ made w ∙ ap (λ l. with_one l c.args.indel) c.self.view_is) c.insert_at.ensures.ok

pub returns-clause-overlap : goal.returns-clause-overlap
returns-clause-overlap c =
    let w = (goal.at.returns-clause-overlap c).After-insert_at in
    no_overlap_error c.insert_at.result c.args.indel c.args.self.now c.insert_at.new.indels.items c.self.inside.indels.items c.insert_at.ensures.err (subst (λ l. NoneOverlaps c.args.indel l) c.self.view_is (free w))

pub returns-then-starts_before-clause-overlap : goal.returns-then-starts_before-clause-overlap
returns-then-starts_before-clause-overlap c =
    let items : List Replacement = c.self.inside.indels.items in
    let e : Replacement = c.args.indel in
    let at = c.place_for-at.result in
    let yes : (at < length c.as_slice-2.result.now) × (begin_at c.as_slice-2.result.now at e < c.end-end.result) = c.starts_before.ensures.yes e c.if-starts_before.true in
    let lt : at < length items = subst (λ l. at < length l) c.as_slice-2.ensures.value yes.0 in
    let begins : begin_at items at e < e.delete.end = subst (λ l. begin_at l at e < e.delete.end) c.as_slice-2.ensures.value (omega (arith, yes.1, c.end-end.ensures.value)) in
    let ends : e.delete.start < end_at items at e =
    subst (λ l. at < length l → e.delete.start < end_at l at e) c.as_slice.ensures.value (λ k. omega (arith, c.place_for-at.ensures.after e k, c.start-start.ensures.value)) lt in
    (λ _. subst (λ l. Any (λ d. Overlaps d e) l) c.self.view_is (overlap_found items e at lt begins ends), λ _. refl)
