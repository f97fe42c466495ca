use Rattle.std.proofs.Common.{◌-◌, ◌+◌, ◌∙◌, ap, subst, drop, string_bytes, option_map}
use Rattle.rust_rules.specs.Macros.{lists_in, change_outward, AreOutside, AreChangesOf, AreChangesInLists}
use Rattle.rust_rules.proofs.EachLemmas.{next_left, nothing_left, as_read, not_read, passed_by, deep_done}
use Rattle.rust_rules.proofs.MoveLemmas.{changes_done}
use Rattle.rust_rules.proofs.within.+changes_in_lists.Goals as goal

pub loop-list-preserved-in_default : goal.loop-list-preserved-in_default
loop-list-preserved-in_default t c =
    let i = c.loop-list.list-index in
    let all = c.deref-list-items.result.now in
    record {
      some = c.loop-list.invariant.some;
      done =
          passed_by c.args.reading (AreChangesOf c.args.reading c.args.rules.now (AreChangesInLists c.args.reading c.args.rules.now (c.args.depth - 1))) change_outward
          c.args.text.now (drop i all) (drop (i + 1) all) c.loop-list.changes.items all c.list-item.result (string_bytes c.in_ok-file.file)
          c.loop-list.invariant.done (next_left all i c.list-item.result c.loop-list-test.true c.list-item.is) c.in_ok-file.ensures
          (not_read c.args.reading (string_bytes c.in_ok-file.file) c.as_str.result.now c.in_ok-below.field-0 c.as_str.ensures.value c.in_default.is c.in_ok-below.ensures);
    }

pub loop-list-preserved : goal.loop-list-preserved
loop-list-preserved t c =
    let i = c.loop-list.list-index in
    let all = c.deref-list-items.result.now in
    let list = c.list-item.result in
    let file = string_bytes c.in_ok-file.file in
    let p = c.in-Some.below in
    let inner = c.in_ok-inner.inner.items in
    let outer = option_map (λ v. v.items) c.in_ok-outer.outer in
    let xs = c.loop-list.changes.items in
    record {
      some = c.loop-list.invariant.some;
      done =
          changes_done c.args.reading c.args.rules.now (c.args.depth - 1) c.args.text.now (drop i all) (drop (i + 1) all) xs inner
          c.all_or.result.items c.push_moved.new.all.items outer all list file p
          c.loop-list.invariant.done (next_left all i list c.loop-list-test.true c.list-item.is) c.in_ok-file.ensures
          (as_read c.args.reading file c.as_str.result.now c.in_ok-below.field-0 p c.as_str.ensures.value c.in-Some.is c.in_ok-below.ensures)
          (subst (λ k. AreChangesInLists c.args.reading c.args.rules.now (c.args.depth - 1) k p inner) c.as_str-in-loop-list.ensures.value c.in_ok-inner.ensures)
          (subst (λ k. AreOutside c.args.reading c.args.rules.now k inner outer) c.as_str-in-loop-list-2.ensures.value
          (subst (λ k. AreOutside c.args.reading c.args.rules.now c.as_str-in-loop-list-2.result.now k outer) c.deref.ensures.value c.in_ok-outer.ensures))
          c.all_or.ensures
          c.in_ok-push_moved.ensures;
    }

pub returns : goal.returns
returns t c =
    let all = c.deref-list-items.result.now in
    deep_done c.args.reading (AreChangesOf c.args.reading c.args.rules.now) change_outward c.args.depth c.args.text.now c.args.parse.now
    (drop c.loop-list.list-index all) c.loop-list.changes.items all c.loop-list.invariant.some c.loop-list.invariant.done
    (nothing_left all c.loop-list.list-index c.loop-list-test.false)
    (c.deref-list-items.ensures.value ∙ c.in_ok-lists.ensures ∙ ap lists_in c.root.ensures)
