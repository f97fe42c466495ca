use Rattle.std.proofs.Common.{◌-◌, ◌+◌, ◌++◌, ◌∙◌, ap, subst, drop, filter_map, map, string_bytes}
use Rattle.tree_match.specs.Finds.{found_in}
use Rattle.rust_rules.specs.Macros.{lists_in, found_of, found_outward, AreFoundOf, AreFoundInLists}
use Rattle.rust_rules.proofs.EachLemmas.{next_left, nothing_left, as_read, not_read, passed_by, deep_done}
use Rattle.rust_rules.proofs.MoveLemmas.{found_done}
use Rattle.rust_rules.proofs.within.+found_in_lists.Goals as goal

pub loop-list-preserved-in_default : goal.loop-list-preserved-in_default
loop-list-preserved-in_default t c =
    let i = c.loop-list.list-index in
    let all = c.deref-list-items.result.now in
    record {
      some = c.loop-list.invariant.some;
      done =
          passed_by c.args.reading (AreFoundOf c.args.rules.now (AreFoundInLists c.args.reading c.args.rules.now (c.args.depth - 1))) found_outward
          c.args.text.now (drop i all) (drop (i + 1) all) c.loop-list.found.items all c.list-item.result (string_bytes c.in_ok-file.file)
          c.loop-list.invariant.done (next_left all i c.list-item.result c.loop-list-test.true c.list-item.is) c.in_ok-file.ensures
          (not_read c.args.reading (string_bytes c.in_ok-file.file) c.as_str.result.now c.in_ok-below.field-0 c.as_str.ensures.value c.in_default.is c.in_ok-below.ensures);
    }

pub loop-list-preserved : goal.loop-list-preserved
loop-list-preserved t c =
    let i = c.loop-list.list-index in
    let all = c.deref-list-items.result.now in
    let list = c.list-item.result in
    let file = string_bytes c.in_ok-file.file in
    let p = c.in-Some.below in
    let inner = c.in_ok-inner.inner.items in
    let xs = c.loop-list.found.items in
    record {
      some = c.loop-list.invariant.some;
      done =
          found_done c.args.reading c.args.rules.now (c.args.depth - 1) c.args.text.now (drop i all) (drop (i + 1) all) xs inner
          c.in_ok-inner-2.inner.items c.push_outward.new.found.items all list file p
          c.loop-list.invariant.done (next_left all i list c.loop-list-test.true c.list-item.is) c.in_ok-file.ensures
          (as_read c.args.reading file c.as_str.result.now c.in_ok-below.field-0 p c.as_str.ensures.value c.in-Some.is c.in_ok-below.ensures)
          (subst (λ k. AreFoundInLists c.args.reading c.args.rules.now (c.args.depth - 1) k p inner) c.as_str-in-loop-list.ensures.value c.in_ok-inner.ensures)
          (c.in_ok-inner-2.ensures ∙ ap (λ k. map found_of (found_in c.args.rules.now k) ++ inner) c.root-in-loop-list.ensures)
          (c.in_ok-push_outward.ensures ∙ ap (λ k. xs ++ filter_map (found_outward list) k) c.deref.ensures.value);
    }

pub returns : goal.returns
returns t c =
    let all = c.deref-list-items.result.now in
    deep_done c.args.reading (AreFoundOf c.args.rules.now) found_outward c.args.depth c.args.text.now c.args.parse.now
    (drop c.loop-list.list-index all) c.loop-list.found.items all c.loop-list.invariant.some c.loop-list.invariant.done
    (nothing_left all c.loop-list.list-index c.loop-list-test.false)
    (c.deref-list-items.ensures.value ∙ c.in_ok-lists.ensures ∙ ap lists_in c.root.ensures)
