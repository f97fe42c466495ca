use Rattle.std.proofs.Common.{◌∷◌, ◌++◌, ◌∙◌, ap, ap₂, sym, arith, length, [], append_assoc, append-nil, map, subst}
use Rattle.lossless_tree.specs.KindSearch.{is_among}
use Rattle.tree_match.specs.Jumps.{stops_at}
use Rattle.tree_match.specs.Finds.{occurrence_of, found_at, free_behind, found_from, with_found}
use Rattle.tree_match.proofs.JumpLemmas.{Rises, rises_below, jumped, ended, fewer_left, rises_behind, found_first, has_roots}
use Rattle.tree_match.proofs.places.find.Goals as goal

pub loop-node-init : goal.loop-node-init
loop-node-init c = record {
  same =
      ap (λ ms. map occurrence_of ms ++ found_from c.args.rules.now c.push_front.new.self.items c.descendants-left.result)
      c.new-matches.ensures.items
      ∙ ap₂ (λ fs l. found_from c.args.rules.now fs l)
      (c.in_ok-push_front.ensures.items ∙ ap₂ (λ r rs. r ∷ rs) c.text_range.ensures c.new-free.ensures.items)
      c.descendants-left.ensures;
  rises =
      subst (Rises 0) (sym c.descendants-left.ensures)
      (rises_below c.args.root.now c.node_is_placed.ensures.placed.is_place);
}

pub loop-node-smaller : goal.loop-node-smaller
loop-node-smaller c =
    omega (
      arith,
      ap length c.in-Some.ensures.left,
      fewer_left (is_among (stops_at c.have_operations-operations.result)) c.loop-node.left
          c.in-Some.node c.in-Some.ensures.found,
    )

pub loop-node-preserved : goal.loop-node-preserved
loop-node-preserved c =
    let rules = c.args.rules.now in
    let operations = c.have_operations-operations.result in
    let free = c.loop-node.free.items in
    let node = c.in-Some.node in
    let left = c.next_stop.new.left in
    let before = map occurrence_of c.loop-node.matches.items in
    let found = found_at rules free node in
    let more = found_from rules (free_behind rules free node) left in
    record {
      same =
          ap₂ (λ ms fs. ms ++ found_from rules fs left) c.in_ok-push_found.ensures.found
          c.in_ok-push_found.ensures.behind
          ∙ append_assoc before (with_found found []) more
          ∙ ap (λ v. before ++ v)
          (found_first found more ∙ ap (λ l. found_from rules free (node ∷ l)) c.in-Some.ensures.left
          ∙ sym (jumped rules (stops_at operations)
          (has_roots rules operations c.have_operations-operations.ensures) free 0 c.loop-node.left
          node c.loop-node.invariant.rises c.in-Some.ensures.found))
          ∙ c.loop-node.invariant.same;
      rises =
          subst (Rises 0) (sym c.in-Some.ensures.left)
          (rises_behind (is_among (stops_at operations)) 0 c.loop-node.left
          c.loop-node.invariant.rises);
    }

pub returns : goal.returns
returns c =
    let rules = c.args.rules.now in
    let operations = c.have_operations-operations.result in
    let found = map occurrence_of c.loop-node.matches.items in
    sym (append-nil found)
    ∙ ap (λ v. found ++ v)
    (sym (ended rules (stops_at operations)
    (has_roots rules operations c.have_operations-operations.ensures) c.loop-node.free.items 0
    c.loop-node.left c.loop-node.invariant.rises c.in_default.ensures.found))
    ∙ c.loop-node.invariant.same
