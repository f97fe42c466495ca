use Rattle.std.proofs.Common.{◌≡◌, ◌≤◌, ◌+◌, ◌-◌, ◌++◌, ℕ, List, length, take, drop, get_or, arith, subst, sym, ap, refl, ◌∙◌}
use Rattle.std.proofs.lemmas.List.{append-nil, take_rest}
use Rattle.std.specs.List.{splice}
use Rattle.line_index.specs.Lines.{HasText, IsIndexOf, Numbers, starts_after}
use Rattle.line_index.proofs.StartLemmas.{has_line_of, read_behind, moved_more, edited_numbers}
use Rattle.line_index.proofs.starts.LineStarts.edit.Goals as goal

pub overflow_add-kept : goal.overflow_add-kept
overflow_add-kept c =
    let some : HasText c.args.self.now = subst HasText c.self.view_is c.self.invariant in
    let within : c.raw-start.result ≤ c.args.self.now.len = omega (arith, c.requires.within, c.raw-start.ensures, c.start.ensures.value, c.start.ensures.ordered) in
    let line = has_line_of c.args.self.now some c.raw-start.result c.line_at-kept.result within c.line_at-kept.ensures in
    omega (arith, line.small, c.raw-start.type_inv)

pub overflow_add-behind : goal.overflow_add-behind
overflow_add-behind c =
    let some : HasText c.args.self.now = subst HasText c.self.view_is c.self.invariant in
    let within : c.raw-end.result ≤ c.args.self.now.len = omega (arith, c.requires.within, c.raw-end.ensures, c.end.ensures.value) in
    let line = has_line_of c.args.self.now some c.raw-end.result c.line_at-behind.result within c.line_at-behind.ensures in
    omega (arith, line.small, c.raw-end.type_inv)

pub offset_bounds-deref-behind : goal.offset_bounds-deref-behind
offset_bounds-deref-behind c =
    let some : HasText c.args.self.now = subst HasText c.self.view_is c.self.invariant in
    let within : c.raw-end.result ≤ c.args.self.now.len = omega (arith, c.requires.within, c.raw-end.ensures, c.end.ensures.value) in
    let line = has_line_of c.args.self.now some c.raw-end.result c.line_at-behind.result within c.line_at-behind.ensures in
    omega (arith, line.small, c.raw-end.type_inv)

pub slice_bounds-old-items-count : goal.slice_bounds-old-items-count
slice_bounds-old-items-count c =
    let some : HasText c.args.self.now = subst HasText c.self.view_is c.self.invariant in
    let within : c.raw-end.result ≤ c.args.self.now.len = omega (arith, c.requires.within, c.raw-end.ensures, c.end.ensures.value) in
    let line = has_line_of c.args.self.now some c.raw-end.result c.line_at-behind.result within c.line_at-behind.ensures in
    omega (arith, line.kept, ap length (c.deref.ensures.value ∙ ap (λ (n : Numbers). n.starts) c.self.view_is))

pub slice_bounds-old-items-start : goal.slice_bounds-old-items-start
slice_bounds-old-items-start c =
    let some : HasText c.args.self.now = subst HasText c.self.view_is c.self.invariant in
    let within : c.raw-end.result ≤ c.args.self.now.len = omega (arith, c.requires.within, c.raw-end.ensures, c.end.ensures.value) in
    let line = has_line_of c.args.self.now some c.raw-end.result c.line_at-behind.result within c.line_at-behind.ensures in
    omega (arith, line.kept, ap length (c.deref.ensures.value ∙ ap (λ (n : Numbers). n.starts) c.self.view_is))

pub loop-old-init : goal.loop-old-init
loop-old-init c = c.in_ok-push_starts.ensures ∙ ap (λ l. l ++ starts_after c.raw-start.result c.args.insert.now) c.new-later.ensures.items ∙ sym (append-nil (starts_after c.raw-start.result c.args.insert.now))

pub overflow_sub-old : goal.overflow_sub-old
overflow_sub-old c =
    let some : HasText c.args.self.now = subst HasText c.self.view_is c.self.invariant in
    let behind = c.line_at-behind.result in
    let d = c.deref.result.now in
    let items : List ℕ = take (length d - (behind + 1)) (drop (behind + 1) d) in
    let same : d ≡ c.args.self.now.starts = c.deref.ensures.value ∙ ap (λ (n : Numbers). n.starts) c.self.view_is in
    let old = read_behind c.args.self.now some d items c.raw-end.result behind c.loop-old.old-index (get_or items c.loop-old.old-index 0) same (take_rest d (behind + 1)) c.line_at-behind.ensures c.loop-old-test.true refl in
    omega (arith, old.0)

pub loop-old-preserved : goal.loop-old-preserved
loop-old-preserved c =
    let behind = c.line_at-behind.result in
    let d = c.deref.result.now in
    let items : List ℕ = take (length d - (behind + 1)) (drop (behind + 1) d) in
    let i = c.loop-old.old-index in
    moved_more c.raw-end.result (c.raw-start.result + length c.args.insert.now) (starts_after c.raw-start.result c.args.insert.now) c.loop-old.later.items c.push.new.self.items items i (get_or items i 0) c.loop-old-test.true refl c.loop-old.invariant c.in_ok-push.ensures.items

pub replace_from-requires : goal.replace_from-requires
replace_from-requires c =
    let some : HasText c.args.self.now = subst HasText c.self.view_is c.self.invariant in
    let within : c.raw-start.result ≤ c.args.self.now.len = omega (arith, c.requires.within, c.raw-start.ensures, c.start.ensures.value, c.start.ensures.ordered) in
    let line = has_line_of c.args.self.now some c.raw-start.result c.line_at-kept.result within c.line_at-kept.ensures in
    omega (arith, line.kept, ap length (ap (λ (n : Numbers). n.starts) c.self.view_is))

-- the same range by other names
at_range : (s new : List ℕ) (numbers : Numbers) (a b x y : ℕ) → a ≡ x → b ≡ y → IsIndexOf (splice s a b new) numbers → IsIndexOf (splice s x y new) numbers
at_range s new numbers a b x y e f h = subst (λ k. IsIndexOf (splice s k y new) numbers) e (subst (λ k. IsIndexOf (splice s a k new) numbers) f h)

pub returns-clause-edited : goal.returns-clause-edited
returns-clause-edited c s is =
    let behind = c.line_at-behind.result in
    let d = c.deref.result.now in
    let a = c.raw-start.result in
    let b = c.raw-end.result in
    let new = c.args.insert.now in
    let items : List ℕ = take (length d - (behind + 1)) (drop (behind + 1) d) in
    let len = c.self.inside.len - b + (a + length new) in
    let w = c.replace_from.new.starts.items in
    let start : a ≡ c.args.delete.start = c.raw-start.ensures ∙ c.start.ensures.value in
    let end_is : b ≡ c.args.delete.end = c.raw-end.ensures ∙ c.end.ensures.value in
    let le : a ≤ b = omega (arith, start, end_is, c.start.ensures.ordered) in
    let within : b ≤ c.args.self.now.len = omega (arith, end_is, c.requires.within) in
    let parts : items ≡ drop (behind + 1) c.self.inside.starts.items = take_rest d (behind + 1) ∙ ap (drop (behind + 1)) c.deref.ensures.value in
    let list : w ≡ take (c.line_at-kept.result + 1) c.self.inside.starts.items ++ c.loop-old.later.items = c.in_ok-replace_from.ensures.ok ∙ ap (λ l. take (c.line_at-kept.result + 1) c.self.inside.starts.items ++ l) c.deref-2.ensures.value in
    let lens : c.self.inside.len - b + (a + length new) ≡ c.args.self.now.len - b + (a + length new) = ap (λ (n : Numbers). n.len - b + (a + length new)) c.self.view_is in
    at_range s new (record { starts = w; len = len }) a b c.args.delete.start c.args.delete.end start end_is
    (edited_numbers s new c.self.inside.starts.items w c.loop-old.later.items items c.args.self.now a b c.line_at-kept.result behind c.loop-old.old-index len is (ap (λ (n : Numbers). n.starts) c.self.view_is) le within (c.line_at-kept.ensures s is) (c.line_at-behind.ensures s is) parts c.loop-old-test.false c.loop-old.invariant list lens)

pub invariant_of-self-2 : goal.invariant_of-self-2
invariant_of-self-2 c =
    let some : HasText c.args.self.now = subst HasText c.self.view_is c.self.invariant in
    record { text = splice some.text c.args.delete.start c.args.delete.end c.args.insert.now; is = returns-clause-edited c some.text some.is }
