use Rattle.std.proofs.Common.{◌≡◌, ◌<◌, ◌++◌, ◌+◌, ap₂, sym, subst, ◌∙◌, List, ◌-◌, ℕ, false, not, get_or, take, drop, length, option_map, string_bytes, arith}
use Rattle.tree_model.specs.Cursor.{Cursor}
use Rattle.ras_front_end.specs.Front.{Front}
use Rattle.rust_parens.specs.Needless.{Refused}
use Rattle.rust_parens.proofs.TriedLemmas.{pair_at, followed_all, followed_by, followed_to_by, one_more, refused_none, not_both}
use Rattle.rust_parens.proofs.needless.Trial.planned_run.Goals as goal
use Rattle.rust_parens.proofs.needless.Trial.planned_run.Goals.{then-not-goes+in_ok-text+else-is_some+in-Some-1, then-not-goes+in_ok-text+else-is_some+in-None-1, else-not-goes}

pub returns-then-is_some : goal.returns-then-is_some
returns-then-is_some g c =
    let n : ℕ = c.len-at.result in
    let rest : List Cursor = c.args.rest.now in
    let i : length c.loop-alloc.tried.items < length c.args.plan.stays.items = omega (arith, c.loop-alloc-test.true, c.len.ensures, c.len-in-loop-alloc.ensures, c.loop-alloc.tried.ok.0, c.args.plan.stays.ok.0) in
    let j : length c.loop-alloc.tried.items < length rest = omega (arith, i, c.requires.within) in
    followed_to_by (g.F.FrontEnd.answers c.args.self.now.front.now) c.args.self.now.entry c.args.self.now.edition c.args.self.now.old.now c.args.chosen.now rest c.args.plan.stays.items c.loop-alloc.before.items c.as_slice-beside.result.now c.loop-alloc.tried.items c.note.new.tried.items
    (take 1 (take (length rest - n) (drop n rest))) c.in_ok-text.text
    c.loop-alloc.invariant j (pair_at n rest c.loop-alloc.tried.items (c.len-at.ensures ∙ c.loop-alloc.tried.ok.0)) c.as_slice-beside.ensures.value (sym c.is_some.ensures ∙ c.if-is_some.true) c.in_ok-text.ensures c.in_ok-note.ensures

pub loop-alloc-preserved : goal.loop-alloc-preserved
loop-alloc-preserved g c =
    let front : Front = g.F.FrontEnd.answers c.args.self.now.front.now in
    let n : ℕ = c.len-at.result in
    let rest : List Cursor = c.args.rest.now in
    let pair : List Cursor = take 1 (take (length rest - n) (drop n rest)) in
    let is_at : n ≡ length c.loop-alloc.tried.items = c.len-at.ensures ∙ c.loop-alloc.tried.ok.0 in
    let i : length c.loop-alloc.tried.items < length c.args.plan.stays.items = omega (arith, c.loop-alloc-test.true, c.len.ensures, c.len-in-loop-alloc.ensures, c.loop-alloc.tried.ok.0, c.args.plan.stays.ok.0) in
    let refused : c.goes_at-goes.result ≡ false → Refused front c.args.self.now.entry c.args.self.now.edition c.args.self.now.old.now (c.loop-alloc.before.items ++ pair) =
    λ no. elim c.if-not-goes.branch [
      | then-not-goes+in_ok-text+else-is_some+in-Some-1 w ↦ subst (λ k. Refused front c.args.self.now.entry c.args.self.now.edition c.args.self.now.old.now (k ++ pair)) w.as_slice-beside.ensures.value (refused_none front c.args.self.now.entry c.args.self.now.edition c.args.self.now.old.now (w.as_slice-beside.result.now ++ pair) w.in_ok-text.text w.in_ok-text.ensures (sym w.is_some.ensures ∙ w.if-is_some.false))
      | then-not-goes+in_ok-text+else-is_some+in-None-1 w ↦ subst (λ k. Refused front c.args.self.now.entry c.args.self.now.edition c.args.self.now.old.now (k ++ pair)) w.as_slice-beside.ensures.value (refused_none front c.args.self.now.entry c.args.self.now.edition c.args.self.now.old.now (w.as_slice-beside.result.now ++ pair) w.in_ok-text.text w.in_ok-text.ensures (sym w.is_some.ensures ∙ w.if-is_some.false))
      | else-not-goes w ↦ not_both c.goes_at-goes.result w.if-not-goes.false no
    ] in
    followed_by front c.args.self.now.entry c.args.self.now.edition c.args.self.now.old.now c.args.chosen.now rest c.args.plan.stays.items c.loop-alloc.before.items c.add_going-in-loop-alloc.new.chosen.items c.loop-alloc.tried.items c.note-in-loop-alloc.new.tried.items
    pair c.goes_at-goes.result
    c.loop-alloc.invariant c.requires.within i (pair_at n rest c.loop-alloc.tried.items is_at)
    (c.goes_at-goes.ensures ∙ ap₂ (λ l k. not (get_or l k false)) c.as_slice-marks.ensures.value is_at)
    refused c.in_ok-add_going-2.ensures c.in_ok-note-2.ensures

pub loop-alloc-smaller : goal.loop-alloc-smaller
loop-alloc-smaller g c =
    let n : ℕ = c.len-at.result in
    let rest : List Cursor = c.args.rest.now in
    let i : length c.loop-alloc.tried.items < length c.args.plan.stays.items = omega (arith, c.loop-alloc-test.true, c.len.ensures, c.len-in-loop-alloc.ensures, c.loop-alloc.tried.ok.0, c.args.plan.stays.ok.0) in
    let j : length c.loop-alloc.tried.items < length rest = omega (arith, i, c.requires.within) in
    let more : length c.note-in-loop-alloc.new.tried.items ≡ length c.loop-alloc.tried.items + 1 =
    one_more c.loop-alloc.tried.items c.note-in-loop-alloc.new.tried.items (take 1 (take (length rest - n) (drop n rest))) rest c.goes_at-goes.result j (pair_at n rest c.loop-alloc.tried.items (c.len-at.ensures ∙ c.loop-alloc.tried.ok.0)) c.in_ok-note-2.ensures in
    omega (arith, i, more)

pub returns : goal.returns
returns g c =
    followed_all (g.F.FrontEnd.answers c.args.self.now.front.now) c.args.self.now.entry c.args.self.now.edition c.args.self.now.old.now c.args.chosen.now c.args.rest.now c.args.plan.stays.items (option_map string_bytes c.args.plan.text) c.loop-alloc.before.items c.loop-alloc.tried.items
    c.requires c.loop-alloc.invariant (omega (arith, c.loop-alloc-test.false, c.len.ensures, c.len-in-loop-alloc.ensures, c.loop-alloc.tried.ok.0, c.args.plan.stays.ok.0))
