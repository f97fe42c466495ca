use Rattle.std.proofs.Common.{arith, refl, sym, subst, get_or}
use Rattle.ras_c.specs.declared.lines.LineCol.{LineCol}
use Rattle.ras_c.specs.Lines.{HasOffset, IsOffsetOf}
use Rattle.ras_c.proofs.LinesLemmas.{offsets_more, count_offsets, all_have_offsets, stops}
use Rattle.ras_c.proofs.lines.offsets_of.Goals as goal

pub returns-in-None-clause-refused : goal.returns-in-None-clause-refused
returns-in-None-clause-refused c =
    let s = c.args.text.now in
    let xs = c.args.places.now in
    let i = c.loop-place.place-index in
    let none : LineCol = record { line = 0; col = 0 } in
    let place : LineCol = get_or xs i none in
    let count = count_offsets c.args.columns s xs i c.loop-place.offsets.items c.loop-place-test.true c.loop-place.invariant in
    let have = all_have_offsets c.args.columns s c.loop-place.offsets.items _ c.loop-place.invariant in
    stops (HasOffset c.args.columns s) xs i c.len.result none place c.loop-place-test.true refl (omega (arith, c.len.ensures, c.loop-place.offsets.ok.0, count)) have (λ h. c.in-None.ensures h.0 (subst (λ t. IsOffsetOf c.args.columns t place h.0) (sym c.in_ok-index.ensures) h.1))

pub loop-place-preserved : goal.loop-place-preserved
loop-place-preserved c =
    let xs = c.args.places.now in
    let i = c.loop-place.place-index in
    let none : LineCol = record { line = 0; col = 0 } in
    let place : LineCol = get_or xs i none in
    let found = subst (λ t. IsOffsetOf c.args.columns t place c.in-Some.offset) c.in_ok-index.ensures c.in-Some.ensures in
    offsets_more c.args.columns c.args.text.now xs i c.in-Some.offset none place c.loop-place.offsets.items c.push.new.items.items
    c.loop-place-test.true refl c.loop-place.invariant found c.in_ok-push-in-Some.ensures
