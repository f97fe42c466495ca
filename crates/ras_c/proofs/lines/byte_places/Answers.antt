use Rattle.std.proofs.Common.{arith, refl}
use Rattle.ras_c.specs.declared.lines.Columns.TheVariants as columns
use Rattle.ras_c.specs.Lines.{HasPlace}
use Rattle.ras_c.proofs.LinesLemmas.{places_more, count_places, stops}
use Rattle.ras_c.proofs.lines.byte_places.Goals as goal

pub returns-in-None-clause-refused : goal.returns-in-None-clause-refused
returns-in-None-clause-refused c =
    let s = c.args.index.now in
    let xs = c.args.offsets.now in
    let i = c.loop-offset.offset-index in
    let count = count_places columns.Bytes s xs i c.loop-offset.places.items c.loop-offset-test.true c.loop-offset.invariant in
    stops (HasPlace s) xs i c.len.result 0 _ c.loop-offset-test.true refl (omega (arith, c.len.ensures, c.loop-offset.places.ok.0, count)) c.loop-offset.invariant.have c.in-None.ensures

pub loop-offset-preserved : goal.loop-offset-preserved
loop-offset-preserved c =
    places_more columns.Bytes c.args.index.now c.args.offsets.now c.loop-offset.offset-index _ c.loop-offset.places.items c.push.new.items.items c.in-Some.place
    c.loop-offset-test.true refl c.loop-offset.invariant c.in-Some.ensures c.in_ok-push-in-Some.ensures
