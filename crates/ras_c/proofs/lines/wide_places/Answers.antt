use Rattle.std.proofs.Common.{arith, refl, sym, ◌∙◌, subst, get_or}
use Rattle.ras_c.specs.declared.lines.Columns.TheVariants as columns
use Rattle.ras_c.specs.Lines.{HasPlace, IsPlaceOf}
use Rattle.ras_c.proofs.LinesLemmas.{places_more, count_places, stops}
use Rattle.ras_c.proofs.lines.wide_places.Goals as goal

pub returns-in-None-clause-refused : goal.returns-in-None-clause-refused
returns-in-None-clause-refused c =
    let s = c.args.text.1 in
    let xs = c.args.offsets.now in
    let i = c.loop-offset.offset-index in
    let offset = get_or xs i 0 in
    let count = count_places (columns.Wide c.args.text.0) s xs i c.loop-offset.places.items c.loop-offset-test.true c.loop-offset.invariant.are in
    stops (HasPlace s) xs i c.len.result 0 offset c.loop-offset-test.true refl (omega (arith, c.len.ensures, c.loop-offset.places.ok.0, count)) c.loop-offset.invariant.are.have
    (λ h. c.in-None.ensures.place (subst (λ t. HasPlace t.1 offset) (sym c.loop-offset.invariant.same) h))

pub loop-offset-preserved : goal.loop-offset-preserved
loop-offset-preserved c = record {
  same = c.in-Some.ensures.kept ∙ c.loop-offset.invariant.same;
  are =
      let offset = get_or c.args.offsets.now c.loop-offset.offset-index 0 in
      let place = subst (λ t. IsPlaceOf (columns.Wide t.0) t.1 offset c.in-Some.place) c.loop-offset.invariant.same c.in-Some.ensures.place in
      places_more (columns.Wide c.args.text.0) c.args.text.1 c.args.offsets.now c.loop-offset.offset-index offset c.loop-offset.places.items c.push.new.items.items c.in-Some.place
      c.loop-offset-test.true refl c.loop-offset.invariant.are place c.in_ok-push-in-Some.ensures;
}
