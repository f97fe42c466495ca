use Rattle.std.proofs.Common.{ap, ◌∙◌, sym, subst, refl, ◌<◌, Some, arith, nat_eq, not, length, if◌then◌else◌, None, ◌&&◌}
use Rattle.std.proofs.lemmas.List.{reverse-reverse, length-reverse}
use Rattle.std.proofs.lemmas.Option.{slice_get_read, slice_get_past}
use Rattle.grammar_machine.specs.Running.{tables_of, State, state_of}
use Rattle.grammar_machine.specs.Alone.{stays_on}
use Rattle.grammar_machine.proofs.Potential.{potential, obey-spends}
use Rattle.grammar_machine.proofs.StayingRuns.{as-first, as-next, as-over, as-strays, as-spent, as-other}
use Rattle.grammar_machine.proofs.machine.run_as.Goals as goal

pub loop-place-init : goal.loop-place-init
loop-place-init c = as-first c.args.is_alone (tables_of c.args.grammar.now) c.args.rule c.args.sights.now (state_of c.new-place.result c.in_ok-made.made) (rw c.new-place.ensures (rw c.in_ok-made.ensures refl))

pub returns-in-None : goal.returns-in-None
returns-in-None c =
    let over = slice_get_past c.args.grammar.now.ops.now c.loop-place.place.next c.in-None.ensures.lookup.3 in
    let items = c.loop-place.made.events.items in
    c.ended.ensures
    ∙ ap (λ n. if c.args.is_alone then (if (nat_eq c.loop-place.place.at (length c.args.sights.now) && nat_eq n 0) then Some items else None) else Some items) (sym (length-reverse c.loop-place.made.frames.items))
    ∙ as-over c.args.is_alone (tables_of c.args.grammar.now) c.args.rule c.args.sights.now (state_of c.loop-place.place c.loop-place.made) items c.loop-place.invariant over (sym (reverse-reverse items))

pub returns-then-strays : goal.returns-then-strays
returns-then-strays c =
    let found = slice_get_read c.args.grammar.now.ops.now (length c.args.grammar.now.ops.now) c.loop-place.place.next c.in-Some.op.now refl c.in-Some.ensures.lookup.3.0 c.in-Some.ensures.lookup.1 in
    as-strays c.args.is_alone (tables_of c.args.grammar.now) c.args.rule c.args.sights.now (state_of c.loop-place.place c.loop-place.made) c.loop-place.invariant c.loop-place-test.true
    (ap (λ o. c.args.is_alone && not (stays_on o c.loop-place.place.at (length c.args.sights.now))) found ∙ sym c.strays.ensures ∙ c.if-strays.true)

pub loop-place-smaller : goal.loop-place-smaller
loop-place-smaller c =
    subst (λ (x : State). potential c.args.sights.now x < potential c.args.sights.now (state_of c.loop-place.place c.loop-place.made)) (sym c.in_ok-obey-in-Some.ensures)
    (obey-spends (tables_of c.args.grammar.now) c.args.sights.now c.in-Some.op.now (state_of c.loop-place.place c.loop-place.made) c.room_for.ensures c.loop-place-test.true)

pub loop-place-preserved : goal.loop-place-preserved
loop-place-preserved c =
    let found = slice_get_read c.args.grammar.now.ops.now (length c.args.grammar.now.ops.now) c.loop-place.place.next c.in-Some.op.now refl c.in-Some.ensures.lookup.3.0 c.in-Some.ensures.lookup.1 in
    let quiet = ap (λ o. c.args.is_alone && not (stays_on o c.loop-place.place.at (length c.args.sights.now))) found ∙ sym c.strays.ensures ∙ c.if-strays.false in
    as-next c.args.is_alone (tables_of c.args.grammar.now) c.args.rule c.args.sights.now (state_of c.loop-place.place c.loop-place.made) (state_of c.obey.new.place c.obey.new.made) c.in-Some.op.now c.room_for.ensures found
    c.loop-place-test.true c.in_ok-obey-in-Some.ensures quiet c.loop-place.invariant

pub returns-then-not-is_alone : goal.returns-then-not-is_alone
returns-then-not-is_alone c =
    let items = c.loop-place.made.events.items in
    as-other c.args.is_alone (tables_of c.args.grammar.now) c.args.rule c.args.sights.now (state_of c.loop-place.place c.loop-place.made) items c.loop-place.invariant (omega (arith, c.loop-place-test.false)) c.if-not-is_alone.true (sym (reverse-reverse items))

pub returns-in-None-get : goal.returns-in-None-get
returns-in-None-get c =
    let over = slice_get_past c.args.grammar.now.ops.now c.loop-place.place.next c.in-None-get.ensures.lookup.3 in
    let items = c.loop-place.made.events.items in
    c.ended-in-None-get.ensures
    ∙ ap (λ n. if c.args.is_alone then (if (nat_eq c.loop-place.place.at (length c.args.sights.now) && nat_eq n 0) then Some items else None) else Some items) (sym (length-reverse c.loop-place.made.frames.items))
    ∙ as-over c.args.is_alone (tables_of c.args.grammar.now) c.args.rule c.args.sights.now (state_of c.loop-place.place c.loop-place.made) items c.loop-place.invariant over (sym (reverse-reverse items))

pub returns-in-Some-get : goal.returns-in-Some-get
returns-in-Some-get c =
    let found = slice_get_read c.args.grammar.now.ops.now (length c.args.grammar.now.ops.now) c.loop-place.place.next c.in-Some-get.field-0.now refl c.in-Some-get.ensures.lookup.3.0 c.in-Some-get.ensures.lookup.1 in
    as-spent c.args.is_alone (tables_of c.args.grammar.now) c.args.rule c.args.sights.now (state_of c.loop-place.place c.loop-place.made) c.in-Some-get.field-0.now c.loop-place.invariant (omega (arith, c.loop-place-test.false)) found c.if-not-is_alone.false
