use Rattle.std.proofs.Common.{◌+◌, ◌∙◌, drop, sym, ap, arith}
use Rattle.std.specs.Prelude.{option_map}
use Rattle.tree_match.proofs.PlaceLemmas.{drop_got, drop_none}
use Rattle.tree_match.specs.Matching.{first_among}
use Rattle.tree_match.proofs.AmongLemmas.{found_among, next_among}
use Rattle.tree_match.proofs.matching.first_among.Goals as goal

pub returns-in-Some : goal.returns-in-Some
returns-in-Some c =
    found_among c.args.rules.now (drop c.loop-number.number-index c.args.numbers.now)
    (drop (c.loop-number.number-index + 1) c.args.numbers.now) c.args.numbers.now _ _ _ c.args.kind
    c.args.inside.now
    (drop_got c.args.numbers.now c.loop-number.number-index _ c.loop-number-test.true)
    (sym (ap (option_map (λ f. (f, c.match_numbered.new.values.items))) c.in-Some.is)
    ∙ c.in_ok-tried.ensures)
    c.loop-number.invariant

pub loop-number-preserved : goal.loop-number-preserved
loop-number-preserved c =
    next_among c.args.rules.now (drop c.loop-number.number-index c.args.numbers.now)
    (drop (c.loop-number.number-index + 1) c.args.numbers.now) c.args.numbers.now _ c.args.kind
    c.args.inside.now
    (drop_got c.args.numbers.now c.loop-number.number-index _ c.loop-number-test.true)
    (sym (ap (option_map (λ f. (f, c.match_numbered.new.values.items))) c.in_default.is)
    ∙ c.in_ok-tried.ensures)
    c.loop-number.invariant

pub returns : goal.returns
returns c =
    ap (λ ns. first_among c.args.rules.now ns c.args.kind c.args.inside.now)
    (sym (drop_none c.args.numbers.now c.loop-number.number-index
    (omega (arith, c.loop-number-test.false))))
    ∙ c.loop-number.invariant
