use Rattle.std.proofs.Common.{◌≡◌, ◌+◌, ◌<◌, ◌^◌, ◌∙◌, ap, sym, arith, filter_map}
use Rattle.tree_rows.specs.Making.{nothing_made, run}
use Rattle.tree_rows.specs.Run.{text_len}
use Rattle.tree_rows.proofs.Run.{made_rows}
use Rattle.tree_rows.proofs.finish.build_rows.Goals as goal

pub returns : goal.returns
returns g c = λ f is.
    let steps = filter_map g.S.TreeStep.step_event c.args.steps.now in
    let none : c.in_ok-rows.rows ≡ nothing_made = c.in_ok-rows.ensures in
    let short : c.in_ok-rows.rows.at + text_len steps < 2 ^ 32 = omega (arith, ap (λ m. m.at) none, c.requires) in
    c.in_ok-kept.ensures ∙ made_rows f steps c.take.new.self is (sym (c.in_ok-take.ensures short ∙ ap (run steps) none))
