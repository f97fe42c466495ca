use Rattle.std.proofs.Common.{◌≡◌, ap, sym, ◌∙◌, Some}
use Rattle.std.proofs.lemmas.Result.{on_ok_weaker}
use Rattle.tree_rows.specs.Heads.{step_of}
use Rattle.ras_front_end.specs.Reading.{front_event}
use Rattle.ras_parsing.specs.Sinks.{started}
use Rattle.ras_parsing.proofs.Sinks.{step_added, started_event}
use Rattle.ras_parsing.proofs.sink.TreeSink.start.Goals as goal

pub returns : goal.returns
returns c =
    let k = c.args.kind in
    let step = started k.kind k.is_token c.args.len in
    let fits : front_event step ≡ Some (step_of k c.raw.result) =
    started_event k.kind k.is_token c.args.len ∙ ap (λ n. Some (step_of k n)) (sym c.raw.ensures) in
    on_ok_weaker c.start.result
    (λ next before h. step_added c.args.self.now.rows c.start.new.self c.args.self.now.errors.items before step (step_of k c.raw.result) fits next h)
    c.start.ensures
