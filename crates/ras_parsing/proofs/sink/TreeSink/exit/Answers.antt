use Rattle.std.proofs.Common.{refl}
use Rattle.std.proofs.lemmas.Result.{on_ok_weaker}
use Rattle.tree_rows.specs.declared.builder_event.BuilderEvent.TheVariants.{Exit}
use Rattle.ras_front_end.specs.Reading.{ends}
use Rattle.ras_parsing.proofs.Sinks.{step_added}
use Rattle.ras_parsing.proofs.sink.TreeSink.exit.Goals as goal

pub returns : goal.returns
returns c =
    on_ok_weaker c.exit.result
    (λ is before h. step_added c.args.self.now.rows c.exit.new.self c.args.self.now.errors.items before ends Exit refl (λ _. is) h)
    c.exit.ensures
