use Rattle.ras_front_end.specs.declared.output.Step.TheVariants.{Exit}
use Rattle.ras_front_end.proofs.Steps.{pushed}
use Rattle.ras_front_end.proofs.step_sink.VecStepStepSink.finish_node.Goals as goal

pub returns : goal.returns
returns c = λ before h. pushed c.args.self.now.items c.push.new.self.items Exit before c.in_ok-push.ensures.items h
