use Rattle.ras_front_end.specs.declared.output.Step.TheVariants.{Token}
use Rattle.ras_front_end.proofs.Steps.{pushed}
use Rattle.ras_front_end.proofs.step_sink.VecStepStepSink.token.Goals as goal

pub returns : goal.returns
returns c = λ before h. pushed c.args.self.now.items c.push.new.self.items (Token c.args.kind c.args.len) before c.in_ok-push.ensures.items h
