use Rattle.std.proofs.Common.{◌++◌, ◌∷◌, [], ap, ◌∙◌, string_bytes}
use Rattle.ras_front_end.specs.Reading.{reports}
use Rattle.ras_front_end.proofs.Steps.{pushed}
use Rattle.ras_front_end.proofs.step_sink.VecStepStepSink.error.Goals as goal

pub returns : goal.returns
returns c = λ before h.
    pushed c.args.self.now.items c.push.new.self.items _ before c.in_ok-push.ensures.items h
    ∙ ap (λ m. before ++ reports (string_bytes m) c.args.position ∷ []) c.in_ok-new.ensures.ok
