use Rattle.std.proofs.Common.{ap, ◌∙◌, ◌++◌, ◌∷◌, [], string_bytes}
use Rattle.ras_parsing.proofs.Sinks.{fault_added}
use Rattle.ras_parsing.proofs.sink.TreeSink.add_error.Goals as goal

pub returns : goal.returns
returns c = λ before h.
    fault_added c.args.self.now.rows c.args.self.now.errors.items _ before (string_bytes c.args.message) c.args.position
    (c.in_ok-store.ensures ∙ ap (λ e. c.args.self.now.errors.items ++ e ∷ []) c.new_at_offset.ensures) h
