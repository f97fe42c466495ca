use Rattle.std.proofs.Common.{Ok, ◌∙◌, sym}
use Rattle.std.specs.Prelude.{string_bytes}
use Rattle.syntax_tool.specs.Output.{refused}
use Rattle.syntax_tool.proofs.OutputLemmas.{run_usage, run_answer, run_refused, wrote_text}
use Rattle.syntax_tool.proofs.program.run.Goals as goal

pub returns-in-None-clause-run : goal.returns-in-None-clause-run
returns-in-None-clause-run g c = run_usage c.args.command.now _ _ _ c.write_output.result (sym c.named.ensures ∙ c.in-None.is) c.write_output.ensures

pub returns-in-Ok-clause-run : goal.returns-in-Ok-clause-run
returns-in-Ok-clause-run g c =
    run_answer c.args.command.now _ _ _ c.write_output-in-Ok.result c.in-Some.chosen (Ok (string_bytes c.in-Ok.text)) (sym c.named.ensures ∙ c.in-Some.is) c.in-Ok.ensures.ok
    (wrote_text _ _ c.write_output-in-Ok.result 0 c.as_str.result.now (string_bytes c.in-Ok.text) c.as_str.ensures.value c.write_output-in-Ok.ensures)

pub returns-in-Err-clause-run : goal.returns-in-Err-clause-run
returns-in-Err-clause-run g c =
    run_refused c.args.command.now _ _ _ c.write_output-in-Err.result c.in-Some.chosen c.in-Err.refusal (sym c.named.ensures ∙ c.in-Some.is) c.in-Err.ensures.err
    (wrote_text _ _ c.write_output-in-Err.result 1 c.line.result.now (refused c.in-Err.refusal).text c.line.ensures c.write_output-in-Err.ensures)
