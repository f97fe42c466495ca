use Rattle.std.proofs.Common.{Ok, ◌∙◌, ap}
use Rattle.std.specs.Prelude.{string_bytes}
use Rattle.lossless_tree.specs.Dump.{dump_of}
use Rattle.syntax_tool.proofs.DraftLemmas.{dumped}
use Rattle.syntax_tool.proofs.events.events.Goals as goal

pub returns : goal.returns
returns c = (
  Ok c.in_ok-read_events.field-0.events,
  c.in_ok-read_events.ensures.0,
  dumped c.in_ok-read_events.field-0 c.in_ok-parse.parse.tree (string_bytes c.in_ok-dump.field-0) c.in_ok-read_events.ensures.1 c.in_ok-parse.ensures.accepted c.in_ok-parse.ensures.ok.0 (c.in_ok-dump.ensures ∙ ap dump_of c.syntax_node.ensures),
)
