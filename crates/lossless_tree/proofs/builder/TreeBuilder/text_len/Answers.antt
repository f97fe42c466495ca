use Rattle.std.proofs.Common.{length, sym, ap, ◌∙◌}
use Rattle.std.specs.Prelude.{string_bytes}
use Rattle.tree_model.specs.Events.{text_len}
use Rattle.tree_rows.proofs.FinishLemmas.{event_text_len}
use Rattle.lossless_tree.proofs.builder.TreeBuilder.text_len.Goals as goal

pub returns : goal.returns
returns c = ap length c.as_str.ensures.value ∙ sym (event_text_len c.self.inside.steps.items (string_bytes c.self.inside.text) c.self.invariant) ∙ ap text_len c.self.view_is
