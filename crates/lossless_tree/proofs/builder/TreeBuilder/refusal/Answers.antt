use Rattle.std.proofs.Common.{◌∙◌, sym, ap, arith, length, [], Some}
use Rattle.std.specs.Prelude.{string_bytes}
use Rattle.tree_model.specs.Events.{first_refusal}
use Rattle.tree_model.specs.Scan.{scan}
use Rattle.tree_model.specs.declared.error.FinishError.TheVariants.{Empty}
use Rattle.tree_rows.specs.Builder.{events_from}
use Rattle.tree_rows.proofs.FinishLemmas.{first_refusal-short, first_refusal-long}
use Rattle.lossless_tree.proofs.builder.TreeBuilder.refusal.Goals as goal

pub returns-then-as_str : goal.returns-then-as_str
returns-then-as_str c =
    sym (ap first_refusal (sym c.self.view_is) ∙ first_refusal-long c.self.inside.steps.items (string_bytes c.self.inside.text) c.self.invariant (omega (arith, c.if-as_str.true, ap length c.as_str.ensures.value)))

pub returns : goal.returns
returns c =
    c.first_refusal.ensures
    ∙ sym
    (ap first_refusal (sym c.self.view_is)
    ∙ first_refusal-short c.self.inside.steps.items (string_bytes c.self.inside.text) c.self.invariant (omega (arith, c.if-as_str.false, ap length c.as_str.ensures.value))
    ∙ ap (λ l. scan 0 (Some Empty) (events_from l [])) (sym c.as_slice.ensures.value))
