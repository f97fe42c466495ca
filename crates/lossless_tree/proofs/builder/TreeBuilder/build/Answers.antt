use Rattle.std.proofs.Common.{◌≡◌, ◌∙◌, sym, ap, subst, arith, ◌<◌, ◌^◌, [], Some}
use Rattle.std.specs.Prelude.{string_bytes}
use Rattle.tree_model.specs.Events.{BuildsNode, first_refusal}
use Rattle.tree_rows.specs.Builder.{events_from}
use Rattle.tree_model.specs.Tree.{node, cons, nil}
use Rattle.tree_rows.specs.Rows.{columns_of, tree_of_rows}
use Rattle.tree_rows.specs.Run.{text_len}
use Rattle.tree_model.specs.Scan.{scan}
use Rattle.tree_model.specs.declared.error.FinishError.TheVariants.{Empty}
use Rattle.tree_rows.proofs.FinishLemmas.{Ready, ready, first_refusal-short, first_refusal-long, refusal_of-scan, table_built, node_built, step_text_len, all_events}
use Rattle.lossless_tree.proofs.builder.TreeBuilder.build.Goals as goal
use Rattle.lossless_tree.proofs.builder.TreeBuilder.build.Goals.{In-None, In-Ok, After-first_refusal}

pub returns-then-len-clause-refused : goal.returns-then-len-clause-refused
returns-then-len-clause-refused c =
    sym (ap first_refusal (sym c.self.view_is) ∙ first_refusal-long c.self.inside.steps.items (string_bytes c.self.inside.text) c.self.invariant (omega (arith, c.if-len.true, c.len.ensures, c.self.inside.text.bytes.ok.0)))

refusal_is : (c : After-first_refusal) → first_refusal c.args.self ≡ scan 0 (Some Empty) (events_from c.as_slice.result.now [])
refusal_is c =
    ap first_refusal (sym c.self.view_is)
    ∙ first_refusal-short c.self.inside.steps.items (string_bytes c.self.inside.text) c.self.invariant (omega (arith, c.if-len.false, c.len.ensures, c.self.inside.text.bytes.ok.0))
    ∙ ap (λ l. scan 0 (Some Empty) (events_from l [])) (sym c.as_slice.ensures.value)

pub returns-in-Some-clause-refused : goal.returns-in-Some-clause-refused
returns-in-Some-clause-refused c = refusal_of-scan c.as_slice.result.now c.in-Some.refusal (sym c.in-Some.ensures) ∙ c.in-Some.ensures ∙ sym (refusal_is (goal.at.returns-in-Some-clause-refused c).After-first_refusal)

is_ready : (c : In-None) → Ready c.self.inside.steps.items (string_bytes c.self.inside.text)
is_ready c = ready c.self.inside.steps.items (string_bytes c.self.inside.text) c.self.invariant (ap (λ l. scan 0 (Some Empty) (events_from l [])) (sym c.as_slice.ensures.value) ∙ sym c.in-None.ensures)

pub build_rows-requires : goal.build_rows-requires
build_rows-requires c =
    subst (λ l. text_len l < 2 ^ 32) (sym (all_events c.as_slice-in-None.result.now))
    (omega (arith, ap text_len c.as_slice-in-None.ensures.value, step_text_len c.self.inside.steps.items (string_bytes c.self.inside.text) c.self.invariant, c.if-len.false, c.len.ensures, c.self.inside.text.bytes.ok.0))

rows_are : (c : In-Ok) (w : Ready c.self.inside.steps.items (string_bytes c.self.inside.text)) → c.in-Ok.rows ≡ columns_of (cons (node w.kind w.children) nil)
rows_are c w = c.in-Ok.ensures (cons (node w.kind w.children) nil) (all_events c.as_slice-in-None.result.now ∙ c.as_slice-in-None.ensures.value ∙ w.steps_are)

pub from_parts-requires : goal.from_parts-requires
from_parts-requires c =
    let w = is_ready (goal.at.from_parts-requires c).In-None in
    table_built c.self.inside.steps.items (string_bytes c.self.inside.text) w c.in-Ok.rows (rows_are (goal.at.from_parts-requires c).In-Ok w) (omega (arith, c.if-len.false, c.len.ensures, c.self.inside.text.bytes.ok.0))

pub returns-in-Ok-clause-ok : goal.returns-in-Ok-clause-ok
returns-in-Ok-clause-ok c =
    let w = is_ready (goal.at.returns-in-Ok-clause-ok c).In-None in
    subst (BuildsNode c.args.self) (sym c.from_parts.ensures)
    (subst (λ es. BuildsNode es (tree_of_rows c.in-Ok.rows (string_bytes c.self.inside.text))) c.self.view_is
    (node_built c.self.inside.steps.items (string_bytes c.self.inside.text) w c.in-Ok.rows (rows_are (goal.at.returns-in-Ok-clause-ok c).In-Ok w)))

pub returns-in-Ok-clause-accepted : goal.returns-in-Ok-clause-accepted
returns-in-Ok-clause-accepted c = refusal_is (goal.at.returns-in-Ok-clause-accepted c).After-first_refusal ∙ sym c.in-None.ensures

pub returns-clause-refused : goal.returns-clause-refused
returns-clause-refused c = sym (refusal_is (goal.at.returns-clause-refused c).After-first_refusal ∙ sym c.in-None.ensures)
