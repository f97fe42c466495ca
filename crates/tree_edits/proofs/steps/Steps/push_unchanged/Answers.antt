use Rattle.std.proofs.Common.{◌≡◌, ◌++◌, ◌∙◌, List, ℕ, ap, subst, sym}
use Rattle.std.specs.Prelude.{string_bytes, IsCharBoundary, if◌then◌else◌}
use Rattle.tree_model.specs.Tree.{text}
use Rattle.tree_edits.specs.Unchanged.{offset_of, between}
use Rattle.tree_edits.proofs.PieceLemmas.{offset-boundary}
use Rattle.tree_edits.proofs.UnchangedLemmas.{root_text, run-fits, run-events}
use Rattle.tree_edits.proofs.steps.Steps.push_unchanged.Goals as goal

boundary : (s t : List ℕ) (a b : ℕ) → s ≡ t → a ≡ b → IsCharBoundary t b → IsCharBoundary s a
boundary s t a b e f h = subst (λ l. IsCharBoundary l a) (sym e) (subst (IsCharBoundary t) (sym f) h)

pub range-text-requires-clause-start_boundary : goal.range-text-requires-clause-start_boundary
range-text-requires-clause-start_boundary g c = λ _.
    boundary c.text_at.result.now (text c.args.table.now) c.offset_of-start.result (offset_of c.args.table.now c.args.next) (root_text c.args.table.now c.text_at.result.now c.text_at.ensures) c.offset_of-start.ensures
    (offset-boundary c.args.table.now c.args.next c.requires.1.1.1)

pub range-text-requires-clause-end_boundary : goal.range-text-requires-clause-end_boundary
range-text-requires-clause-end_boundary g c =
    boundary c.text_at.result.now (text c.args.table.now) c.in-Ok.reached.end (offset_of c.args.table.now c.in-Ok.reached.next) (root_text c.args.table.now c.text_at.result.now c.text_at.ensures) c.in-Ok.ensures.ok.end_is
    (offset-boundary c.args.table.now c.in-Ok.reached.next c.requires.1.1.1)

pub invariant_of-self : goal.invariant_of-self
invariant_of-self g c =
    run-fits g.at c.args.table.now c.self.inside.steps.items c.push_rows.new.steps.items c.args.next c.args.innermost c.in-Ok.reached (string_bytes c.self.inside.text) (string_bytes c.push_str.new.self) c.range-text.result.now
    c.in-Ok.ensures.ok c.self.invariant
    (c.push_str.ensures.bytes ∙ ap (λ b. if b then string_bytes c.self.inside.text ++ c.range-text.result.now else string_bytes c.self.inside.text) (sym c.is_ok.ensures.value ∙ c.if-is_ok.true))
    (c.range-text.ensures.value ∙ ap (λ l. between l c.offset_of-start.result c.in-Ok.reached.end) (root_text c.args.table.now c.text_at.result.now c.text_at.ensures)
    ∙ ap (λ a. between (text c.args.table.now) a c.in-Ok.reached.end) c.offset_of-start.ensures)

pub returns-then-is_ok : goal.returns-then-is_ok
returns-then-is_ok g c =
    run-events g.at c.args.table.now c.self.inside.steps.items c.push_rows.new.steps.items c.args.next c.args.innermost c.in-Ok.reached (string_bytes c.self.inside.text) (string_bytes c.push_str.new.self) c.range-text.result.now c.args.self.now
    c.in-Ok.ensures.ok c.self.invariant c.self.view_is
    (c.push_str.ensures.bytes ∙ ap (λ b. if b then string_bytes c.self.inside.text ++ c.range-text.result.now else string_bytes c.self.inside.text) (sym c.is_ok.ensures.value ∙ c.if-is_ok.true))
    (c.range-text.ensures.value ∙ ap (λ l. between l c.offset_of-start.result c.in-Ok.reached.end) (root_text c.args.table.now c.text_at.result.now c.text_at.ensures)
    ∙ ap (λ a. between (text c.args.table.now) a c.in-Ok.reached.end) c.offset_of-start.ensures)
