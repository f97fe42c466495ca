use Rattle.std.proofs.Common.{◌≡◌, ◌&&◌, ap, sym, ◌∙◌}
use Rattle.tree_model.specs.Tree.{kind_of}
use Rattle.tree_model.specs.Cursor.{focus}
use Rattle.tree_model.specs.Every.{every}
use Rattle.operator_trees.specs.Forms.{form_of}
use Rattle.operator_powers.specs.Rules.{is_term_form}
use Rattle.operator_reading.specs.Reads.{has_form}
use Rattle.operator_reading.proofs.ReadsLemmas.{term_shown}
use Rattle.operator_reading.proofs.reads.shows_term.Goals as goal

pub returns-then-is_term_form : goal.returns-then-is_term_form
returns-then-is_term_form c =
    let u = focus c.args.node.now in
    let test : c.is_term_form.result ≡ is_term_form (form_of (kind_of u)) = c.is_term_form.ensures ∙ ap is_term_form (c.form_of.ensures ∙ ap form_of c.kind.ensures) in
    c.all_have_forms.ensures ∙ ap (λ b. b && every has_form u) (sym c.if-is_term_form.true ∙ test) ∙ term_shown u c.placed.ensures.node

pub returns-else-is_term_form : goal.returns-else-is_term_form
returns-else-is_term_form c =
    let u = focus c.args.node.now in
    let test : c.is_term_form.result ≡ is_term_form (form_of (kind_of u)) = c.is_term_form.ensures ∙ ap is_term_form (c.form_of.ensures ∙ ap form_of c.kind.ensures) in
    c.if-is_term_form.false ∙ ap (λ b. b && every has_form u) (sym c.if-is_term_form.false ∙ test) ∙ term_shown u c.placed.ensures.node
