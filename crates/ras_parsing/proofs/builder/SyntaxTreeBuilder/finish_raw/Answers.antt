use Rattle.std.proofs.Common.{◌≡◌, sym, ap, ◌∙◌, subst, length, false}
use Rattle.std.specs.Prelude.{All}
use Rattle.std.specs.List.{list_any}
use Rattle.tree_model.specs.Tree.{text}
use Rattle.ras_front_end.specs.ErrorModel.{LiesIn}
use Rattle.ras_parsing.specs.Draft.{is_past}
use Rattle.ras_parsing.proofs.TreeTexts.{built_len}
use Rattle.ras_parsing.proofs.PastErrors.{none_past}
use Rattle.ras_parsing.proofs.builder.SyntaxTreeBuilder.finish_raw.Goals as goal

pub returns-clause-in_text : goal.returns-clause-in_text
returns-clause-in_text c =
    let len : c.text_len.result ≡ length (text c.in_ok-root.root.tree) = c.text_len.ensures ∙ built_len _ c.in_ok-root.root.tree c.in_ok-root.ensures.ok.0 in
    let none : list_any (is_past c.text_len.result) c.self.inside.errors.items ≡ false =
    ap (list_any (is_past c.text_len.result)) (sym c.as_slice.ensures.value) ∙ sym c.has_error_past.ensures ∙ c.if-has_error_past.false in
    subst (λ n. All (LiesIn n) c.self.inside.errors.items) len (none_past c.text_len.result c.self.inside.errors.items none c.self.invariant)
