use Rattle.std.proofs.Common.{◌≡◌, ◌∙◌, sym, ap, subst}
use Rattle.std.specs.Prelude.{IfOk, string_bytes}
use Rattle.rust_report.specs.Labels.{line_of}
use Rattle.rust_report.proofs.LabelsLemmas.{impl_line, other_line}
use Rattle.rust_report.proofs.labels.label_line.Goals as goal

pub returns-then-is_of_kind : goal.returns-then-is_of_kind
returns-then-is_of_kind c =
    subst (λ s. IfOk c.head_line.result (λ line. string_bytes line ≡ s)) (impl_line c.args.row.now (sym c.is_of_kind.ensures ∙ c.if-is_of_kind.true)) c.head_line.ensures

pub returns-else-is_of_kind : goal.returns-else-is_of_kind
returns-else-is_of_kind c =
    subst (λ s. IfOk c.own_line.result (λ line. string_bytes line ≡ s))
    (ap line_of c.label_of.ensures ∙ other_line c.args.row.now (sym c.is_of_kind.ensures ∙ c.if-is_of_kind.false)) c.own_line.ensures
