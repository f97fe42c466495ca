use Rattle.std.proofs.Common.{◌∙◌, sym, ap, decimal, drop}
use Rattle.syntax_kind.proofs.Names.{none_is_some}
use Rattle.syntax_kind.proofs.syntax_kind.find.other_number.Goals as goal

pub returns-in_err-strip_suffix : goal.returns-in_err-strip_suffix
unfolding lib.Utf8.encode
returns-in_err-strip_suffix c = λ n small.
    let inner = c.in_ok-strip_prefix.ensures.cases in (
      λ q. absurd (none_is_some n (sym c.from_residual-in_err-strip_suffix.ensures ∙ q)),
      λ q. absurd (c.in_err-strip_suffix.ensures.cases (decimal n)
          (inner.2 ∙ ap (λ k. drop k c.args.name.now) inner.1.0 ∙ ap (drop 6) (sym q))),
    )
