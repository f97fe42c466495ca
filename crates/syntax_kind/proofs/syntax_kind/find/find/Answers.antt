use Rattle.std.proofs.Common.{◌≡◌, Some, sym, subst, MatchOption, IsTrue, false}
use Rattle.syntax_kind.specs.KindText.{IsNamedAs}
use Rattle.syntax_kind.specs.declared.syntax_kind.SyntaxKind.{SyntaxKind}
use Rattle.syntax_kind.proofs.Names.{named-candidate, none_is_some}
use Rattle.syntax_kind.proofs.syntax_kind.find.find.Goals as goal

pub returns-in_err-kind : goal.returns-in_err-kind
returns-in_err-kind c =
    let none : (k : SyntaxKind) → ¬ (IsNamedAs k c.args.name.now) = λ k e. none_is_some k (named-candidate _ _ c.in_err-kind.ensures k e) in
    subst (λ r. MatchOption r ((k : SyntaxKind) → ¬ (IsNamedAs k c.args.name.now)) (λ k. IsNamedAs k c.args.name.now))
    (sym c.from_residual.ensures) none

pub returns-else-is_named : goal.returns-else-is_named
returns-else-is_named c = λ k e.
    let found : Some c.in_ok-kind.kind ≡ Some k = named-candidate _ _ c.in_ok-kind.ensures k e in
    let same : c.in_ok-kind.kind ≡ k = cc in
    let told : IsTrue false = c.if-is_named.ensures.1 (subst (λ k. IsNamedAs k c.args.name.now) (sym same) e) in
    (cc)
