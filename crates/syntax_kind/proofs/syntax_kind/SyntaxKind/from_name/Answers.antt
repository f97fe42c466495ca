use Rattle.std.proofs.Common.{◌≡◌, ℕ, ◌<◌, refl, sym, subst, arith}
use Rattle.syntax_kind.proofs.Names.{Finds, Finds-some, Finds-none, IsNamedAs-kind, none_is_some}
use Rattle.syntax_kind.specs.Kinds.{kind_name}
use Rattle.syntax_kind.specs.declared.syntax_kind.SyntaxKind.TheVariants.{OTHER}
use Rattle.syntax_kind.proofs.syntax_kind.SyntaxKind.from_name.Goals as goal

pub returns-in-Some-clause-exact : goal.returns-in-Some-clause-exact
returns-in-Some-clause-exact c =
    let named = IsNamedAs-kind _ _ c.in-Some.ensures in
    Finds-some c.in-Some.kind c.args.name.now named.0 named.1

pub returns-in_err-other_number-clause-exact : goal.returns-in_err-other_number-clause-exact
returns-in_err-other_number-clause-exact c =
    let none : (n : ℕ) → n < 65536 → ¬ (kind_name (OTHER n) ≡ c.args.name.now) = λ n small e. none_is_some n
    ((c.in_err-other_number.ensures n small).1 e) in
    subst (λ r. Finds r c.args.name.now) (sym c.from_residual.ensures) (Finds-none c.args.name.now c.in_default.ensures none)

pub returns-clause-exact : goal.returns-clause-exact
returns-clause-exact c =
    let n = c.in_ok-other_number.field-0 in
    let small : n < 65536 = omega arith in
    Finds-some (OTHER n) c.args.name.now small ((c.in_ok-other_number.ensures n small).0 refl)
