use Rattle.std.proofs.Common.{◌≡◌, ◌↔◌, Some, subst}
use Rattle.syntax_kind.specs.Kinds.{IsKind}
use Rattle.syntax_kind.specs.declared.syntax_kind.SyntaxKind.{SyntaxKind}
use Rattle.rust_kinds.specs.Names.{IsNamed}
use Rattle.ras_c.proofs.KindLemmas.{found, no_name}
use Rattle.ras_c.proofs.kinds.ras_c_kind_of_name.Goals as goal

pub returns-in_default-clause-exact : goal.returns-in_default-clause-exact
returns-in_default-clause-exact c = no_name c.args.name.now c.in_default.ensures.cases.0

pub returns-in-Some-clause-exact : goal.returns-in-Some-clause-exact
returns-in-Some-clause-exact c =
    found c.in-Some.kind c.to_raw.result c.args.name.now c.to_raw.ensures
    (subst (λ t. (k : SyntaxKind) → IsKind k → (Some c.in-Some.kind ≡ Some k) ↔ IsNamed k t) c.in-Ok.ensures.cases.0 c.in-Some.ensures.exact)
