use Rattle.std.proofs.Common.{◌≡◌, ◌∙◌, None, Some, List, ℕ, sym, subst}
use Rattle.rust_kinds.specs.Names.{number_in_table}
use Rattle.rust_kinds.proofs.KindNames.{Finds, FindsOwn, finds_none, finds_other, finds_row}
use Rattle.rust_kinds.proofs.from_name.Goals as goal

pub returns-in-Some-clause-exact : goal.returns-in-Some-clause-exact
returns-in-Some-clause-exact c = finds_row c.args.name.now c.in-Some.number (sym c.in-Some.ensures)

pub returns-in_err-kind-clause-exact : goal.returns-in_err-kind-clause-exact
returns-in_err-kind-clause-exact c =
    let name : List ℕ = c.args.name.now in
    let none : number_in_table name ≡ None = sym c.other_number.ensures ∙ c.in_default.is in
    subst (λ r. Finds r name) (sym c.from_residual.ensures) (finds_none name none c.in_err-kind.ensures.exact)

pub returns-in-OTHER-clause-exact : goal.returns-in-OTHER-clause-exact
returns-in-OTHER-clause-exact c =
    let name : List ℕ = c.args.name.now in
    let none : number_in_table name ≡ None = sym c.other_number.ensures ∙ c.in_default.is in
    finds_other c.in-OTHER.field-0 name none (subst (λ k. FindsOwn (Some k) name) c.in-OTHER.is c.in_ok-kind.ensures.exact)
