use Rattle.std.proofs.Common.{ap, arith}
use Rattle.tree_rows.proofs.StepLemmas.{end_of_row}
use Rattle.tree_rows.proofs.TableLemmas.{row_end_fits}
use Rattle.tree_rows.proofs.TokenSearch.{FoundTokens, tokens_found}
use Rattle.tree_rows.proofs.table.Table.tokens_at.Goals as goal
use Rattle.tree_rows.proofs.table.Table.tokens_at.Goals.{After-row-end, After-last_reaching-2}

found : (c : After-last_reaching-2) → FoundTokens c.args.self.now c.args.n c.args.offset c.last_reaching.result c.last_reaching-2.result
found c = tokens_found c.args.self.now c.args.n c.row-end.result.end c.args.offset c.first_row_from-at.result c.first_row_from-past.result _ _ c.requires.is_row (ap (λ r. r.end) c.row-end.ensures.value) c.first_row_from-at.ensures c.first_row_from-past.ensures c.last_reaching.ensures c.last_reaching-2.ensures

pub first_row_from-at-requires-clause-ordered : goal.first_row_from-at-requires-clause-ordered
first_row_from-at-requires-clause-ordered c = omega (arith, ap (λ r. r.end) c.row-end.ensures.value, end_of_row c.args.self.now c.args.n c.requires.is_row)

pub first_row_from-at-requires-clause-in_range : goal.first_row_from-at-requires-clause-in_range
first_row_from-at-requires-clause-in_range c = omega (arith, ap (λ r. r.end) c.row-end.ensures.value, row_end_fits c.args.self.now c.args.n c.requires.is_row)

pub first_row_from-past-requires-clause-in_range : goal.first_row_from-past-requires-clause-in_range
first_row_from-past-requires-clause-in_range c = omega (arith, ap (λ r. r.end) c.row-end.ensures.value, row_end_fits c.args.self.now c.args.n c.requires.is_row)

pub last_reaching-requires : goal.last_reaching-requires
last_reaching-requires c = omega (arith, ap (λ r. r.end) c.row-end.ensures.value, row_end_fits c.args.self.now c.args.n c.requires.is_row)

pub last_reaching-requires-2 : goal.last_reaching-requires-2
last_reaching-requires-2 c = omega (arith, ap (λ r. r.end) c.row-end.ensures.value, row_end_fits c.args.self.now c.args.n c.requires.is_row)

pub returns-clause-tokens : goal.returns-clause-tokens
returns-clause-tokens c = (found (goal.at.returns-clause-tokens c).After-last_reaching-2).tokens

pub returns-clause-left : goal.returns-clause-left
returns-clause-left c = (found (goal.at.returns-clause-left c).After-last_reaching-2).left

pub returns-clause-right : goal.returns-clause-right
returns-clause-right c = (found (goal.at.returns-clause-right c).After-last_reaching-2).right
