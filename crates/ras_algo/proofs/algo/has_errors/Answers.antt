use Rattle.std.proofs.Common.{rules, tests}
use Rattle.std.proofs.lemmas.Iterator.Search.{any_from_yields_List}
use Rattle.std.proofs.lemmas.Iterator.Consumers.{YieldsList-from_first}
use Rattle.ras_algo.specs.Algo.{is_error}
use Rattle.ras_algo.proofs.algo.has_errors.Goals as goal

pub returns : goal.returns
returns c = any_from_yields_List is_error _ _ _ c.any.ensures.ran (YieldsList-from_first (λ x. x) (λ l. l) _ c.children.ensures) (λ x b q k. search (rules, tests))
