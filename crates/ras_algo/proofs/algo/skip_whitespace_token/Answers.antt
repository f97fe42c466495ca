use Rattle.std.proofs.Common.{◌∙◌, sym, rules, tests}
use Rattle.std.proofs.lemmas.Iterator.Search.{find_from_yields_List}
use Rattle.std.proofs.lemmas.Iterator.Adapters.{option_map_id}
use Rattle.std.proofs.lemmas.Iterator.Consumers.{YieldsList-from_first}
use Rattle.ras_algo.specs.Algo.{is_no_whitespace}
use Rattle.ras_algo.proofs.algo.skip_whitespace_token.Goals as goal

pub returns : goal.returns
returns c = sym (option_map_id _) ∙ find_from_yields_List is_no_whitespace _ _ _ c.find.ensures.ran (YieldsList-from_first (λ x. x) (λ l. l) _ c.from-tokens.ensures) (λ x b q k. search (rules, tests))
