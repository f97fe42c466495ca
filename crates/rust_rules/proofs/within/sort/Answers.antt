use Rattle.std.proofs.Common.{rules}
use Rattle.std.proofs.lemmas.List.Sorted.{answers_always}
use Rattle.rust_rules.specs.Macros.{place_key}
use Rattle.rust_rules.proofs.within.sort.Goals as goal

pub returns-clause-sorted : goal.returns-clause-sorted
returns-clause-sorted c = c.sort_unstable_by_key.ensures.sorted place_key (answers_always _ _ _ (λ f a r g h. search rules))
