use Rattle.std.proofs.Common.{◌∙◌, sym, ap}
use Rattle.std.specs.List.{find}
use Rattle.tree_model.specs.declared.direction.Direction.TheVariants.{Next, Prev}
use Rattle.tree_model.specs.NearestToken.{tokens_beyond}
use Rattle.ras_algo.specs.Algo.{has_no_trivia_kind}
use Rattle.ras_algo.proofs.TokensAround.{same_nearest}
use Rattle.ras_algo.proofs.algo.non_trivia_beyond.Goals as goal

pub returns-in-Next : goal.returns-in-Next
returns-in-Next c =
    c.next_token_no_trivia.ensures
    ∙ same_nearest Next c.args.token.now
    ∙ ap (λ d. find has_no_trivia_kind (tokens_beyond d c.args.token.now)) (sym c.in-Next.is)

pub returns-in-Prev : goal.returns-in-Prev
returns-in-Prev c =
    c.prev_token_no_trivia.ensures
    ∙ same_nearest Prev c.args.token.now
    ∙ ap (λ d. find has_no_trivia_kind (tokens_beyond d c.args.token.now)) (sym c.in-Prev.is)
