use Rattle.std.proofs.Common.{◌≡◌, ◌∙◌, sym, ap}
use Rattle.std.specs.Prelude.{Option}
use Rattle.tree_model.specs.declared.direction.Direction.{Direction}
use Rattle.tree_model.specs.declared.direction.Direction.TheVariants.{Next, Prev}
use Rattle.tree_model.specs.Cursor.{Cursor}
use Rattle.tree_model.specs.NearestToken.{tokens_beyond}
use Rattle.ras_algo.specs.Algo.{tokens_left}
use Rattle.ras_algo.proofs.TokensAround.{beyond-step, IsRightBeyond}
use Rattle.ras_algo.proofs.algo.Tokens.beyond.Goals as goal
use Rattle.ras_algo.proofs.algo.Tokens.beyond.Goals.{in-Next, in-Prev}

in_direction : (way d : Direction) (t : Cursor) (next r : Option Cursor) → d ≡ way → next ≡ r → IsRightBeyond way t r → tokens_left d next ≡ tokens_beyond d t
in_direction way d t next r e is step = ap (λ x. tokens_left x next) e ∙ ap (tokens_left way) is ∙ sym (beyond-step way t r step) ∙ ap (λ x. tokens_beyond x t) (sym e)

pub returns : goal.returns
returns c =
    elim c.match-direction.branch [
      | in-Next w ↦ in_direction Next c.args.direction c.args.token.now _ _ w.in-Next.is w.next-is w.next_token-next.ensures
      | in-Prev w ↦ in_direction Prev c.args.direction c.args.token.now _ _ w.in-Prev.is w.next-is w.prev_token-next.ensures
    ]
