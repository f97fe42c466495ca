use Rattle.std.proofs.Common.{◌∙◌, ◌<◌, ap, sym, subst, length}
use Rattle.std.specs.Prelude.{option_map}
use Rattle.syntax_indent.specs.Level.{first_level, tokens_back}
use Rattle.syntax_indent.proofs.LevelLemmas.{goes_back, fewer}
use Rattle.syntax_indent.proofs.level.IndentLevel.from_token.Goals as goal

pub loop-next-init : goal.loop-next-init
loop-next-init c = goes_back c.args.token.now c.prev_token-next.result (ap (option_map (λ l. l.number)) (sym c.in_default.is) ∙ c.line_level.ensures) c.prev_token-next.ensures

pub loop-next-smaller : goal.loop-next-smaller
loop-next-smaller c =
    subst (λ n. length (tokens_back c.prev_token-next-in-Some-next.result) < length (tokens_back n)) (sym c.in-Some-next.is)
    (fewer c.in-Some-next.before c.prev_token-next-in-Some-next.result c.prev_token-next-in-Some-next.ensures)

pub loop-next-preserved : goal.loop-next-preserved
loop-next-preserved c =
    goes_back c.in-Some-next.before c.prev_token-next-in-Some-next.result (ap (option_map (λ l. l.number)) (sym c.in_default-line_level.is) ∙ c.line_level-in-Some-next.ensures) c.prev_token-next-in-Some-next.ensures
    ∙ ap (λ n. first_level (tokens_back n)) (sym c.in-Some-next.is)
    ∙ c.loop-next.invariant
