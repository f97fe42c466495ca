use Rattle.std.proofs.Common.{sym, subst, ap, ◌∙◌, ◌≤◌, length}
use Rattle.std.specs.Prelude.{All}
use Rattle.token_layout.specs.Laid.{Laid}
use Rattle.event_layout.specs.Made.{without_trivia, only_tokens}
use Rattle.event_layout.proofs.Laying.{laid, lie}
use Rattle.event_layout.proofs.Making.{made, tokens_made}
use Rattle.event_layout.proofs.layout.lay_out.Goals as goal

pub returns-clause-one_tree : goal.returns-clause-one_tree
returns-clause-one_tree c = λ l cut.
    subst (Laid c.args.root c.args.text.now) (sym c.in_ok-sink.ensures.steps) (laid c.args.root c.args.attaching.now c.args.text.now c.args.tokens.now c.args.events.now l cut)

pub returns-clause-in_text : goal.returns-clause-in_text
returns-clause-in_text c = λ l cut.
    subst (All (λ f. f.position ≤ length c.args.text.now)) (sym c.in_ok-sink.ensures.faults)
    (lie c.args.root c.args.attaching.now c.args.text.now c.args.tokens.now c.args.events.now l cut)

pub returns-clause-of_events : goal.returns-clause-of_events
returns-clause-of_events c = λ l cut few.
    ap without_trivia c.in_ok-sink.ensures.steps ∙ made c.args.root c.args.attaching.now c.args.text.now c.args.tokens.now c.args.events.now l cut few

pub returns-clause-all_tokens : goal.returns-clause-all_tokens
returns-clause-all_tokens c = λ l cut few.
    ap only_tokens c.in_ok-sink.ensures.steps ∙ tokens_made c.args.root c.args.attaching.now c.args.text.now c.args.tokens.now c.args.events.now l cut few
