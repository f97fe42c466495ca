use Rattle.std.proofs.Common.{sym, subst}
use Rattle.tree_model.specs.declared.error.FinishError.TheVariants.{Memory}
use Rattle.ras_parsing.specs.Draft.{Draft, AllForwards}
use Rattle.ras_parsing.proofs.DraftRefusals.{draft_refusal_is, draft_accepted}
use Rattle.ras_parsing.proofs.builder.SyntaxTreeBuilder.finish.Goals as goal

pub returns-in-Ok-clause-accepted : goal.returns-in-Ok-clause-accepted
returns-in-Ok-clause-accepted c = draft_accepted c.args.self c.in_ok-built.ensures.accepted (subst (λ (d : Draft). AllForwards d.faults) c.self.view_is c.self.invariant)

pub returns-in-Err-clause-refused : goal.returns-in-Err-clause-refused
returns-in-Err-clause-refused c = draft_refusal_is c.args.self Memory (sym c.in_ok-built.ensures.accepted)
