use Rattle.std.proofs.Common.{ap, ◌∙◌}
use Rattle.std.specs.Prelude.{codes}
use Rattle.ras_token_ext.specs.Literals.{can_borrow}
use Rattle.ras_tokens.proofs.token_ext.strings.tokens+CString.value.Goals as goal

pub returns-clause-borrowed : goal.returns-clause-borrowed
returns-clause-borrowed c h = c.bytes_value.ensures.borrowed (ap (can_borrow (codes "cr")) c.text.ensures ∙ h)
