use Rattle.operator_terms.proofs.Readings.{called-field-tokens, called-field-unread}
use Rattle.operator_terms.proofs.laws.a_called_field_is_a_method_call.Goals as goal

pub returns : goal.returns
returns c = record { tokens = called-field-tokens; unread = called-field-unread }
