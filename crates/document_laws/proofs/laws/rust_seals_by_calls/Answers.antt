use Rattle.document_laws.proofs.Tabling.{only_calls, looks_short, exact_rules}
use Rattle.document_laws.proofs.laws.rust_seals_by_calls.Goals as goal

pub returns-clause-seals : goal.returns-clause-seals
returns-clause-seals c i o e = only_calls i o e

pub returns-clause-looks : goal.returns-clause-looks
returns-clause-looks c i o e = looks_short i o e

pub returns-clause-rules : goal.returns-clause-rules
returns-clause-rules c k r h = exact_rules k r h
