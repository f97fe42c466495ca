use Rattle.document_laws.proofs.Knowns.{lexer_known}
use Rattle.document_laws.proofs.Sights.{sights_are}
use Rattle.document_laws.proofs.laws.sights_are_of_tokens.Goals as goal

pub returns-clause-sights : goal.returns-clause-sights
returns-clause-sights c e text ts known = sights_are e text ts known

pub returns-clause-known : goal.returns-clause-known
returns-clause-known c e text i t is plain = lexer_known e text i t is plain
