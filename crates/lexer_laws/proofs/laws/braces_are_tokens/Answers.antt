use Rattle.lexer_laws.proofs.Bracing.{brace_alone}
use Rattle.lexer_laws.proofs.laws.braces_are_tokens.Goals as goal

pub returns : goal.returns
returns c e b s h u = brace_alone e b s h u
