use Rattle.lexer_laws.proofs.Heading.{plain_heads, heads_end}
use Rattle.lexer_laws.proofs.laws.plain_texts_have_no_head.Goals as goal

pub returns-clause-plain : goal.returns-clause-plain
returns-clause-plain c e text u h = plain_heads e text u h

pub returns-clause-ends : goal.returns-clause-ends
returns-clause-ends c a u v b h = heads_end a u v b h
