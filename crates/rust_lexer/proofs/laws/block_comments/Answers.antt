use Rattle.rust_lexer.proofs.CommentFronts as lemmas
use Rattle.rust_lexer.proofs.laws.block_comments.Goals as goal

pub returns : goal.returns
returns c s r h = lemmas.block_comments s r h
