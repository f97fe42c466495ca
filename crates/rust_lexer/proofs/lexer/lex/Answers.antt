use Rattle.std.proofs.Common.{sym, subst, length, List}
use Rattle.std.specs.Prelude.{All}
use Rattle.token_layout.specs.declared.span.Token.{Token}
use Rattle.token_layout.specs.Laid.{IsCut}
use Rattle.rust_lexer.specs.declared.lexer.LexError.{LexError}
use Rattle.rust_lexer.specs.Laws.{HasBytes, ErrorLiesIn}
use Rattle.rust_lexer.proofs.Kept.{lexed}
use Rattle.rust_lexer.proofs.lexer.lex.Goals as goal

pub returns-clause-cut : goal.returns-clause-cut
returns-clause-cut c = λ l. subst (λ (ts : List Token). IsCut ts c.args.text.now) (sym c.in_ok-lexed.ensures.tokens) (lexed c.args.edition c.args.text.now c.utf8.text l).cut

pub returns-clause-none_empty : goal.returns-clause-none_empty
returns-clause-none_empty c = λ l. subst (λ (ts : List Token). All HasBytes ts) (sym c.in_ok-lexed.ensures.tokens) (lexed c.args.edition c.args.text.now c.utf8.text l).none_empty

pub returns-clause-lie : goal.returns-clause-lie
returns-clause-lie c = λ l. subst (λ (es : List LexError). All (ErrorLiesIn (length c.args.text.now)) es) (sym c.in_ok-lexed.ensures.errors) (lexed c.args.edition c.args.text.now c.utf8.text l).lie
