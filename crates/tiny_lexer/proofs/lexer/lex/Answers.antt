use Rattle.std.proofs.Common.{sym, subst, length, List}
use Rattle.std.specs.Prelude.{All}
use Rattle.token_layout.specs.declared.span.Token.{Token}
use Rattle.token_layout.specs.Laid.{IsCut}
use Rattle.tiny_lexer.specs.declared.lexer.Complaint.{Complaint}
use Rattle.tiny_lexer.specs.Cut.{ComplaintLiesIn}
use Rattle.tiny_lexer.specs.Cutting.{lexed}
use Rattle.tiny_lexer.proofs.lexer.lex.Goals as goal

pub returns-clause-cut : goal.returns-clause-cut
returns-clause-cut c = λ l. subst (λ (ts : List Token). IsCut ts c.args.text.now) (sym c.in_ok-lexed.ensures.tokens) (lexed c.args.edition c.args.text.now c.utf8.text l).cut

pub returns-clause-lie : goal.returns-clause-lie
returns-clause-lie c = λ l. subst (λ (cs : List Complaint). All (ComplaintLiesIn (length c.args.text.now)) cs) (sym c.in_ok-lexed.ensures.complaints) (lexed c.args.edition c.args.text.now c.utf8.text l).lie
