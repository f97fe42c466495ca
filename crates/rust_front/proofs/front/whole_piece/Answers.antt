use Rattle.std.proofs.Common.{sym, subst, ◌∙◌}
use Rattle.ras_front_end.specs.Reading.{reading_of}
use Rattle.token_layout.specs.Laid.{IsCut}
use Rattle.rust_lexer.proofs.Kept.{lexed}
use Rattle.rust_front.proofs.Wholes.{whole_piece_is}
use Rattle.rust_front.proofs.front.whole_piece.Goals as goal

pub returns : goal.returns
returns c = λ l.
    let text = c.args.text.now in
    let tokens = c.deref.ensures.value ∙ c.requires.tokens in
    let cut = subst (λ ts. IsCut ts text) (sym tokens) (lexed c.args.edition text c.utf8.text l).cut in
    whole_piece_is c.args.reparser c.args.edition text _ _ _ _ _ _ (reading_of c.in_ok-output.output)
    c.requires.tokens c.requires.errors c.deref.ensures.value c.rule_by.ensures (c.in_ok-events.ensures cut)
    c.deref-2.ensures.value c.in_ok-output.ensures
