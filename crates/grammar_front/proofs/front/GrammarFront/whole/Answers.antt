use Rattle.std.proofs.Common.{sym, subst, ◌∙◌}
use Rattle.ras_front_end.specs.Reading.{reading_of}
use Rattle.token_layout.specs.Laid.{IsCut}
use Rattle.grammar_front.proofs.Wholes.{whole_is}
use Rattle.grammar_front.proofs.front.GrammarFront.whole.Goals as goal

pub returns : goal.returns
returns g c = λ l.
    let text = c.args.text.now in
    let lexer = g.L.Lexer.lexes c.args.self.now.lexer in
    let language = g.G.Language.speaks c.args.self.now.language in
    let tokens = c.deref.ensures.value ∙ c.requires.tokens in
    let cut = subst (λ ts. IsCut ts text) (sym tokens) ((g.met.L.Lexer.kept c.args.self.now.lexer).cut c.args.edition text c.utf8.text l) in
    whole_is lexer language c.args.target c.args.edition text _ _ _ _ _ (reading_of c.in_ok-output.output)
    c.requires.tokens c.requires.errors c.deref.ensures.value (c.in_ok-events.ensures cut) c.deref-2.ensures.value c.in_ok-output.ensures
