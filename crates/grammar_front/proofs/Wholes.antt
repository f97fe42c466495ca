-- The reading of a text, from what each step of it gave.
use Rattle.std.proofs.Common.{◌≡◌, ℕ, List, ap, ◌∙◌}
use Rattle.ras_front_end.specs.declared.edition.Edition.{Edition}
use Rattle.ras_front_end.specs.ErrorModel.{ErrorModel}
use Rattle.ras_front_end.specs.Reading.{Reading}
use Rattle.token_layout.specs.declared.span.Token.{Token}
use Rattle.token_layout.specs.Answers.{LexerAnswers}
use Rattle.grammar_machine.specs.declared.event.Event.{Event}
use Rattle.grammar_front.specs.declared.language.Target.{Target}
use Rattle.grammar_front.specs.Answers.{LanguageAnswers}
use Rattle.grammar_front.specs.Front.{made_of, reading_with, whole_of}

pub whole_is : (lexer : LexerAnswers) (language : LanguageAnswers) (target : Target) (e : Edition) (text : List ℕ) (ts seen : List Token) (es : List ErrorModel) (events given : List Event) (r : Reading)
    → ts ≡ lexer.tokens e text → es ≡ lexer.errors e text → seen ≡ ts → events ≡ made_of language target e text seen → given ≡ events
    → r ≡ reading_with language target text ts es given → r ≡ whole_of lexer language target e text
whole_is lexer language target e text ts seen es events given r t f s m g h =
    h
    ∙ ap (λ (x : List Event). reading_with language target text ts es x) (g ∙ m ∙ ap (λ (x : List Token). made_of language target e text x) (s ∙ t))
    ∙ ap (λ (x : List Token). reading_with language target text x es (made_of language target e text (lexer.tokens e text))) t
    ∙ ap (λ (x : List ErrorModel). reading_with language target text (lexer.tokens e text) x (made_of language target e text (lexer.tokens e text))) f
