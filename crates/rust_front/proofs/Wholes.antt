-- The reading of a text, from what each step of it gave.
use Rattle.std.proofs.Common.{◌≡◌, ℕ, List, ap, ◌∙◌, refl, Option}
use Rattle.syntax_kind.specs.declared.syntax_kind.SyntaxKind.{SyntaxKind}
use Rattle.ras_front_end.specs.declared.edition.Edition.{Edition}
use Rattle.ras_front_end.specs.declared.edition.Reparser.{Reparser}
use Rattle.ras_front_end.specs.Reading.{Reading}
use Rattle.token_layout.specs.declared.span.Token.{Token}
use Rattle.grammar_machine.specs.declared.event.Event.{Event}
use Rattle.rust_grammar.specs.declared.tables.rules.Rule.{Rule}
use Rattle.rust_grammar.specs.Seeing.{sights_of}
use Rattle.rust_lexer.specs.declared.lexer.LexError.{LexError}
use Rattle.rust_lexer.specs.Lexing.{tokens_of, errors_of}
use Rattle.event_layout.specs.Layout.{outermost_of}
use Rattle.rust_front.specs.Pieces.{rule_by_number}
use Rattle.rust_front.specs.declared.top.TopEntryPoint.{TopEntryPoint}
use Rattle.rust_front.specs.Front.{made_with, made_of, reading_with, whole_piece_of}
use Rattle.rust_front.specs.Tops.{point_root_of, point_rule_of, whole_at}

made_is : (rule asked : Rule) (e : Edition) (text : List ℕ) (seen : List Token) (events : List Event) → seen ≡ tokens_of e text → rule ≡ asked → events ≡ made_with rule (sights_of e text seen) → events ≡ made_of asked e text
made_is rule asked e text seen events s r m = m ∙ ap (λ k. made_with k (sights_of e text seen)) r ∙ ap (λ ts. made_with asked (sights_of e text ts)) s

read_is : (root asked : SyntaxKind) (e : Edition) (text : List ℕ) (ts : List Token) (es : List LexError) (given made : List Event) (r : Reading)
    → ts ≡ tokens_of e text → es ≡ errors_of e text → given ≡ made → root ≡ asked → r ≡ reading_with root text ts es given → r ≡ reading_with asked text (tokens_of e text) (errors_of e text) made
read_is root asked e text ts es given made r t f g k h =
    h ∙ ap (λ (x : SyntaxKind). reading_with x text ts es given) k ∙ ap (λ (x : List Token). reading_with asked text x es given) t ∙ ap (λ (x : List LexError). reading_with asked text (tokens_of e text) x given) f
    ∙ ap (λ (x : List Event). reading_with asked text (tokens_of e text) (errors_of e text) x) g

pub whole_is : (point : TopEntryPoint) (e : Edition) (text : List ℕ) (ts seen : List Token) (es : List LexError) (rule : Rule) (events looked given : List Event) (top : Option SyntaxKind) (root : SyntaxKind) (r : Reading)
    → ts ≡ tokens_of e text → es ≡ errors_of e text → seen ≡ ts → rule ≡ point_rule_of point → events ≡ made_with rule (sights_of e text seen)
    → looked ≡ events → top ≡ outermost_of looked → root ≡ point_root_of point top → given ≡ events → r ≡ reading_with root text ts es given → r ≡ whole_at point e text
whole_is point e text ts seen es rule events looked given top root r t f s k m l o q g h =
    let made : events ≡ made_of (point_rule_of point) e text = made_is rule (point_rule_of point) e text seen events (s ∙ t) k m in
    read_is root (point_root_of point (outermost_of (made_of (point_rule_of point) e text))) e text ts es given (made_of (point_rule_of point) e text) r t f (g ∙ made)
    (q ∙ ap (point_root_of point) (o ∙ ap outermost_of (l ∙ made))) h

pub whole_piece_is : (p : Reparser) (e : Edition) (text : List ℕ) (ts seen : List Token) (es : List LexError) (rule : Rule) (events given : List Event) (r : Reading)
    → ts ≡ tokens_of e text → es ≡ errors_of e text → seen ≡ ts → rule ≡ rule_by_number p.number → events ≡ made_with rule (sights_of e text seen)
    → given ≡ events → r ≡ reading_with p.kind text ts es given → r ≡ whole_piece_of p e text
whole_piece_is p e text ts seen es rule events given r t f s k m g h =
    let made : events ≡ made_of (rule_by_number p.number) e text = made_is rule (rule_by_number p.number) e text seen events (s ∙ t) k m in
    read_is p.kind p.kind e text ts es given (made_of (rule_by_number p.number) e text) r t f (g ∙ made) refl h
