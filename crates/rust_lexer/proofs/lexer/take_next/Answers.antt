use Rattle.std.proofs.Common.{◌==◌, Option, ◌≡◌, ◌∙◌, sym, ap, ℕ, List, Some, length, drop, length-drop}
use Rattle.std.specs.Prelude.{slice_get}
use Rattle.syntax_kind.specs.declared.syntax_kind.SyntaxKind.{SyntaxKind}
use Rattle.rust_lexer.specs.declared.shape.Shape.{Shape}
use Rattle.rust_lexer.specs.Lexing.{lexing_of, taken}
use Rattle.rust_lexer.specs.Shapes.{plain_of}
use Rattle.rust_lexer.specs.declared.class.Class.TheVariants as classes
use Rattle.rust_lexer.specs.Classes.{is_in_of, is_letter_of, is_digit_of, test_on}
use Rattle.rust_lexer.proofs.Counts.{name_in}
use Rattle.rust_lexer.proofs.Plain.{sign_alone, sign_end, space_first, word_first}
use Rattle.rust_lexer.proofs.lexer.take_next.Goals as goal

pub returns-in-Some-plain_space : goal.returns-in-Some-plain_space
returns-in-Some-plain_space c =
    let at : slice_get c.args.rest.now 0 ≡ Some c.in-Some.first = sym (c.in-Some.ensures ∙ ap (λ (x : List ℕ). slice_get x 0) c.as_bytes.ensures.value) in
    let is = space_first c.args.edition c.args.rest.now c.in-Some.first at (sym c.is_blank.ensures ∙ c.if-is_blank.true) ∙ c.in-Some-plain_space.ensures.space in
    c.in_ok-tail.ensures c.args.text.now ∙ ap (λ (t : Shape). taken c.args.text.now t (lexing_of c.args.lexed.now c.args.rest.now)) (sym is)

pub returns-in-Some-plain_letter : goal.returns-in-Some-plain_letter
returns-in-Some-plain_letter c =
    let at : slice_get c.args.rest.now 0 ≡ Some c.in-Some.first = sym (c.in-Some.ensures ∙ ap (λ (x : List ℕ). slice_get x 0) c.as_bytes.ensures.value) in
    let is = word_first c.args.edition c.args.rest.now c.in-Some.first at (sym c.is_blank.ensures ∙ c.if-is_blank.false) (sym c.begins_word.ensures ∙ c.if-begins_word.true) ∙ c.in-Some-plain_letter.ensures.letter in
    c.in_ok-tail-2.ensures c.args.text.now ∙ ap (λ (t : Shape). taken c.args.text.now t (lexing_of c.args.lexed.now c.args.rest.now)) (sym is)

pub take_plain-requires-then-is_alone : goal.take_plain-requires-then-is_alone
take_plain-requires-then-is_alone c =
    let at : slice_get c.args.rest.now 0 ≡ Some c.in-Some.first = sym (c.in-Some.ensures ∙ ap (λ (x : List ℕ). slice_get x 0) c.as_bytes.ensures.value) in
    sign_end c.args.rest.now c.in-Some.first c.utf8.rest at (sym c.is_alone.ensures ∙ c.if-is_alone.true)

pub returns-then-is_alone : goal.returns-then-is_alone
returns-then-is_alone c =
    let at : slice_get c.args.rest.now 0 ≡ Some c.in-Some.first = sym (c.in-Some.ensures ∙ ap (λ (x : List ℕ). slice_get x 0) c.as_bytes.ensures.value) in
    let is = sign_alone c.args.edition c.args.rest.now c.in-Some.first at (sym c.is_alone.ensures ∙ c.if-is_alone.true)
    ∙ (ap (λ (k : SyntaxKind). plain_of k (length (drop 1 c.args.rest.now))) (sym c.sign_kind.ensures) ∙ ap (λ (n : ℕ). plain_of c.sign_kind.result n) (length-drop 1 c.args.rest.now)) in
    c.in_ok-tail-3.ensures c.args.text.now ∙ ap (λ (t : Shape). taken c.args.text.now t (lexing_of c.args.lexed.now c.args.rest.now)) (sym is)

pub plain_space-requires : goal.plain_space-requires
plain_space-requires c =
    let at : slice_get c.args.rest.now 0 ≡ Some c.in-Some.first = sym (c.in-Some.ensures ∙ ap (λ (x : List ℕ). slice_get x 0) c.as_bytes.ensures.value) in
    ap (λ (o : Option ℕ). test_on (is_in_of classes.Space) o) at ∙ (sym c.is_blank.ensures ∙ c.if-is_blank.true)

pub plain_letter-requires : goal.plain_letter-requires
plain_letter-requires c =
    let at : slice_get c.args.rest.now 0 ≡ Some c.in-Some.first = sym (c.in-Some.ensures ∙ ap (λ (x : List ℕ). slice_get x 0) c.as_bytes.ensures.value) in
    ap (λ (o : Option ℕ). test_on (is_in_of classes.Name) o) at ∙ name_in (is_letter_of c.in-Some.first) (is_digit_of c.in-Some.first) (c.in-Some.first == 95) (sym c.begins_word.ensures ∙ c.if-begins_word.true)
