use Rattle.std.proofs.Common.{◌≡◌, ◌-◌, ◌∙◌, sym, ap, subst, ℕ, List, IfSome, length, drop}
use Rattle.syntax_kind.specs.declared.syntax_kind.SyntaxKind.{SyntaxKind}
use Rattle.rust_lexer.specs.declared.shape.Shape.{Shape}
use Rattle.rust_lexer.specs.Shapes.{plain_of}
use Rattle.rust_lexer.specs.Tokens.{letter_of}
use Rattle.rust_lexer.proofs.Plain.{letter_named}
use Rattle.rust_lexer.proofs.token.plain_letter.Goals as goal

pub returns-clause-letter : goal.returns-clause-letter
returns-clause-letter c =
    let is = letter_named c.args.edition c.args.text.now c.after.result.now c.args.first (sym c.opens_literal.ensures ∙ c.if-opens_literal.false) in
    let rest_is = c.after.ensures ∙ ap (λ (x : List ℕ). drop 1 x) c.as_bytes.ensures.value in
    let named = ap (λ (x : List ℕ). letter_of c.args.edition c.args.first c.args.text.now x) (sym rest_is) ∙ is in
    subst (λ (t : Shape). IfSome c.plain_name.result (λ (r : SyntaxKind × ℕ). t ≡ plain_of r.0 (length c.args.text.now - r.1))) (sym named) c.plain_name.ensures.name
