use Rattle.std.proofs.Common.{arith, ◌≡◌, ◌-◌, ◌∙◌, sym, ap, ℕ, List, length, drop, length-drop}
use Rattle.rust_lexer.specs.declared.class.Class.TheVariants as classes
use Rattle.syntax_kind.specs.declared.syntax_kind.SyntaxKind.{SyntaxKind}
use Rattle.rust_lexer.specs.Classes.{skip_of}
use Rattle.rust_lexer.specs.Names.{word_kind_of}
use Rattle.rust_lexer.specs.Shapes.{plain_of}
use Rattle.std.proofs.lemmas.Grind.{common_steps}
use Rattle.rust_lexer.proofs.Plain.{name_plain}
use Rattle.rust_lexer.proofs.name.plain_name.Goals as goal

pub returns-clause-end : goal.returns-clause-end
returns-clause-end c = grind (arith, common_steps)

pub returns-clause-name : goal.returns-clause-name
returns-clause-name c =
    let value = c.as_bytes-bytes.ensures.value in
    let rest_is = c.after-rest.ensures ∙ ap (λ (x : List ℕ). drop c.count-len.result x) value in
    let skipped : skip_of classes.Name c.args.text.now ≡ c.after-rest.result.now = ap (λ (x : List ℕ). skip_of classes.Name x) (sym value) ∙ (sym c.count-len.ensures.rest ∙ sym c.after-rest.ensures) in
    let len : length c.after-rest.result.now ≡ length c.args.text.now - c.count-len.result = ap (λ (x : List ℕ). length x) rest_is ∙ length-drop c.count-len.result c.args.text.now in
    let is = name_plain c.args.edition c.args.text.now c.after-rest.result.now c.count-len.result skipped (sym c.begins_beyond.ensures ∙ c.if-begins_beyond.false) (sym c.is_literal_mark.ensures ∙ c.if-is_literal_mark.false) len (returns-clause-end c) in
    is ∙ ap (λ (k : SyntaxKind). plain_of k (length c.args.text.now - c.count-len.result)) (sym (c.word_kind.ensures ∙ ap (λ (w : List ℕ). word_kind_of c.args.edition w) c.split_at.ensures.front))
