use Rattle.std.proofs.Common.{◌∙◌, ap, subst, drop, refl}
use Rattle.std.specs.Str.{IsCharBoundary}
use Rattle.lossless_tree.proofs.CharLemmas.{first_char}
use Rattle.lossless_tree.proofs.cursor.text.SyntaxText.char_at.Goals as goal

pub returns : goal.returns
returns c =
    first_char c.args.self.now c.chars.result.rest.now c.args.offset c.next.result
    (subst (λ l. IsCharBoundary l c.args.offset) c.self.view_is (subst (IsCharBoundary c.self.inside.text.now) c.raw-start.ensures (c.if-not-is_char_boundary.ensures.test.0 refl)))
    (c.chars.ensures.rest ∙ c.range_from.ensures.value ∙ ap (λ o. drop o c.self.inside.text.now) c.raw-start.ensures ∙ ap (drop c.args.offset) c.self.view_is)
    c.next.ensures.steps.2
