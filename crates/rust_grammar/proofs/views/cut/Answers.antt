use Rattle.std.proofs.Common.{◌≡◌, true, false}
use Rattle.std.specs.Str.{IsCharBoundary}
use Rattle.std.proofs.lemmas.Str.{IsCharBoundary-from_take}
use Rattle.rust_grammar.proofs.views.cut.Goals as goal

pub returns-in-None : goal.returns-in-None
returns-in-None c = λ within whole.
    let boundary : IsCharBoundary c.args.text.now c.args.len = IsCharBoundary-from_take c.args.text.now c.args.len c.utf8.text within whole in
    let no : false ≡ true = c.in-None.ensures.variant.1 boundary in
    absurd (cc)
