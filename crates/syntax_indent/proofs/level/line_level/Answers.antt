use Rattle.std.proofs.Common.{◌∙◌, ap}
use Rattle.tree_model.specs.Tree.{kind_of}
use Rattle.tree_model.specs.Cursor.{focus}
use Rattle.syntax_indent.specs.Level.{level_by}
use Rattle.syntax_indent.proofs.LevelLemmas.{tells}
use Rattle.syntax_indent.proofs.level.line_level.Goals as goal

pub returns : goal.returns
returns c =
    c.level_by.ensures
    ∙ ap (λ k. level_by k c.text.result.now) c.kind.ensures
    ∙ ap (level_by (kind_of (focus c.args.token.now))) c.text.ensures
    ∙ tells (focus c.args.token.now) c.placed.ensures.token
