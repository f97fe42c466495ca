-- The events are those of a file of one token.
use Rattle.std.proofs.Common.{◌≡◌, List, [], ◌∷◌, rules}
use Rattle.syntax_kind.specs.declared.syntax_kind.TheConstants.SyntaxKind.{SOURCE_FILE}
use Rattle.tree_model.specs.Events.{enter, leaf, exit}
use Rattle.rust_make.proofs.TokenLemmas.{lone_built}
use Rattle.rust_make.proofs.tokens.lone_root.Goals as goal

pub returns-in-Ok : goal.returns-in-Ok
returns-in-Ok c =
    lone_built _ c.args.kind c.args.text.now c.in-Ok.root c.in-Ok.ensures.ok.0 c.in-Ok.ensures.ok.1 (search rules)
