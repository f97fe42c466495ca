use Rattle.std.proofs.Common.{refl, subst}
use Rattle.gitignore.specs.Classes.{ClassAt}
use Rattle.gitignore.proofs.piece.one_of.Goals as goal

pub returns-in-Some-clause-value : goal.returns-in-Some-clause-value
returns-in-Some-clause-value c = (c.in-Some.class, refl, subst (ClassAt c.args.behind.now) c.in-Some.is c.in_ok-class.ensures.value)
