use Rattle.std.proofs.Common.{◌≡◌, drop}
use Rattle.syntax_make.specs.Places.{place_in}
use Rattle.syntax_make.proofs.place.place_in.Given as goal

abbrev pub invariant-loop-row : goal.invariant-loop-row
invariant-loop-row g l = place_in g.N.AstNode.casts (drop l.row-index l.rows) ≡ place_in g.N.AstNode.casts l.rows
