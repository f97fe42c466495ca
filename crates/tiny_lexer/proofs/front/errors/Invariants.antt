use Rattle.std.proofs.Common.{◌≡◌, map, take}
use Rattle.tiny_lexer.specs.Reports.{error_of}
use Rattle.tiny_lexer.proofs.front.errors.Given as goal

abbrev pub invariant-loop-complaint : goal.invariant-loop-complaint
invariant-loop-complaint l = l.errors.items ≡ map error_of (take l.complaint-index l.complaints)
