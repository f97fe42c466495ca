use Rattle.std.proofs.Common.{◌≡◌, map, take}
use Rattle.rust_front.specs.Messages.{lexer_error_of}
use Rattle.rust_front.proofs.message.lexer_errors.Given as goal

abbrev pub invariant-loop-error : goal.invariant-loop-error
invariant-loop-error l = l.found.items ≡ map (lexer_error_of l.text) (take l.error-index l.errors)
