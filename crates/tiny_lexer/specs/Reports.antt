-- Complaints as errors.
use Rattle.std.specs.Prelude.{ℕ, List, codes}
use Rattle.ras_front_end.specs.ErrorModel.{ErrorModel}
use Rattle.tiny_lexer.specs.declared.lexer.Complaint.{Complaint}
use Rattle.tiny_lexer.specs.declared.scan.Problem.{Problem}
use Rattle.tiny_lexer.specs.declared.scan.Problem.TheVariants.{UnterminatedComment, UnterminatedString, UnexpectedCharacter}

abbrev pub problem_bytes : Problem → List ℕ
problem_bytes UnterminatedComment = codes "unterminated comment"
problem_bytes UnterminatedString = codes "unterminated string"
problem_bytes UnexpectedCharacter = codes "unexpected character"

abbrev pub error_of : Complaint → ErrorModel
error_of c = record { message = problem_bytes c.problem; range = c.range }
