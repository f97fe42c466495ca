-- The tokens cut the text, and the errors lie in it.
use Rattle.std.proofs.Common.{ℕ, List, [], ◌∷◌, length, map}
use Rattle.std.specs.Prelude.{All}
use Rattle.std.proofs.lemmas.List.Elements.{All-cons, All-nil, All-head, All-tail}
use Rattle.ras_front_end.specs.ErrorModel.{LiesIn}
use Rattle.token_layout.specs.Answers.{LexerKeeps}
use Rattle.tiny_lexer.specs.declared.lexer.Complaint.{Complaint}
use Rattle.tiny_lexer.specs.Cut.{IsLexed, ComplaintLiesIn}
use Rattle.tiny_lexer.specs.Lexing.{complaints_of}
use Rattle.tiny_lexer.specs.Reports.{error_of}
use Rattle.tiny_lexer.specs.Front.{tiny_lexer}
use Rattle.tiny_lexer.specs.Cutting.{lexed}

errors_lie : (n : ℕ) (cs : List Complaint) → All (ComplaintLiesIn n) cs → All (LiesIn n) (map error_of cs)
errors_lie n [] h = All-nil (LiesIn n)
errors_lie n (c ∷ cs) h =
    let own = All-head (ComplaintLiesIn n) c cs h in
    let one : LiesIn n (error_of c) = record { forwards = own.0; within = own.1 } in
    All-cons (LiesIn n) (error_of c) (map error_of cs) one (errors_lie n cs (All-tail (ComplaintLiesIn n) c cs h))

pub tiny_kept : LexerKeeps tiny_lexer
tiny_kept = record {
  cut = λ edition text is_text is_short. (lexed edition text is_text is_short).cut;
  lie = λ edition text is_text is_short. errors_lie (length text) (complaints_of edition text) (lexed edition text is_text is_short).lie;
}
