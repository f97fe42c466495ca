-- What a text's tokens and complaints keep.
use Rattle.std.specs.Prelude.{ℕ, ◌≤◌, List, length, All}
use Rattle.ras_front_end.specs.declared.edition.Edition.{Edition}
use Rattle.token_layout.specs.Laid.{IsCut}
use Rattle.tiny_lexer.specs.declared.lexer.Complaint.{Complaint}
use Rattle.tiny_lexer.specs.Lexing.{tokens_of, complaints_of}

-- the range lies in a text of n bytes
abbrev pub ComplaintLiesIn : ℕ → Complaint → Type 0
ComplaintLiesIn n c = (c.range.start ≤ c.range.end) × (c.range.end ≤ n)

-- the tokens cut the text, and the complaints lie in it
pub record IsLexed (e : Edition) (text : List ℕ) : Type 0 where
  pub cut : IsCut (tokens_of e text) text
  pub lie : All (ComplaintLiesIn (length text)) (complaints_of e text)
