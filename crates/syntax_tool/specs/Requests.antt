-- The input and the output of the command `reparse`. The input is a line of two numbers, a line of
-- text, and the text to edit.
use Rattle.std.specs.Prelude.{◌≡◌, ℕ, ◌+◌, ◌-◌, ◌*◌, ◌<◌, ◌≤◌, ◌^◌, ◌⊎◌, min, Bool, ◌&&◌, not, ◌==◌, ◌||◌, nat_le, if◌then◌else◌, length, List, [], ◌∷◌, ◌++◌, IsCharBoundary, Option, Some, None, Result, Ok, Err, codes}
use Rattle.std.specs.List.{list_all}
use Rattle.text_size.specs.TextRange.{Bounds, range_text}
use Rattle.tree_model.specs.Tree.{text}
use Rattle.ras_front_end.specs.declared.edition.Entry.TheVariants.{SourceFile}
use Rattle.ras_front_end.specs.declared.edition.Edition.TheVariants.{Edition2024}
use Rattle.ras_front_end.specs.Parsed.{Parsed, IsParseOf}
use Rattle.ras_parsing.specs.Edit.{Edit, edited}
use Rattle.ras_parsing.specs.Reparse.{IsIncremental}
use Rattle.ras_parsing.specs.AllErrors.{debug_dump_of}
use Rattle.tiny_front.specs.Front.{tiny_front}
use Rattle.syntax_tool.specs.declared.refusal.Refusal.{Refusal}
use Rattle.syntax_tool.specs.declared.refusal.Refusal.TheVariants.{BadLine, BadRange, TooLong}
use Rattle.syntax_tool.specs.Escapes.{unescaped}
use Rattle.syntax_tool.specs.Lines.{HasNo, IsCut, IsLine}

abbrev pub is_digit : ℕ → Bool
is_digit b = nat_le 48 b && nat_le b 57

-- the number with the digits of n and then these digits, saturating at 2^64 - 1, which is greater
-- than the length of any text
abbrev pub value_from : ℕ → List ℕ → ℕ
value_from n [] = n
value_from n (b ∷ bs) = value_from (min (10 * n + (b - 48)) (2 ^ 64 - 1)) bs

-- the number that one or more decimal digits write
abbrev pub number_of : List ℕ → Option ℕ
number_of bs = if (length bs == 0) || not (list_all is_digit bs) then None else Some (value_from 0 bs)

-- the range lies in the text, on character boundaries
pub record IsRange (s : List ℕ) (start end : ℕ) : Type 0 where
  pub forwards : start ≤ end
  pub within : end ≤ length s
  pub start_boundary : IsCharBoundary s start
  pub end_boundary : IsCharBoundary s end

-- the first line of an answer
abbrev pub told : Option Bounds → List ℕ
told None = codes "whole\n"
told (Some range) = codes "piece " ++ range_text range ++ codes "\n"

-- the new parse: a piece was parsed again in place of a range, or all was
abbrev pub IsReread : Parsed → Edit → Option Bounds → Parsed → Type 0
IsReread old edit (Some range) new = IsIncremental tiny_front Edition2024 old edit (Some (new, range))
IsReread old edit None new = IsIncremental tiny_front Edition2024 old edit None × IsParseOf (edited (text old.tree) edit) (tiny_front.parsed SourceFile Edition2024 (edited (text old.tree) edit)) new

-- the answer to an edit of a parse: where the new text is not too long, how it was read, and the
-- dump
abbrev pub AnswersEdit : Parsed → Edit → Result (List ℕ) Refusal → Type 0
AnswersEdit old edit r =
    ((2 ^ 32 ≤ length (edited (text old.tree) edit)) × (r ≡ Err TooLong))
    ⊎ ((length (edited (text old.tree) edit) < 2 ^ 32)
    × (range : Option Bounds) × (new : Parsed) × IsReread old edit range new × (r ≡ Ok (told range ++ debug_dump_of new)))

-- the answer to an edit of a text, which is read first where it is not too long
abbrev pub AnswersParsed : List ℕ → Edit → Result (List ℕ) Refusal → Type 0
AnswersParsed s edit r =
    ((2 ^ 32 ≤ length s) × (r ≡ Err TooLong))
    ⊎ ((length s < 2 ^ 32) × (old : Parsed) × IsParseOf s (tiny_front.parsed SourceFile Edition2024 s) old × AnswersEdit old edit r)

-- first it is checked that the range is in the text
abbrev pub AnswersRange : List ℕ → ℕ → ℕ → List ℕ → Result (List ℕ) Refusal → Type 0
AnswersRange s start end insert r =
    ((IsRange s start end → ⊥) × (r ≡ Err BadRange))
    ⊎ (IsRange s start end × AnswersParsed s (record { delete = record { start = start; end = end }; insert = insert }) r)

-- first it is checked that both lines have their form
abbrev pub AnswersRequest : Option ℕ → Option ℕ → Option (List ℕ) → List ℕ → Result (List ℕ) Refusal → Type 0
AnswersRequest (Some start) (Some end) (Some insert) s r = AnswersRange s start end insert r
AnswersRequest _ _ _ s r = r ≡ Err BadLine

-- the text begins with two lines, and this follows them
abbrev pub AreLines : List ℕ → List ℕ → List ℕ → List ℕ → Type 0
AreLines text first second whole = (behind : List ℕ) × IsLine text first behind × IsLine behind second whole

-- the first line has no newline, or the second has none
abbrev pub LacksLine : List ℕ → Type 0
LacksLine text = HasNo 10 text ⊎ ((first behind : List ℕ) × IsLine text first behind × HasNo 10 behind)

-- the answer to a line `START END`, a line with the inserted text, in which a backslash begins an
-- escape, and the text
pub record AnswersLines (first second whole : List ℕ) (r : Result (List ℕ) Refusal) : Type 0 where
  pub start : List ℕ
  pub end : List ℕ
  pub numbers : IsCut 32 first start end
  pub answers : AnswersRequest (number_of start) (number_of end) (unescaped second) whole r

-- the answer to an input: both lines, each with its newline, and the text
abbrev pub AnswersReparse : List ℕ → Result (List ℕ) Refusal → Type 0
AnswersReparse input r =
    (LacksLine input × (r ≡ Err BadLine))
    ⊎ ((first second whole : List ℕ) × AreLines input first second whole × AnswersLines first second whole r)
