-- The messages and positions of the grammar's errors.
use Rattle.std.specs.Prelude.{ℕ, ◌-◌, min, if◌then◌else◌, List, [], ◌∷◌, length, drop}
use Rattle.syntax_kind.specs.Kinds.{is_trivia}
use Rattle.token_layout.specs.declared.span.Token.{Token}
use Rattle.event_layout.specs.declared.layout.ParserError.{ParserError}
use Rattle.event_layout.specs.Trivia.{later_of}
use Rattle.grammar_front.specs.declared.language.ErrorPlace.{ErrorPlace}
use Rattle.grammar_front.specs.declared.language.ErrorPlace.TheVariants.{BehindLast, AtNext}
use Rattle.grammar_front.specs.Answers.{LanguageAnswers}

-- what is left of the tokens
abbrev pub last_of : List Token → ℕ → List Token
last_of ts n = drop (length ts - n) ts

-- where the first token begins that is not trivia, if the first one begins at p
abbrev pub next_from : ℕ → List Token → ℕ
next_from p [] = p
next_from p (t ∷ ts) = if is_trivia t.kind then next_from (later_of p t.len) ts else p

-- the place of an error at p with the tokens ts behind it, in a text of n bytes
abbrev pub placed_of : ErrorPlace → ℕ → ℕ → List Token → ℕ
placed_of BehindLast n p ts = p
placed_of AtNext n p ts = min (next_from p ts) n

abbrev pub say_with : LanguageAnswers → ℕ → ParserError → List Token → List ℕ × ℕ
say_with language n f rest = (language.message f.message rest, placed_of language.error_place n f.position rest)

-- the message and the position of an error over the tokens ts of a text of n bytes
abbrev pub say_of : LanguageAnswers → ℕ → List Token → ParserError → List ℕ × ℕ
say_of language n ts f = say_with language n f (last_of ts f.left)
