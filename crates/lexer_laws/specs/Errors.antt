-- The errors of a text in which a piece between braces was replaced.
use Rattle.std.specs.Prelude.{◌≡◌, ℕ, ◌+◌, List, [], ◌++◌, length, map}
use Rattle.ras_front_end.specs.declared.edition.Edition.{Edition}
use Rattle.token_layout.specs.declared.span.Token.{Token}
use Rattle.rust_lexer.specs.declared.lexer.LexError.{LexError}
use Rattle.rust_lexer.specs.declared.problem.Problem.{Problem}
use Rattle.rust_lexer.specs.declared.problem.Problem.TheVariants.{UnknownPrefix, UnknownPrefixBehindString}
use Rattle.rust_lexer.specs.Lexing.{steps_of, fresh, errors_of}
use Rattle.lexer_laws.specs.Pieces.{IsReplaced}

-- if neither the old text nor the new part by itself has errors, the new text has none
abbrev pub ErrorsStayNone : Type 0
ErrorsStayNone =
    (e : Edition) (a part piece c : List ℕ) (ts ps us : List Token)
    → IsReplaced e a part piece c ts ps us
    → errors_of e (a ++ (part ++ c)) ≡ [] → errors_of e piece ≡ [] → errors_of e (a ++ (piece ++ c)) ≡ []

-- a reserved prefix has one of two messages, by the five tokens before it; here both are one
abbrev pub one_message : Problem → Problem
one_message UnknownPrefixBehindString = UnknownPrefix
one_message p = p

abbrev pub with_one : LexError → LexError
with_one f = record { problem = one_message f.problem; range = f.range }

abbrev pub moved_by : ℕ → LexError → LexError
moved_by n f = record { problem = f.problem; range = record { start = f.range.start + n; end = f.range.end + n } }

-- the errors of a text, at the head of a file and in the midst of it
abbrev pub shown : Edition → List ℕ → List LexError
shown e text = map with_one (errors_of e text)

abbrev pub shown_within : Edition → List ℕ → List LexError
shown_within e s = map with_one (steps_of (length s) e s (fresh s)).errors

-- the errors before the part stay, those of the new part by itself take the place of the old one's,
-- and those behind it are moved
pub record ErrorsExchanged (e : Edition) (a part piece c : List ℕ) : Type 0 where
  pub before : List LexError
  pub own : List LexError
  pub old_errors : shown e (a ++ (part ++ c)) ≡ before ++ map (moved_by (length a)) (shown_within e (part ++ c))
  pub part_errors : shown_within e (part ++ c) ≡ own ++ map (moved_by (length part)) (shown_within e c)
  pub new_errors :
      shown e (a ++ (piece ++ c)) ≡ before
      ++ (map (moved_by (length a)) (shown e piece) ++ map (moved_by (length a + length piece)) (shown_within e c))

abbrev pub ErrorsAreReplaced : Type 0
ErrorsAreReplaced =
    (e : Edition) (a part piece c : List ℕ) (ts ps us : List Token)
    → IsReplaced e a part piece c ts ps us → ErrorsExchanged e a part piece c
