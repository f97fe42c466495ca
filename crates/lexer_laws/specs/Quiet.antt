-- The errors of a text in which a piece between braces was replaced, with their messages.
use Rattle.std.specs.Prelude.{◌≡◌, ℕ, ◌-◌, nat_lt, nat_le, Bool, true, false, ◌&&◌, if◌then◌else◌, List, [], ◌∷◌, ◌++◌, length, take, map}
use Rattle.std.specs.List.{flat_map}
use Rattle.ras_front_end.specs.declared.edition.Edition.{Edition}
use Rattle.token_layout.specs.declared.span.Token.{Token}
use Rattle.rust_lexer.specs.declared.lexer.LexError.{LexError}
use Rattle.rust_lexer.specs.Lexing.{tokens_of, errors_of}
use Rattle.lexer_laws.specs.Errors.{moved_by}
use Rattle.lexer_laws.specs.Pieces.{IsReplaced}

-- a byte is in one of the tokens
abbrev pub is_in : ℕ → List Token → Bool
is_in byte [] = false
is_in byte (t ∷ ts) = if nat_lt byte t.len then true else is_in (byte - t.len) ts

-- the first error is in one of the first five tokens, whose messages may depend on what stands
-- before the text
abbrev pub errs_early : List Token → List LexError → Bool
errs_early ts [] = false
errs_early ts (f ∷ fs) = is_in f.range.start (take 5 ts)

-- no error begins at or after a byte
abbrev pub is_quiet_from : ℕ → List LexError → Bool
is_quiet_from at [] = true
is_quiet_from at (f ∷ fs) = nat_lt f.range.start at && is_quiet_from at fs

-- an error stays if it ends at or before a byte
abbrev pub ended_by : ℕ → LexError → List LexError
ended_by at f = if nat_le f.range.end at then f ∷ [] else []

-- if the new part has no error in its first five tokens, and the old text none behind the part,
-- then the errors of the new text are those of the old text before the part, and those of the new
-- part by itself
abbrev pub QuietErrorsAreReplaced : Type 0
QuietErrorsAreReplaced =
    (e : Edition) (a part piece c : List ℕ) (ts ps us : List Token)
    → IsReplaced e a part piece c ts ps us
    → errs_early (tokens_of e piece) (errors_of e piece) ≡ false
    → is_quiet_from (length (a ++ part)) (errors_of e (a ++ (part ++ c))) ≡ true
    → errors_of e (a ++ (piece ++ c))
    ≡ flat_map (ended_by (length a)) (errors_of e (a ++ (part ++ c))) ++ map (moved_by (length a)) (errors_of e piece)
