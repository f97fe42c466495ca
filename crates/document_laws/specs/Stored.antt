-- The lexer's errors that a parse of Rust stores, where a piece of the text was replaced.
use Rattle.std.specs.Prelude.{◌≡◌, ℕ, true, false, List, ◌++◌, map, length}
use Rattle.ras_front_end.specs.declared.edition.Edition.{Edition}
use Rattle.ras_front_end.specs.ErrorModel.{ErrorModel}
use Rattle.token_layout.specs.declared.span.Token.{Token}
use Rattle.rust_lexer.specs.Lexing.{tokens_of, errors_of}
use Rattle.lexer_laws.specs.Pieces.{IsReplaced}
use Rattle.rust_front.specs.Messages.{lexer_error_of}
use Rattle.rust_front.specs.Exact.{errs_early}
use Rattle.ras_parsing.specs.Edit.{Edit}
use Rattle.ras_parsing.specs.Document.{in_order, is_quiet_from}

-- the errors of `Rust`'s readings of a text
abbrev pub stored : Edition → List ℕ → List ErrorModel
stored e text = map (lexer_error_of text) (errors_of e text)

-- on the conditions that `Document::edit` tests, the errors that it puts in order are those of the
-- new text: of the old ones those that end before the part, with their messages, and those of the
-- piece by itself, moved; none is behind the part
abbrev pub StoredErrorsAreReplaced : Type 0
StoredErrorsAreReplaced =
    (e : Edition) (a part piece c : List ℕ) (ts ps us : List Token) (edit : Edit)
    → IsReplaced e a part piece c ts ps us
    → errs_early (tokens_of e piece) (errors_of e piece) ≡ false
    → is_quiet_from (length (a ++ part)) (stored e (a ++ (part ++ c))) ≡ true
    → stored e (a ++ (piece ++ c))
    ≡ in_order (stored e (a ++ (part ++ c))) (stored e piece) (record { start = length a; end = length (a ++ part) }) edit
