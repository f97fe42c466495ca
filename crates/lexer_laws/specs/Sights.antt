-- How the grammar's machine sees a text of three parts, of which the middle one is from `{` to `}`.
use Rattle.std.specs.Prelude.{◌≡◌, ℕ, List, ◌++◌, length}
use Rattle.ras_front_end.specs.declared.edition.Edition.{Edition}
use Rattle.token_layout.specs.declared.span.Token.{Token}
use Rattle.rust_grammar.specs.Seeing.{sights_of}
use Rattle.lexer_laws.specs.Cuts.{bytes_of}
use Rattle.lexer_laws.specs.Pieces.{IsBraced}

-- no sign is joined with a brace, so each part is seen as by itself
abbrev pub SightsAreCut : Type 0
SightsAreCut =
    (e : Edition) (a piece c : List ℕ) (ts ps us : List Token)
    → bytes_of ts ≡ length a → bytes_of ps ≡ length piece → IsBraced ps
    → sights_of e (a ++ (piece ++ c)) (ts ++ (ps ++ us)) ≡ sights_of e a ts ++ (sights_of e piece ps ++ sights_of e c us)
