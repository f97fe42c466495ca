-- What the grammar's machine sees of tokens of Rust are sights of these tokens.
use Rattle.std.specs.Prelude.{◌≡◌, ℕ, ◌<◌, false, Some, List, slice_get}
use Rattle.syntax_kind.specs.Kinds.{is_trivia}
use Rattle.ras_front_end.specs.declared.edition.Edition.{Edition}
use Rattle.token_layout.specs.declared.span.Token.{Token}
use Rattle.event_layout.specs.Finding.{AreSightsOf}
use Rattle.rust_grammar.specs.Seeing.{number_of, sights_of}
use Rattle.rust_lexer.specs.Lexing.{tokens_of}

-- the machine knows the kinds of the tokens that are neither white space nor comments
abbrev pub AreKnown : List Token → Type 0
AreKnown ts = (i : ℕ) (t : Token) → slice_get ts i ≡ Some t → is_trivia t.kind ≡ false → 0 < number_of t.kind

abbrev pub SightsAreOfTokens : Type 0
SightsAreOfTokens = (e : Edition) (text : List ℕ) (ts : List Token) → AreKnown ts → AreSightsOf (sights_of e text ts) ts

abbrev pub LexersTokensAreKnown : Type 0
LexersTokensAreKnown = (e : Edition) (text : List ℕ) → AreKnown (tokens_of e text)
