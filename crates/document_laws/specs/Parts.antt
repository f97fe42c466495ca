-- A text of Rust in three parts, the middle one of which is an exact piece: what holds of the
-- parts, and of what is laid of the text.
use Rattle.std.specs.Prelude.{◌≡◌, ℕ, ◌<◌, ◌^◌, false, IsUtf8, List, ◌++◌, length}
use Rattle.syntax_kind.specs.declared.syntax_kind.SyntaxKind.{SyntaxKind}
use Rattle.syntax_kind.specs.declared.syntax_kind.SyntaxKind.TheVariants.{Node}
use Rattle.syntax_kind.specs.declared.syntax_kind.node_kind.NodeKind.TheVariants as node
use Rattle.ras_front_end.specs.declared.edition.Edition.{Edition}
use Rattle.token_layout.specs.declared.span.Token.{Token}
use Rattle.token_layout.specs.Laid.{IsCut}
use Rattle.grammar_machine.specs.declared.event.Event.{Event}
use Rattle.event_layout.specs.Replaced.{Part, sights_in, LaidAround}
use Rattle.lexer_laws.specs.Cuts.{bytes_of}
use Rattle.lexer_laws.specs.Heads.{may_have_head}
use Rattle.lexer_laws.specs.Pieces.{IsBraced}
use Rattle.rust_grammar.specs.declared.tables.rules.Rule.TheVariants as rule
use Rattle.rust_grammar.specs.Rules.{first_op}
use Rattle.rust_grammar.specs.Seeing.{sights_of}
use Rattle.rust_grammar.specs.Tables.{rust_tables}
use Rattle.rust_lexer.specs.Lexing.{tokens_of}
use Rattle.rust_front.specs.Roots.{attaching_kinds}

-- a part of a text with the lexer's tokens that are in it
abbrev pub with_tokens : Edition → List ℕ → List Token → Part
with_tokens e text ts = record { text = text; tokens = ts; sights = sights_of e text ts }

-- the text has no head, and the lexer's tokens cut it around the middle part, which is from `{` to
-- `}` and has the tokens that it has by itself
pub record IsInParts (e : Edition) (a w c : List ℕ) (ts us : List Token) : Type 0 where
  pub is_text : IsUtf8 (a ++ (w ++ c))
  pub is_part : IsUtf8 w
  pub is_rest : IsUtf8 c
  pub short : length (a ++ (w ++ c)) < 2 ^ 32
  pub no_head : may_have_head (a ++ (w ++ c)) ≡ false
  pub tokens : tokens_of e (a ++ (w ++ c)) ≡ ts ++ (tokens_of e w ++ us)
  pub before : bytes_of ts ≡ length a
  pub cut_before : IsCut ts a
  pub cut_behind : IsCut us c
  pub braced : IsBraced (tokens_of e w)

-- with another piece q in the place of w, the text is laid as before around it; es and fs are the
-- events that the two pieces make by themselves, but for their nodes
pub record IsLaidAround
    (e : Edition) (a w q c : List ℕ) (ts us : List Token) (k : SyntaxKind) (es fs : List Event)
    : Type 0 where
  pub new : IsInParts e a q c ts us
  pub sights :
      sights_of e (a ++ (w ++ c)) (tokens_of e (a ++ (w ++ c)))
      ≡ sights_in (with_tokens e a ts) (with_tokens e w (tokens_of e w)) (with_tokens e c us)
  pub new_sights :
      sights_of e (a ++ (q ++ c)) (tokens_of e (a ++ (q ++ c)))
      ≡ sights_in (with_tokens e a ts) (with_tokens e q (tokens_of e q)) (with_tokens e c us)
  pub laid :
      LaidAround (Node node.SOURCE_FILE) k attaching_kinds rust_tables (first_op rule.SourceFile)
      (with_tokens e a ts) (with_tokens e w (tokens_of e w)) (with_tokens e q (tokens_of e q)) (with_tokens e c us) es fs
