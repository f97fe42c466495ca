-- What a word is in an edition.
use Rattle.std.specs.Prelude.{ℕ, List, Option, Some, None}
use Rattle.syntax_kind.specs.Kinds.{kind_raw}
use Rattle.syntax_kind.specs.declared.syntax_kind.SyntaxKind.{SyntaxKind}
use Rattle.ras_front_end.specs.declared.edition.Edition.{Edition}
use Rattle.ras_parsing.specs.Names.{is_identifier_of, is_raw_identifier_of}
use Rattle.rust_front.specs.Front.{rust_front}
use Rattle.rust_kinds.specs.Contextual.{contextual_keyword_of}
use Rattle.rust_kinds.specs.Keywords.{keyword_of}
use Rattle.ras_c.specs.declared.words.Word.{Word}

-- the number of a kind, or the number that no kind has
abbrev pub kind_number : Option SyntaxKind → ℕ
kind_number None = 4294967295
kind_number (Some k) = kind_raw k

abbrev pub word_of : Edition → List ℕ → Word
word_of e s = record {
  keyword = kind_number (keyword_of e s);
  contextual = kind_number (contextual_keyword_of e s);
  is_identifier = is_identifier_of rust_front e s;
  is_raw_identifier = is_raw_identifier_of rust_front e s;
}
