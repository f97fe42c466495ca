-- Kinds by their texts.
use Rattle.std.specs.Prelude.{ℕ, List, []}
use Rattle.syntax_kind.specs.declared.syntax_kind.SyntaxKind.{SyntaxKind}
use Rattle.syntax_kind.specs.declared.syntax_kind.SyntaxKind.TheVariants.{Token as OfToken}
use Rattle.operator_terms.specs.Token.{fixed_text}

-- the text that every token of the kind has, of kinds that are in operator trees; empty for all
-- others
abbrev pub named_text : SyntaxKind → List ℕ
named_text (OfToken k) = fixed_text k
named_text _ = []
