-- Kinds by their raw numbers.
use Rattle.std.specs.Prelude.{◌≡◌, Bool, true}
use Rattle.std.proofs.Common.{sym, subst}
use Rattle.syntax_kind.specs.declared.syntax_kind.SyntaxKind.{SyntaxKind}
use Rattle.syntax_kind.specs.Kinds.{kind_raw}
use Rattle.syntax_kind.specs.KindLaws.{kind_raw-injective}

-- a kind with the raw number of one of the set is in the set
pub by_number : (kinds : SyntaxKind → Bool) (k j : SyntaxKind) → kind_raw k ≡ kind_raw j → kinds j ≡ true → kinds k ≡ true
by_number kinds k j same listed = subst (λ k. kinds k ≡ true) (sym (kind_raw-injective k j same)) listed
